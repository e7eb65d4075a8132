use Rattle.records.proofs.Reading.{field_read}
use Rattle.records.proofs.fields_read.Goals as goal

pub returns : goal.returns
returns c = record { reads = field_read; counts = λ m r l fs x. x.holds.count }
