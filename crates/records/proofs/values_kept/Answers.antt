use Rattle.records.proofs.Values.{operations, drops, releases, only_records, only_prints}
use Rattle.records.proofs.values_kept.Goals as goal

pub returns : goal.returns
returns c = record { operations = operations; drops = λ m r v k. drops r k m v; releases = releases; records = only_records; prints = only_prints }
