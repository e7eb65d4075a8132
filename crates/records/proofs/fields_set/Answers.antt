use Rattle.records.specs.Laws.{FieldsSet}
use Rattle.records.proofs.Setting.{fields_set}
use Rattle.records.proofs.fields_set.Goals as goal

pub returns : goal.returns
unfolding FieldsSet
returns c = fields_set
