use Rattle.values.proofs.Cutting.{fields_told}
use Rattle.values.proofs.fields.fields_stand.Goals as goal

pub returns : goal.returns
returns c = fields_told
