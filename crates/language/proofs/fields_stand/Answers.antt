use Rattle.language.proofs.Fields.{fields_again}
use Rattle.language.proofs.fields_stand.Goals as goal

pub returns : goal.returns
returns c = fields_again
