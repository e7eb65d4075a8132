use Rattle.semantics.proofs.Theorems.{noted_code}
use Rattle.semantics.proofs.notes_stand.Goals as goal

pub returns : goal.returns
returns c = noted_code
