use Rattle.semantics.proofs.Theorems.{full_notes}
use Rattle.semantics.proofs.full_stands.Goals as goal

pub returns : goal.returns
returns c = full_notes
