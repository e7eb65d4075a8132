use Rattle.semantics.proofs.Theorems.{ended}
use Rattle.semantics.proofs.ended_stands.Goals as goal

pub returns : goal.returns
returns c = ended
