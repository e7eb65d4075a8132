use Rattle.semantics.proofs.Theorems.{forward}
use Rattle.semantics.proofs.forward_stands.Goals as goal

pub returns : goal.returns
returns c = forward
