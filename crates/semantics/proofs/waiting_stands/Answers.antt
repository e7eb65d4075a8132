use Rattle.semantics.proofs.Theorems.{waiting_done}
use Rattle.semantics.proofs.waiting_stands.Goals as goal

pub returns : goal.returns
returns c = waiting_done
