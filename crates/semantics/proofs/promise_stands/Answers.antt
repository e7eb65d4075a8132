use Rattle.semantics.proofs.Theorems.{promised}
use Rattle.semantics.proofs.promise_stands.Goals as goal

pub returns : goal.returns
returns c = promised
