use Rattle.semantics.proofs.Theorems.{back}
use Rattle.semantics.proofs.back_stands.Goals as goal

pub returns : goal.returns
returns c = back
