use Rattle.semantics.proofs.Patterns.{swap_none}
use Rattle.semantics.proofs.swap_stands.Goals as goal

pub returns : goal.returns
returns c = swap_none
