use Rattle.semantics.proofs.Patterns.{ends_right}
use Rattle.semantics.proofs.ends_stand.Goals as goal

pub returns : goal.returns
returns c = ends_right
