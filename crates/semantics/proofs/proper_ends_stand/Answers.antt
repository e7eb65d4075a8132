use Rattle.semantics.proofs.Theorems.{proper_ends}
use Rattle.semantics.proofs.proper_ends_stand.Goals as goal

pub returns : goal.returns
returns c = proper_ends
