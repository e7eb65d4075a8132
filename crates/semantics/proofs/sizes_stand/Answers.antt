use Rattle.semantics.proofs.Theorems.{short_code}
use Rattle.semantics.proofs.sizes_stand.Goals as goal

pub returns : goal.returns
returns c = short_code
