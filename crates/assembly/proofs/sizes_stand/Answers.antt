use Rattle.assembly.proofs.Sizes.{sizes}
use Rattle.assembly.proofs.sizes_stand.Goals as goal

pub returns : goal.returns
returns c = sizes
