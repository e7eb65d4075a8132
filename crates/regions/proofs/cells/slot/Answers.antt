use Rattle.regions.specs.Parts.{parts}
use Rattle.regions.proofs.cells.slot.Goals as goal

pub returns : goal.returns
unfolding parts
returns c = c.load.ensures
