use Rattle.regions.specs.Parts.{parts}
use Rattle.regions.proofs.Regions.{parts_stack}
use Rattle.regions.proofs.cells.set_stacked.Goals as goal

pub returns : goal.returns
unfolding parts
returns c = parts_stack c.args.mem.now _ _ c.told-mem c.save.auto.cells c.save.ensures.words
