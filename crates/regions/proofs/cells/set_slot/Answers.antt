use Rattle.regions.specs.Parts.{parts}
use Rattle.regions.proofs.Regions.{parts_slots}
use Rattle.regions.proofs.cells.set_slot.Goals as goal

pub returns : goal.returns
unfolding parts
returns c = parts_slots c.args.mem.now _ _ c.told-mem c.save.auto.cells c.save.ensures.words
