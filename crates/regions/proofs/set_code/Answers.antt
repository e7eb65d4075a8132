use Rattle.regions.specs.Parts.{parts}
use Rattle.regions.proofs.Regions.{parts_code}
use Rattle.regions.proofs.set_code.Goals as goal

pub returns : goal.returns
unfolding parts
returns c = parts_code c.args.mem.now _ _ c.told-mem c.put.auto.region c.put.ensures
