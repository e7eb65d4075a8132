use Rattle.regions.specs.Parts.{parts}
use Rattle.regions.proofs.Regions.{parts_lines}
use Rattle.regions.proofs.lines.move_lines.Goals as goal

pub returns : goal.returns
unfolding parts
returns c = parts_lines c.args.mem.now _ _ c.told-mem c.move_within.auto.words c.move_within.ensures
