use Rattle.regions.specs.Parts.{parts}
use Rattle.regions.proofs.Regions.{parts_lines}
use Rattle.regions.proofs.lines.put_line_byte.Goals as goal

pub returns : goal.returns
unfolding parts
returns c = parts_lines c.args.mem.now _ _ c.told-mem c.set_byte.auto.words c.set_byte.ensures
