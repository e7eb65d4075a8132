use Rattle.regions.specs.Parts.{parts}
use Rattle.regions.proofs.Regions.{parts_lines}
use Rattle.regions.proofs.lines.put_text.Goals as goal

pub returns : goal.returns
unfolding parts
returns g c = parts_lines c.args.mem.now _ _ c.told-mem c.copy_in.auto.words c.copy_in.ensures
