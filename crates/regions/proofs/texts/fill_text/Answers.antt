use Rattle.regions.specs.Parts.{parts}
use Rattle.regions.proofs.Regions.{parts_texts}
use Rattle.regions.proofs.texts.fill_text.Goals as goal

pub returns : goal.returns
unfolding parts
returns g c = parts_texts c.args.mem.now _ _ c.told-mem c.fill.auto.texts c.fill.ensures
