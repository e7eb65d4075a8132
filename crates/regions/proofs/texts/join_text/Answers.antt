use Rattle.regions.specs.Parts.{parts}
use Rattle.regions.proofs.Regions.{parts_texts}
use Rattle.regions.proofs.texts.join_text.Goals as goal

pub returns : goal.returns
unfolding parts
returns c = parts_texts c.args.mem.now _ _ c.told-mem c.copy_text.auto.texts c.copy_text.ensures
