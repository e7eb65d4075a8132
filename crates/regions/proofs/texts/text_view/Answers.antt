use Rattle.regions.specs.Parts.{parts}
use Rattle.regions.proofs.texts.text_view.Goals as goal

pub returns : goal.returns
unfolding parts
returns c = c.view.ensures
