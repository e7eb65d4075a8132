use Rattle.regions.specs.Parts.{parts}
use Rattle.regions.proofs.code_at.Goals as goal

pub returns : goal.returns
unfolding parts
returns c = c.word.ensures
