use Rattle.regions.specs.Parts.{parts}
use Rattle.regions.proofs.lines.byte_within.Goals as goal

pub returns : goal.returns
unfolding parts
returns c = c.byte.ensures
