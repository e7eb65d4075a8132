use Rattle.regions.specs.Parts.{parts}
use Rattle.regions.proofs.lines.line_window.Goals as goal

pub returns : goal.returns
unfolding parts
returns c = c.window_of.ensures
