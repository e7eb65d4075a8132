use Rattle.lines.specs.Laws.{LineRight}
use Rattle.lines.proofs.Laying.{line_right}
use Rattle.lines.proofs.laws.line_stands.Goals as goal

pub returns : goal.returns
unfolding LineRight
returns c = line_right
