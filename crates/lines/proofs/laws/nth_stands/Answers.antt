use Rattle.lines.specs.Laws.{NthRight}
use Rattle.lines.proofs.Holding.{nth_right}
use Rattle.lines.proofs.laws.nth_stands.Goals as goal

pub returns : goal.returns
unfolding NthRight
returns c = nth_right
