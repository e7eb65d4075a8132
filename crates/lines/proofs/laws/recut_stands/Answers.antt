use Rattle.lines.specs.Laws.{RecutRight}
use Rattle.lines.proofs.Holding.{cut_anew}
use Rattle.lines.proofs.laws.recut_stands.Goals as goal

pub returns : goal.returns
unfolding RecutRight
returns c = cut_anew
