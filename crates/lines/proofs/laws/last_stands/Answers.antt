use Rattle.lines.specs.Laws.{LastRight}
use Rattle.lines.proofs.Holding.{last_holds}
use Rattle.lines.proofs.laws.last_stands.Goals as goal

pub returns : goal.returns
unfolding LastRight
returns c = last_holds
