use Rattle.lines.specs.Laws.{FreshRight}
use Rattle.lines.proofs.Holding.{fresh_so}
use Rattle.lines.proofs.laws.fresh_stands.Goals as goal

pub returns : goal.returns
unfolding FreshRight
returns c = fresh_so
