use Rattle.lines.specs.Laws.{TakeRight}
use Rattle.lines.proofs.Holding.{taken_in}
use Rattle.lines.proofs.laws.take_stands.Goals as goal

pub returns : goal.returns
unfolding TakeRight
returns c = taken_in
