use Rattle.lines.specs.Laws.{BuildRight}
use Rattle.lines.proofs.Laying.{build_says}
use Rattle.lines.proofs.laws.build_stands.Goals as goal

pub returns : goal.returns
unfolding BuildRight
returns c = build_says
