use Rattle.values.proofs.Comparing.{number_counts}
use Rattle.values.proofs.compare.number_holds.Goals as goal

pub returns : goal.returns
returns c = number_counts c.args.n c.ranges.n
