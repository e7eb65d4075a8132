use Rattle.records.specs.Laws.{LinesFollow}
use Rattle.records.proofs.Seeking.{lines_follow}
use Rattle.records.proofs.lines_follow.Goals as goal

pub returns : goal.returns
unfolding LinesFollow
returns c = lines_follow
