use Rattle.values.proofs.Reading.{runs}
use Rattle.values.proofs.texts.runs_stand.Goals as goal

pub returns : goal.returns
returns c = runs
