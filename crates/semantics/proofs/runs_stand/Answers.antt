use Rattle.semantics.proofs.Theorems.{sound_runs}
use Rattle.semantics.proofs.runs_stand.Goals as goal

pub returns : goal.returns
returns c = sound_runs
