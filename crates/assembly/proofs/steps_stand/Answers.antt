use Rattle.assembly.proofs.Machine.{steps}
use Rattle.assembly.proofs.steps_stand.Goals as goal

pub returns : goal.returns
returns c = steps
