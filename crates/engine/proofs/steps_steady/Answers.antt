use Rattle.engine.proofs.Saving.{steady}
use Rattle.engine.proofs.steps_steady.Goals as goal

pub returns : goal.returns
returns c = steady
