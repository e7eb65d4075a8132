use Rattle.assembly.proofs.Generator.{generated}
use Rattle.assembly.proofs.generator_stands.Goals as goal

pub returns : goal.returns
returns c = generated
