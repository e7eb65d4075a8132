use Rattle.assembly.proofs.Example.{worked}
use Rattle.assembly.proofs.example_stands.Goals as goal

pub returns : goal.returns
returns c = worked
