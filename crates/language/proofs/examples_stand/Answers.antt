use Rattle.language.proofs.Examples.{worked}
use Rattle.language.proofs.examples_stand.Goals as goal

pub returns : goal.returns
returns c = worked
