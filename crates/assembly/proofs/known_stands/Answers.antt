use Rattle.assembly.proofs.Known.{only_known}
use Rattle.assembly.proofs.known_stands.Goals as goal

pub returns : goal.returns
returns c = only_known
