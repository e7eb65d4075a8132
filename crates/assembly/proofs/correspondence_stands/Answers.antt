use Rattle.assembly.proofs.Correspondence.{correspondence}
use Rattle.assembly.proofs.correspondence_stands.Goals as goal

pub returns : goal.returns
returns c = correspondence
