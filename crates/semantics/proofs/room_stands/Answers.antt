use Rattle.semantics.proofs.Theorems.{room}
use Rattle.semantics.proofs.room_stands.Goals as goal

pub returns : goal.returns
returns c = room
