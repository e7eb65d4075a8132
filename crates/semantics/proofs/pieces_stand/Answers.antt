use Rattle.semantics.proofs.Theorems.{in_pieces}
use Rattle.semantics.proofs.pieces_stand.Goals as goal

pub returns : goal.returns
returns c = in_pieces
