use Rattle.semantics.proofs.Theorems.{fields_placed}
use Rattle.semantics.proofs.places_stand.Goals as goal

pub returns : goal.returns
returns c = fields_placed
