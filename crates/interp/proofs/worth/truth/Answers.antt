use Rattle.std.proofs.Common.{◌≡◌, Bool, true, false, pos, refl, w64, to_z, of_z}
use Rattle.std.specs.Int.{from_bool}
use Rattle.store.specs.declared.cells.Value.TheVariants.{Number}
use Rattle.interp.specs.Turns.{truth_of}
use Rattle.interp.proofs.worth.truth.Goals as goal

as_truth : (b : Bool) → Number (to_z w64 (of_z w64 (pos (from_bool b)))) ≡ truth_of b
unfolding truth_of
as_truth true = refl
as_truth false = refl

pub returns : goal.returns
returns c = rw c.from.ensures (as_truth c.args.b)
