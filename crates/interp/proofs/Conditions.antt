-- What is done with a condition, or with its opposite.
use Rattle.std.proofs.Common.{◌≡◌, Bool, true, false, not, refl}
use mathlib.Core.Bool.{beq}
use Rattle.language.specs.Text.{pick}

pub as_wanted : {A : Type 0} (f : Bool → A) (holds wanted : Bool) → f (beq holds wanted) ≡ pick wanted (f holds) (f (not holds))
as_wanted f true true = refl
as_wanted f true false = refl
as_wanted f false true = refl
as_wanted f false false = refl
