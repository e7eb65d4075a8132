-- What is refused because a value is missing.
use Rattle.std.proofs.Common.{◌≡◌, Ok, Err, None, Option, Result, ap, ◌∙◌, IsErrAnd}
use Rattle.std.specs.Option.{ok_or}
use Rattle.interp.specs.declared.Turn as Code
use Rattle.interp.specs.declared.Refusal.{Refusal}
use Rattle.interp.specs.Outcomes.{Turn, Refuse, refusal_number, came}

-- what an error is told as
told_err : {A : Type 0} → Result A Refusal → Turn
told_err (Ok x) = Refuse 0
told_err (Err e) = Refuse (refusal_number e)

-- an error, as what is refused
pub came_err : (r : Result Code.Turn Refusal) (e : Refusal) → IsErrAnd r (λ x. x ≡ e) → came r ≡ Refuse (refusal_number e)
came_err (Ok x) e k = absurd k
came_err (Err x) e k = ap (λ x. Refuse (refusal_number x)) k

-- what is refused because there was nothing
pub refused_for : {A : Type 0} (r : Result Code.Turn Refusal) (o : Option A) (e f : Refusal) → IsErrAnd r (λ x. x ≡ e) → Err e ≡ ok_or o f → o ≡ None →
    came r ≡ Refuse (refusal_number f)
unfolding told_err
refused_for r o e f k h n = came_err r e k ∙ ap told_err (h ∙ ap (λ x. ok_or x f) n)
