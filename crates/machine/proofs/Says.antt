-- What a step says, by what fits: lengths decide that, and a kind with its bytes is told as its event is.
use Rattle.std.proofs.Common.{◌≡◌, ℕ, zero, suc, ◌≤◌, Bool, true, false, ◌&&◌, eqb, leb, List, length, replicate, sym, refl, ap, ◌∙◌, subst, le_trans, arith}
use lib.ListN.{length-replicate}
use Rattle.std.proofs.lemmas.Bool.{and_parts, leb-true, le-leb}
use Rattle.std.proofs.lemmas.Bool.Decides.{nat_tests}
use Rattle.language.specs.Text.{every}
use Rattle.language.specs.Run.{Event, Steady}
use Rattle.machine.specs.declared.Told.{Told}
use Rattle.machine.specs.declared.Told.TheVariants.{No}
use Rattle.machine.specs.Entry.{own, TellSays, StepSays, ActTold, tell_fits, step_fits, lengths_fit, may_tell, event_of}

pub own_length : length own.start ≡ 262144
unfolding own
own_length = length-replicate {A = ℕ} 262144 0

zeros : (n : ℕ) → every (λ m. eqb m 0) (replicate n 0) ≡ true
zeros zero = refl
zeros (suc n) = zeros n

-- memory starts as zeros, and keeps its length and its range
pub steady : Steady own
unfolding Steady own
steady = (let e = own_length in omega arith, zeros 262144, λ m ev. (refl, λ h. h))

pub tell_fits_is : (m p o : List ℕ) → tell_fits m p o ≡ lengths_fit (length m) (length p) (length o)
unfolding tell_fits
tell_fits_is m p o = ap (λ n. eqb (length m) n && (leb (length p) 4096 && leb 4096 (length o))) own_length

module _ (m p o : List ℕ) (ev : Event) (n : ℕ) (b : Bool) (came : n ≡ length p) (test : b ≡ lengths_fit (length m) n (length o)) where
  fits_by : (v : Bool) → b ≡ v → v ≡ tell_fits m p o
  fits_by v e = sym e ∙ test ∙ ap (λ k. lengths_fit (length m) k (length o)) came ∙ sym (tell_fits_is m p o)

  -- what doesn't fit is refused, and nothing is changed
  pub tell_refuses : b ≡ false → TellSays m ev o (tell_fits m p o) (No 0) m o
  unfolding TellSays
  tell_refuses e = rw (← fits_by false e) (refl, refl, refl)

  -- as yet, what fits isn't known
  pub unknown : b ≡ true → TellSays m ev o (tell_fits m p o) (No 2) m o
  unfolding TellSays ActTold own
  unknown e = rw (← fits_by true e) (refl, (refl, refl))

-- no such kind, or too long a piece
step_fits_not : (a b c d : Bool) → (b && c) ≡ false → (a && (b && (c && d))) ≡ false
step_fits_not a b c d e = grind (arith, nat_tests)

pub step_refuses : (m : List ℕ) (k : ℕ) (p o : List ℕ) → may_tell k (length p) ≡ false → StepSays m k p o (step_fits m k p o) (No 0) m o
unfolding step_fits StepSays
step_refuses m k p o e =
    rw (step_fits_not (eqb (length m) (length own.start)) (leb k 3) (leb (length p) 4096) (leb 4096 (length o)) e) (refl, refl, refl)

-- a kind with its bytes is told as its event is
step_as_told : (m : List ℕ) (k : ℕ) (p o : List ℕ) (b : Bool) (r : Told) (m₁ o₁ : List ℕ) → TellSays m (event_of k p) o b r m₁ o₁ → StepSays m k p o b r m₁ o₁
unfolding StepSays TellSays
step_as_told m k p o true r m₁ o₁ h = h
step_as_told m k p o false r m₁ o₁ h = h

step_fits_by : (m : List ℕ) (k : ℕ) (p q o : List ℕ) → leb k 3 ≡ true → leb (length p) 4096 ≡ true → leb (length q) 4096 ≡ true → tell_fits m q o ≡ step_fits m k p o
unfolding tell_fits step_fits
step_fits_by m k p q o a b c = rw (a, b, c)

pub step_tells : (m : List ℕ) (k : ℕ) (p q o : List ℕ) (ev : Event) (r : Told) (m₁ o₁ : List ℕ) → may_tell k (length p) ≡ true → length q ≤ length p → ev ≡ event_of k p →
    TellSays m ev o (tell_fits m q o) r m₁ o₁ → StepSays m k p o (step_fits m k p o) r m₁ o₁
step_tells m k p q o ev r m₁ o₁ e l i h =
    let t = and_parts (leb k 3) (leb (length p) 4096) e in
    let c : leb (length q) 4096 ≡ true = le-leb (length q) 4096 (le_trans l (leb-true (length p) 4096 t.1)) in
    let P : Bool → Type 0 = λ b. TellSays m (event_of k p) o b r m₁ o₁ in
    let Q : Event → Type 0 = λ v. TellSays m v o (tell_fits m q o) r m₁ o₁ in
    step_as_told m k p o (step_fits m k p o) r m₁ o₁ (subst P (step_fits_by m k p q o t.0 t.1 c) (subst Q i h))
