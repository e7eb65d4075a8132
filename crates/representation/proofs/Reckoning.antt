-- Operators on numbers and comparisons: a number or an error, whatever the state is.
use Rattle.std.proofs.Common.{◌≡◌, ℕ, Bool, true, false, not, ltb, ℤ, pos, negsuc, refl, ap, arith, w64, SFits}
use Rattle.std.proofs.lemmas.Bool.{ltb-true}
use Rattle.language.specs.Text.{pick, limit, Value, plus, minus, number_of, too_large, fine, within, opposite, product, quotient, is_zero, holds, truth, less, alike}
use Rattle.language.specs.Meaning.{State, Got, got, left, wrong, as_got, reckon, reckon_one}
use Rattle.semantics.proofs.Sound.{Number, a_plus, a_minus, number_sum, number_opposite, number_quotient, number_product}
use Rattle.values.specs.declared.numbers.Arithmetic.{Arithmetic}
use Rattle.values.specs.declared.numbers.Arithmetic.TheVariants.{Add, Subtract, Multiply, Divide, Remainder}
use Rattle.values.specs.declared.compare.Comparison.{Comparison}
use Rattle.values.specs.declared.compare.Comparison.TheVariants.{Equal, Unequal, Less, AtMost, Above, AtLeast}
use Rattle.values.specs.Numbers.{operation}
use Rattle.values.specs.Compare.{operator}
use Rattle.store.specs.Numbers.{number}

-- a number that fits 64 bits, or an error
pub data Figured (f : State → Got) : Type 0 where
  a_number : (k : ℤ) → SFits w64 k → ((s : State) → f s ≡ got (number k) s) → Figured f
  an_error : (j : ℕ) → ((s : State) → f s ≡ left (wrong j s)) → Figured f

figure : {v : Value} → Number v → Figured (λ s. as_got (within v) s)
unfolding within as_got
figure (a_plus {n}) = by (ltb n limit) refl
  where
    by : (t : Bool) → ltb n limit ≡ t → Figured (λ s. as_got (pick t (fine (plus n)) too_large) s)
    by true e = a_number (pos n) (record { sfits = omega (arith, ltb-true n limit e) }) (λ s. refl)
    by false e = an_error 3 (λ s. refl)
figure (a_minus {n}) = by (ltb n limit) refl
  where
    by : (t : Bool) → ltb n limit ≡ t → Figured (λ s. as_got (pick t (fine (minus n)) too_large) s)
    by true e = a_number (negsuc n) (record { sfits = omega (arith, ltb-true n limit e) }) (λ s. refl)
    by false e = an_error 3 (λ s. refl)

pub truth_fits : (b : Bool) → (k : ℤ) × SFits w64 k × (truth b ≡ number k)
truth_fits true = (pos 1, record { sfits = omega arith }, refl)
truth_fits false = (pos 0, record { sfits = omega arith }, refl)

figure_truth : (b : Bool) → Figured (λ s. got (truth b) s)
figure_truth b = let f = truth_fits b in a_number f.0 f.1 (λ s. ap (λ v. got v s) f.2)

unless_zero : (b : Bool) {v : Value} → Number v → Figured (λ s. pick b (left (wrong 4 s)) (as_got (within v) s))
unless_zero true h = an_error 4 (λ s. refl)
unless_zero false h = figure h

pub calculates : (c : Arithmetic) (a b : Value) → Figured (λ s. reckon (operation c) a b s)
unfolding reckon
calculates Add a b = figure (number_sum (number_of a) (number_of b))
calculates Subtract a b = figure (number_sum (number_of a) (opposite (number_of b)))
calculates Multiply a b = figure (number_product (number_of a) (number_of b))
calculates Divide a b = unless_zero (is_zero (number_of b)) (number_quotient (number_of a) (number_of b))
calculates Remainder a b = unless_zero (is_zero (number_of b)) (number_sum (number_of a) (opposite (product (number_of b) (quotient (number_of a) (number_of b)))))

pub compares : (c : Comparison) (a b : Value) → Figured (λ s. reckon (operator c) a b s)
unfolding reckon
compares Equal a b = figure_truth (alike a b)
compares Unequal a b = figure_truth (not (alike a b))
compares Less a b = figure_truth (less a b)
compares AtMost a b = figure_truth (not (less b a))
compares Above a b = figure_truth (less b a)
compares AtLeast a b = figure_truth (not (less a b))

pub opposes : (a : Value) → Figured (λ s. reckon_one 1 a s)
unfolding reckon_one
opposes a = figure (number_opposite (number_of a))

pub negates : (a : Value) (s : State) → reckon_one 0 a s ≡ got (truth (not (holds a))) s
unfolding reckon_one
negates a s = refl
