-- The language's arithmetic is that of the integers.
use Rattle.std.proofs.Common.{◌≡◌, ℕ, zero, suc, ◌+◌, ◌-◌, ◌*◌, ◌/◌, ◌%◌, ◌^◌, ◌<◌, ◌≤◌, false, ◌⊎◌, ℤ, pos, negsuc, ◌+ℤ◌, ◌-ℤ◌, ◌*ℤ◌, neg_ℤ, ◌≤ℤ◌, ◌<ℤ◌, Some, None, Option, Result, sym, refl, ap, ◌∙◌, inl, inr, div-le_self, mul-zero, w64, SFits, arith}
use native.Mathlib.Nat.{mod-add-div}
use lib.IntN.{sub_ℕ}
use lib.Signed.{quot_z, rem_z, mag_rem}
use mir.Syntax.{w128}
use Rattle.std.specs.Option.{ok_or}
use Rattle.values.specs.declared.numbers.Trouble.{Trouble}
use Rattle.values.specs.declared.numbers.Trouble.TheVariants.{TooLarge}
use Rattle.std.proofs.lemmas.Bool.{cases_lt, ne_eqb, lt-ltb, le-ltb, le-leb, lt-leb}
use Rattle.std.proofs.lemmas.Int.{ints}
use Rattle.language.specs.Text.{Value, number_of, fine, too_large, within, sum, opposite, product, quotient, limit, negative, apart, is_zero}
use Rattle.language.specs.Meaning.{State, Got, as_got, quotient_got, left_over_got}
use Rattle.store.specs.Numbers.{number}
use Rattle.values.specs.Numbers.{judged, divided}

apart_is : (a b : ℕ) → apart a b ≡ number (sub_ℕ a b)
apart_is a b =
    elim (cases_lt a b) [
      | inl h ↦ let e : b - a - 1 ≡ b - suc a = omega arith in simp (lt-ltb a b h, lt-leb b a h, e)
      | inr h ↦ simp (le-ltb a b h, le-leb b a h)
    ]

pub negative_is : (n : ℕ) → negative n ≡ number (neg_ℤ (pos n))
negative_is zero = refl
negative_is (suc n) = refl

pub sum_is : (a b : ℤ) → sum (number a) (number b) ≡ number (a +ℤ b)
unfolding sum
sum_is (pos a) (pos b) = refl
sum_is (pos a) (negsuc b) = apart_is a (suc b)
sum_is (negsuc a) (pos b) = apart_is b (suc a)
sum_is (negsuc a) (negsuc b) = refl

pub opposite_is : (a : ℤ) → opposite (number a) ≡ number (neg_ℤ a)
unfolding opposite
opposite_is (pos zero) = refl
opposite_is (pos (suc n)) = refl
opposite_is (negsuc n) = refl

pub difference_is : (a b : ℤ) → sum (number a) (opposite (number b)) ≡ number (a -ℤ b)
difference_is a b = ap (λ v. sum (number a) v) (opposite_is b) ∙ sum_is a (neg_ℤ b)

pub product_is : (a b : ℤ) → product (number a) (number b) ≡ number (a *ℤ b)
unfolding product
product_is (pos a) (pos b) = refl
product_is (pos a) (negsuc b) = negative_is (a * suc b)
product_is (negsuc a) (pos b) = negative_is (suc a * b)
product_is (negsuc a) (negsuc b) = refl

pub quotient_is : (a b : ℤ) → quotient (number a) (number b) ≡ number (quot_z a b)
unfolding quotient
quotient_is (pos a) (pos b) = refl
quotient_is (pos a) (negsuc b) = negative_is (a / suc b)
quotient_is (negsuc a) (pos b) = negative_is (suc a / b)
quotient_is (negsuc a) (negsuc b) = refl

-- a number between the bounds is fine, any other is too large
pub fine_is : (z : ℤ) → negsuc 4611686018427387903 ≤ℤ z → z ≤ℤ pos 4611686018427387903 → fine (number z) ≡ within (number z)
unfolding within
fine_is (pos n) l h = let k : n < limit = omega (arith, ints) in simp (lt-ltb n limit k)
fine_is (negsuc n) l h = let k : n < limit = omega (arith, ints) in simp (lt-ltb n limit k)

pub large_is : (z : ℤ) → (z <ℤ negsuc 4611686018427387903) ⊎ (pos 4611686018427387903 <ℤ z) → too_large ≡ within (number z)
unfolding within
large_is (pos n) (inl l) = let k : limit ≤ n = omega (arith, ints) in simp (le-ltb n limit k)
large_is (pos n) (inr l) = let k : limit ≤ n = omega (arith, ints) in simp (le-ltb n limit k)
large_is (negsuc n) (inl l) = let k : limit ≤ n = omega (arith, ints) in simp (le-ltb n limit k)
large_is (negsuc n) (inr l) = let k : limit ≤ n = omega (arith, ints) in simp (le-ltb n limit k)

-- what is left over, with the sign of the first

plus_times : (b q : ℕ) → pos b *ℤ neg_ℤ (pos q) ≡ neg_ℤ (pos (b * q))
plus_times b zero = rw mul-zero
plus_times b (suc q) = refl

minus_times : (b q : ℕ) → negsuc b *ℤ neg_ℤ (pos q) ≡ pos (suc b * q)
minus_times b zero = rw mul-zero
minus_times b (suc q) = refl

rest_above : (a k r : ℕ) → r + k ≡ a → pos a +ℤ neg_ℤ (pos k) ≡ pos r
rest_above a k r e = omega (arith, ints)

rest_below : (a k r : ℕ) → r + k ≡ suc a → negsuc a +ℤ pos k ≡ neg_ℤ (pos r)
rest_below a k r e = omega (arith, ints)

twice_negated : (k : ℕ) → neg_ℤ (neg_ℤ (pos k)) ≡ pos k
twice_negated zero = refl
twice_negated (suc k) = refl

rest_is : (a b : ℤ) → a -ℤ b *ℤ quot_z a b ≡ rem_z a b
rest_is (pos a) (pos b) = rest_above a (b * (a / b)) (a % b) (mod-add-div a b)
rest_is (pos a) (negsuc b) = ap (λ z. pos a -ℤ z) (minus_times b (a / suc b)) ∙ rest_above a (suc b * (a / suc b)) (a % suc b) (mod-add-div a (suc b))
rest_is (negsuc a) (pos b) =
    ap (λ z. negsuc a -ℤ z) (plus_times b (suc a / b)) ∙ ap (λ z. negsuc a +ℤ z) (twice_negated (b * (suc a / b)))
    ∙ rest_below a (b * (suc a / b)) (suc a % b) (mod-add-div (suc a) b)
rest_is (negsuc a) (negsuc b) =
    ap (λ z. negsuc a +ℤ z) (twice_negated (suc b * (suc a / suc b))) ∙ rest_below a (suc b * (suc a / suc b)) (suc a % suc b) (mod-add-div (suc a) (suc b))

pub left_over_is : (a b : ℤ) → sum (number a) (opposite (product (number b) (quotient (number a) (number b)))) ≡ number (rem_z a b)
left_over_is a b =
    ap (λ v. sum (number a) (opposite (product (number b) v))) (quotient_is a b) ∙ ap (λ v. sum (number a) (opposite v)) (product_is b (quot_z a b))
    ∙ difference_is a (b *ℤ quot_z a b) ∙ ap number (rest_is a b)

-- a quotient and a remainder of two numbers have room in twice as many bits

neg_fits : (n : ℕ) → n < 2 ^ 64 → SFits w128 (neg_ℤ (pos n))
neg_fits zero h = record { sfits = omega arith }
neg_fits (suc n) h = record { sfits = omega arith }

pub quotient_fits : (a b : ℤ) → SFits w64 a → SFits w128 (quot_z a b)
quotient_fits (pos a) (pos b) h = record { sfits = omega (arith, h.sfits, div-le_self a b) }
quotient_fits (pos a) (negsuc b) h = neg_fits (a / suc b) (omega (arith, h.sfits, div-le_self a (suc b)))
quotient_fits (negsuc a) (pos b) h = neg_fits (suc a / b) (omega (arith, h.sfits, div-le_self (suc a) b))
quotient_fits (negsuc a) (negsuc b) h = record { sfits = omega (arith, h.sfits, div-le_self (suc a) (suc b)) }

pub left_over_fits : (a b : ℤ) → SFits w64 a → SFits w128 (rem_z a b)
left_over_fits a b h = record { sfits = omega (arith, h.sfits, mag_rem a b) }

-- what division answers

nonzero : (b : ℤ) → (b ≡ pos 0 → ⊥) → is_zero (number b) ≡ false
nonzero (pos zero) h = absurd (h refl)
nonzero (pos (suc n)) h = ne_eqb (suc n) 0 (λ e. omega arith)
nonzero (negsuc n) h = refl

answered : (o : Option ℤ) (s : State) → divided (ok_or o TooLarge) s ≡ as_got (judged o) s
unfolding as_got
answered (Some z) s = refl
answered None s = refl

-- what is judged as v is answered as v
reached : (o : Option ℤ) (r : Result ℤ Trouble) (v : Value) → judged o ≡ within v → r ≡ ok_or o TooLarge → (s : State) → divided r s ≡ as_got (within v) s
reached o r v f e s = ap (λ t. divided t s) e ∙ answered o s ∙ ap (λ n. as_got n s) f

module _ (a b z : ℤ) (o : Option ℤ) (r : Result ℤ Trouble) (h : b ≡ pos 0 → ⊥) (f : judged o ≡ within (number z)) (e : r ≡ ok_or o TooLarge) where
  pub quotient_answered : z ≡ quot_z a b → (s : State) → divided r s ≡ quotient_got (number a) (number b) s
  quotient_answered q s = rw (nonzero b h) (reached o r _ (f ∙ ap within (ap number q ∙ sym (quotient_is a b))) e s)

  pub left_over_answered : z ≡ rem_z a b → (s : State) → divided r s ≡ left_over_got (number a) (number b) s
  left_over_answered q s = rw (nonzero b h) (reached o r _ (f ∙ ap within (ap number q ∙ sym (left_over_is a b))) e s)

-- operators on values, by the numbers that they are taken as
module _ (a b x y : ℤ) (e : x ≡ a) (f : y ≡ b) (r : Result ℤ Trouble) where
  pub taken : (op : Value → Value → State → Got) → ((s : State) → divided r s ≡ op (number x) (number y) s) → (v w : Value) (s : State) → number_of v ≡ number a → number_of w ≡ number b →
      divided r s ≡ op (number_of v) (number_of w) s
  taken op g v w s h k = rw (h, k, ← e, ← f) (g s)

  pub reckoned : (op : Value → Value → Value) (o : Option ℤ) → judged o ≡ within (op (number x) (number y)) → r ≡ ok_or o TooLarge → (v w : Value) (s : State) → number_of v ≡ number a → number_of w ≡ number b →
      divided r s ≡ as_got (within (op (number_of v) (number_of w))) s
  reckoned op o g p = taken (λ m n. as_got (within (op m n))) (reached o r _ g p)
