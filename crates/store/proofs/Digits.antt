-- The digits of a number, from the last to the first.
use Rattle.std.proofs.Common.{◌≡◌, ℕ, zero, suc, ◌+◌, ◌-◌, ◌*◌, ◌/◌, ◌%◌, ◌^◌, ◌<◌, ◌≤◌, List, [], ◌∷◌, length, get_or, drop, set, ℤ, pos, negsuc, nat_abs, ◌≤ℤ◌, ◌<ℤ◌, refl, ◌∙◌, inl, inr, mod-eq_of_lt, pow-suc, add-one, arith, le-ltb, lt-ltb}
use Rattle.std.proofs.lemmas.List.{drop-set, drop-set-lt}
use Rattle.std.proofs.lemmas.Bool.{cases_lt}
use Rattle.std.proofs.lemmas.Int.{ints}
use Rattle.language.specs.Text.{digits, as_text}
use Rattle.store.specs.Numbers.{number}

digits_more : (k m : ℕ) (ds : List ℕ) → 10 ≤ m → digits (suc k) m ds ≡ digits k (m / 10) ((48 + m % 10) ∷ ds)
unfolding digits
digits_more k m ds h = rw (le-ltb m 10 h)

pub digits_last : (k m : ℕ) (ds : List ℕ) → m < 10 → digits (k + 1) m ds ≡ (48 + m % 10) ∷ ds
unfolding digits
digits_last k m ds h = rw (add-one, lt-ltb m 10 h, mod-eq_of_lt h)

-- one digit more
pub digit_step : (t row : List ℕ) (m k v : ℕ) → 0 < k → 10 ≤ m → t ≡ digits (k + 1) m (drop (k + 1) row) → drop k row ≡ (48 + m % 10) ∷ drop (k + 1) row →
    t ≡ digits (k - 1 + 1) (m / 10) (drop (k - 1 + 1) (set row (k - 1) v))
digit_step t row m k v h p e d =
    let f : k - 1 + 1 ≡ k = omega arith in
    let l : k - 1 < k = omega arith in
    rw (f, drop-set-lt k row (k - 1) v l, d) (e ∙ (rw add-one (digits_more k m (drop (suc k) row) p)))

pub digit_put : (row : List ℕ) (k v : ℕ) → k < length row → drop k (set row k v) ≡ v ∷ drop (k + 1) (set row k v)
digit_put row k v h = let l : k < k + 1 = omega arith in rw (drop-set-lt (k + 1) row k v l) (drop-set row k v h)

-- a number of two digits or more has a place before its last
pub places_left : (m k : ℕ) → 10 ≤ m → m < 10 ^ k → 2 ≤ k
places_left m zero h l = omega arith
places_left m (suc zero) h l = omega arith
places_left m (suc (suc k)) h l = omega arith

pub digits_bound : (m k : ℕ) → 1 ≤ k → m < 10 ^ k → m / 10 < 10 ^ (k - 1)
digits_bound m zero h l = omega arith
digits_bound m (suc k) h l =
    let f : suc k - 1 ≡ k = omega arith in
    let g : 10 ^ suc k ≡ 10 ^ k * 10 = pow-suc 10 k in
    rw f (omega arith)

-- the text of a number of the code

pub text_at_least_0 : (z : ℤ) → pos 0 ≤ℤ z → digits 20 (nat_abs z) [] ≡ as_text (number z)
unfolding as_text
text_at_least_0 (pos n) h = refl
text_at_least_0 (negsuc n) h = absurd (omega (arith, ints))

pub text_below_0 : (z : ℤ) → z <ℤ pos 0 → 45 ∷ digits 20 (nat_abs z) [] ≡ as_text (number z)
unfolding as_text
text_below_0 (pos n) h = absurd (omega (arith, ints))
text_below_0 (negsuc n) h = refl

-- each is a byte

one_more : (b : ℕ) (bs : List ℕ) → b < 256 → ((i : ℕ) → get_or bs i 0 < 256) → (i : ℕ) → get_or (b ∷ bs) i 0 < 256
one_more b bs h f zero = h
one_more b bs h f (suc i) = f i

digits_below : (k m : ℕ) (ds : List ℕ) → ((i : ℕ) → get_or ds i 0 < 256) → (i : ℕ) → get_or (digits k m ds) i 0 < 256
unfolding digits
digits_below zero m ds f i = f i
digits_below (suc k) m ds f i =
    elim (cases_lt m 10) [
      | inl h ↦ rw (lt-ltb m 10 h) (one_more (48 + m) ds (omega arith) f i)
      | inr h ↦ rw (le-ltb m 10 h) (digits_below k (m / 10) ((48 + m % 10) ∷ ds) (one_more (48 + m % 10) ds (omega arith) f) i)
    ]

pub number_below : (z : ℤ) (i : ℕ) → get_or (as_text (number z)) i 0 < 256
unfolding as_text
number_below (pos n) i = digits_below 20 n [] (λ k. omega arith) i
number_below (negsuc n) i = one_more 45 (digits 20 (suc n) []) (omega arith) (digits_below 20 (suc n) [] (λ k. omega arith)) i
