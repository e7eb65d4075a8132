-- Digits in a text, step by step.
use Rattle.std.proofs.Common.{◌≡◌, ℕ, suc, ◌+◌, ◌-◌, ◌*◌, ◌^◌, ◌<◌, ◌≤◌, Bool, true, false, cond, ◌&&◌, leb, leb-true, List, [], ◌∷◌, length, get_or, take, drop, refl, arith}
use Rattle.std.proofs.lemmas.List.{drop_more, drop_all}
use Rattle.std.specs.List.{prefix_len}
use native.Mathlib.Nat.{pow-succ', pow-le-pow_right}
use Rattle.language.specs.Text.{digit, leading}

-- a digit: the value goes on
pub digit_on : (cs : List ℕ) (i n : ℕ) → i < length cs → digit (get_or cs i 0) ≡ true → leading n (drop i cs) ≡ leading (10 * n + (get_or cs i 0 - 48)) (drop (i + 1) cs)
unfolding leading
digit_on cs i n h t = rw (drop_more cs i 0 h, t) refl

pub digits_done : (cs : List ℕ) (i n : ℕ) → length cs ≤ i → leading n (drop i cs) ≡ n
unfolding leading
digits_done cs i n h = rw (drop_all i cs h) refl

-- the digits in front are all that counts
pub leading_digits : (n : ℕ) (cs : List ℕ) → leading n (take (prefix_len digit cs) cs) ≡ leading n cs
unfolding leading
leading_digits n [] = refl
leading_digits n (c ∷ cs) = go (leading_digits (10 * n + (c - 48)) cs) (digit c) refl
  where
    go : leading (10 * n + (c - 48)) (take (prefix_len digit cs) cs) ≡ leading (10 * n + (c - 48)) cs → (b : Bool) → digit c ≡ b → leading n (take (cond b (1 + prefix_len digit cs) 0) (c ∷ cs)) ≡ leading n (c ∷ cs)
    go h true t =
        let e : 1 + prefix_len digit cs ≡ suc (prefix_len digit cs) = omega arith in
        rw (e, t) h
    go h false t = rw t refl

pub digit_byte : (c : ℕ) → digit c ≡ true → (48 ≤ c) × (c ≤ 57)
digit_byte c t = go (leb 48 c) refl (leb c 57) refl t
  where
    go : (a : Bool) → leb 48 c ≡ a → (b : Bool) → leb c 57 ≡ b → (a && b) ≡ true → (48 ≤ c) × (c ≤ 57)
    go true p true q h = (leb-true 48 c p, leb-true c 57 q)
    go true p false q h = cc
    go false p b q h = cc

-- up to 18 digits fit
pub small : (n k : ℕ) → k < 18 → n < 10 ^ k → n < 10 ^ 17
small n k h p = omega (arith, pow-le-pow_right {n = 10} (omega arith) {i = k} {j = 17} (omega arith))

pub grows : (n k d : ℕ) → n < 10 ^ k → d < 10 → 10 * n + d < 10 ^ suc k
grows n k d p q = omega (arith, pow-succ' 10 k)
