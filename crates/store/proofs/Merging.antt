-- Two words, and the eight bytes that begin in the one and end in the other.
use Rattle.std.proofs.Common.{◌≡◌, ℕ, zero, suc, ◌+◌, ◌-◌, ◌*◌, ◌/◌, ◌%◌, ◌^◌, ◌<◌, ◌≤◌, ◌∷◌, ◌++◌, take, drop, sym, refl, ap, ◌∙◌, subst, add-zero, mul_assoc, mul_comm, add_comm, suc-add, pow-suc, zero-add, div-one, arith}
use native.Mathlib.Nat.{div-div-eq-div-mul, mul-mod_left}
use lib.Arith.{mod-mul}
use lib.Bits.{bit_or}
use Rattle.std.proofs.lemmas.Nat.{pow-add, or_shifted, or_comm, pow_pos, shr_below, shl-shr}
use Rattle.store.specs.Words.{bytes_of}
use Rattle.store.specs.Short.{pow_above}

mod_parts : (b c : ℕ) → 0 < c → b % (256 * c) ≡ 256 * (b / 256 % c) + b % 256
mod_parts b c h = ap (λ t. b % t) (mul_comm 256 c) ∙ mod-mul b {m = c} {c = 256} h (omega arith) ∙ ap (λ t. t + b % 256) (mul_comm (b / 256 % c) 256)

pub two_parts : (m n x y : ℕ) → x < 256 ^ m → bytes_of (m + n) (x + 256 ^ m * y) ≡ bytes_of m x ++ bytes_of n y
unfolding bytes_of
two_parts zero n x y h = let e : x + 1 * y ≡ y = omega arith in rw (zero-add n, e)
two_parts (suc m) n x y h =
    let p : 256 ^ suc m ≡ 256 ^ m * 256 = pow-suc 256 m in
    let q : 256 ^ suc m * y ≡ 256 * (256 ^ m * y) = ap (λ t. t * y) (p ∙ mul_comm (256 ^ m) 256) ∙ mul_assoc 256 (256 ^ m) y in
    let e : (x + 256 * (256 ^ m * y)) % 256 ≡ x % 256 = omega arith in
    let f : (x + 256 * (256 ^ m * y)) / 256 ≡ x / 256 + 256 ^ m * y = omega arith in
    rw (suc-add m n, q, e, f) (ap (λ t. (x % 256) ∷ t) (two_parts m n (x / 256) y (omega arith)))

pub dropped : (r m a : ℕ) → bytes_of m (a / 256 ^ r) ≡ drop r (bytes_of (r + m) a)
unfolding bytes_of
dropped zero m a = rw (div-one a, zero-add m)
dropped (suc r) m a =
    rw (suc-add r m) (ap (bytes_of m) (ap (λ t. a / t) (pow-suc 256 r ∙ mul_comm (256 ^ r) 256) ∙ sym (div-div-eq-div-mul a 256 (256 ^ r))) ∙ dropped r m (a / 256))

pub kept : (r b : ℕ) → bytes_of r (b % 256 ^ r) ≡ bytes_of r b
unfolding bytes_of
kept zero b = refl
kept (suc r) b =
    let p : 256 ^ suc r ≡ 256 * 256 ^ r = pow-suc 256 r ∙ mul_comm (256 ^ r) 256 in
    let m : b % (256 * 256 ^ r) ≡ 256 * (b / 256 % 256 ^ r) + b % 256 = mod_parts b (256 ^ r) (pow_above r) in
    let e : (256 * (b / 256 % 256 ^ r) + b % 256) % 256 ≡ b % 256 = omega arith in
    let f : (256 * (b / 256 % 256 ^ r) + b % 256) / 256 ≡ b / 256 % 256 ^ r = omega arith in
    rw (p, m, e, f) (ap (λ t. (b % 256) ∷ t) (kept r (b / 256)))

pub taken : (r m b : ℕ) → bytes_of r b ≡ take r (bytes_of (r + m) b)
unfolding bytes_of
taken zero m b = refl
taken (suc r) m b = rw (suc-add r m) (ap (λ t. (b % 256) ∷ t) (taken r m (b / 256)))

pub merged : (a b r : ℕ) → r ≤ 8 → a / 256 ^ r < 256 ^ (8 - r) →
    bytes_of 8 (a / 256 ^ r + 256 ^ (8 - r) * (b % 256 ^ r)) ≡ drop r (bytes_of 8 a) ++ take r (bytes_of 8 b)
merged a b r h l =
    let e : (8 - r) + r ≡ 8 = omega arith in
    let f : r + (8 - r) ≡ 8 = omega arith in
    subst (λ k. bytes_of k (a / 256 ^ r + 256 ^ (8 - r) * (b % 256 ^ r)) ≡ drop r (bytes_of 8 a) ++ take r (bytes_of 8 b)) e
    (two_parts (8 - r) r (a / 256 ^ r) (b % 256 ^ r) l
    ∙ ap (λ t. t ++ bytes_of r (b % 256 ^ r)) (dropped r (8 - r) a ∙ ap (λ k. drop r (bytes_of k a)) f)
    ∙ ap (λ t. drop r (bytes_of 8 a) ++ t) (kept r b ∙ taken r (8 - r) b ∙ ap (λ k. take r (bytes_of k b)) f))

pub pow_256 : (r : ℕ) → 2 ^ (8 * r) ≡ 256 ^ r
pow_256 zero = refl
pow_256 (suc r) =
    let e : 8 * suc r ≡ 8 * r + 8 = omega arith in
    ap (λ t. 2 ^ t) e ∙ pow-add 2 (8 * r) 8 ∙ ap (λ t. t * 256) (pow_256 r) ∙ sym (pow-suc 256 r)

shl_low : (b r : ℕ) → r ≤ 8 → (b * 2 ^ (64 - 8 * r)) % 18446744073709551616 ≡ (b % 2 ^ (8 * r)) * 2 ^ (64 - 8 * r)
shl_low b r h =
    let e : 8 * r + (64 - 8 * r) ≡ 64 = omega arith in
    let k : ℕ = 64 - 8 * r in
    ap (λ t. (b * 2 ^ k) % t) (ap (λ t. 2 ^ t) (sym e) ∙ pow-add 2 (8 * r) k)
    ∙ mod-mul (b * 2 ^ k) {m = 2 ^ (8 * r)} {c = 2 ^ k} (pow_pos (8 * r)) (pow_pos k)
    ∙ (rw (shl-shr b k, mul-mod_left b (2 ^ k), add-zero))

pub merge_is : (a b r : ℕ) → 0 < r → r < 8 → a < 2 ^ 64 →
    bytes_of 8 (bit_or (a / 2 ^ (8 * r)) ((b * 2 ^ (64 - 8 * r)) % 18446744073709551616)) ≡ drop r (bytes_of 8 a) ++ take r (bytes_of 8 b)
merge_is a b r p h l =
    let e : 64 - 8 * r ≡ 8 * (8 - r) = omega arith in
    let f : (64 - 8 * r) + 8 * r ≡ 64 = omega arith in
    let s : a / 2 ^ (8 * r) < 2 ^ (64 - 8 * r) = shr_below a (64 - 8 * r) (8 * r) (rw f l) in
    let g : 2 ^ (64 - 8 * r) ≡ 256 ^ (8 - r) = ap (λ t. 2 ^ t) e ∙ pow_256 (8 - r) in
    let v : bit_or (a / 2 ^ (8 * r)) ((b * 2 ^ (64 - 8 * r)) % 18446744073709551616) ≡ a / 256 ^ r + 256 ^ (8 - r) * (b % 256 ^ r) =
    ap (λ t. bit_or (a / 2 ^ (8 * r)) t) (shl_low b r (omega arith))
    ∙ or_comm (a / 2 ^ (8 * r)) ((b % 2 ^ (8 * r)) * 2 ^ (64 - 8 * r))
    ∙ or_shifted (b % 2 ^ (8 * r)) (64 - 8 * r) (a / 2 ^ (8 * r)) s
    ∙ add_comm ((b % 2 ^ (8 * r)) * 2 ^ (64 - 8 * r)) (a / 2 ^ (8 * r))
    ∙ ap (λ t. a / 2 ^ (8 * r) + t) (mul_comm (b % 2 ^ (8 * r)) (2 ^ (64 - 8 * r)))
    ∙ (rw (g, pow_256 r)) in
    ap (bytes_of 8) v ∙ merged a b r (omega arith) (subst (λ t. a / 256 ^ r < t) g (subst (λ t. a / t < 2 ^ (64 - 8 * r)) (pow_256 r) s))
