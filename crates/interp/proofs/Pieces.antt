-- Short texts: two of them as one, and which one has which bytes.
use Rattle.std.proofs.Common.{◌≡◌, ℕ, zero, suc, ◌+◌, ◌*◌, ◌/◌, ◌%◌, ◌^◌, ◌<◌, ◌≤◌, List, length, sym, refl, ap, ◌∙◌, subst, mul_comm, mul-le-mul_left, pow-suc, mul-add, arith}
use Rattle.std.proofs.lemmas.Nat.{pow-add, shl_whole}
use Rattle.store.specs.declared.short.Short.{Short}
use Rattle.store.specs.Words.{bytes_of}
use Rattle.store.specs.Short.{packed, short_of}
use Rattle.store.proofs.Packing.{length_bytes, bytes_below}
use Rattle.store.proofs.Shorts.{short_same, short_len, short_word, word_back}

pub pow_bytes : (m : ℕ) → 2 ^ (8 * m) ≡ 256 ^ m
pow_bytes zero = refl
pow_bytes (suc m) =
    let e : 8 * suc m ≡ 8 * m + 8 = omega arith in
    ap (λ n. 2 ^ n) e ∙ pow-add 2 (8 * m) 8 ∙ ap (λ t. t * 256) (pow_bytes m) ∙ sym (pow-suc 256 m)

-- a short text is known by its bytes
pub short_is : (b : Short) (bs : List ℕ) → bytes_of b.len b.word ≡ bs → b ≡ short_of bs
short_is b bs e =
    let few : length (bytes_of b.len b.word) ≤ 8 = omega (arith, length_bytes b.len b.word, b.few) in
    let own : b ≡ short_of (bytes_of b.len b.word) =
    short_same b (short_of (bytes_of b.len b.word))
    (sym (short_word (bytes_of b.len b.word) few (bytes_below b.len b.word) ∙ word_back b.len b.word b.clean))
    (sym (short_len (bytes_of b.len b.word) few ∙ length_bytes b.len b.word)) in
    own ∙ ap short_of e

-- the second word shifted behind the first
pub shifted : (m n y : ℕ) → y < 256 ^ n → m + n ≤ 8 → (y * 2 ^ (8 * m)) % 18446744073709551616 ≡ 256 ^ m * y
shifted m n y h l =
    let k : y < 2 ^ (8 * n) = subst (λ t. y < t) (sym (pow_bytes n)) h in
    shl_whole y (8 * n) (8 * m) 64 k (omega arith) ∙ mul_comm y (2 ^ (8 * m)) ∙ ap (λ t. t * y) (pow_bytes m)

pub both_below : (m n x y : ℕ) → x < 256 ^ m → y < 256 ^ n → x + 256 ^ m * y < 256 ^ (m + n)
both_below m n x y h k =
    let p : 256 ^ (m + n) ≡ 256 ^ m * 256 ^ n = pow-add 256 m n in
    rw p (sums (256 ^ m) (256 ^ n) x y h k)
  where
    sums : (a b x y : ℕ) → x < a → y < b → x + a * y < a * b
    sums a b x y h k =
        let l : a * (y + 1) ≤ a * b = mul-le-mul_left a (omega arith) in
        let e : a * (y + 1) ≡ a * y + a * 1 = mul-add a y 1 in
        omega arith
