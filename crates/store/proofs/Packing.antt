-- Words as bytes: what the code's shifts and masks read and write.
use Rattle.std.proofs.Common.{◌≡◌, ℕ, zero, suc, ◌+◌, ◌-◌, ◌*◌, ◌/◌, ◌%◌, ◌^◌, ◌<◌, ◌≤◌, min, List, [], ◌∷◌, ◌++◌, length, get_or, take, drop, set, sym, refl, ap, ◌∙◌, inl, inr, not-suc-le-zero, mul-le-mul_right, mod-eq_of_lt, mul_assoc, mul_comm, pow-suc, zero-add, div-mul-le_self, div-one, arith, length-append, length-drop, take_all}
use native.Mathlib.Nat.{mod-le}
use lib.Bits.{bit_and}
use lib.Seq.{paste, take-nil}
use Rattle.std.proofs.lemmas.List.{get_or_append_left, get_or-append_right, set-append_left, set-append_right, get_or_past, drop_all}
use Rattle.std.proofs.lemmas.Nat.{shr-shr, pow-add, and_mask, shl_whole, shr_le}
use Rattle.std.proofs.lemmas.Bool.{cases_lt}
use Rattle.store.specs.Words.{bytes_of, unpacked, with_byte, put_byte, window}

pub length_bytes : (k w : ℕ) → length (bytes_of k w) ≡ k
unfolding bytes_of
length_bytes zero w = refl
length_bytes (suc k) w = ap (λ n. suc n) (length_bytes k (w / 256))

pub getD_bytes : (k j w : ℕ) → j < k → get_or (bytes_of k w) j 0 ≡ w / 2 ^ (8 * j) % 256
unfolding bytes_of
getD_bytes zero j w h = absurd (not-suc-le-zero h)
getD_bytes (suc k) zero w h = rw div-one
getD_bytes (suc k) (suc j) w h =
    let e : 8 * suc j ≡ 8 + 8 * j = omega arith in
    getD_bytes k j (w / 256) (omega arith) ∙ ap (λ n. n % 256) (shr-shr w 8 (8 * j) ∙ ap (λ n. w / 2 ^ n) (sym e))

part_le : (x p : ℕ) → (x / p % 256) * p ≤ x
part_le x p = omega (arith, mul-le-mul_right p (mod-le (x / p) 256), div-mul-le_self x p)

pub set_bytes : (k j w b : ℕ) → j < k → b < 256 →
    bytes_of k (with_byte w j b) ≡ set (bytes_of k w) j b
unfolding bytes_of with_byte
set_bytes zero j w b h s = absurd (not-suc-le-zero h)
set_bytes (suc k) zero w b h s =
    let e : (w - (w / 1 % 256) * 1 + b * 1) % 256 ≡ b = omega arith in
    let f : (w - (w / 1 % 256) * 1 + b * 1) / 256 ≡ w / 256 = omega arith in
    rw (e, f)
set_bytes (suc k) (suc j) w b h s =
    let e : 8 * suc j ≡ 8 + 8 * j = omega arith in
    let p : 2 ^ (8 * suc j) ≡ 256 * 2 ^ (8 * j) = ap (λ n. 2 ^ n) e ∙ pow-add 2 8 (8 * j) in
    let d : w / 2 ^ (8 * suc j) ≡ w / 256 / 2 ^ (8 * j) = ap (λ n. w / 2 ^ n) e ∙ sym (shr-shr w 8 (8 * j)) in
    let le = part_le (w / 256) (2 ^ (8 * j)) in
    let m : (w / 256 / 2 ^ (8 * j) % 256) * (256 * 2 ^ (8 * j)) ≡ 256 * ((w / 256 / 2 ^ (8 * j) % 256) * 2 ^ (8 * j)) = omega (arith, mul_assoc (w / 256 / 2 ^ (8 * j) % 256) 256 (2 ^ (8 * j)), mul_comm (w / 256 / 2 ^ (8 * j) % 256) 256, mul_assoc 256 (w / 256 / 2 ^ (8 * j) % 256) (2 ^ (8 * j))) in
    let n : b * (256 * 2 ^ (8 * j)) ≡ 256 * (b * 2 ^ (8 * j)) = omega (arith, mul_assoc b 256 (2 ^ (8 * j)), mul_comm b 256, mul_assoc 256 b (2 ^ (8 * j))) in
    let g : (w - 256 * ((w / 256 / 2 ^ (8 * j) % 256) * 2 ^ (8 * j)) + 256 * (b * 2 ^ (8 * j))) % 256 ≡ w % 256 = omega arith in
    let i : (w - 256 * ((w / 256 / 2 ^ (8 * j) % 256) * 2 ^ (8 * j)) + 256 * (b * 2 ^ (8 * j))) / 256 ≡ w / 256 - (w / 256 / 2 ^ (8 * j) % 256) * 2 ^ (8 * j) + b * 2 ^ (8 * j) = omega arith in
    rw (d, p, m, n, g, i) (ap (λ t. (w % 256) ∷ t) (set_bytes k j (w / 256) b (omega arith) s))

pub at_word : (ws : List ℕ) (q r : ℕ) → r < 8 → q < length ws → get_or (unpacked ws) (q * 8 + r) 0 ≡ get_or (bytes_of 8 (get_or ws q 0)) r 0
unfolding unpacked
at_word [] q r h l = absurd (not-suc-le-zero l)
at_word (w ∷ ws) zero r h l = rw zero-add (get_or_append_left (bytes_of 8 w) (unpacked ws) 0 r (omega (arith, length_bytes 8 w)))
at_word (w ∷ ws) (suc q) r h l =
    let e : suc q * 8 + r - 8 ≡ q * 8 + r = omega arith in
    get_or-append_right (bytes_of 8 w) (unpacked ws) 8 (suc q * 8 + r) 0 (length_bytes 8 w) (omega arith)
    ∙ (rw e (at_word ws q r h (omega arith)))

pub set_word : (ws : List ℕ) (q r v b : ℕ) → r < 8 → q < length ws → bytes_of 8 v ≡ set (bytes_of 8 (get_or ws q 0)) r b →
    unpacked (set ws q v) ≡ set (unpacked ws) (q * 8 + r) b
unfolding unpacked
set_word [] q r v b h l e = absurd (not-suc-le-zero l)
set_word (w ∷ ws) zero r v b h l e =
    rw zero-add (ap (λ t. t ++ unpacked ws) e ∙ sym (set-append_left (bytes_of 8 w) (unpacked ws) r b (omega (arith, length_bytes 8 w))))
set_word (w ∷ ws) (suc q) r v b h l e =
    let f : suc q * 8 + r - 8 ≡ q * 8 + r = omega arith in
    ap (λ t. bytes_of 8 w ++ t) (set_word ws q r v b h (omega arith) e ∙ ap (λ n. set (unpacked ws) n b) (sym f))
    ∙ sym (set-append_right (bytes_of 8 w) (unpacked ws) 8 (suc q * 8 + r) b (length_bytes 8 w) (omega arith))

pub byte_is : (ws : List ℕ) (i : ℕ) → i < 8 * length ws → get_or ws (i / 8) 0 / 2 ^ (8 * (i % 8)) % 256 ≡ get_or (unpacked ws) i 0
byte_is ws i h =
    let e : i ≡ i / 8 * 8 + i % 8 = omega arith in
    sym (getD_bytes 8 (i % 8) (get_or ws (i / 8) 0) (omega arith)) ∙ sym (at_word ws (i / 8) (i % 8) (omega arith) (omega arith)) ∙ ap (λ n. get_or (unpacked ws) n 0) (sym e)

pub set_is : (ws : List ℕ) (i b : ℕ) → i < 8 * length ws → b < 256 → unpacked (put_byte ws i b) ≡ set (unpacked ws) i b
unfolding put_byte
set_is ws i b h s =
    let e : i ≡ i / 8 * 8 + i % 8 = omega arith in
    set_word ws (i / 8) (i % 8) _ b (omega arith) (omega arith) (set_bytes 8 (i % 8) (get_or ws (i / 8) 0) b (omega arith) s) ∙ ap (λ n. set (unpacked ws) n b) (sym e)

-- a word stays in its bounds
pub put_lt : (k j w b : ℕ) → j < k → b < 256 → w < 256 ^ k → with_byte w j b < 256 ^ k
unfolding with_byte
put_lt zero j w b h s l = absurd (not-suc-le-zero h)
put_lt (suc k) zero w b h s l =
    let p : 256 ^ suc k ≡ 256 ^ k * 256 = pow-suc 256 k in
    omega arith
put_lt (suc k) (suc j) w b h s l =
    let q : 256 ^ suc k ≡ 256 ^ k * 256 = pow-suc 256 k in
    let e : 8 * suc j ≡ 8 + 8 * j = omega arith in
    let p : 2 ^ (8 * suc j) ≡ 256 * 2 ^ (8 * j) = ap (λ n. 2 ^ n) e ∙ pow-add 2 8 (8 * j) in
    let d : w / 2 ^ (8 * suc j) ≡ w / 256 / 2 ^ (8 * j) = ap (λ n. w / 2 ^ n) e ∙ sym (shr-shr w 8 (8 * j)) in
    let le = part_le (w / 256) (2 ^ (8 * j)) in
    let m : (w / 256 / 2 ^ (8 * j) % 256) * (256 * 2 ^ (8 * j)) ≡ 256 * ((w / 256 / 2 ^ (8 * j) % 256) * 2 ^ (8 * j)) = omega (arith, mul_assoc (w / 256 / 2 ^ (8 * j) % 256) 256 (2 ^ (8 * j)), mul_comm (w / 256 / 2 ^ (8 * j) % 256) 256, mul_assoc 256 (w / 256 / 2 ^ (8 * j) % 256) (2 ^ (8 * j))) in
    let n : b * (256 * 2 ^ (8 * j)) ≡ 256 * (b * 2 ^ (8 * j)) = omega (arith, mul_assoc b 256 (2 ^ (8 * j)), mul_comm b 256, mul_assoc 256 b (2 ^ (8 * j))) in
    let r : with_byte (w / 256) j b < 256 ^ k = put_lt k j (w / 256) b (omega arith) s (omega arith) in
    rw (d, p, m, n) (omega (arith, r))

-- the code's form: what `(w - (((w >> by) & 0xff) << by)) + (b << by)` is
pub cleared : (w j : ℕ) → j < 8 → (bit_and (w / 2 ^ (8 * j)) 255 * 2 ^ (8 * j)) % 18446744073709551616 ≡ (w / 2 ^ (8 * j) % 256) * 2 ^ (8 * j)
cleared w j h = ap (λ x. (x * 2 ^ (8 * j)) % 18446744073709551616) (and_mask (w / 2 ^ (8 * j)) 8) ∙ shl_whole (w / 2 ^ (8 * j) % 256) 8 (8 * j) 64 (omega arith) (omega arith)

pub placed : (b j : ℕ) → b < 256 → j < 8 → (b * 2 ^ (8 * j)) % 18446744073709551616 ≡ b * 2 ^ (8 * j)
placed b j s h = shl_whole b 8 (8 * j) 64 s (omega arith)

pub cleared_le : (w j : ℕ) → j < 8 → (bit_and (w / 2 ^ (8 * j)) 255 * 2 ^ (8 * j)) % 18446744073709551616 ≤ w
cleared_le w j h = rw (cleared w j h) (part_le w (2 ^ (8 * j)))

pub put_code : (w j b : ℕ) → j < 8 → b < 256 →
    w - (bit_and (w / 2 ^ (8 * j)) 255 * 2 ^ (8 * j)) % 18446744073709551616 + (b * 2 ^ (8 * j)) % 18446744073709551616 ≡ with_byte w j b
unfolding with_byte
put_code w j b h s = rw (cleared w j h, placed b j s h)

pub length_unpacked : (ws : List ℕ) → length (unpacked ws) ≡ 8 * length ws
unfolding unpacked
length_unpacked [] = refl
length_unpacked (w ∷ ws) = omega (arith, length-append (bytes_of 8 w) (unpacked ws), length_bytes 8 w, length_unpacked ws)

low : (a w : ℕ) → a < 256 → (a + 256 * w) % 256 ≡ a
low a w h = omega arith

high : (a w : ℕ) → a < 256 → (a + 256 * w) / 256 ≡ w
high a w h = omega arith

pub word_of : (a b c d e f g h : ℕ) → a < 256 → b < 256 → c < 256 → d < 256 → e < 256 → f < 256 → g < 256 → h < 256 →
    bytes_of 8 (a + b * 256 + c * 65536 + d * 16777216 + e * 4294967296 + f * 1099511627776 + g * 281474976710656 + h * 72057594037927936)
    ≡ a ∷ b ∷ c ∷ d ∷ e ∷ f ∷ g ∷ h ∷ []
unfolding bytes_of
word_of a b c d e f g h p₀ p₁ p₂ p₃ p₄ p₅ p₆ p₇ =
    let w₇ : ℕ = h in
    let w₆ : ℕ = g + 256 * w₇ in
    let w₅ : ℕ = f + 256 * w₆ in
    let w₄ : ℕ = e + 256 * w₅ in
    let w₃ : ℕ = d + 256 * w₄ in
    let w₂ : ℕ = c + 256 * w₃ in
    let w₁ : ℕ = b + 256 * w₂ in
    let w : a + b * 256 + c * 65536 + d * 16777216 + e * 4294967296 + f * 1099511627776 + g * 281474976710656 + h * 72057594037927936 ≡ a + 256 * w₁ = omega arith in
    rw (w, low a w₁ p₀, high a w₁ p₀, low b w₂ p₁, high b w₂ p₁, low c w₃ p₂, high c w₃ p₂, low d w₄ p₃, high d w₄ p₃, low e w₅ p₄, high e w₅ p₄, low f w₆ p₅, high f w₆ p₅, low g w₇ p₆, high g w₇ p₆, mod-eq_of_lt p₇)

pub unpacked_set : (ws : List ℕ) (q v : ℕ) → q < length ws → unpacked (set ws q v) ≡ paste (unpacked ws) (8 * q) (bytes_of 8 v) 8
unfolding unpacked bytes_of
unpacked_set [] q v h = absurd (not-suc-le-zero h)
unpacked_set (w ∷ ws) zero v h = refl
unpacked_set (w ∷ ws) (suc q) v h =
    let e : 8 * suc q ≡ suc (suc (suc (suc (suc (suc (suc (suc (8 * q)))))))) = omega arith in
    let f : suc (suc (suc (suc (suc (suc (suc (suc (8 * q)))))))) + 8 ≡ suc (suc (suc (suc (suc (suc (suc (suc (8 * q + 8)))))))) = omega arith in
    rw (e, f) (ap (λ t. bytes_of 8 w ++ t) (unpacked_set ws q v (omega arith)))

-- bytes are below 256

pub bytes_below : (k w i : ℕ) → get_or (bytes_of k w) i 0 < 256
unfolding bytes_of
bytes_below zero w i = omega arith
bytes_below (suc k) w zero = omega arith
bytes_below (suc k) w (suc i) = bytes_below k (w / 256) i

pub unpacked_below : (ws : List ℕ) (i : ℕ) → get_or (unpacked ws) i 0 < 256
unpacked_below ws i =
    elim (cases_lt i (8 * length ws)) [
      | inl h ↦ rw (← byte_is ws i h) (omega arith)
      | inr h ↦ rw (get_or_past (unpacked ws) i 0 (omega (arith, length_unpacked ws))) (omega arith)
    ]

-- where the words end, a window does
pub window_cut : (ws : List ℕ) (from n f m : ℕ) → f ≡ min from (8 * length ws) → m ≡ min n (8 * length ws - f) → window f m ws ≡ window from n ws
window_cut ws from n f m e g =
    let l = length_unpacked ws in
    elim (cases_lt from (8 * length ws)) [
      | inr h ↦ ap (take m) (drop_all f (unpacked ws) (omega arith)) ∙ take-nil m ∙ sym (ap (take n) (drop_all from (unpacked ws) (omega arith)) ∙ take-nil n)
      | inl h ↦
          let p : f ≡ from = omega arith in
          let d = length-drop from (unpacked ws) in
          ap (λ k. take m (drop k (unpacked ws))) p ∙ (elim (cases_lt n (8 * length ws - from)) [
            | inl k ↦ let q : m ≡ n = omega arith in ap (λ x. take x (drop from (unpacked ws))) q
            | inr k ↦ take_all m (drop from (unpacked ws)) (omega arith) ∙ sym (take_all n (drop from (unpacked ws)) (omega arith))
          ])
    ]

zero_shifted : (k : ℕ) → 0 / 2 ^ k % 256 ≡ 0
zero_shifted k = omega (arith, shr_le 0 k)

-- behind the bytes of a number there are none
pub clean_byte : (k j w : ℕ) → w < 256 ^ k → w / 2 ^ (8 * j) % 256 ≡ get_or (bytes_of k w) j 0
unfolding bytes_of
clean_byte zero j w h = let z : w ≡ 0 = omega arith in rw z (zero_shifted (8 * j))
clean_byte (suc k) zero w h = rw div-one
clean_byte (suc k) (suc j) w h =
    let e : 8 * suc j ≡ 8 + 8 * j = omega arith in
    let p : 256 ^ suc k ≡ 256 ^ k * 256 = pow-suc 256 k in
    ap (λ n. n % 256) (ap (λ n. w / 2 ^ n) e ∙ sym (shr-shr w 8 (8 * j))) ∙ clean_byte k j (w / 256) (omega arith)
