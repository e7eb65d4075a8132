-- Kinds of values, and cells as lists of them.
use Rattle.std.proofs.Common.{◌≡◌, ℕ, zero, suc, ◌+◌, ◌-◌, ◌*◌, ◌/◌, ◌<◌, ◌≤◌, ◌⊎◌, List, [], ◌∷◌, length, get_or, set, ℤ, Some, sym, refl, ap, ◌∙◌, inl, inr, mod-eq_of_lt, arith, to_z-of_z, w64, SFits, to_z, of_z, eq-eqb, ne_eqb, le-leb}
use borrow.Author.Tests.{lt-leb}
use Rattle.store.specs.declared.short.Short.{Short}
use Rattle.store.specs.declared.cells.Value.{Value}
use Rattle.store.specs.declared.cells.Value.TheVariants.{Unset, Number, Text, Short as InShort}
use Rattle.store.specs.Space.{Space, Given, handle_of, allocated}
use Rattle.store.specs.Short.{low_short, short_of}
use Rattle.store.specs.Values.{decode, decoded, kind_of, payload_of, saved, Made, made, filled}
use Rattle.store.proofs.Shorts.{short_same, low_len, low_word}

pub decode_number : (k p : ℕ) → k ≡ 1 → decode k p ≡ Number (to_z w64 p)
unfolding decode
decode_number k p e = rw (eq-eqb k 1 e)

pub decode_text : (k p : ℕ) → k ≡ 2 → decode k p ≡ Text (handle_of p)
unfolding decode
decode_text k p e = let n : k ≡ 1 → ⊥ = λ f. omega arith in rw (ne_eqb k 1 n, eq-eqb k 2 e)

pub decode_short : (k p : ℕ) → 3 ≤ k → k ≤ 11 → decode k p ≡ InShort (low_short p (k - 3))
unfolding decode
decode_short k p l h =
    let n : k ≡ 1 → ⊥ = λ f. omega arith in
    let m : k ≡ 2 → ⊥ = λ f. omega arith in
    rw (ne_eqb k 1 n, ne_eqb k 2 m, le-leb 3 k l, le-leb k 11 h)

pub decode_none : (k p : ℕ) → (k < 1) ⊎ (11 < k) → decode k p ≡ Unset
unfolding decode
decode_none k p (inl h) =
    let n : k ≡ 1 → ⊥ = λ f. omega arith in
    let m : k ≡ 2 → ⊥ = λ f. omega arith in
    rw (ne_eqb k 1 n, ne_eqb k 2 m, lt-leb 3 k (omega arith))
decode_none k p (inr h) =
    let n : k ≡ 1 → ⊥ = λ f. omega arith in
    let m : k ≡ 2 → ⊥ = λ f. omega arith in
    rw (ne_eqb k 1 n, ne_eqb k 2 m, le-leb 3 k (omega arith), lt-leb k 11 h)

pub short_back : (b : Short) → decode (3 + b.len) b.word ≡ InShort b
short_back b =
    let e : 3 + b.len - 3 ≡ b.len = omega arith in
    decode_short (3 + b.len) b.word (omega arith) (omega (arith, b.few))
    ∙ ap InShort (ap (low_short b.word) e ∙ short_same (low_short b.word b.len) b (low_word b.word b.len b.few ∙ mod-eq_of_lt b.clean) (low_len b.word b.len b.few))

pub number_back : (z : ℤ) → SFits w64 z → decode 1 (of_z w64 z) ≡ Number z
number_back z f = decode_number 1 (of_z w64 z) refl ∙ ap Number (to_z-of_z f)

-- cells as a list

pub length_decoded : (ws : List ℕ) → length (decoded ws) ≡ length ws / 2
unfolding decoded
length_decoded [] = refl
length_decoded (k ∷ []) = refl
length_decoded (k ∷ p ∷ ws) = omega (arith, length_decoded ws)

double : (i : ℕ) → 2 * suc i ≡ suc (suc (2 * i))
double i = omega arith

double_one : (i : ℕ) → 2 * suc i + 1 ≡ suc (suc (2 * i + 1))
double_one i = omega arith

pub decoded_read : (ws : List ℕ) (i : ℕ) → i < length ws / 2 → decode (get_or ws (2 * i) 0) (get_or ws (2 * i + 1) 0) ≡ get_or (decoded ws) i Unset
unfolding decoded
decoded_read [] i h = absurd (omega arith)
decoded_read (k ∷ []) i h = absurd (omega arith)
decoded_read (k ∷ p ∷ ws) zero h = refl
decoded_read (k ∷ p ∷ ws) (suc i) h = rw (double_one i, double i) (decoded_read ws i (omega arith))

pub decoded_set : (ws : List ℕ) (i k p : ℕ) (v : Value) → decode k p ≡ v → i < length ws / 2 → decoded (set (set ws (2 * i) k) (2 * i + 1) p) ≡ set (decoded ws) i v
unfolding decoded
decoded_set [] i k p v e h = absurd (omega arith)
decoded_set (a ∷ []) i k p v e h = absurd (omega arith)
decoded_set (a ∷ b ∷ ws) zero k p v e h = ap (λ x. x ∷ decoded ws) e
decoded_set (a ∷ b ∷ ws) (suc i) k p v e h = rw (double_one i, double i) (ap (λ x. decode a b ∷ x) (decoded_set ws i k p v e (omega arith)))

pub saved_there : (ws : List ℕ) (i : ℕ) (v : Value) → i < length ws / 2 → set (set ws (2 * i) (kind_of v)) (2 * i + 1) (payload_of v) ≡ saved ws i v
unfolding saved
saved_there ws i v h = rw (le-leb (2 * i + 2) (length ws) (omega arith))

pub saved_past : (ws : List ℕ) (i : ℕ) (v : Value) → length ws / 2 ≤ i → ws ≡ saved ws i v
unfolding saved
saved_past ws i v h = rw (lt-leb (2 * i + 2) (length ws) (omega arith))

-- a value that is known to be u, with what stands with its kind
pub told_back : (v u : Value) (r : ℕ) → v ≡ u → r ≡ payload_of u → decode (kind_of u) (payload_of u) ≡ u → decode (kind_of v) r ≡ v
told_back v u r e p b = ap (λ x. decode (kind_of x) r) e ∙ ap (decode (kind_of u)) p ∙ b ∙ sym e

-- a new text

pub made_short : (T W : ℕ) (s : Space) (bs : List ℕ) (b : Short) → length bs ≤ 8 → b ≡ short_of bs → ◌≡◌ {A = Made} (record { space = s; value = Some (InShort b) }) (made T W s bs)
unfolding made
made_short T W s bs b h e = rw (le-leb (length bs) 8 h) (ap (λ x. record { space = s; value = Some (InShort x) }) e)

pub made_long : (T W : ℕ) (s : Space) (bs : List ℕ) (n : ℕ) (g : Given) → n ≡ length bs → 8 < length bs → g ≡ allocated T W s n → filled W g.space g.handle bs ≡ made T W s bs
unfolding made
made_long T W s bs n g e h a =
    ap (λ x. filled W x.space x.handle bs) (a ∙ ap (allocated T W s) e) ∙ (rw (lt-leb (length bs) 8 h))
