-- Bytes that are copied into a row, one after the other.
use Rattle.std.proofs.Common.{◌≡◌, ℕ, ◌+◌, ◌/◌, ◌%◌, ◌≤◌, List, [], ◌∷◌, length, take, drop, sym, ap, ◌∙◌, arith, length-drop, take-add}
use native.Mathlib.Nat.{div-div-eq-div-mul}
use lib.Seq.{paste}
use Rattle.std.proofs.lemmas.List.Edits.{paste-paste}
use Rattle.std.proofs.lemmas.List.{take-take, length-take-le}
use Rattle.store.specs.Words.{bytes_of}

paste_taken : (d s : List ℕ) (a n : ℕ) → paste d a (take n s) n ≡ paste d a s n
paste_taken d s a n = let h : n ≤ n = omega arith in rw (take-take n n s h)

-- more of the same, behind it
pub paste_on : (d p : List ℕ) (a n m : ℕ) → a ≤ length d → n + m ≤ length p → paste (paste d a p n) (a + n) (take m (drop n p)) m ≡ paste d a p (n + m)
paste_on d p a n m h k =
    let l : n ≡ length (take n p) = sym (length-take-le n p (omega arith)) in
    let r : m ≡ length (take m (drop n p)) = sym (length-take-le m (drop n p) (omega (arith, length-drop n p))) in
    ap (λ t. paste t (a + n) (take m (drop n p)) m) (sym (paste_taken d p a n))
    ∙ paste-paste d a (take n p) (take m (drop n p)) n m l r h
    ∙ ap (λ t. paste d a t (n + m)) (sym (take-add n m p))
    ∙ paste_taken d p a (n + m)

pub paste_behind : (d p : List ℕ) (a n m : ℕ) → a ≤ length d → n + m ≤ length p → paste (paste d a p n) (a + n) (drop n p) m ≡ paste d a p (n + m)
paste_behind d p a n m h k = sym (paste_taken (paste d a p n) (drop n p) (a + n) m) ∙ paste_on d p a n m h k

pub eight_bytes : (w : ℕ) →
    (w % 256) ∷ (w / 256 % 256) ∷ (w / 65536 % 256) ∷ (w / 16777216 % 256) ∷ (w / 4294967296 % 256) ∷ (w / 1099511627776 % 256) ∷ (w / 281474976710656 % 256) ∷ (w / 72057594037927936 % 256) ∷ []
    ≡ bytes_of 8 w
unfolding bytes_of
eight_bytes w =
    rw (div-div-eq-div-mul w 256 256, div-div-eq-div-mul w 65536 256, div-div-eq-div-mul w 16777216 256, div-div-eq-div-mul w 4294967296 256, div-div-eq-div-mul w 1099511627776 256, div-div-eq-div-mul w 281474976710656 256)
