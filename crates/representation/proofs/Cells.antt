-- Cells that are written: what is read again, and who holds which text then.
use Rattle.std.proofs.Common.{◌≡◌, ℕ, zero, suc, ◌+◌, ◌-◌, ◌*◌, ◌/◌, ◌^◌, ◌<◌, ◌≤◌, Bool, true, false, eqb, ltb, leb, List, [], ◌∷◌, ◌++◌, length, get_or, set, sym, refl, ap, ◌∙◌, subst, inl, inr, le_refl, arith, length-set, get_or-set_other, get_or-set_same, w64, SFits, to_z}
use Rattle.std.proofs.lemmas.List.{get_or_past}
use Rattle.std.proofs.lemmas.Bool.{cases_lt, cases_eq, ltb-true, ltb-false}
use Rattle.language.specs.Text
use Rattle.language.specs.Text.{pick, each}
use Rattle.store.specs.declared.cells.Value.{Value}
use Rattle.store.specs.declared.cells.Value.TheVariants.{Unset, Number, Text, Short as InShort}
use Rattle.store.specs.Model.{occ}
use Rattle.store.specs.Space.{handle_of}
use Rattle.store.specs.Short.{low_short}
use Rattle.store.specs.Values.{decode, decoded, saved, kind_of, payload_of, held_by}
use Rattle.store.specs.Worth.{meant, Plain}
use Rattle.store.proofs.Basics.{occ_append, is_same}
use Rattle.store.proofs.Coding.{length_decoded, decoded_read, decoded_set, saved_there}
use Rattle.store.proofs.Meanings.{value_laws}
use Rattle.representation.specs.Values.{tops, held_all}

-- WHAT IS READ

to_z_fits : (p : ℕ) → SFits w64 (to_z w64 p)
to_z_fits p = by (ltb p (2 ^ 63)) refl
  where
    by : (t : Bool) → ltb p (2 ^ 63) ≡ t → SFits w64 (to_z w64 p)
    by true e = rw e (record { sfits = ltb-true p (2 ^ 63) e })
    by false e = rw e (record { sfits = omega (arith, ltb-false p (2 ^ 63) e) })

plain_decode : (k p : ℕ) → Plain (decode k p)
unfolding decode
plain_decode k p = by (eqb k 1) (eqb k 2) (leb 3 k) (leb k 11)
  where
    by : (a b c d : Bool) → Plain (pick a (Number (to_z w64 p)) (pick b (Text (handle_of p)) (pick c (pick d (InShort (low_short p (k - 3))) Unset) Unset)))
    by true b c d = to_z_fits p
    by false true c d = tt
    by false false true true = tt
    by false false true false = tt
    by false false false d = tt

-- what stands in a cell fits it
pub plain_at : (ws : List ℕ) (i : ℕ) → Plain (get_or (decoded ws) i Unset)
plain_at ws i =
    elim (cases_lt i (length ws / 2)) [
      | inl l ↦ subst Plain (decoded_read ws i l) (plain_decode (get_or ws (2 * i) 0) (get_or ws (2 * i + 1) 0))
      | inr l ↦ subst Plain (sym (get_or_past (decoded ws) i Unset (omega (arith, length_decoded ws)))) tt
    ]

pub decoded_saved : (ws : List ℕ) (i : ℕ) (v : Value) → Plain v → i < length ws / 2 → decoded (saved ws i v) ≡ set (decoded ws) i v
decoded_saved ws i v p l = ap decoded (sym (saved_there ws i v l)) ∙ decoded_set ws i (kind_of v) (payload_of v) v ((value_laws 20480 77822).back v p) l

pub saved_wide : (ws : List ℕ) (i : ℕ) (v : Value) → length (saved ws i v) ≡ length ws
unfolding saved
saved_wide ws i v = by (leb (2 * i + 2) (length ws))
  where
    by : (t : Bool) → length (pick t (set (set ws (2 * i) (kind_of v)) (2 * i + 1) (payload_of v)) ws) ≡ length ws
    by true = length-set (set ws (2 * i) (kind_of v)) (2 * i + 1) (payload_of v) ∙ length-set ws (2 * i) (kind_of v)
    by false = refl

-- THE FIRST CELLS, from the last of them down

pub tops_above : (cs : List Value) (i n : ℕ) (v : Value) → n ≤ i → tops (set cs i v) n ≡ tops cs n
unfolding tops
tops_above cs i zero v l = refl
tops_above cs i (suc n) v l = rw (get_or-set_other cs i n v Unset (λ e. omega (arith, e)), tops_above cs i n v (omega arith))

pub tops_push : (cs : List Value) (n : ℕ) (v : Value) → n < length cs → tops (set cs n v) (suc n) ≡ v ∷ tops cs n
unfolding tops
tops_push cs n v l = rw (get_or-set_same cs n v Unset l, tops_above cs n n v (le_refl n))

-- WHO HOLDS A TEXT

pub held_member : (h : ℕ) (cs : List Value) (n i : ℕ) → i < n → occ h (held_by (get_or cs i Unset)) ≤ occ h (held_all (tops cs n))
unfolding tops held_all
held_member h cs zero i l = absurd (omega arith)
held_member h cs (suc n) i l =
    elim (cases_eq i n) [
      | inl e ↦ rw (occ_append h, e) (omega arith)
      | inr e ↦ rw (occ_append h) (omega (arith, held_member h cs n i (omega arith)))
    ]

-- a cell among the first n is written: its old value holds one less, the new one more
pub held_set : (h : ℕ) (cs : List Value) (n i : ℕ) (v : Value) → i < length cs → i < n →
    occ h (held_all (tops (set cs i v) n)) + occ h (held_by (get_or cs i Unset)) ≡ occ h (held_all (tops cs n)) + occ h (held_by v)
unfolding tops held_all
held_set h cs zero i v w l = absurd (omega arith)
held_set h cs (suc n) i v w l =
    elim (cases_eq i n) [
      | inl e ↦ rw (occ_append h, occ_append h (held_by (get_or cs n Unset)), ← e, get_or-set_same cs i v Unset w, tops_above cs i i v (le_refl i)) (omega arith)
      | inr e ↦ rw (occ_append h, occ_append h (held_by (get_or cs n Unset)), get_or-set_other cs i n v Unset (λ q. e (sym q))) (omega (arith, held_set h cs n i v w (omega arith)))
    ]

-- how many they are
pub held_few : (cs : List Value) (n : ℕ) → length (held_all (tops cs n)) ≤ n
unfolding tops held_all
held_few cs zero = omega arith
held_few cs (suc n) = by (get_or cs n Unset) (held_few cs n)
  where
    by : (v : Value) → length (held_all (tops cs n)) ≤ n → length (held_by v ++ held_all (tops cs n)) ≤ suc n
    by Unset l = omega arith
    by (Number z) l = omega arith
    by (InShort b) l = omega arith
    by (Text g) l = omega arith

-- WHAT VALUES ARE WORTH, when the texts of those that they hold stay

pub meant_same : (said said' : ℕ → List ℕ) (v : Value) → ((k : ℕ) → 1 ≤ occ k (held_by v) → said' k ≡ said k) → meant said' v ≡ meant said v
meant_same said said' Unset e = refl
meant_same said said' (Number z) e = refl
meant_same said said' (InShort b) e = refl
meant_same said said' (Text g) e = ap Text.text (e g.index (omega (arith, is_same g.index g.index refl)))

pub all_same : (said said' : ℕ → List ℕ) (vs : List Value) → ((k : ℕ) → 1 ≤ occ k (held_all vs) → said' k ≡ said k) → each (meant said') vs ≡ each (meant said) vs
unfolding held_all
all_same said said' [] e = refl
all_same said said' (v ∷ vs) e =
    rw (meant_same said said' v (λ k l. e k (rw (occ_append k) (omega arith))), all_same said said' vs (λ k l. e k (rw (occ_append k) (omega arith))))
