-- Bytes written one after the other are written as one text.
use Rattle.std.proofs.Common.{◌≡◌, ℕ, zero, suc, ◌+◌, ◌-◌, ◌<◌, ◌≤◌, min, List, [], ◌∷◌, ◌++◌, length, drop, set, sym, ap, ◌∙◌, inl, inr, arith, length-append, length-drop, length-set}
use lib.Seq.{paste, drop-nil}
use Rattle.std.proofs.lemmas.List.Edits.{paste_none}
use Rattle.std.proofs.lemmas.Bool.{cases_lt}
use Rattle.store.specs.Words.{over}
use Rattle.store.proofs.Putting.{over_set, over_nothing}
use Rattle.store.proofs.Reading.{length_over}
use Rattle.rows.specs.Pens.{Writing, put}

-- behind the end nothing is changed
pub over_past : (d : List ℕ) (at : ℕ) (s : List ℕ) → length d ≤ at → over d at s ≡ d
over_past d at s h = let e : min (length s) (length d - at) ≡ 0 = omega arith in ap (paste d at s) e ∙ sym (paste_none d at s)

pub over_over : (d : List ℕ) (at : ℕ) (s t : List ℕ) → over (over d at s) (at + min (length s) (length d - at)) t ≡ over d at (s ++ t)
over_over d at [] t =
    let e : at + min 0 (length d - at) ≡ at = omega arith in
    ap (λ x. over x (at + min 0 (length d - at)) t) (over_nothing d at) ∙ ap (λ k. over d k t) e
over_over d at (b ∷ s) t =
    elim (cases_lt at (length d)) [
      | inl h ↦
          let l = length-set d at b in
          let e : at + min (suc (length s)) (length d - at) ≡ at + 1 + min (length s) (length (set d at b) - (at + 1)) = omega arith in
          ap (λ x. over x (at + min (suc (length s)) (length d - at)) t) (sym (over_set d at b s))
          ∙ ap (λ k. over (over (set d at b) (at + 1) s) k t) e
          ∙ over_over (set d at b) (at + 1) s t
          ∙ over_set d at b (s ++ t)
      | inr h ↦
          let l = length_over d at (b ∷ s) in
          over_past (over d at (b ∷ s)) (at + min (suc (length s)) (length d - at)) t (omega arith)
          ∙ over_past d at (b ∷ s) h ∙ sym (over_past d at (b ∷ (s ++ t)) h)
    ]

pub drop_append : (n : ℕ) (xs ys : List ℕ) → drop n (xs ++ ys) ≡ drop n xs ++ drop (n - length xs) ys
drop_append n [] ys = let e : n - 0 ≡ n = omega arith in rw (drop-nil n, e)
drop_append zero (x ∷ xs) ys = let e : 0 - suc (length xs) ≡ 0 = omega arith in rw e
drop_append (suc n) (x ∷ xs) ys = let e : suc n - suc (length xs) ≡ n - length xs = omega arith in rw e (drop_append n xs ys)

same_writing : (d e : List ℕ) (a b k l : ℕ) → d ≡ e → a ≡ b → k ≡ l → ◌≡◌ {A = Writing} (record { row = d; at = a; skip = k }) (record { row = e; at = b; skip = l })
same_writing d e a b k l p q r = cc

pub put_none : (w : Writing) → w ≡ put w []
unfolding put
put_none w =
    same_writing _ _ _ _ _ _ (sym (ap (over w.row w.at) (drop-nil w.skip) ∙ over_nothing w.row w.at)) (omega arith) (omega arith)

pub put_put : (w : Writing) (a b : List ℕ) → put (put w a) b ≡ put w (a ++ b)
unfolding put
put_put w a b =
    let d : List ℕ = w.row in
    let k : ℕ = w.skip in
    let l = length-append a b in
    let o = length_over d w.at (drop k a) in
    same_writing _ _ _ _ _ _
    (ap (λ n. over (over d w.at (drop k a)) (w.at + min n (length d - w.at)) (drop (k - length a) b)) (sym (length-drop k a))
    ∙ over_over d w.at (drop k a) (drop (k - length a) b) ∙ ap (over d w.at) (sym (drop_append k a b)))
    (omega arith)
    (omega arith)

-- a row that is full stays as it is
pub put_full : (w : Writing) (bs : List ℕ) → w.skip ≡ 0 → length w.row ≤ w.at → w ≡ put w bs
unfolding put
put_full w bs e h = same_writing _ _ _ _ _ _ (sym (over_past w.row w.at (drop w.skip bs) h)) (omega arith) (omega arith)

-- one byte

pub byte_passed : (d : List ℕ) (a k b : ℕ) → 0 < k → ◌≡◌ {A = Writing} (record { row = d; at = a; skip = k - 1 }) (put (record { row = d; at = a; skip = k }) (b ∷ []))
unfolding put
byte_passed d a zero b h = absurd (omega arith)
byte_passed d a (suc k) b h = same_writing _ _ _ _ _ _ (sym (ap (over d a) (drop-nil k) ∙ over_nothing d a)) (omega arith) (omega arith)

pub byte_written : (d : List ℕ) (a k b : ℕ) → k ≡ 0 → a < length d → ◌≡◌ {A = Writing} (record { row = set d a b; at = a + 1; skip = 0 }) (put (record { row = d; at = a; skip = k }) (b ∷ []))
unfolding put
byte_written d a k b e h =
    same_writing _ _ _ _ _ _ (sym (over_nothing (set d a b) (a + 1)) ∙ over_set d a b [] ∙ ap (λ n. over d a (drop n (b ∷ []))) (sym e)) (omega arith) (omega arith)

pub written : (d : List ℕ) (a k n m : ℕ) (bs : List ℕ) (e : List ℕ) → n ≡ min (length bs - k) (length d - a) → m ≡ k - length bs → e ≡ over d a (drop k bs) →
    ◌≡◌ {A = Writing} (record { row = e; at = a + n; skip = m }) (put (record { row = d; at = a; skip = k }) bs)
unfolding put
written d a k n m bs e p q r = same_writing _ _ _ _ _ _ r (ap (λ x. a + x) p) q

pub at_grows : (w : Writing) (bs : List ℕ) → w.at ≤ (put w bs).at
unfolding put
at_grows w bs = omega arith

pub row_length : (w : Writing) (bs : List ℕ) → length (put w bs).row ≡ length w.row
unfolding put
row_length w bs = length_over w.row w.at (drop w.skip bs)
