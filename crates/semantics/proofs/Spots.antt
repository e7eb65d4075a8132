-- Fields are places in the line: after it is cut, and after a field is set.
use Rattle.std.proofs.Common.{◌≡◌, ℕ, suc, ◌+◌, ◌-◌, Bool, true, false, List, [], ◌∷◌, ◌++◌, length, sym, refl, ap, ◌∙◌, append_assoc, append-nil, arith, length-append}
use Rattle.std.proofs.lemmas.List.{take_at, drop_at}
use Rattle.language.specs.Text.{pick, each, blank, fields_from, joined}
use Rattle.semantics.specs.Invariants.{Spot, cut, spots_from, spots_joined}

-- a text that stands in the middle
cut_mid : (pre f post : List ℕ) (a n : ℕ) → a ≡ length pre → n ≡ length f → cut (pre ++ (f ++ post)) (a, n) ≡ f
cut_mid pre f post a n e g = rw (drop_at pre (f ++ post) a (sym e)) (take_at f post n (sym g))

abbrev all_cut : List ℕ → List Spot → List (List ℕ)
all_cut l ps = each (cut l) ps

-- more bytes of what is going on, or behind
moved : (pre f : List ℕ) (c : ℕ) (cs : List ℕ) → pre ++ (f ++ c ∷ cs) ≡ pre ++ ((f ++ c ∷ []) ++ cs)
moved pre f c cs = ap (λ z. pre ++ z) (sym (append_assoc f (c ∷ []) cs))

behind : (pre f : List ℕ) (c : ℕ) (cs : List ℕ) → pre ++ (f ++ c ∷ cs) ≡ (pre ++ (f ++ c ∷ [])) ++ ([] ++ cs)
behind pre f c cs = moved pre f c cs ∙ sym (append_assoc pre (f ++ c ∷ []) cs)

spots_cut : (cs pre f : List ℕ) (i n : ℕ) → i ≡ length pre + length f → n ≡ length f → all_cut (pre ++ (f ++ cs)) (spots_from i n cs) ≡ fields_from f cs
unfolding spots_from fields_from
spots_cut [] pre [] i n e g = rw g
spots_cut [] pre (x ∷ xs) i n e g =
    rw g (ap (λ z. z ∷ []) (cut_mid pre (x ∷ xs) [] (i - suc (length xs)) (suc (length xs)) (omega (arith, e)) refl))
spots_cut (c ∷ cs) pre [] i n e g = rw g (by (blank c) (spots_cut cs (pre ++ c ∷ []) [] (suc i) 0) (spots_cut cs pre (c ∷ []) (suc i) 1))
  where
    by : (t : Bool) → (suc i ≡ length (pre ++ c ∷ []) + 0 → ◌≡◌ {A = ℕ} 0 0 → all_cut ((pre ++ c ∷ []) ++ ([] ++ cs)) (spots_from (suc i) 0 cs) ≡ fields_from [] cs) →
        (suc i ≡ length pre + 1 → ◌≡◌ {A = ℕ} 1 1 → all_cut (pre ++ (c ∷ cs)) (spots_from (suc i) 1 cs) ≡ fields_from (c ∷ []) cs) →
        all_cut (pre ++ (c ∷ cs)) (pick t (spots_from (suc i) 0 cs) (spots_from (suc i) 1 cs)) ≡ pick t (fields_from [] cs) (fields_from (c ∷ []) cs)
    by true a b = rw (behind pre [] c cs) (a (omega (arith, e, length-append pre (c ∷ []))) refl)
    by false a b = b (omega (arith, e)) refl
spots_cut (c ∷ cs) pre (x ∷ xs) i n e g =
    rw g (by (blank c) (spots_cut cs (pre ++ ((x ∷ xs) ++ c ∷ [])) [] (suc i) 0) (spots_cut cs pre ((x ∷ xs) ++ c ∷ []) (suc i) (suc (suc (length xs)))))
  where
    by : (t : Bool) → (suc i ≡ length (pre ++ ((x ∷ xs) ++ c ∷ [])) + 0 → ◌≡◌ {A = ℕ} 0 0 → all_cut ((pre ++ ((x ∷ xs) ++ c ∷ [])) ++ ([] ++ cs)) (spots_from (suc i) 0 cs) ≡ fields_from [] cs) →
        (suc i ≡ length pre + length ((x ∷ xs) ++ c ∷ []) → suc (suc (length xs)) ≡ length ((x ∷ xs) ++ c ∷ []) → all_cut (pre ++ (((x ∷ xs) ++ c ∷ []) ++ cs)) (spots_from (suc i) (suc (suc (length xs))) cs) ≡ fields_from ((x ∷ xs) ++ c ∷ []) cs) →
        all_cut (pre ++ ((x ∷ xs) ++ c ∷ cs)) (pick t ((i - suc (length xs), suc (length xs)) ∷ spots_from (suc i) 0 cs) (spots_from (suc i) (suc (suc (length xs))) cs))
        ≡ pick t ((x ∷ xs) ∷ fields_from [] cs) (fields_from ((x ∷ xs) ++ c ∷ []) cs)
    by true a b =
        ap (λ z. z ∷ all_cut (pre ++ ((x ∷ xs) ++ c ∷ cs)) (spots_from (suc i) 0 cs)) (cut_mid pre (x ∷ xs) (c ∷ cs) (i - suc (length xs)) (suc (length xs)) (omega (arith, e)) refl)
        ∙ ap {B = List (List ℕ)} (λ z. (x ∷ xs) ∷ z) (ap (λ z. all_cut z (spots_from (suc i) 0 cs)) (behind pre (x ∷ xs) c cs) ∙ a (omega (arith, e, length-append pre ((x ∷ xs) ++ c ∷ []), length-append (x ∷ xs) (c ∷ []))) refl)
    by false a b = ap (λ z. all_cut z (spots_from (suc i) (suc (suc (length xs))) cs)) (moved pre (x ∷ xs) c cs) ∙ b (omega (arith, e, length-append (x ∷ xs) (c ∷ []))) (omega (arith, length-append (x ∷ xs) (c ∷ [])))

-- after a line is read, and after the whole of it is set
pub line_spots : (l : List ℕ) → all_cut l (spots_from 0 0 l) ≡ fields_from [] l
line_spots l = spots_cut l [] [] 0 0 refl refl

-- after a field is set: one behind the other with a blank between
pub joined_spots : (ps : List (List ℕ)) (pre : List ℕ) (a : ℕ) → a ≡ length pre → all_cut (pre ++ joined ps) (spots_joined a ps) ≡ ps
unfolding joined spots_joined
joined_spots [] pre a e = refl
joined_spots (f ∷ []) pre a e =
    ap (λ z. z ∷ []) (ap (λ z. cut (pre ++ z) (a, length f)) (sym (append-nil f)) ∙ cut_mid pre f [] a (length f) e refl)
joined_spots (f ∷ g ∷ ps) pre a e =
    let ih = joined_spots (g ∷ ps) (pre ++ (f ++ 32 ∷ [])) (suc (a + length f)) (omega (arith, e, length-append pre (f ++ 32 ∷ []), length-append f (32 ∷ []))) in
    let q : pre ++ (f ++ 32 ∷ joined (g ∷ ps)) ≡ (pre ++ (f ++ 32 ∷ [])) ++ joined (g ∷ ps) = behind pre f 32 (joined (g ∷ ps)) in
    ap (λ z. z ∷ all_cut (pre ++ (f ++ 32 ∷ joined (g ∷ ps))) (spots_joined (suc (a + length f)) (g ∷ ps))) (cut_mid pre f (32 ∷ joined (g ∷ ps)) a (length f) e refl)
    ∙ ap {B = List (List ℕ)} (λ z. f ∷ z) (ap (λ z. all_cut z (spots_joined (suc (a + length f)) (g ∷ ps))) q ∙ ih)
