-- Where the first line of some bytes ends.
use Rattle.std.proofs.Common.{◌≡◌, ℕ, zero, suc, ◌<◌, ◌≤◌, Bool, true, false, eqb, List, [], ◌∷◌, ◌++◌, length, take, sym, refl, ap, ◌∙◌, append_assoc, append-nil, arith, length-append, ne_eqb}
use borrow.Author.Tests.{eqb-false}
use Rattle.std.proofs.lemmas.Bool.{true≢false}
use Rattle.language.specs.Text.{pick, or, has, any}
use Rattle.semantics.specs.Lines.{Cut, whole, part, cut_line}

has_first : (c : ℕ) (cs : List ℕ) → has (c ∷ cs) 10 ≡ false → (eqb c 10 ≡ false) × (has cs 10 ≡ false)
has_first c cs e = by (eqb 10 c) refl (any (eqb 10) cs) refl e
  where
    by : (t : Bool) → eqb 10 c ≡ t → (k : Bool) → any (eqb 10) cs ≡ k → or t k ≡ false → (eqb c 10 ≡ false) × (has cs 10 ≡ false)
    by true a k f h = absurd (true≢false h)
    by false a true f h = absurd (true≢false h)
    by false a false f h = (ne_eqb c 10 (λ q. eqb-false 10 c a (sym q)), f)

-- bytes without a 10 are passed over
pub cut_past : (l m a : List ℕ) → has l 10 ≡ false → cut_line a (l ++ m) ≡ cut_line (a ++ l) m
unfolding cut_line
cut_past [] m a h = ap (λ x. cut_line x m) (sym (append-nil a))
cut_past (c ∷ l) m a h = let f = has_first c l h in rw f.0 (cut_past l m (a ++ c ∷ []) f.1 ∙ ap (λ x. cut_line x m) (append_assoc a (c ∷ []) l))

pub cut_whole : (l r : List ℕ) → has l 10 ≡ false → cut_line [] (l ++ 10 ∷ r) ≡ whole l r
cut_whole l r h = cut_past l (10 ∷ r) [] h ∙ (unfold cut_line in refl)

pub cut_part : (l : List ℕ) → has l 10 ≡ false → cut_line [] l ≡ part l
cut_part l h = ap (cut_line []) (sym (append-nil l)) ∙ cut_past l [] [] h ∙ (unfold cut_line in refl)

-- the line, whole or not, has at least so many bytes
abbrev pub AtLeast : ℕ → Cut → Type 0
AtLeast n (whole l r) = n ≤ length l
AtLeast n (part l) = n ≤ length l

pub cut_least : (m a : List ℕ) → AtLeast (length a) (cut_line a m)
unfolding cut_line
cut_least [] a = omega arith
cut_least (c ∷ m) a = by (eqb c 10) (cut_least m (a ++ c ∷ []))
  where
    less : (d : Cut) → AtLeast (length (a ++ c ∷ [])) d → AtLeast (length a) d
    less (whole l r) h = omega (arith, h, length-append a (c ∷ []))
    less (part l) h = omega (arith, h, length-append a (c ∷ []))

    by : (t : Bool) → AtLeast (length (a ++ c ∷ [])) (cut_line (a ++ c ∷ []) m) → AtLeast (length a) (pick t (whole a m) (cut_line (a ++ c ∷ []) m))
    by true h = omega arith
    by false h = less (cut_line (a ++ c ∷ []) m) h

-- a byte 10 stands among the first n
pub has_at : (l r : List ℕ) (n : ℕ) → length l < n → has (take n (l ++ 10 ∷ r)) 10 ≡ true
has_at [] r zero h = absurd (omega (arith, h))
has_at [] r (suc n) h = refl
has_at (c ∷ l) r zero h = absurd (omega (arith, h))
has_at (c ∷ l) r (suc n) h = by (eqb 10 c) (has_at l r n (omega (arith, h)))
  where
    by : (t : Bool) → has (take n (l ++ 10 ∷ r)) 10 ≡ true → or t (any (eqb 10) (take n (l ++ 10 ∷ r))) ≡ true
    by true e = refl
    by false e = e
