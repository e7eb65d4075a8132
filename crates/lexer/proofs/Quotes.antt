-- The bytes that are meant in a quoted text, one by one.
use Rattle.std.proofs.Common.{◌≡◌, ℕ, ◌+◌, ◌<◌, ◌≤◌, Bool, true, false, ltb, List, [], ◌∷◌, length, get_or, drop, sym, refl, ap, ◌∙◌, arith, ltb-false, ltb-true, ne_eqb}
use Rattle.language.specs.Program.{quote_part, meant}
use Rattle.std.proofs.lemmas.List.{drop_all, drop_more}
use Rattle.lexer.proofs.Words.{two_on, last_on}

pub none_meant : (bs : List ℕ) (i : ℕ) → length bs ≤ i → quote_part (drop i bs) ≡ []
unfolding quote_part
none_meant bs i h = rw (drop_all i bs h) refl

pub quote_meant : (bs : List ℕ) (i : ℕ) → i < length bs → get_or bs i 0 ≡ 34 → quote_part (drop i bs) ≡ []
unfolding quote_part
quote_meant bs i h e = ap quote_part (drop_more bs i 0 h) ∙ go (drop (i + 1) bs)
  where
    go : (cs : List ℕ) → quote_part (get_or bs i 0 ∷ cs) ≡ []
    go [] = rw e refl
    go (c ∷ cs) = rw e refl

pub escaped : (bs : List ℕ) (i d : ℕ) → i + 1 < length bs → get_or bs i 0 ≡ 92 → d ≡ meant (get_or bs (i + 1) 0) → quote_part (drop i bs) ≡ d ∷ quote_part (drop (i + 2) bs)
unfolding quote_part
escaped bs i d h e f = ap quote_part (two_on bs i h) ∙ (rw e refl) ∙ ap (λ x. x ∷ quote_part (drop (i + 2) bs)) (sym f)

pub itself : (bs : List ℕ) (i : ℕ) → i < length bs → (get_or bs i 0 ≡ 34 → ⊥) → (get_or bs i 0 ≡ 92 → i + 1 < length bs → ⊥) → quote_part (drop i bs) ≡ get_or bs i 0 ∷ quote_part (drop (i + 1) bs)
unfolding quote_part
itself bs i h n m = go (ltb (i + 1) (length bs)) refl
  where
    go : (b : Bool) → ltb (i + 1) (length bs) ≡ b → quote_part (drop i bs) ≡ get_or bs i 0 ∷ quote_part (drop (i + 1) bs)
    go true t =
        let k : i + 1 < length bs = ltb-true _ _ t in
        let z : i + 1 + 1 ≡ i + 2 = omega arith in
        let e : drop (i + 1) bs ≡ get_or bs (i + 1) 0 ∷ drop (i + 2) bs = drop_more bs (i + 1) 0 k ∙ ap (λ j. get_or bs (i + 1) 0 ∷ drop j bs) z in
        ap quote_part (two_on bs i k) ∙ rw (ne_eqb (get_or bs i 0) 34 n, ne_eqb (get_or bs i 0) 92 (λ y. m y k)) refl ∙ ap (λ l. get_or bs i 0 ∷ quote_part l) (sym e)
    go false t =
        let g : length bs ≤ i + 1 = ltb-false _ _ t in
        ap quote_part (last_on bs i h g) ∙ rw (ne_eqb (get_or bs i 0) 34 n, drop_all (i + 1) bs g) refl
