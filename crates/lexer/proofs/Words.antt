-- Words, lines and quotes in a text.
use Rattle.std.proofs.Common.{◌≡◌, ℕ, suc, ◌+◌, ◌<◌, ◌≤◌, Bool, true, false, not, cond, ltb, List, [], ◌∷◌, length, get_or, drop, Some, None, sym, refl, ap, ◌∙◌, arith, ltb-false, ltb-true, eqb, ne_eqb}
use Rattle.std.proofs.lemmas.List.{drop_more, drop_all, drop-drop}
use Rattle.std.specs.List.{prefix_len, position_or_len, position}
use Rattle.language.specs.Text.{pick, or, digit}
use Rattle.lexer.specs.Ends.{QuoteEnded}
use Rattle.lexer.specs.Quotes.{EndsAlike}
use Rattle.language.specs.Program.{letter, word_part, digits_part, past_line, past_quote, quote_ends}

-- a word, and digits, are as long as the bytes in front that pass
pub word_length : (cs : List ℕ) → length (word_part cs) ≡ prefix_len (λ c. or (letter c) (digit c)) cs
unfolding word_part
word_length [] = refl
word_length (c ∷ cs) = go (or (letter c) (digit c)) (word_length cs)
  where
    go : (b : Bool) → length (word_part cs) ≡ prefix_len (λ c. or (letter c) (digit c)) cs → length (pick b (c ∷ word_part cs) []) ≡ cond b (1 + prefix_len (λ c. or (letter c) (digit c)) cs) 0
    go true h = omega arith
    go false h = refl

pub digits_length : (cs : List ℕ) → length (digits_part cs) ≡ prefix_len digit cs
unfolding digits_part
digits_length [] = refl
digits_length (c ∷ cs) = go (digit c) (digits_length cs)
  where
    go : (b : Bool) → length (digits_part cs) ≡ prefix_len digit cs → length (pick b (c ∷ digits_part cs) []) ≡ cond b (1 + prefix_len digit cs) 0
    go true h = omega arith
    go false h = refl

-- a line ends behind its first byte 10
line_ends : (cs : List ℕ) → past_line cs ≡ drop (position_or_len (λ c. eqb c 10) cs + 1) cs
unfolding past_line
line_ends [] = sym (drop_all 1 [] (omega arith))
line_ends (c ∷ cs) = go (eqb c 10) (line_ends cs)
  where
    go : (b : Bool) → past_line cs ≡ drop (position_or_len (λ c. eqb c 10) cs + 1) cs →
        pick b cs (past_line cs) ≡ drop (cond (not b) (1 + position_or_len (λ c. eqb c 10) cs) 0 + 1) (c ∷ cs)
    go true h = refl
    go false h =
        let e : 1 + position_or_len (λ c. eqb c 10) cs + 1 ≡ suc (position_or_len (λ c. eqb c 10) cs + 1) = omega arith in
        h ∙ ap (λ k. drop k (c ∷ cs)) (sym e)

pub line_found : (bs : List ℕ) (from k : ℕ) → position (λ c. eqb c 10) (drop from bs) ≡ Some k → drop (from + k + 1) bs ≡ past_line (drop from bs)
line_found bs from k e = go (ltb (position_or_len (λ c. eqb c 10) (drop from bs)) (length (drop from bs))) e
  where
    go : (b : Bool) → cond b (Some (position_or_len (λ c. eqb c 10) (drop from bs))) None ≡ Some k → drop (from + k + 1) bs ≡ past_line (drop from bs)
    go true e =
        let f : position_or_len (λ c. eqb c 10) (drop from bs) ≡ k = cc in
        let a : from + (k + 1) ≡ from + k + 1 = omega arith in
        sym (line_ends (drop from bs) ∙ ap (λ i. drop (i + 1) (drop from bs)) f ∙ drop-drop (k + 1) from bs ∙ ap (λ i. drop i bs) a)
    go false e = cc

pub line_missing : (bs : List ℕ) (from : ℕ) → position (λ c. eqb c 10) (drop from bs) ≡ None → drop (length bs) bs ≡ past_line (drop from bs)
line_missing bs from e = go (ltb (position_or_len (λ c. eqb c 10) (drop from bs)) (length (drop from bs))) refl e
  where
    go : (b : Bool) → ltb (position_or_len (λ c. eqb c 10) (drop from bs)) (length (drop from bs)) ≡ b →
        cond b (Some (position_or_len (λ c. eqb c 10) (drop from bs))) None ≡ None → drop (length bs) bs ≡ past_line (drop from bs)
    go true t e = cc
    go false t e =
        let l : length (drop from bs) ≤ position_or_len (λ c. eqb c 10) (drop from bs) + 1 = omega (arith, ltb-false _ _ t) in
        drop_all (length bs) bs (omega arith) ∙ sym (line_ends (drop from bs) ∙ drop_all _ (drop from bs) l)

-- quotes: at a quote, at \ before another byte, at any other byte
pub two_on : (bs : List ℕ) (i : ℕ) → i + 1 < length bs → drop i bs ≡ get_or bs i 0 ∷ get_or bs (i + 1) 0 ∷ drop (i + 2) bs
two_on bs i h =
    let e : i + 1 + 1 ≡ i + 2 = omega arith in
    drop_more bs i 0 (omega arith) ∙ ap (λ r. get_or bs i 0 ∷ r) (drop_more bs (i + 1) 0 h ∙ ap (λ k. get_or bs (i + 1) 0 ∷ drop k bs) e)

pub last_on : (bs : List ℕ) (i : ℕ) → i < length bs → length bs ≤ i + 1 → drop i bs ≡ get_or bs i 0 ∷ []
last_on bs i h g = drop_more bs i 0 h ∙ ap (λ r. get_or bs i 0 ∷ r) (drop_all (i + 1) bs g)

pub quote_two : (bs : List ℕ) (i : ℕ) → i + 1 < length bs → get_or bs i 0 ≡ 92 → EndsAlike bs i (i + 2)
unfolding past_quote quote_ends
quote_two bs i h t = record { past = rw (two_on bs i h, t) refl; ends = rw (two_on bs i h, t) refl }

pub quote_one : (bs : List ℕ) (i : ℕ) → i < length bs → (get_or bs i 0 ≡ 34 → ⊥) → (get_or bs i 0 ≡ 92 → i + 1 < length bs → ⊥) → EndsAlike bs i (i + 1)
unfolding past_quote quote_ends
quote_one bs i h t u = go (ltb (i + 1) (length bs)) refl
  where
    go : (b : Bool) → ltb (i + 1) (length bs) ≡ b → EndsAlike bs i (i + 1)
    go true e =
        let g : i + 1 < length bs = ltb-true _ _ e in
        let n : i + 1 + 1 ≡ i + 2 = omega arith in
        let d : drop (i + 1) bs ≡ get_or bs (i + 1) 0 ∷ drop (i + 2) bs = drop_more bs (i + 1) 0 g ∙ ap (λ k. get_or bs (i + 1) 0 ∷ drop k bs) n in
        let q = ne_eqb (get_or bs i 0) 34 t in
        let s = ne_eqb (get_or bs i 0) 92 (λ z. u z g) in
        record { past = rw (two_on bs i g, d, q, s) refl; ends = rw (two_on bs i g, d, q, s) refl }
    go false e =
        let g : length bs ≤ i + 1 = ltb-false _ _ e in
        record { past = rw (last_on bs i h g, drop_all (i + 1) bs g) refl; ends = rw (last_on bs i h g, drop_all (i + 1) bs g, ne_eqb (get_or bs i 0) 34 t) refl }

quote_done : (bs : List ℕ) (i : ℕ) → i < length bs → get_or bs i 0 ≡ 34 → (past_quote (drop i bs) ≡ drop (i + 1) bs) × (quote_ends (drop i bs) ≡ true)
unfolding past_quote quote_ends
quote_done bs i h t = go (drop (i + 1) bs) refl
  where
    go : (cs : List ℕ) → drop (i + 1) bs ≡ cs → (past_quote (drop i bs) ≡ drop (i + 1) bs) × (quote_ends (drop i bs) ≡ true)
    go [] e = (rw (drop_more bs i 0 h, e) refl, rw (drop_more bs i 0 h, e, t) refl)
    go (c ∷ cs) e = (rw (drop_more bs i 0 h, e, t) refl, rw (drop_more bs i 0 h, e, t) refl)

pub quote_found : (bs : List ℕ) (from i : ℕ) → i < length bs → get_or bs i 0 ≡ 34 → from ≤ i → EndsAlike bs from i → QuoteEnded bs from (Some (i + 1))
quote_found bs from i h t l e = let d = quote_done bs i h t in (e.ends ∙ d.1, sym (e.past ∙ d.0), omega arith, omega arith)

pub quote_missing : (bs : List ℕ) (from i : ℕ) → length bs ≤ i → EndsAlike bs from i → QuoteEnded bs from None
unfolding quote_ends
quote_missing bs from i h e = e.ends ∙ ap quote_ends (drop_all i bs h)
