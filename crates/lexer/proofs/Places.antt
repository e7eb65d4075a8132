-- Names and patterns at a place.
use Rattle.std.proofs.Common.{◌≡◌, ℕ, ◌+◌, ◌*◌, ◌≤◌, true, false, not, List, [], ◌∷◌, length, drop, Some, refl, ap, ◌∙◌, arith}
use Rattle.language.specs.Text.{same, none_of, Pattern}
use Rattle.language.specs.Program.{Got, none, got, rest, word, quoted, name_of, pattern_here, kept_word, pattern_of, whole_pattern, pattern, quote_part, first_pattern}
use Rattle.lexer.specs.Marks.{bytes_of, spelled, Seen}
use Rattle.lexer.specs.declared.tokens.Token.{Token}
use Rattle.lexer.specs.declared.tokens.Token.TheVariants.{Name as AName, Keyword as AKeyword, Number, Quoted, Sign, Bad}
use Rattle.lexer.specs.declared.tokens.Name.{Name}
use Rattle.lexer.specs.declared.tokens.Keyword.{Keyword}
use Rattle.lexer.specs.declared.tokens.Keyword.TheVariants.{Begin, End, Function, If, Else, While, For, In, Print, Next, Exit, Delete, Return, Length, Upper, Index, Substr, Split, Swap}
use Rattle.lexer.specs.Places.{PatternAt, toks}
use Rattle.lexer.proofs.Picks.{picked, left_out}
use Rattle.lexer.proofs.Reach.{rest_toks}

pub name_here : (bs : List ℕ) (p : ℕ) (v : Name) → toks bs p ≡ word (bytes_of bs v) ∷ rest (toks bs p) → kept_word (bytes_of bs v) ≡ false → name_of (toks bs p) ≡ got (bytes_of bs v) (toks bs (p + 1))
name_here bs p v e k = ap name_of e ∙ left_out (kept_word (bytes_of bs v)) none (got (bytes_of bs v) (rest (toks bs p))) k ∙ ap (λ us. got (bytes_of bs v) us) (rest_toks bs p)

pub keyword_kept : (k : Keyword) → kept_word (spelled k) ≡ true
unfolding same spelled
keyword_kept Begin = refl
keyword_kept End = refl
keyword_kept Function = refl
keyword_kept If = refl
keyword_kept Else = refl
keyword_kept While = refl
keyword_kept For = refl
keyword_kept In = refl
keyword_kept Print = refl
keyword_kept Next = refl
keyword_kept Exit = refl
keyword_kept Delete = refl
keyword_kept Return = refl
keyword_kept Length = refl
keyword_kept Upper = refl
keyword_kept Index = refl
keyword_kept Substr = refl
keyword_kept Split = refl
keyword_kept Swap = refl

pub no_name_here : (bs : List ℕ) (p : ℕ) (t : Token) → Seen bs (Some t) (toks bs p) → ((x : Name) → t ≡ AName x → ⊥) → name_of (toks bs p) ≡ none
no_name_here bs p (AName x) e n = absurd (n x refl)
no_name_here bs p (AKeyword k) e n = ap name_of e ∙ picked (kept_word (spelled k)) none (got (spelled k) (rest (toks bs p))) (keyword_kept k)
no_name_here bs p (Number x) e n = ap name_of e
no_name_here bs p (Quoted q) e n = ap name_of e.0
no_name_here bs p (Sign d) e n = ap name_of e
no_name_here bs p Bad e n = ap name_of e

pub no_quote_here : (bs : List ℕ) (p : ℕ) (t : Token) → Seen bs (Some t) (toks bs p) → ((q : ℕ) → t ≡ Quoted q → ⊥) → pattern_here (toks bs p) ≡ none
no_quote_here bs p (AName x) e n = ap pattern_here e.0
no_quote_here bs p (AKeyword k) e n = ap pattern_here e
no_quote_here bs p (Number x) e n = ap pattern_here e
no_quote_here bs p (Quoted q) e n = absurd (n q refl)
no_quote_here bs p (Sign d) e n = ap pattern_here e
no_quote_here bs p Bad e n = ap pattern_here e

whole_one : (g : Got ℕ Pattern) → not (none_of (whole_pattern g)) ≡ true → (p : Pattern) × (whole_pattern g ≡ p ∷ [])
unfolding whole_pattern
whole_one none h = let z : ◌≡◌ {A = ℕ} 0 1 = cc in absurd (omega arith)
whole_one (got p []) h = (p, refl)
whole_one (got p (c ∷ cs)) h = let z : ◌≡◌ {A = ℕ} 0 1 = cc in absurd (omega arith)

whole_no : (g : Got ℕ Pattern) → not (none_of (whole_pattern g)) ≡ false → whole_pattern g ≡ []
unfolding whole_pattern
whole_no none h = refl
whole_no (got p []) h = let z : ◌≡◌ {A = ℕ} 0 1 = cc in absurd (omega arith)
whole_no (got p (c ∷ cs)) h = refl

pub pattern_found : (bs : List ℕ) (p q : ℕ) → toks bs p ≡ quoted (quote_part (drop q bs)) ∷ rest (toks bs p) → q ≤ length bs → not (none_of (pattern_of (quote_part (drop q bs)))) ≡ true →
    (x : Pattern) × PatternAt bs q x × (pattern_here (toks bs p) ≡ got x (toks bs (p + 1)))
pattern_found bs p q e l h =
    let w = whole_one (pattern (4 * length (quote_part (drop q bs)) + 4) (quote_part (drop q bs))) h in
    (w.0, record { inside = l; is = w.1 }, ap pattern_here e ∙ ap (λ ps. first_pattern ps (rest (toks bs p))) w.1 ∙ ap (λ us. got w.0 us) (rest_toks bs p))

pub pattern_missing : (bs : List ℕ) (p q : ℕ) → toks bs p ≡ quoted (quote_part (drop q bs)) ∷ rest (toks bs p) → not (none_of (pattern_of (quote_part (drop q bs)))) ≡ false → pattern_here (toks bs p) ≡ none
pattern_missing bs p q e h =
    ap pattern_here e ∙ ap (λ ps. first_pattern ps (rest (toks bs p))) (whole_no (pattern (4 * length (quote_part (drop q bs)) + 4) (quote_part (drop q bs))) h)
