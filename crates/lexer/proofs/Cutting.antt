-- Tokens are written one after the other.
use Rattle.std.proofs.Common.{◌≡◌, ℕ, zero, suc, ◌+◌, ◌<◌, ◌≤◌, Bool, true, false, ltb, List, [], ◌∷◌, ◌++◌, length, get_or, drop, Some, sym, refl, ap, ◌∙◌, subst, ap₂, append_assoc, arith, drop-cons, ltb-false, ltb-true, length-append}
use Rattle.std.proofs.lemmas.List.{drop_all, append-nil, get_or_append_left, get_or_at}
use Rattle.language.specs.Program
use Rattle.language.specs.Program.{bad, tokens, cut_up, rest}
use Rattle.lexer.specs.Memory.{cell, Stored}
use Rattle.lexer.specs.Marks.{TokenSays, Seen, token_of, TokensIn}
use Rattle.lexer.specs.declared.cells.Cell.{Cell}
use Rattle.lexer.specs.declared.tokens.Token.{Token}
use Rattle.lexer.specs.declared.tokens.Token.TheVariants.{Name as AName, Keyword as AKeyword, Number, Quoted, Sign, Bad}

-- so far: what is written, and the tokens of the rest, with fuel
pub record Far (bs m : List ℕ) (i n : ℕ) : Type 0 where
  pub written : List Program.Token
  pub count : n ≡ length written
  pub each : (k : ℕ) → k < n → TokenSays bs (token_of (cell m k)) (get_or written k bad)
  pub fuel : ℕ
  pub enough : length bs < i + fuel
  pub split : cut_up bs ≡ written ++ tokens fuel (drop i bs)

pub far_start : (bs m : List ℕ) (i n : ℕ) → i ≡ 0 → n ≡ 0 → Far bs m i n
far_start bs m i n e f =
    subst (λ j. Far bs m j n) (sym e) (subst (λ j. Far bs m 0 j) (sym f)
    (record { written = []; count = refl; each = λ k h. absurd (omega arith); fuel = suc (length bs); enough = omega arith; split = refl }))

pub far_skip : (bs m : List ℕ) (i n to : ℕ) → i < length bs → i < to → ((k : ℕ) → tokens (suc k) (drop i bs) ≡ tokens k (drop to bs)) → Far bs m i n → Far bs m to n
far_skip bs m i n to l h t f = go f.fuel f.enough f.split
  where
    go : (k : ℕ) → length bs < i + k → cut_up bs ≡ f.written ++ tokens k (drop i bs) → Far bs m to n
    go zero e s = absurd (omega arith)
    go (suc k) e s = record { written = f.written; count = f.count; each = f.each; fuel = k; enough = omega arith; split = s ∙ ap (λ r. f.written ++ r) (t k) }

pub far_token : (bs m m₁ : List ℕ) (i n to : ℕ) (t : Token) (s : Program.Token) (c : Cell) → i < length bs → i < to → ((k : ℕ) → tokens (suc k) (drop i bs) ≡ s ∷ tokens k (drop to bs)) →
    TokenSays bs t s → token_of c ≡ t → Stored m m₁ n c → Far bs m i n → Far bs m₁ to (n + 1)
far_token bs m m₁ i n to t s c l h e a b w f = go f.fuel f.enough f.split
  where
    written : List Program.Token
    written = f.written ++ s ∷ []

    at : (k : ℕ) → k < n + 1 → TokenSays bs (token_of (cell m₁ k)) (get_or (f.written ++ s ∷ []) k bad)
    at k q = here (ltb k n) refl
      where
        here : (x : Bool) → ltb k n ≡ x → TokenSays bs (token_of (cell m₁ k)) (get_or (f.written ++ s ∷ []) k bad)
        here true y =
            let z : k < n = ltb-true k n y in
            let p : get_or (f.written ++ s ∷ []) k bad ≡ get_or f.written k bad = get_or_append_left f.written (s ∷ []) bad k (omega (arith, f.count)) in
            subst (λ u. TokenSays bs (token_of (cell m₁ k)) u) (sym p) (subst (λ d. TokenSays bs (token_of d) (get_or f.written k bad)) (sym (w.others k (λ j. omega arith))) (f.each k z))
        here false y =
            let z : k ≡ n = omega (arith, ltb-false k n y) in
            let p : get_or (f.written ++ s ∷ []) k bad ≡ s = get_or_at f.written s [] bad k (sym (z ∙ f.count)) in
            subst (λ u. TokenSays bs (token_of (cell m₁ k)) u) (sym p) (subst (λ d. TokenSays bs (token_of d) s) (sym (ap (cell m₁) z ∙ w.here)) (subst (λ t. TokenSays bs t s) (sym b) a))

    go : (k : ℕ) → length bs < i + k → cut_up bs ≡ f.written ++ tokens k (drop i bs) → Far bs m₁ to (n + 1)
    go zero e s = absurd (omega arith)
    go (suc k) p q =
        record {
          written = f.written ++ s ∷ [];
          count = omega (arith, f.count, length-append f.written (s ∷ []));
          each = at;
          fuel = k;
          enough = omega arith;
          split = q ∙ ap (λ r. f.written ++ r) (e k) ∙ sym (append_assoc f.written (s ∷ []) (tokens k (drop to bs)));
        }

pub far_end : (bs m : List ℕ) (i n : ℕ) → length bs ≤ i → n ≤ length bs → Far bs m i n → TokensIn bs m n
unfolding tokens
far_end bs m i n h q f =
    let e : cut_up bs ≡ f.written = f.split ∙ ap (λ r. f.written ++ r) (ap (λ l. tokens f.fuel l) (drop_all i bs h) ∙ none_left f.fuel) ∙ append-nil f.written in
    record { count = f.count ∙ ap length (sym e); few = q; each = λ k p. subst (λ ts. TokenSays bs (token_of (cell m k)) (get_or ts k bad)) (sym e) (f.each k p) }
  where
    none_left : (k : ℕ) → tokens k [] ≡ []
    none_left zero = refl
    none_left (suc k) = refl

-- the token at a place
first_says : (bs : List ℕ) (t : Token) (s : Program.Token) (us vs : List Program.Token) → us ≡ s ∷ vs → TokenSays bs t s → Seen bs (Some t) us
first_says bs (AName x) s us vs e h = (e ∙ ap₂ (λ a l. a ∷ l) h.0 (sym (ap rest e)), h.1, h.2)
first_says bs (AKeyword x) s us vs e h = e ∙ ap₂ (λ a l. a ∷ l) h (sym (ap rest e))
first_says bs (Number x) s us vs e h = e ∙ ap₂ (λ a l. a ∷ l) h (sym (ap rest e))
first_says bs (Quoted x) s us vs e h = (e ∙ ap₂ (λ a l. a ∷ l) h.0 (sym (ap rest e)), h.1)
first_says bs (Sign x) s us vs e h = e ∙ ap₂ (λ a l. a ∷ l) h (sym (ap rest e))
first_says bs Bad s us vs e h = e ∙ ap₂ (λ a l. a ∷ l) h (sym (ap rest e))

pub seen_here : (bs m : List ℕ) (n place : ℕ) (t : Token) → t ≡ token_of (cell m place) → place < n → TokensIn bs m n → Seen bs (Some t) (drop place (cut_up bs))
seen_here bs m n place t e h k =
    first_says bs t (get_or (cut_up bs) place bad) (drop place (cut_up bs)) (drop (suc place) (cut_up bs)) (drop-cons (cut_up bs) place bad (omega (arith, k.count)))
    (subst (λ u. TokenSays bs u (get_or (cut_up bs) place bad)) (sym e) (k.each place h))

pub seen_none : (bs m : List ℕ) (n place : ℕ) → n ≤ place → TokensIn bs m n → drop place (cut_up bs) ≡ []
seen_none bs m n place h k = drop_all place (cut_up bs) (omega (arith, k.count))
