-- The tokens from a place on, and that there was a token where something was read.
use Rattle.std.proofs.Common.{◌≡◌, ℕ, zero, suc, ◌+◌, ◌<◌, ◌≤◌, Bool, true, false, ltb, List, [], ◌∷◌, length, get_or, drop, sym, refl, ap, ◌∙◌, subst, arith, ltb-false, ltb-true, eqb-true}
use Rattle.language.specs.Text.{Pattern}
use Rattle.language.specs.Program
use Rattle.language.specs.Program.{got, none, Reads, sees, rest, name_of, pattern_here, cut_up}
use Rattle.lexer.specs.Memory.{Kept}
use Rattle.lexer.specs.Marks.{TokensIn, TokenSays, token_of}
use Rattle.lexer.specs.Places.{toks, Ready}

pub rest_drop : (ts : List Program.Token) (p : ℕ) → rest (drop p ts) ≡ drop (p + 1) ts
rest_drop [] zero = refl
rest_drop [] (suc p) = sym (let e : suc p + 1 ≡ suc (p + 1) = omega arith in ap (λ k. drop {A = Program.Token} k []) e)
rest_drop (t ∷ ts) zero = refl
rest_drop (t ∷ ts) (suc p) = rest_drop ts p ∙ (let e : suc (p + 1) ≡ suc p + 1 = omega arith in ap (λ k. drop k (t ∷ ts)) e)

pub rest_toks : (bs : List ℕ) (p : ℕ) → rest (toks bs p) ≡ toks bs (p + 1)
rest_toks bs p = rest_drop (cut_up bs) p

-- behind two tokens, and behind three
pub rest_two : (bs : List ℕ) (p : ℕ) → rest (toks bs (p + 1)) ≡ toks bs (p + 2)
rest_two bs p = rest_toks bs (p + 1) ∙ (let e : p + 1 + 1 ≡ p + 2 = omega arith in ap (toks bs) e)

pub rest_three : (bs : List ℕ) (p : ℕ) → rest (toks bs (p + 2)) ≡ toks bs (p + 3)
rest_three bs p = rest_toks bs (p + 2) ∙ (let e : p + 2 + 1 ≡ p + 3 = omega arith in ap (toks bs) e)

front : (ts : List Program.Token) (p : ℕ) (t : Program.Token) (us : List Program.Token) → drop p ts ≡ t ∷ us → p < length ts
front [] zero t us e = let z : ◌≡◌ {A = ℕ} 0 1 = ap length e ∙ sym (let y : length (t ∷ us) ≡ 0 = ap length (sym e) in absurd (omega arith)) in absurd (omega arith)
front [] (suc p) t us e = let y : length (t ∷ us) ≡ 0 = ap length (sym e) in absurd (omega arith)
front (x ∷ ts) zero t us e = omega arith
front (x ∷ ts) (suc p) t us e = omega (arith, front ts p t us e)

pub ahead : (bs m : List ℕ) (n p : ℕ) (t : Program.Token) (us : List Program.Token) → TokensIn bs m n → toks bs p ≡ t ∷ us → p < n
ahead bs m n p t us k e = omega (arith, k.count, front (cut_up bs) p t us e)

pub sees_front : (c : ℕ) (us : List Program.Token) → sees c us ≡ true → us ≡ Program.sign c ∷ rest us
sees_front c [] h = let z : ◌≡◌ {A = ℕ} 0 1 = cc in absurd (omega arith)
sees_front c (Program.word w ∷ us) h = let z : ◌≡◌ {A = ℕ} 0 1 = cc in absurd (omega arith)
sees_front c (Program.number n ∷ us) h = let z : ◌≡◌ {A = ℕ} 0 1 = cc in absurd (omega arith)
sees_front c (Program.quoted b ∷ us) h = let z : ◌≡◌ {A = ℕ} 0 1 = cc in absurd (omega arith)
sees_front c (Program.sign d ∷ us) h = ap (λ x. Program.sign x ∷ us) (sym (eqb-true c d h))
sees_front c (Program.bad ∷ us) h = let z : ◌≡◌ {A = ℕ} 0 1 = cc in absurd (omega arith)

pub sees_ahead : (bs m : List ℕ) (n p c : ℕ) → TokensIn bs m n → sees c (toks bs p) ≡ true → p < n
sees_ahead bs m n p c k t = ahead bs m n p (Program.sign c) (rest (toks bs p)) k (sees_front c (toks bs p) t)

drop_end : (ts : List Program.Token) (i : ℕ) → length ts ≤ i → drop i ts ≡ []
drop_end [] zero h = refl
drop_end [] (suc i) h = refl
drop_end (b ∷ ts) zero h = absurd (omega arith)
drop_end (b ∷ ts) (suc i) h = drop_end ts i (omega arith)

there : {A : Type 0} (bs m : List ℕ) (n p : ℕ) (f : List Program.Token → Reads A) (x : A) (us : List Program.Token) → TokensIn bs m n → f [] ≡ none → f (toks bs p) ≡ got x us → p < n
there bs m n p f x us k z e = go (ltb p n) refl
  where
    go : (b : Bool) → ltb p n ≡ b → p < n
    go true t = ltb-true p n t
    go false t =
        let q : got x us ≡ none = sym e ∙ ap f (drop_end (cut_up bs) p (omega (arith, k.count, ltb-false p n t))) ∙ z in
        let y : ◌≡◌ {A = ℕ} 0 1 = cc in absurd (omega arith)

pub pattern_ahead : (bs m : List ℕ) (n p : ℕ) {x : Pattern} {us : List Program.Token} → TokensIn bs m n → pattern_here (toks bs p) ≡ got x us → p < n
pattern_ahead bs m n p {x} {us} k e = there bs m n p pattern_here x us k refl e

pub name_ahead : (bs m : List ℕ) (n p : ℕ) {x : List ℕ} {us : List Program.Token} → TokensIn bs m n → name_of (toks bs p) ≡ got x us → p < n
name_ahead bs m n p {x} {us} k e = there bs m n p name_of x us k refl e

-- cells behind the tokens were written
pub tokens_kept : (bs m m₁ : List ℕ) (n k : ℕ) → n ≤ k → Kept 0 k m m₁ → TokensIn bs m n → TokensIn bs m₁ n
tokens_kept bs m m₁ n k l h t =
    record { count = t.count; few = t.few; each = λ i q. subst (λ c. TokenSays bs (token_of c) (get_or (cut_up bs) i Program.bad)) (sym (h i (omega arith) (omega arith))) (t.each i q) }

pub ready_kept : (bs m m₁ : List ℕ) (n k : ℕ) → n ≤ k → length m₁ ≡ length m → Kept 0 k m m₁ → Ready bs m n → Ready bs m₁ n
ready_kept bs m m₁ n k l e h r = record { long = e ∙ r.long; short = r.short; tokens = tokens_kept bs m m₁ n k l h r.tokens }
