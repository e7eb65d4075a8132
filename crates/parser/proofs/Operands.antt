-- Operands by their first tokens: each begins a frame, or is there at once.
use Rattle.std.proofs.Common.{◌≡◌, ℕ, suc, ◌≤◌, Bool, true, false, eqb, List, [], ◌∷◌, sym, refl, ap, ◌∙◌, arith}
use Rattle.language.specs.Text.{pick, or, same, Pattern}
use Rattle.language.specs.Program.{Term, num, txt, var, item, field, un, bin, call, part, split, swap, Terms, no_terms, term_and, Token, word, number, quoted, sign, bad, none, got, with_got, Reads, past, sees, rest, name_of, pattern_here, can_set, kept_word, w_begin, w_end, w_function, w_if, w_else, w_while, w_for, w_in, w_print, w_next, w_exit, w_delete, w_return, w_length, w_upper, w_index, w_substr, w_split, w_swap, term, unary, primary, args}
use Rattle.parser.specs.Levels.{Enough, from}
use Rattle.parser.specs.Frames.{Begun, in_un, in_field, in_brackets, in_item, in_measure, in_index, in_part, in_split, in_swap, in_call, joined_terms, low, resume, before, behind}
use Rattle.lexer.proofs.Picks.{picked, left_out}
use Rattle.parser.proofs.Fuel.{SUnary, SPrimary, SArgs, rest_less}
use Rattle.parser.proofs.Climb.{got_got, got_each, at_from}

one_way : {A : Type 0} (b : Bool) {x x₁ y y₁ : A} → x ≡ x₁ → y ≡ y₁ → pick b x y ≡ pick b x₁ y₁
one_way true p q = p
one_way false p q = q

-- an operand by its first token, without fuel
pub unary_is : (N : ℕ) (ts : List Token) → Enough N ts → unary N ts ≡ pick (sees 33 ts) (with_got (unary N (rest ts)) (λ a us. got (un 0 a) us)) (pick (sees 45 ts) (with_got (unary N (rest ts)) (λ a us. got (un 1 a) us)) (primary (suc N) ts))
unfolding unary
unary_is N ts e = SUnary N (suc N) ts (omega arith) (omega arith) ∙ one_way (sees 33 ts) refl (one_way (sees 45 ts) refl (SPrimary N (suc N) ts (omega arith) (omega arith)))

pub operand_is : (N : ℕ) (fs : List Begun) (ts : List Token) → low fs ≤ 8 → Enough N ts → before N fs ts ≡ with_got (unary N ts) (λ a us. behind N fs 8 a us)
operand_is N fs ts l e = ap (λ g. with_got g (λ a us. resume N fs a us)) (at_from N (low fs) 8 ts l (omega arith) e) ∙ got_got (unary N ts) (λ a us. from N (low fs) 8 a us) (λ a us. resume N fs a us)

-- what follows, behind a part and behind a sign
pub on : {A B C : Type 0} (g : Reads A) (f : A → List Token → Reads B) (F : B → List Token → Reads C) (L : A → List Token → Reads C) → ((a : A) (us : List Token) → with_got (f a us) F ≡ L a us) → with_got (with_got g f) F ≡ with_got g L
on none f F L e = refl
on (got a us) f F L e = e a us

pub on_past : {B C : Type 0} (c : ℕ) (us : List Token) (K : List Token → Reads B) (F : B → List Token → Reads C) (L : List Token → Reads C) → ((vs : List Token) → with_got (K vs) F ≡ L vs) → with_got (past c us K) F ≡ past c us L
on_past c us K F L e = go (sees c us)
  where
    go : (b : Bool) → with_got (pick b (K (rest us)) none) F ≡ pick b (L (rest us)) none
    go true = e (rest us)
    go false = refl

pub on_pick : {B C : Type 0} (b : Bool) (x y : Reads B) (F : B → List Token → Reads C) (u v : Reads C) → with_got x F ≡ u → with_got y F ≡ v → with_got (pick b x y) F ≡ pick b u v
on_pick true x y F u v p q = p
on_pick false x y F u v p q = q

pub past_is : {B : Type 0} (c : ℕ) (us : List Token) (K : List Token → Reads B) → sees c us ≡ true → past c us K ≡ K (rest us)
past_is c us K t = picked (sees c us) (K (rest us)) none t

pub past_none : {B : Type 0} (c : ℕ) (us : List Token) (K : List Token → Reads B) → sees c us ≡ false → past c us K ≡ none
past_none c us K t = left_out (sees c us) (K (rest us)) none t

or_none : (a b : Bool) → or a b ≡ false → (a ≡ false) × (b ≡ false)
or_none true b h = let z : ◌≡◌ {A = ℕ} 0 1 = cc in absurd (omega arith)
or_none false b h = (refl, h)

-- a word that is not reserved is none of those that are built in
pub kept_none : (w : List ℕ) → kept_word w ≡ false →
    (same w w_length ≡ false) × (same w w_upper ≡ false) × (same w w_index ≡ false) × (same w w_substr ≡ false) × (same w w_split ≡ false) × (same w w_swap ≡ false)
kept_none w h =
    let a = or_none (same w w_begin) _ h in
    let b = or_none (same w w_end) _ a.1 in
    let c = or_none (same w w_function) _ b.1 in
    let d = or_none (same w w_if) _ c.1 in
    let e = or_none (same w w_else) _ d.1 in
    let f = or_none (same w w_while) _ e.1 in
    let g = or_none (same w w_for) _ f.1 in
    let i = or_none (same w w_in) _ g.1 in
    let j = or_none (same w w_print) _ i.1 in
    let k = or_none (same w w_next) _ j.1 in
    let l = or_none (same w w_exit) _ k.1 in
    let m = or_none (same w w_delete) _ l.1 in
    let n = or_none (same w w_return) _ m.1 in
    let o = or_none (same w w_length) _ n.1 in
    let p = or_none (same w w_upper) _ o.1 in
    let q = or_none (same w w_index) _ p.1 in
    let r = or_none (same w w_substr) _ q.1 in
    let s = or_none (same w w_split) _ r.1 in
    let t = or_none (same w w_swap) _ s.1 in
    (o.0, p.0, q.0, r.0, s.0, t.0)

pub joined_joined : (a b c : Terms) → joined_terms (joined_terms a b) c ≡ joined_terms a (joined_terms b c)
unfolding joined_terms
joined_joined no_terms b c = refl
joined_joined (term_and t ts) b c = ap (λ x. term_and t x) (joined_joined ts b c)

module _ (N : ℕ) (fs : List Begun) (l : low fs ≤ 8) where
  begins : (ts : List Token) (g : Reads Term) → Enough N ts → pick (sees 33 ts) (with_got (unary N (rest ts)) (λ a us. got (un 0 a) us)) (pick (sees 45 ts) (with_got (unary N (rest ts)) (λ a us. got (un 1 a) us)) (primary (suc N) ts)) ≡ g →
      before N fs ts ≡ with_got g (λ a vs. behind N fs 8 a vs)
  begins ts g e h = operand_is N fs ts l e ∙ ap (λ x. with_got x (λ a us. behind N fs 8 a us)) (unary_is N ts e ∙ h)

  pub op_number : (k : ℕ) (us : List Token) → Enough N (number k ∷ us) → before N fs (number k ∷ us) ≡ behind N fs 8 (num k) us
  unfolding primary
  op_number k us e = begins (number k ∷ us) (got (num k) us) e refl

  pub op_text : (b : List ℕ) (us : List Token) → Enough N (quoted b ∷ us) → before N fs (quoted b ∷ us) ≡ behind N fs 8 (txt b) us
  unfolding primary
  op_text b us e = begins (quoted b ∷ us) (got (txt b) us) e refl

  pub op_bad : (us : List Token) → Enough N (bad ∷ us) → before N fs (bad ∷ us) ≡ none
  unfolding primary
  op_bad us e = begins (bad ∷ us) none e refl

  pub op_over : Enough N [] → before N fs [] ≡ none
  unfolding primary
  op_over e = begins [] none e refl

  pub op_not : (us : List Token) → Enough N (sign 33 ∷ us) → before N fs (sign 33 ∷ us) ≡ before N (in_un 0 ∷ fs) us
  unfolding resume
  op_not us e = begins (sign 33 ∷ us) (with_got (unary N us) (λ a v. got (un 0 a) v)) e refl ∙ on (unary N us) (λ a v. got (un 0 a) v) (λ a vs. behind N fs 8 a vs) (λ a v. behind N fs 8 (un 0 a) v) (λ a v. refl)

  pub op_minus : (us : List Token) → Enough N (sign 45 ∷ us) → before N fs (sign 45 ∷ us) ≡ before N (in_un 1 ∷ fs) us
  unfolding resume
  op_minus us e = begins (sign 45 ∷ us) (with_got (unary N us) (λ a v. got (un 1 a) v)) e refl ∙ on (unary N us) (λ a v. got (un 1 a) v) (λ a vs. behind N fs 8 a vs) (λ a v. behind N fs 8 (un 1 a) v) (λ a v. refl)

  pub op_group : (us : List Token) → Enough N (sign 40 ∷ us) → before N fs (sign 40 ∷ us) ≡ before N (in_brackets ∷ fs) us
  unfolding resume primary
  op_group us e = begins (sign 40 ∷ us) (with_got (term N us) (λ a v. past 41 v (λ v0. got a v0))) e refl ∙ on (term N us) (λ a v. past 41 v (λ v0. got a v0)) (λ a vs. behind N fs 8 a vs) (λ a v. past 41 v (λ v0. behind N fs 8 a v0)) (λ a v. on_past 41 v (λ v0. got a v0) (λ a vs. behind N fs 8 a vs) (λ v0. behind N fs 8 a v0) (λ v0. refl))

  pub op_field : (us : List Token) → Enough N (sign 36 ∷ us) → before N fs (sign 36 ∷ us) ≡ before N (in_field ∷ fs) us
  unfolding resume primary
  op_field us e = begins (sign 36 ∷ us) (with_got (unary N us) (λ a v. got (field a) v)) e refl ∙ on (unary N us) (λ a v. got (field a) v) (λ a vs. behind N fs 8 a vs) (λ a v. behind N fs 8 (field a) v) (λ a v. refl)

  pub op_no_sign : (d : ℕ) (us : List Token) → Enough N (sign d ∷ us) → eqb 33 d ≡ false → eqb 45 d ≡ false → eqb d 40 ≡ false → eqb d 36 ≡ false → before N fs (sign d ∷ us) ≡ none
  unfolding primary
  op_no_sign d us e p q r s = begins (sign d ∷ us) none e (rw (p, q, r, s) refl)

  -- words
  pub op_length : (us : List Token) → Enough N (word w_length ∷ us) → sees 40 us ≡ true → before N fs (word w_length ∷ us) ≡ before N (in_measure 2 ∷ fs) (rest us)
  unfolding resume primary same
  op_length us e t =
      begins (word w_length ∷ us) (with_got (term N (rest us)) (λ a v. past 41 v (λ v0. got (un 2 a) v0))) e (past_is 40 us (λ u. with_got (term N u) (λ a v. past 41 v (λ v0. got (un 2 a) v0))) t)
      ∙ on (term N (rest us)) (λ a v. past 41 v (λ v0. got (un 2 a) v0)) (λ a vs. behind N fs 8 a vs) (λ a v. past 41 v (λ v0. behind N fs 8 (un 2 a) v0)) (λ a v. on_past 41 v (λ v0. got (un 2 a) v0) (λ a vs. behind N fs 8 a vs) (λ v0. behind N fs 8 (un 2 a) v0) (λ v0. refl))

  pub op_upper : (us : List Token) → Enough N (word w_upper ∷ us) → sees 40 us ≡ true → before N fs (word w_upper ∷ us) ≡ before N (in_measure 3 ∷ fs) (rest us)
  unfolding resume primary same
  op_upper us e t =
      begins (word w_upper ∷ us) (with_got (term N (rest us)) (λ a v. past 41 v (λ v0. got (un 3 a) v0))) e (past_is 40 us (λ u. with_got (term N u) (λ a v. past 41 v (λ v0. got (un 3 a) v0))) t)
      ∙ on (term N (rest us)) (λ a v. past 41 v (λ v0. got (un 3 a) v0)) (λ a vs. behind N fs 8 a vs) (λ a v. past 41 v (λ v0. behind N fs 8 (un 3 a) v0)) (λ a v. on_past 41 v (λ v0. got (un 3 a) v0) (λ a vs. behind N fs 8 a vs) (λ v0. behind N fs 8 (un 3 a) v0) (λ v0. refl))

  pub op_index : (us : List Token) → Enough N (word w_index ∷ us) → sees 40 us ≡ true → before N fs (word w_index ∷ us) ≡ before N (in_index ∷ fs) (rest us)
  unfolding resume primary same
  op_index us e t =
      begins (word w_index ∷ us) (with_got (term N (rest us)) (λ a v. past 44 v (λ v0. with_got (term N v0) (λ b v1. past 41 v1 (λ v2. got (bin 12 a b) v2))))) e (past_is 40 us (λ u. with_got (term N u) (λ a v. past 44 v (λ v0. with_got (term N v0) (λ b v1. past 41 v1 (λ v2. got (bin 12 a b) v2))))) t)
      ∙ on (term N (rest us)) (λ a v. past 44 v (λ v0. with_got (term N v0) (λ b v1. past 41 v1 (λ v2. got (bin 12 a b) v2)))) (λ a vs. behind N fs 8 a vs) (λ a v. past 44 v (λ v0. with_got (term N v0) (λ b v1. past 41 v1 (λ v2. behind N fs 8 (bin 12 a b) v2)))) (λ a v. on_past 44 v (λ v0. with_got (term N v0) (λ b v1. past 41 v1 (λ v2. got (bin 12 a b) v2))) (λ a vs. behind N fs 8 a vs) (λ v0. with_got (term N v0) (λ b v1. past 41 v1 (λ v2. behind N fs 8 (bin 12 a b) v2))) (λ v0. on (term N v0) (λ b v1. past 41 v1 (λ v2. got (bin 12 a b) v2)) (λ a vs. behind N fs 8 a vs) (λ b v1. past 41 v1 (λ v2. behind N fs 8 (bin 12 a b) v2)) (λ b v1. on_past 41 v1 (λ v2. got (bin 12 a b) v2) (λ a vs. behind N fs 8 a vs) (λ v2. behind N fs 8 (bin 12 a b) v2) (λ v2. refl))))

  pub op_part : (us : List Token) → Enough N (word w_substr ∷ us) → sees 40 us ≡ true → before N fs (word w_substr ∷ us) ≡ before N (in_part ∷ fs) (rest us)
  unfolding resume primary same
  op_part us e t =
      begins (word w_substr ∷ us) (with_got (term N (rest us)) (λ a v. past 44 v (λ v0. with_got (term N v0) (λ b v1. past 44 v1 (λ v2. with_got (term N v2) (λ c v3. past 41 v3 (λ v4. got (part a b c) v4))))))) e (past_is 40 us (λ u. with_got (term N u) (λ a v. past 44 v (λ v0. with_got (term N v0) (λ b v1. past 44 v1 (λ v2. with_got (term N v2) (λ c v3. past 41 v3 (λ v4. got (part a b c) v4))))))) t)
      ∙ on (term N (rest us)) (λ a v. past 44 v (λ v0. with_got (term N v0) (λ b v1. past 44 v1 (λ v2. with_got (term N v2) (λ c v3. past 41 v3 (λ v4. got (part a b c) v4)))))) (λ a vs. behind N fs 8 a vs) (λ a v. past 44 v (λ v0. with_got (term N v0) (λ b v1. past 44 v1 (λ v2. with_got (term N v2) (λ c v3. past 41 v3 (λ v4. behind N fs 8 (part a b c) v4)))))) (λ a v. on_past 44 v (λ v0. with_got (term N v0) (λ b v1. past 44 v1 (λ v2. with_got (term N v2) (λ c v3. past 41 v3 (λ v4. got (part a b c) v4))))) (λ a vs. behind N fs 8 a vs) (λ v0. with_got (term N v0) (λ b v1. past 44 v1 (λ v2. with_got (term N v2) (λ c v3. past 41 v3 (λ v4. behind N fs 8 (part a b c) v4))))) (λ v0. on (term N v0) (λ b v1. past 44 v1 (λ v2. with_got (term N v2) (λ c v3. past 41 v3 (λ v4. got (part a b c) v4)))) (λ a vs. behind N fs 8 a vs) (λ b v1. past 44 v1 (λ v2. with_got (term N v2) (λ c v3. past 41 v3 (λ v4. behind N fs 8 (part a b c) v4)))) (λ b v1. on_past 44 v1 (λ v2. with_got (term N v2) (λ c v3. past 41 v3 (λ v4. got (part a b c) v4))) (λ a vs. behind N fs 8 a vs) (λ v2. with_got (term N v2) (λ c v3. past 41 v3 (λ v4. behind N fs 8 (part a b c) v4))) (λ v2. on (term N v2) (λ c v3. past 41 v3 (λ v4. got (part a b c) v4)) (λ a vs. behind N fs 8 a vs) (λ c v3. past 41 v3 (λ v4. behind N fs 8 (part a b c) v4)) (λ c v3. on_past 41 v3 (λ v4. got (part a b c) v4) (λ a vs. behind N fs 8 a vs) (λ v4. behind N fs 8 (part a b c) v4) (λ v4. refl))))))

  pub op_split : (us : List Token) → Enough N (word w_split ∷ us) → sees 40 us ≡ true → before N fs (word w_split ∷ us) ≡ before N (in_split ∷ fs) (rest us)
  unfolding resume primary same
  op_split us e t =
      begins (word w_split ∷ us) (with_got (term N (rest us)) (λ a v. past 44 v (λ v0. with_got (name_of v0) (λ x v1. past 44 v1 (λ v2. with_got (pattern_here v2) (λ p v3. past 41 v3 (λ v4. got (split a x p) v4))))))) e (past_is 40 us (λ u. with_got (term N u) (λ a v. past 44 v (λ v0. with_got (name_of v0) (λ x v1. past 44 v1 (λ v2. with_got (pattern_here v2) (λ p v3. past 41 v3 (λ v4. got (split a x p) v4))))))) t)
      ∙ on (term N (rest us)) (λ a v. past 44 v (λ v0. with_got (name_of v0) (λ x v1. past 44 v1 (λ v2. with_got (pattern_here v2) (λ p v3. past 41 v3 (λ v4. got (split a x p) v4)))))) (λ a vs. behind N fs 8 a vs) (λ a v. past 44 v (λ v0. with_got (name_of v0) (λ x v1. past 44 v1 (λ v2. with_got (pattern_here v2) (λ p v3. past 41 v3 (λ v4. behind N fs 8 (split a x p) v4)))))) (λ a v. on_past 44 v (λ v0. with_got (name_of v0) (λ x v1. past 44 v1 (λ v2. with_got (pattern_here v2) (λ p v3. past 41 v3 (λ v4. got (split a x p) v4))))) (λ a vs. behind N fs 8 a vs) (λ v0. with_got (name_of v0) (λ x v1. past 44 v1 (λ v2. with_got (pattern_here v2) (λ p v3. past 41 v3 (λ v4. behind N fs 8 (split a x p) v4))))) (λ v0. on (name_of v0) (λ x v1. past 44 v1 (λ v2. with_got (pattern_here v2) (λ p v3. past 41 v3 (λ v4. got (split a x p) v4)))) (λ a vs. behind N fs 8 a vs) (λ x v1. past 44 v1 (λ v2. with_got (pattern_here v2) (λ p v3. past 41 v3 (λ v4. behind N fs 8 (split a x p) v4)))) (λ x v1. on_past 44 v1 (λ v2. with_got (pattern_here v2) (λ p v3. past 41 v3 (λ v4. got (split a x p) v4))) (λ a vs. behind N fs 8 a vs) (λ v2. with_got (pattern_here v2) (λ p v3. past 41 v3 (λ v4. behind N fs 8 (split a x p) v4))) (λ v2. on (pattern_here v2) (λ p v3. past 41 v3 (λ v4. got (split a x p) v4)) (λ a vs. behind N fs 8 a vs) (λ p v3. past 41 v3 (λ v4. behind N fs 8 (split a x p) v4)) (λ p v3. on_past 41 v3 (λ v4. got (split a x p) v4) (λ a vs. behind N fs 8 a vs) (λ v4. behind N fs 8 (split a x p) v4) (λ v4. refl))))))

  -- swap, with its pattern
  swap_on : (us vs : List Token) (p : Pattern) → sees 40 us ≡ true → pattern_here (rest us) ≡ got p vs → past 40 us (λ u. with_got (pattern_here u) (λ p v. past 44 v (λ w. with_got (term N w) (λ a v0. past 44 v0 (λ v1. with_got (term N v1) (λ b v2. pick (can_set b) (past 41 v2 (λ v4. got (swap p a b) v4)) none)))))) ≡ past 44 vs (λ w. with_got (term N w) (λ a v0. past 44 v0 (λ v1. with_got (term N v1) (λ b v2. pick (can_set b) (past 41 v2 (λ v4. got (swap p a b) v4)) none))))
  swap_on us vs p t g =
      past_is 40 us (λ u. with_got (pattern_here u) (λ p v. past 44 v (λ w. with_got (term N w) (λ a v0. past 44 v0 (λ v1. with_got (term N v1) (λ b v2. pick (can_set b) (past 41 v2 (λ v4. got (swap p a b) v4)) none)))))) t ∙ ap (λ x. with_got x (λ p v. past 44 v (λ w. with_got (term N w) (λ a v0. past 44 v0 (λ v1. with_got (term N v1) (λ b v2. pick (can_set b) (past 41 v2 (λ v4. got (swap p a b) v4)) none)))))) g

  pub op_swap : (us vs : List Token) (p : Pattern) → Enough N (word w_swap ∷ us) → sees 40 us ≡ true → pattern_here (rest us) ≡ got p vs → sees 44 vs ≡ true → before N fs (word w_swap ∷ us) ≡ before N (in_swap p ∷ fs) (rest vs)
  unfolding resume primary same
  op_swap us vs p e t g s =
      begins (word w_swap ∷ us) (with_got (term N (rest vs)) (λ a v0. past 44 v0 (λ v1. with_got (term N v1) (λ b v2. pick (can_set b) (past 41 v2 (λ v4. got (swap p a b) v4)) none)))) e (swap_on us vs p t g ∙ past_is 44 vs (λ w. with_got (term N w) (λ a v0. past 44 v0 (λ v1. with_got (term N v1) (λ b v2. pick (can_set b) (past 41 v2 (λ v4. got (swap p a b) v4)) none)))) s)
      ∙ on (term N (rest vs)) (λ a v0. past 44 v0 (λ v1. with_got (term N v1) (λ b v2. pick (can_set b) (past 41 v2 (λ v4. got (swap p a b) v4)) none))) (λ a vs. behind N fs 8 a vs) (λ a v0. past 44 v0 (λ v1. with_got (term N v1) (λ b v2. pick (can_set b) (past 41 v2 (λ v4. behind N fs 8 (swap p a b) v4)) none))) (λ a v0. on_past 44 v0 (λ v1. with_got (term N v1) (λ b v2. pick (can_set b) (past 41 v2 (λ v4. got (swap p a b) v4)) none)) (λ a vs. behind N fs 8 a vs) (λ v1. with_got (term N v1) (λ b v2. pick (can_set b) (past 41 v2 (λ v4. behind N fs 8 (swap p a b) v4)) none)) (λ v1. on (term N v1) (λ b v2. pick (can_set b) (past 41 v2 (λ v4. got (swap p a b) v4)) none) (λ a vs. behind N fs 8 a vs) (λ b v2. pick (can_set b) (past 41 v2 (λ v4. behind N fs 8 (swap p a b) v4)) none) (λ b v2. on_pick (can_set b) (past 41 v2 (λ v4. got (swap p a b) v4)) none (λ a vs. behind N fs 8 a vs) (past 41 v2 (λ v4. behind N fs 8 (swap p a b) v4)) none (on_past 41 v2 (λ v4. got (swap p a b) v4) (λ a vs. behind N fs 8 a vs) (λ v4. behind N fs 8 (swap p a b) v4) (λ v4. refl)) refl)))

  pub op_swap_none : (us : List Token) → Enough N (word w_swap ∷ us) → sees 40 us ≡ true → pattern_here (rest us) ≡ none → before N fs (word w_swap ∷ us) ≡ none
  unfolding primary same
  op_swap_none us e t g =
      begins (word w_swap ∷ us) none e (past_is 40 us (λ u. with_got (pattern_here u) (λ p v. past 44 v (λ w. with_got (term N w) (λ a v0. past 44 v0 (λ v1. with_got (term N v1) (λ b v2. pick (can_set b) (past 41 v2 (λ v4. got (swap p a b) v4)) none)))))) t ∙ ap (λ x. with_got x (λ p v. past 44 v (λ w. with_got (term N w) (λ a v0. past 44 v0 (λ v1. with_got (term N v1) (λ b v2. pick (can_set b) (past 41 v2 (λ v4. got (swap p a b) v4)) none)))))) g)

  pub op_swap_open : (us vs : List Token) (p : Pattern) → Enough N (word w_swap ∷ us) → sees 40 us ≡ true → pattern_here (rest us) ≡ got p vs → sees 44 vs ≡ false → before N fs (word w_swap ∷ us) ≡ none
  unfolding primary same
  op_swap_open us vs p e t g s = begins (word w_swap ∷ us) none e (swap_on us vs p t g ∙ past_none 44 vs (λ w. with_got (term N w) (λ a v0. past 44 v0 (λ v1. with_got (term N v1) (λ b v2. pick (can_set b) (past 41 v2 (λ v4. got (swap p a b) v4)) none)))) s)

  pub bare_length : (us : List Token) → Enough N (word w_length ∷ us) → sees 40 us ≡ false → before N fs (word w_length ∷ us) ≡ none
  unfolding primary same
  bare_length us e t = begins (word w_length ∷ us) none e (rw t refl)

  pub bare_upper : (us : List Token) → Enough N (word w_upper ∷ us) → sees 40 us ≡ false → before N fs (word w_upper ∷ us) ≡ none
  unfolding primary same
  bare_upper us e t = begins (word w_upper ∷ us) none e (rw t refl)

  pub bare_index : (us : List Token) → Enough N (word w_index ∷ us) → sees 40 us ≡ false → before N fs (word w_index ∷ us) ≡ none
  unfolding primary same
  bare_index us e t = begins (word w_index ∷ us) none e (rw t refl)

  pub bare_part : (us : List Token) → Enough N (word w_substr ∷ us) → sees 40 us ≡ false → before N fs (word w_substr ∷ us) ≡ none
  unfolding primary same
  bare_part us e t = begins (word w_substr ∷ us) none e (rw t refl)

  pub bare_split : (us : List Token) → Enough N (word w_split ∷ us) → sees 40 us ≡ false → before N fs (word w_split ∷ us) ≡ none
  unfolding primary same
  bare_split us e t = begins (word w_split ∷ us) none e (rw t refl)

  pub bare_swap : (us : List Token) → Enough N (word w_swap ∷ us) → sees 40 us ≡ false → before N fs (word w_swap ∷ us) ≡ none
  unfolding primary same
  bare_swap us e t = begins (word w_swap ∷ us) none e (rw t refl)

  pub op_begin : (us : List Token) → Enough N (word w_begin ∷ us) → before N fs (word w_begin ∷ us) ≡ none
  unfolding primary same
  op_begin us e = begins (word w_begin ∷ us) none e refl

  pub op_end : (us : List Token) → Enough N (word w_end ∷ us) → before N fs (word w_end ∷ us) ≡ none
  unfolding primary same
  op_end us e = begins (word w_end ∷ us) none e refl

  pub op_function : (us : List Token) → Enough N (word w_function ∷ us) → before N fs (word w_function ∷ us) ≡ none
  unfolding primary same
  op_function us e = begins (word w_function ∷ us) none e refl

  pub op_if : (us : List Token) → Enough N (word w_if ∷ us) → before N fs (word w_if ∷ us) ≡ none
  unfolding primary same
  op_if us e = begins (word w_if ∷ us) none e refl

  pub op_else : (us : List Token) → Enough N (word w_else ∷ us) → before N fs (word w_else ∷ us) ≡ none
  unfolding primary same
  op_else us e = begins (word w_else ∷ us) none e refl

  pub op_while : (us : List Token) → Enough N (word w_while ∷ us) → before N fs (word w_while ∷ us) ≡ none
  unfolding primary same
  op_while us e = begins (word w_while ∷ us) none e refl

  pub op_for : (us : List Token) → Enough N (word w_for ∷ us) → before N fs (word w_for ∷ us) ≡ none
  unfolding primary same
  op_for us e = begins (word w_for ∷ us) none e refl

  pub op_in : (us : List Token) → Enough N (word w_in ∷ us) → before N fs (word w_in ∷ us) ≡ none
  unfolding primary same
  op_in us e = begins (word w_in ∷ us) none e refl

  pub op_print : (us : List Token) → Enough N (word w_print ∷ us) → before N fs (word w_print ∷ us) ≡ none
  unfolding primary same
  op_print us e = begins (word w_print ∷ us) none e refl

  pub op_next : (us : List Token) → Enough N (word w_next ∷ us) → before N fs (word w_next ∷ us) ≡ none
  unfolding primary same
  op_next us e = begins (word w_next ∷ us) none e refl

  pub op_exit : (us : List Token) → Enough N (word w_exit ∷ us) → before N fs (word w_exit ∷ us) ≡ none
  unfolding primary same
  op_exit us e = begins (word w_exit ∷ us) none e refl

  pub op_delete : (us : List Token) → Enough N (word w_delete ∷ us) → before N fs (word w_delete ∷ us) ≡ none
  unfolding primary same
  op_delete us e = begins (word w_delete ∷ us) none e refl

  pub op_return : (us : List Token) → Enough N (word w_return ∷ us) → before N fs (word w_return ∷ us) ≡ none
  unfolding primary same
  op_return us e = begins (word w_return ∷ us) none e refl

  -- names
  named : (w : List ℕ) (us : List Token) → kept_word w ≡ false → primary (suc N) (word w ∷ us) ≡
      pick (sees 91 us) (with_got (term N (rest us)) (λ a vs. past 93 vs (λ ws. got (item w a) ws)))
      (pick (sees 40 us) (pick (sees 41 (rest us)) (got (call w no_terms) (rest (rest us))) (with_got (args N (rest us)) (λ xs vs. past 41 vs (λ ws. got (call w xs) ws))))
      (got (var w) us))
  unfolding primary
  named w us k =
      let q = kept_none w k in
      left_out (same w w_length) _ _ q.0 ∙ left_out (same w w_upper) _ _ q.1 ∙ left_out (same w w_index) _ _ q.2 ∙ left_out (same w w_substr) _ _ q.3
      ∙ left_out (same w w_split) _ _ q.4 ∙ left_out (same w w_swap) _ _ q.5 ∙ left_out (kept_word w) _ _ k

  pub op_var : (w : List ℕ) (us : List Token) → Enough N (word w ∷ us) → kept_word w ≡ false → sees 91 us ≡ false → sees 40 us ≡ false → before N fs (word w ∷ us) ≡ behind N fs 8 (var w) us
  op_var w us e k p q = begins (word w ∷ us) (got (var w) us) e (named w us k ∙ rw (p, q) refl)

  pub op_item : (w : List ℕ) (us : List Token) → Enough N (word w ∷ us) → kept_word w ≡ false → sees 91 us ≡ true → before N fs (word w ∷ us) ≡ before N (in_item w ∷ fs) (rest us)
  unfolding resume
  op_item w us e k p =
      begins (word w ∷ us) (with_got (term N (rest us)) (λ a v. past 93 v (λ v0. got (item w a) v0))) e (named w us k ∙ picked (sees 91 us) _ _ p)
      ∙ on (term N (rest us)) (λ a v. past 93 v (λ v0. got (item w a) v0)) (λ a vs. behind N fs 8 a vs) (λ a v. past 93 v (λ v0. behind N fs 8 (item w a) v0)) (λ a v. on_past 93 v (λ v0. got (item w a) v0) (λ a vs. behind N fs 8 a vs) (λ v0. behind N fs 8 (item w a) v0) (λ v0. refl))

  pub op_call_none : (w : List ℕ) (us : List Token) → Enough N (word w ∷ us) → kept_word w ≡ false → sees 91 us ≡ false → sees 40 us ≡ true → sees 41 (rest us) ≡ true →
      before N fs (word w ∷ us) ≡ behind N fs 8 (call w no_terms) (rest (rest us))
  op_call_none w us e k p q r = begins (word w ∷ us) (got (call w no_terms) (rest (rest us))) e (named w us k ∙ rw (p, q, r) refl)

  args_is : (vs : List Token) → Enough N vs → args N vs ≡ with_got (term N vs) (λ a ws. pick (sees 44 ws) (with_got (args N (rest ws)) (λ xs ys. got (term_and a xs) ys)) (got (term_and a no_terms) ws))
  unfolding args
  args_is vs e = SArgs N (suc N) vs (omega arith) (omega arith)

  -- arguments behind those that are there already
  args_on : (w : List ℕ) (ts : Terms) (vs : List Token) → Enough N vs → with_got (args N vs) (λ xs ws. past 41 ws (λ ys. behind N fs 8 (call w (joined_terms ts xs)) ys)) ≡ before N (in_call w ts ∷ fs) vs
  unfolding resume
  args_on w ts vs e =
      ap (λ g. with_got g (λ xs ws. past 41 ws (λ ys. behind N fs 8 (call w (joined_terms ts xs)) ys))) (args_is vs e)
      ∙ on (term N vs) (λ a ws. pick (sees 44 ws) (with_got (args N (rest ws)) (λ xs ys. got (term_and a xs) ys)) (got (term_and a no_terms) ws)) (λ xs ws. past 41 ws (λ ys. behind N fs 8 (call w (joined_terms ts xs)) ys)) (λ a ws. resume N (in_call w ts ∷ fs) a ws)
      (λ a ws. on_pick (sees 44 ws) (with_got (args N (rest ws)) (λ xs ys. got (term_and a xs) ys)) (got (term_and a no_terms) ws) (λ xs zs. past 41 zs (λ ys. behind N fs 8 (call w (joined_terms ts xs)) ys))
      (with_got (args N (rest ws)) (λ ys zs. past 41 zs (λ qs. behind N fs 8 (call w (joined_terms ts (term_and a ys))) qs))) (past 41 ws (λ ys. behind N fs 8 (call w (joined_terms ts (term_and a no_terms))) ys))
      (on (args N (rest ws)) (λ xs ys. got (term_and a xs) ys) (λ xs zs. past 41 zs (λ ys. behind N fs 8 (call w (joined_terms ts xs)) ys)) (λ ys zs. past 41 zs (λ qs. behind N fs 8 (call w (joined_terms ts (term_and a ys))) qs)) (λ xs ys. refl)) refl)

  pub op_call : (w : List ℕ) (us : List Token) → Enough N (word w ∷ us) → kept_word w ≡ false → sees 91 us ≡ false → sees 40 us ≡ true → sees 41 (rest us) ≡ false →
      before N fs (word w ∷ us) ≡ before N (in_call w no_terms ∷ fs) (rest us)
  unfolding joined_terms
  op_call w us e k p q r =
      begins (word w ∷ us) (with_got (args N (rest us)) (λ xs vs. past 41 vs (λ ws. got (call w xs) ws))) e (named w us k ∙ rw (p, q, r) refl)
      ∙ on (args N (rest us)) (λ xs vs. past 41 vs (λ ws. got (call w xs) ws)) (λ a vs. behind N fs 8 a vs) (λ xs vs. past 41 vs (λ ws. behind N fs 8 (call w xs) ws)) (λ xs vs. on_past 41 vs (λ ws. got (call w xs) ws) (λ a vs. behind N fs 8 a vs) (λ ws. behind N fs 8 (call w xs) ws) (λ ws. refl))
      ∙ args_on w no_terms (rest us) (omega (arith, rest_less us))

  -- an argument more, and the last one
  pub call_more : (w : List ℕ) (ts : Terms) (a : Term) (us : List Token) → Enough N us → sees 44 us ≡ true → resume N (in_call w ts ∷ fs) a us ≡ before N (in_call w (joined_terms ts (term_and a no_terms)) ∷ fs) (rest us)
  unfolding resume joined_terms
  call_more w ts a us e t =
      picked (sees 44 us) _ _ t
      ∙ got_each (args N (rest us)) _ _ (λ ys vs. ap (λ xs. past 41 vs (λ ws. behind N fs 8 (call w xs) ws)) (sym (joined_joined ts (term_and a no_terms) ys)))
      ∙ args_on w (joined_terms ts (term_and a no_terms)) (rest us) (omega (arith, rest_less us))

  pub call_last : (w : List ℕ) (ts : Terms) (a : Term) (us : List Token) → sees 44 us ≡ false → resume N (in_call w ts ∷ fs) a us ≡ past 41 us (λ vs. behind N fs 8 (call w (joined_terms ts (term_and a no_terms))) vs)
  unfolding resume
  call_last w ts a us t = left_out (sees 44 us) _ _ t
