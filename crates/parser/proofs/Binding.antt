-- What binds to an operand, by a frame more on the stack.
use Rattle.std.proofs.Common.{◌≡◌, ℕ, suc, ◌<◌, ◌≤◌, true, false, ◌&&◌, eqb, List, ◌∷◌, sym, refl, ap, ◌∙◌, subst, arith}
use borrow.Author.Tests.{not-true}
use Rattle.language.specs.Text.{pick, or}
use Rattle.language.specs.Program.{Term, bin, put_in, Token, got, with_got, Reads, sees, rest, can_set, begins_joined, compare_sign, term, more_ors, more_ands, joins, more_joins, more_sums, more_products}
use Rattle.parser.specs.Levels.{at, more, Enough, from, tests, level_of}
use Rattle.parser.specs.Frames.{Begun, in_bin, in_set, low, resume, before, behind}
use Rattle.lexer.proofs.Picks.{picked}
use Rattle.parser.proofs.Fuel.{SMoreOrs, SMoreAnds, SMoreJoins, SMoreSums, SMoreProducts}
use Rattle.parser.proofs.Climb.{got_got, got_each, from_on, chain_finds, sees_sign, or_then, from_skips, from_binds}

-- what binds at each level
abbrev pub op_sum : List Token → ℕ
op_sum us = pick (sees 43 us) 6 7

abbrev pub op_product : List Token → ℕ
op_product us = pick (sees 42 us) 8 (pick (sees 47 us) 9 10)

binds_7 : (N : ℕ) (a : Term) (us : List Token) → level_of a us ≡ 8 → Enough N us → more N 7 a us ≡ with_got (at N 8 (rest us)) (λ b vs. more N 7 (bin (op_product us) a b) vs)
unfolding more_products
binds_7 N a us l e =
    let P : List Token → Type 0 = λ ts. more_products (suc N) a ts ≡ with_got (at N 8 (rest ts)) (λ b vs. more N 7 (bin (op_product ts) a b) vs) in
    SMoreProducts N (suc N) a us (omega arith) (omega arith)
    ∙ or_then (sees 42 us) (or (sees 47 us) (sees 37 us)) (P us) (λ t. subst P (sym (sees_sign 42 us t)) refl)
    (or_then (sees 47 us) (sees 37 us) (P us) (λ t. subst P (sym (sees_sign 47 us t)) refl) (λ t. subst P (sym (sees_sign 37 us t)) refl))
    (chain_finds 0 (tests a us) 7 l)

binds_6 : (N : ℕ) (a : Term) (us : List Token) → level_of a us ≡ 7 → Enough N us → more N 6 a us ≡ with_got (at N 7 (rest us)) (λ b vs. more N 6 (bin (op_sum us) a b) vs)
unfolding more_sums
binds_6 N a us l e =
    let P : List Token → Type 0 = λ ts. more_sums (suc N) a ts ≡ with_got (at N 7 (rest ts)) (λ b vs. more N 6 (bin (op_sum ts) a b) vs) in
    SMoreSums N (suc N) a us (omega arith) (omega arith)
    ∙ or_then (sees 43 us) (sees 45 us) (P us) (λ t. subst P (sym (sees_sign 43 us t)) refl) (λ t. subst P (sym (sees_sign 45 us t)) refl)
    (chain_finds 0 (tests a us) 6 l)

binds_5 : (N : ℕ) (a : Term) (us : List Token) → level_of a us ≡ 6 → Enough N us → more N 5 a us ≡ with_got (at N 6 us) (λ b vs. more N 5 (bin 11 a b) vs)
unfolding more_joins
binds_5 N a us l e =
    SMoreJoins N (suc N) a us (omega arith) (omega arith) ∙ picked (begins_joined us) _ _ (chain_finds 0 (tests a us) 5 l)

binds_4 : (N : ℕ) (a : Term) (us : List Token) → level_of a us ≡ 5 → more N 4 a us ≡ with_got (at N 5 (rest us)) (λ b vs. got (bin (compare_sign us) a b) vs)
binds_4 N a us l = let t : eqb (compare_sign us) 0 ≡ false = not-true _ (chain_finds 0 (tests a us) 4 l) in rw t refl

binds_2 : (N : ℕ) (a : Term) (us : List Token) → level_of a us ≡ 3 → Enough N us → more N 2 a us ≡ with_got (at N 3 (rest us)) (λ b vs. more N 2 (bin 1 a b) vs)
unfolding more_ands
binds_2 N a us l e = SMoreAnds N (suc N) a us (omega arith) (omega arith) ∙ (let t : sees 5 us ≡ true = chain_finds 0 (tests a us) 2 l in rw t refl)

binds_1 : (N : ℕ) (a : Term) (us : List Token) → level_of a us ≡ 2 → Enough N us → more N 1 a us ≡ with_got (at N 2 (rest us)) (λ b vs. more N 1 (bin 0 a b) vs)
unfolding more_ors
binds_1 N a us l e = SMoreOrs N (suc N) a us (omega arith) (omega arith) ∙ (let t : sees 6 us ≡ true = chain_finds 0 (tests a us) 1 l in rw t refl)

binds_0 : (N : ℕ) (a : Term) (us : List Token) → level_of a us ≡ 1 → more N 0 a us ≡ with_got (at N 0 (rest us)) (λ b vs. got (put_in a b) vs)
binds_0 N a us l = let t : (sees 61 us && can_set a) ≡ true = chain_finds 0 (tests a us) 0 l in rw t refl

-- a sign between two sides, from the left
left_keeps : (N r h k o : ℕ) (a : Term) (us vs : List Token) (R : Term → List Token → Reads Term) → r ≤ k → k < h → level_of a us ≡ suc k → Enough N us →
    more N k a us ≡ with_got (at N (suc k) vs) (λ b ws. more N k (bin o a b) ws) →
    with_got (at N (suc k) vs) (λ b ws. with_got (from N r (suc k) (bin o a b) ws) R) ≡ with_got (from N r h a us) R
left_keeps N r h k o a us vs R p q l e m =
    sym (ap (λ g. with_got g R) (from_binds N r h k a us p q l e ∙ ap (λ g. with_got g (λ b ws. from N r k b ws)) m
    ∙ got_got (at N (suc k) vs) (λ b ws. more N k (bin o a b) ws) (λ b ws. from N r k b ws)
    ∙ got_each (at N (suc k) vs) _ _ (λ b ws. sym (from_on N r k (bin o a b) ws p)))
    ∙ got_got (at N (suc k) vs) (λ b ws. from N r (suc k) (bin o a b) ws) R)

-- what binds once: no more of its level after it
once_keeps : {A : Type 0} (N r h k : ℕ) (a : Term) (us : List Token) (g : Reads A) (f : A → Term) (R : Term → List Token → Reads Term) → r ≤ k → k < h → level_of a us ≡ suc k → Enough N us →
    more N k a us ≡ with_got g (λ b ws. got (f b) ws) →
    with_got g (λ b ws. with_got (from N r k (f b) ws) R) ≡ with_got (from N r h a us) R
once_keeps N r h k a us g f R p q l e m =
    sym (ap (λ x. with_got x R) (from_binds N r h k a us p q l e ∙ ap (λ x. with_got x (λ b ws. from N r k b ws)) m ∙ got_got g (λ b ws. got (f b) ws) (λ b ws. from N r k b ws))
    ∙ got_got g (λ b ws. from N r k (f b) ws) R)

module _ (N : ℕ) (fs : List Begun) (h : ℕ) (a : Term) (us : List Token) (e : Enough N us) where
  -- an operator at its level
  R : Term → List Token → Reads Term
  R = λ b vs. resume N fs b vs

  pub sets : low fs ≤ 0 → 0 < h → level_of a us ≡ 1 → before N (in_set a ∷ fs) (rest us) ≡ behind N fs h a us
  unfolding resume
  sets p q l = once_keeps N (low fs) h 0 a us (term N (rest us)) (λ b. put_in a b) (λ b vs. resume N fs b vs) p q l e (binds_0 N a us l)

  pub ors_on : low fs ≤ 1 → 1 < h → level_of a us ≡ 2 → before N (in_bin 1 0 a ∷ fs) (rest us) ≡ behind N fs h a us
  unfolding resume
  ors_on p q l = left_keeps N (low fs) h 1 0 a us (rest us) (λ b vs. resume N fs b vs) p q l e (binds_1 N a us l e)

  pub ands_on : low fs ≤ 2 → 2 < h → level_of a us ≡ 3 → before N (in_bin 2 1 a ∷ fs) (rest us) ≡ behind N fs h a us
  unfolding resume
  ands_on p q l = left_keeps N (low fs) h 2 1 a us (rest us) (λ b vs. resume N fs b vs) p q l e (binds_2 N a us l e)

  pub compares_on : low fs ≤ 4 → 4 < h → level_of a us ≡ 5 → before N (in_bin 4 (compare_sign us) a ∷ fs) (rest us) ≡ behind N fs h a us
  unfolding resume
  compares_on p q l = once_keeps N (low fs) h 4 a us (joins N (rest us)) (λ b. bin (compare_sign us) a b) (λ b vs. resume N fs b vs) p q l e (binds_4 N a us l)

  pub joins_on : low fs ≤ 5 → 5 < h → level_of a us ≡ 6 → before N (in_bin 5 11 a ∷ fs) us ≡ behind N fs h a us
  unfolding resume
  joins_on p q l = left_keeps N (low fs) h 5 11 a us us (λ b vs. resume N fs b vs) p q l e (binds_5 N a us l e)

  pub sums_on : low fs ≤ 6 → 6 < h → level_of a us ≡ 7 → before N (in_bin 6 (op_sum us) a ∷ fs) (rest us) ≡ behind N fs h a us
  unfolding resume
  sums_on p q l = left_keeps N (low fs) h 6 (op_sum us) a us (rest us) (λ b vs. resume N fs b vs) p q l e (binds_6 N a us l e)

  pub products_on : low fs ≤ 7 → 7 < h → level_of a us ≡ 8 → before N (in_bin 7 (op_product us) a ∷ fs) (rest us) ≡ behind N fs h a us
  unfolding resume
  products_on p q l = left_keeps N (low fs) h 7 (op_product us) a us (rest us) (λ b vs. resume N fs b vs) p q l e (binds_7 N a us l e)

  -- ~ !~ and in bind once
  pub likes_on : {A : Type 0} (g : Reads A) (f : A → Term) → low fs ≤ 3 → 3 < h → level_of a us ≡ 4 → more N 3 a us ≡ with_got g (λ b ws. got (f b) ws) →
      with_got g (λ b ws. behind N fs 3 (f b) ws) ≡ behind N fs h a us
  likes_on g f p q l m = once_keeps N (low fs) h 3 a us g f (λ b vs. resume N fs b vs) p q l e m

  -- nothing binds
  pub none_binds : ((k : ℕ) → low fs ≤ k → k < h → level_of a us ≡ suc k → ⊥) → resume N fs a us ≡ behind N fs h a us
  none_binds n = sym (ap (λ g. with_got g (λ b vs. resume N fs b vs)) (from_skips N (low fs) h a us n e))
