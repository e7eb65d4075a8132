-- Terms by one stack: which level a sign binds at, and what a stack of begun terms still means, in terms of the grammar.
use Rattle.std.proofs.Common.{◌≡◌, ℕ, zero, suc, ◌+◌, ◌<◌, ◌≤◌, Bool, true, false, ◌&&◌, eqb, leb, ◌⊎◌, List, [], ◌∷◌, get_or, sym, refl, ap, ◌∙◌, subst, ap₂, inl, inr, arith, eqb-true, le-leb, leb-false, leb-true}
use borrow.Author.Tests.{lt-leb}
use Rattle.language.specs.Text.{pick, or, same}
use Rattle.language.specs.Program.{Term, Token, word, number, quoted, sign, bad, none, got, with_got, Reads, sees, sees_word, rest, can_set, begins_joined, compare_sign, w_in, term, ors, more_ors, ands, more_ands, likes, compares, joins, more_joins, sums, more_sums, products, more_products}
use Rattle.parser.specs.Levels.{at, more, Enough, from, chain, level_of}
use Rattle.parser.proofs.Fuel.{STerm, SOrs, SAnds, SLikes, SCompares, SJoins, SSums, SProducts, SMoreOrs, SMoreAnds, SMoreJoins, SMoreSums, SMoreProducts}

-- ---- with_got is a bind
pub got_got : {A B C : Type 0} (g : Reads A) (f : A → List Token → Reads B) (h : B → List Token → Reads C) → with_got (with_got g f) h ≡ with_got g (λ a us. with_got (f a us) h)
got_got none f h = refl
got_got (got a us) f h = refl

pub got_only : {A : Type 0} (g : Reads A) → with_got g (λ a us. got a us) ≡ g
got_only none = refl
got_only (got a us) = refl

pub got_each : {A B : Type 0} (g : Reads A) (f h : A → List Token → Reads B) → ((a : A) (us : List Token) → f a us ≡ h a us) → with_got g f ≡ with_got g h
got_each none f h e = refl
got_each (got a us) f h e = e a us

-- a level is the one above it, and then what goes on
pub level_is : (N k : ℕ) (ts : List Token) → k < 8 → Enough N ts → at N k ts ≡ with_got (at N (suc k) ts) (λ a us. more N k a us)
unfolding term ors ands likes compares joins sums products
level_is N zero ts h e = STerm N (suc N) ts (omega arith) (omega arith)
level_is N (suc zero) ts h e = SOrs N (suc N) ts (omega arith) (omega arith)
level_is N (suc (suc zero)) ts h e = SAnds N (suc N) ts (omega arith) (omega arith)
level_is N (suc (suc (suc zero))) ts h e = SLikes N (suc N) ts (omega arith) (omega arith)
level_is N (suc (suc (suc (suc zero)))) ts h e = SCompares N (suc N) ts (omega arith) (omega arith)
level_is N (suc (suc (suc (suc (suc zero))))) ts h e = SJoins N (suc N) ts (omega arith) (omega arith)
level_is N (suc (suc (suc (suc (suc (suc zero)))))) ts h e = SSums N (suc N) ts (omega arith) (omega arith)
level_is N (suc (suc (suc (suc (suc (suc (suc zero))))))) ts h e = SProducts N (suc N) ts (omega arith) (omega arith)
level_is N (suc (suc (suc (suc (suc (suc (suc (suc k)))))))) ts h e = absurd (omega arith)

pub from_none : (N r h : ℕ) (a : Term) (us : List Token) → h ≤ r → from N r h a us ≡ got a us
from_none N r zero a us e = refl
from_none N r (suc h) a us e = rw (lt-leb r h (omega arith)) refl

pub from_on : (N r h : ℕ) (a : Term) (us : List Token) → r ≤ h → from N r (suc h) a us ≡ with_got (more N h a us) (λ b vs. from N r h b vs)
from_on N r h a us e = rw (le-leb r h e) refl

at_here : (N r h : ℕ) (ts : List Token) → r ≡ h → at N r ts ≡ with_got (at N h ts) (λ a us. from N r h a us)
at_here N r h ts p =
    ap (λ k. at N k ts) p ∙ sym (got_only (at N h ts)) ∙ got_each (at N h ts) _ _ (λ a us. sym (from_none N r h a us (omega arith)))

-- a level is any above it, and then what goes on in between
pub at_from : (N r h : ℕ) (ts : List Token) → r ≤ h → h ≤ 8 → Enough N ts → at N r ts ≡ with_got (at N h ts) (λ a us. from N r h a us)
at_from N r zero ts p q e = at_here N r zero ts (omega arith)
at_from N r (suc h) ts p q e = go (leb r h) refl (at_from N r h ts)
  where
    go : (b : Bool) → leb r h ≡ b → (r ≤ h → h ≤ 8 → Enough N ts → at N r ts ≡ with_got (at N h ts) (λ a us. from N r h a us)) → at N r ts ≡ with_got (at N (suc h) ts) (λ a us. from N r (suc h) a us)
    go true t ih =
        let le : r ≤ h = leb-true r h t in
        ih le (omega arith) e ∙ ap (λ g. with_got g (λ a us. from N r h a us)) (level_is N h ts q e)
        ∙ got_got (at N (suc h) ts) (λ a us. more N h a us) (λ a us. from N r h a us)
        ∙ got_each (at N (suc h) ts) _ _ (λ a us. sym (from_on N r h a us le))
    go false t ih = at_here N r (suc h) ts (omega (arith, leb-false r h t))

chain_least : (n : ℕ) (bs : List Bool) → (chain n bs ≡ 0) ⊎ (n ≤ chain n bs)
chain_least n [] = inl refl
chain_least n (true ∷ bs) = inr (omega arith)
chain_least n (false ∷ bs) = elim (chain_least (suc n) bs) [ inl e ↦ inl e | inr e ↦ inr (omega arith) ]

pub chain_finds : (n : ℕ) (bs : List Bool) (k : ℕ) → chain (suc n) bs ≡ suc (n + k) → get_or bs k false ≡ true
chain_finds n [] k h = absurd (omega arith)
chain_finds n (true ∷ bs) zero h = refl
chain_finds n (true ∷ bs) (suc k) h = absurd (omega arith)
chain_finds n (false ∷ bs) zero h = absurd (elim (chain_least (suc (suc n)) bs) [ inl e ↦ omega arith | inr e ↦ omega arith ])
chain_finds n (false ∷ bs) (suc k) h = chain_finds (suc n) bs k (omega arith)

pub sees_sign : (c : ℕ) (us : List Token) → sees c us ≡ true → us ≡ sign c ∷ rest us
sees_sign c [] h = let z : ◌≡◌ {A = ℕ} 0 1 = cc in absurd (omega arith)
sees_sign c (word w ∷ us) h = let z : ◌≡◌ {A = ℕ} 0 1 = cc in absurd (omega arith)
sees_sign c (number n ∷ us) h = let z : ◌≡◌ {A = ℕ} 0 1 = cc in absurd (omega arith)
sees_sign c (quoted b ∷ us) h = let z : ◌≡◌ {A = ℕ} 0 1 = cc in absurd (omega arith)
sees_sign c (sign d ∷ us) h = ap (λ x. sign x ∷ us) (sym (eqb-true c d h))
sees_sign c (bad ∷ us) h = let z : ◌≡◌ {A = ℕ} 0 1 = cc in absurd (omega arith)

not_picked : {A : Type 0} (b : Bool) (x y : A) → (b ≡ true → ⊥) → pick b x y ≡ y
not_picked true x y h = absurd (h refl)
not_picked false x y h = refl

first_and : (a b : Bool) → (a && b) ≡ true → a ≡ true
first_and true b h = refl
first_and false b h = h

-- a sign c binds at a level
at_sign : (c k : ℕ) (a : Term) (us : List Token) → level_of a (sign c ∷ rest us) ≡ k → sees c us ≡ true → level_of a us ≡ k
at_sign c k a us e h = ap (λ ts. level_of a ts) (sees_sign c us h) ∙ e

pub skips_7 : (N : ℕ) (a : Term) (us : List Token) → (level_of a us ≡ 8 → ⊥) → Enough N us → more N 7 a us ≡ got a us
unfolding more_products compare_sign
skips_7 N a us h e =
    SMoreProducts N (suc N) a us (omega arith) (omega arith)
    ∙ not_picked (sees 42 us) _ _ (λ t. h (at_sign 42 8 a us refl t))
    ∙ not_picked (sees 47 us) _ _ (λ t. h (at_sign 47 8 a us refl t))
    ∙ not_picked (sees 37 us) _ _ (λ t. h (at_sign 37 8 a us refl t))

pub skips_6 : (N : ℕ) (a : Term) (us : List Token) → (level_of a us ≡ 7 → ⊥) → Enough N us → more N 6 a us ≡ got a us
unfolding more_sums compare_sign
skips_6 N a us h e =
    SMoreSums N (suc N) a us (omega arith) (omega arith)
    ∙ not_picked (sees 43 us) _ _ (λ t. h (at_sign 43 7 a us refl t))
    ∙ not_picked (sees 45 us) _ _ (λ t. h (at_sign 45 7 a us refl t))

pub skips_2 : (N : ℕ) (a : Term) (us : List Token) → (level_of a us ≡ 3 → ⊥) → Enough N us → more N 2 a us ≡ got a us
unfolding more_ands compare_sign
skips_2 N a us h e =
    SMoreAnds N (suc N) a us (omega arith) (omega arith) ∙ not_picked (sees 5 us) _ _ (λ t. h (at_sign 5 3 a us refl t))

pub skips_1 : (N : ℕ) (a : Term) (us : List Token) → (level_of a us ≡ 2 → ⊥) → Enough N us → more N 1 a us ≡ got a us
unfolding more_ors compare_sign
skips_1 N a us h e =
    SMoreOrs N (suc N) a us (omega arith) (omega arith) ∙ not_picked (sees 6 us) _ _ (λ t. h (at_sign 6 2 a us refl t))

pub skips_0 : (N : ℕ) (a : Term) (us : List Token) → (level_of a us ≡ 1 → ⊥) → more N 0 a us ≡ got a us
skips_0 N a us h = not_picked (sees 61 us && can_set a) _ _ (λ t. h (rw t refl))

pub or_then : (a b : Bool) (P : Type 0) → (a ≡ true → P) → (b ≡ true → P) → or a b ≡ true → P
or_then true b P p q h = p refl
or_then false b P p q h = q h

same_is : (v w : List ℕ) → same v w ≡ true → v ≡ w
unfolding same
same_is [] [] h = refl
same_is [] (y ∷ ys) h = let z : ◌≡◌ {A = ℕ} 0 1 = cc in absurd (omega arith)
same_is (x ∷ xs) [] h = let z : ◌≡◌ {A = ℕ} 0 1 = cc in absurd (omega arith)
same_is (x ∷ xs) (y ∷ ys) h = ap₂ (λ a b. a ∷ b) (eqb-true x y (first_and (eqb x y) (same xs ys) h)) (same_is xs ys (second (eqb x y) (same xs ys) h))
  where
    second : (a b : Bool) → (a && b) ≡ true → b ≡ true
    second true b h = h
    second false b h = let z : ◌≡◌ {A = ℕ} 0 1 = cc in absurd (omega arith)

word_in : (a : Term) (us : List Token) → sees_word w_in us ≡ true → level_of a us ≡ 4
unfolding compare_sign
word_in a [] h = let z : ◌≡◌ {A = ℕ} 0 1 = cc in absurd (omega arith)
word_in a (word w ∷ us) h = rw h refl
word_in a (number n ∷ us) h = let z : ◌≡◌ {A = ℕ} 0 1 = cc in absurd (omega arith)
word_in a (quoted b ∷ us) h = let z : ◌≡◌ {A = ℕ} 0 1 = cc in absurd (omega arith)
word_in a (sign d ∷ us) h = let z : ◌≡◌ {A = ℕ} 0 1 = cc in absurd (omega arith)
word_in a (bad ∷ us) h = let z : ◌≡◌ {A = ℕ} 0 1 = cc in absurd (omega arith)

pub joined_at : (a : Term) (us : List Token) → begins_joined us ≡ true → level_of a us ≡ 6
unfolding compare_sign same
joined_at a [] h = let z : ◌≡◌ {A = ℕ} 0 1 = cc in absurd (omega arith)
joined_at a (word w ∷ us) h = go (same w_in w) refl
  where
    go : (b : Bool) → same w_in w ≡ b → level_of a (word w ∷ us) ≡ 6
    go true t = let z : ◌≡◌ {A = Bool} false true = subst (λ v. begins_joined (word v ∷ us) ≡ true) (sym (same_is w_in w t)) h in let y : ◌≡◌ {A = ℕ} 0 1 = cc in absurd (omega arith)
    go false t = rw (t, h) refl
joined_at a (number n ∷ us) h = refl
joined_at a (quoted b ∷ us) h = refl
joined_at a (sign d ∷ us) h =
    let P : ℕ → Type 0 = λ c. level_of a (sign c ∷ us) ≡ 6 in
    or_then (eqb d 36) (or (eqb d 40) (eqb d 33)) (P d) (λ t. subst P (sym (eqb-true d 36 t)) refl)
    (or_then (eqb d 40) (eqb d 33) (P d) (λ t. subst P (sym (eqb-true d 40 t)) refl) (λ t. subst P (sym (eqb-true d 33 t)) refl)) h
joined_at a (bad ∷ us) h = let z : ◌≡◌ {A = ℕ} 0 1 = cc in absurd (omega arith)

some_compare : (a b c d e f : Bool) → eqb (pick a 2 (pick b 3 (pick c 4 (pick d 5 (pick e 13 (pick f 14 0)))))) 0 ≡ false → or a (or b (or c (or d (or e f)))) ≡ true
some_compare true b c d e f h = refl
some_compare false true c d e f h = refl
some_compare false false true d e f h = refl
some_compare false false false true e f h = refl
some_compare false false false false true f h = refl
some_compare false false false false false true h = refl
some_compare false false false false false false h = sym h

compared_at : (a : Term) (us : List Token) → eqb (compare_sign us) 0 ≡ false → level_of a us ≡ 5
unfolding compare_sign
compared_at a us h =
    let P : Type 0 = level_of a us ≡ 5 in
    or_then (sees 1 us) _ P (at_sign 1 5 a us refl) (or_then (sees 2 us) _ P (at_sign 2 5 a us refl) (or_then (sees 60 us) _ P (at_sign 60 5 a us refl)
    (or_then (sees 3 us) _ P (at_sign 3 5 a us refl) (or_then (sees 62 us) (sees 4 us) P (at_sign 62 5 a us refl) (at_sign 4 5 a us refl)))))
    (some_compare (sees 1 us) (sees 2 us) (sees 60 us) (sees 3 us) (sees 62 us) (sees 4 us) h)

pub skips_3 : (N : ℕ) (a : Term) (us : List Token) → (level_of a us ≡ 4 → ⊥) → more N 3 a us ≡ got a us
unfolding compare_sign
skips_3 N a us h =
    not_picked (sees 126 us) _ _ (λ t. h (at_sign 126 4 a us refl t))
    ∙ not_picked (sees 7 us) _ _ (λ t. h (at_sign 7 4 a us refl t))
    ∙ not_picked (sees_word w_in us) _ _ (λ t. h (word_in a us t))

pub skips_4 : (N : ℕ) (a : Term) (us : List Token) → (level_of a us ≡ 5 → ⊥) → more N 4 a us ≡ got a us
skips_4 N a us h = go (eqb (compare_sign us) 0) refl
  where
    go : (b : Bool) → eqb (compare_sign us) 0 ≡ b → more N 4 a us ≡ got a us
    go true t = rw t refl
    go false t = absurd (h (compared_at a us t))

pub skips_5 : (N : ℕ) (a : Term) (us : List Token) → (level_of a us ≡ 6 → ⊥) → Enough N us → more N 5 a us ≡ got a us
unfolding more_joins
skips_5 N a us h e =
    SMoreJoins N (suc N) a us (omega arith) (omega arith) ∙ not_picked (begins_joined us) _ _ (λ t. h (joined_at a us t))

-- where nothing binds at a level, it passes on what it has
pub skips : (N k : ℕ) (a : Term) (us : List Token) → (level_of a us ≡ suc k → ⊥) → Enough N us → more N k a us ≡ got a us
skips N zero a us h e = skips_0 N a us h
skips N (suc zero) a us h e = skips_1 N a us h e
skips N (suc (suc zero)) a us h e = skips_2 N a us h e
skips N (suc (suc (suc zero))) a us h e = skips_3 N a us h
skips N (suc (suc (suc (suc zero)))) a us h e = skips_4 N a us h
skips N (suc (suc (suc (suc (suc zero))))) a us h e = skips_5 N a us h e
skips N (suc (suc (suc (suc (suc (suc zero)))))) a us h e = skips_6 N a us h e
skips N (suc (suc (suc (suc (suc (suc (suc zero))))))) a us h e = skips_7 N a us h e
skips N (suc (suc (suc (suc (suc (suc (suc (suc k)))))))) a us h e = refl

-- nothing binds from below h down to r
pub from_skips : (N r h : ℕ) (a : Term) (us : List Token) → ((k : ℕ) → r ≤ k → k < h → level_of a us ≡ suc k → ⊥) → Enough N us → from N r h a us ≡ got a us
from_skips N r zero a us n e = refl
from_skips N r (suc h) a us n e = go (leb r h) refl (from_skips N r h a us)
  where
    go : (b : Bool) → leb r h ≡ b → (((k : ℕ) → r ≤ k → k < h → level_of a us ≡ suc k → ⊥) → Enough N us → from N r h a us ≡ got a us) → from N r (suc h) a us ≡ got a us
    go true t ih =
        let le : r ≤ h = leb-true r h t in
        from_on N r h a us le ∙ ap (λ g. with_got g (λ b vs. from N r h b vs)) (skips N h a us (n h le (omega arith)) e) ∙ ih (λ k p q x. n k p (omega arith) x) e
    go false t ih = from_none N r (suc h) a us (omega (arith, leb-false r h t))

-- something binds at the level k among them
pub from_binds : (N r h k : ℕ) (a : Term) (us : List Token) → r ≤ k → k < h → level_of a us ≡ suc k → Enough N us → from N r h a us ≡ with_got (more N k a us) (λ b vs. from N r k b vs)
from_binds N r zero k a us p q l e = absurd (omega arith)
from_binds N r (suc h) k a us p q l e = go (leb (suc k) h) refl (from_binds N r h k a us)
  where
    go : (b : Bool) → leb (suc k) h ≡ b → (r ≤ k → k < h → level_of a us ≡ suc k → Enough N us → from N r h a us ≡ with_got (more N k a us) (λ b vs. from N r k b vs)) → from N r (suc h) a us ≡ with_got (more N k a us) (λ b vs. from N r k b vs)
    go true t ih =
        let lt : k < h = leb-true (suc k) h t in
        from_on N r h a us (omega arith) ∙ ap (λ g. with_got g (λ b vs. from N r h b vs)) (skips N h a us (λ x. omega arith) e) ∙ ih p lt l e
    go false t ih =
        let eq : k ≡ h = omega (arith, leb-false (suc k) h t) in
        subst (λ j. from N r (suc j) a us ≡ with_got (more N k a us) (λ b vs. from N r k b vs)) eq (from_on N r k a us p)
