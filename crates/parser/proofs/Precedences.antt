-- The level of a token is that of the grammar, and so is its operator.
use Rattle.std.proofs.Common.{◌≡◌, ℕ, zero, suc, ◌+◌, ◌<◌, Bool, true, false, not, eqb, ◌⊎◌, List, [], ◌∷◌, Some, sym, refl, ap, ◌∙◌, subst, inl, inr, arith, ne_eqb, eqb-true}
use borrow.Author.Tests.{eqb-false}
use Rattle.language.specs.Text.{pick, or, any, same}
use Rattle.language.specs.Program
use Rattle.language.specs.Program.{Term, word, sign, sees, rest, can_set, compare_sign, w_length, w_upper, w_index, w_substr, w_split, w_swap}
use Rattle.lexer.specs.Memory.{cell}
use Rattle.lexer.specs.Marks.{TokensIn, Seen, spelled, bytes_of}
use Rattle.parser.specs.Nodes.{bit, operator_number}
use Rattle.parser.specs.Levels.{chain, tests, level_of}
use Rattle.parser.specs.Precedence.{sign_level, keyword_level, level_at, sign_operator, operator_at, low_at, Binds}
use Rattle.parser.specs.Frames.{Begun, Stack, low, frame_of}
use Rattle.parser.specs.declared.frames.Spot.{Spot}
use Rattle.lexer.specs.declared.tokens.Keyword.{Keyword}
use Rattle.lexer.specs.declared.tokens.Keyword.TheVariants.{Begin, End, Function, If, Else, While, For, In, Print, Next, Exit, Delete, Return, Length, Upper, Index, Substr, Split, Swap}
use Rattle.lexer.specs.declared.tokens.Token.{Token}
use Rattle.lexer.specs.declared.tokens.Token.TheVariants.{Name as AName, Keyword as AKeyword, Number, Quoted, Sign, Bad}
use Rattle.parser.proofs.Climb.{joined_at, chain_finds, or_then}
use Rattle.parser.proofs.Binding.{op_sum, op_product}
use Rattle.lexer.proofs.Reach.{ahead, sees_front}
use Rattle.parser.proofs.Moves.{frame_low_is}

decide : (d c : ℕ) → (d ≡ c) ⊎ (d ≡ c → ⊥)
decide d c = go (eqb d c) refl
  where
    go : (b : Bool) → eqb d c ≡ b → (d ≡ c) ⊎ (d ≡ c → ⊥)
    go true t = inl (eqb-true d c t)
    go false t = inr (eqb-false d c t)

set_level : (a : Term) (us : List Program.Token) → level_of a (sign 61 ∷ us) ≡ bit (can_set a)
unfolding compare_sign
set_level a us = go (can_set a)
  where
    go : (b : Bool) → chain 1 (b ∷ false ∷ false ∷ false ∷ false ∷ false ∷ false ∷ false ∷ []) ≡ bit b
    go true = refl
    go false = refl

nothing_binds : (a : Term) (d : ℕ) (us : List Program.Token) → (d ≡ 61 → ⊥) → (d ≡ 6 → ⊥) → (d ≡ 5 → ⊥) → (d ≡ 126 → ⊥) → (d ≡ 7 → ⊥) → (d ≡ 1 → ⊥) → (d ≡ 2 → ⊥) → (d ≡ 3 → ⊥) → (d ≡ 4 → ⊥) → (d ≡ 60 → ⊥) → (d ≡ 62 → ⊥) → (d ≡ 36 → ⊥) → (d ≡ 40 → ⊥) → (d ≡ 33 → ⊥) → (d ≡ 43 → ⊥) → (d ≡ 45 → ⊥) → (d ≡ 42 → ⊥) → (d ≡ 47 → ⊥) → (d ≡ 37 → ⊥) → level_of a (sign d ∷ us) ≡ sign_level d (can_set a)
unfolding compare_sign
nothing_binds a d us n0 n1 n2 n3 n4 n5 n6 n7 n8 n9 n10 n11 n12 n13 n14 n15 n16 n17 n18 =
    simp (ne_eqb 61 d (λ z. n0 (sym z)), ne_eqb d 61 n0, ne_eqb 6 d (λ z. n1 (sym z)), ne_eqb d 6 n1, ne_eqb 5 d (λ z. n2 (sym z)), ne_eqb d 5 n2, ne_eqb 126 d (λ z. n3 (sym z)), ne_eqb d 126 n3, ne_eqb 7 d (λ z. n4 (sym z)), ne_eqb d 7 n4, ne_eqb 1 d (λ z. n5 (sym z)), ne_eqb d 1 n5, ne_eqb 2 d (λ z. n6 (sym z)), ne_eqb d 2 n6, ne_eqb 3 d (λ z. n7 (sym z)), ne_eqb d 3 n7, ne_eqb 4 d (λ z. n8 (sym z)), ne_eqb d 4 n8, ne_eqb 60 d (λ z. n9 (sym z)), ne_eqb d 60 n9, ne_eqb 62 d (λ z. n10 (sym z)), ne_eqb d 62 n10, ne_eqb d 36 n11, ne_eqb d 40 n12, ne_eqb d 33 n13, ne_eqb 43 d (λ z. n14 (sym z)), ne_eqb d 43 n14, ne_eqb 45 d (λ z. n15 (sym z)), ne_eqb d 45 n15, ne_eqb 42 d (λ z. n16 (sym z)), ne_eqb d 42 n16, ne_eqb 47 d (λ z. n17 (sym z)), ne_eqb d 47 n17, ne_eqb 37 d (λ z. n18 (sym z)), ne_eqb d 37 n18)

sign_is : (a : Term) (d : ℕ) (us : List Program.Token) → level_of a (sign d ∷ us) ≡ sign_level d (can_set a)
unfolding compare_sign
sign_is a d us = elim (decide d 61) [ inl e ↦ subst (λ x. level_of a (sign x ∷ us) ≡ sign_level x (can_set a)) (sym e) (set_level a us) | inr n0 ↦ elim (decide d 6) [ inl e ↦ subst (λ x. level_of a (sign x ∷ us) ≡ sign_level x (can_set a)) (sym e) (refl) | inr n1 ↦ elim (decide d 5) [ inl e ↦ subst (λ x. level_of a (sign x ∷ us) ≡ sign_level x (can_set a)) (sym e) (refl) | inr n2 ↦ elim (decide d 126) [ inl e ↦ subst (λ x. level_of a (sign x ∷ us) ≡ sign_level x (can_set a)) (sym e) (refl) | inr n3 ↦ elim (decide d 7) [ inl e ↦ subst (λ x. level_of a (sign x ∷ us) ≡ sign_level x (can_set a)) (sym e) (refl) | inr n4 ↦ elim (decide d 1) [ inl e ↦ subst (λ x. level_of a (sign x ∷ us) ≡ sign_level x (can_set a)) (sym e) (refl) | inr n5 ↦ elim (decide d 2) [ inl e ↦ subst (λ x. level_of a (sign x ∷ us) ≡ sign_level x (can_set a)) (sym e) (refl) | inr n6 ↦ elim (decide d 3) [ inl e ↦ subst (λ x. level_of a (sign x ∷ us) ≡ sign_level x (can_set a)) (sym e) (refl) | inr n7 ↦ elim (decide d 4) [ inl e ↦ subst (λ x. level_of a (sign x ∷ us) ≡ sign_level x (can_set a)) (sym e) (refl) | inr n8 ↦ elim (decide d 60) [ inl e ↦ subst (λ x. level_of a (sign x ∷ us) ≡ sign_level x (can_set a)) (sym e) (refl) | inr n9 ↦ elim (decide d 62) [ inl e ↦ subst (λ x. level_of a (sign x ∷ us) ≡ sign_level x (can_set a)) (sym e) (refl) | inr n10 ↦ elim (decide d 36) [ inl e ↦ subst (λ x. level_of a (sign x ∷ us) ≡ sign_level x (can_set a)) (sym e) (refl) | inr n11 ↦ elim (decide d 40) [ inl e ↦ subst (λ x. level_of a (sign x ∷ us) ≡ sign_level x (can_set a)) (sym e) (refl) | inr n12 ↦ elim (decide d 33) [ inl e ↦ subst (λ x. level_of a (sign x ∷ us) ≡ sign_level x (can_set a)) (sym e) (refl) | inr n13 ↦ elim (decide d 43) [ inl e ↦ subst (λ x. level_of a (sign x ∷ us) ≡ sign_level x (can_set a)) (sym e) (refl) | inr n14 ↦ elim (decide d 45) [ inl e ↦ subst (λ x. level_of a (sign x ∷ us) ≡ sign_level x (can_set a)) (sym e) (refl) | inr n15 ↦ elim (decide d 42) [ inl e ↦ subst (λ x. level_of a (sign x ∷ us) ≡ sign_level x (can_set a)) (sym e) (refl) | inr n16 ↦ elim (decide d 47) [ inl e ↦ subst (λ x. level_of a (sign x ∷ us) ≡ sign_level x (can_set a)) (sym e) (refl) | inr n17 ↦ elim (decide d 37) [ inl e ↦ subst (λ x. level_of a (sign x ∷ us) ≡ sign_level x (can_set a)) (sym e) (refl) | inr n18 ↦ nothing_binds a d us n0 n1 n2 n3 n4 n5 n6 n7 n8 n9 n10 n11 n12 n13 n14 n15 n16 n17 n18 ] ] ] ] ] ] ] ] ] ] ] ] ] ] ] ] ] ] ]

keyword_is : (a : Term) (k : Keyword) (us : List Program.Token) → level_of a (word (spelled k) ∷ us) ≡ keyword_level k
unfolding compare_sign same spelled
keyword_is a Begin us = refl
keyword_is a End us = refl
keyword_is a Function us = refl
keyword_is a If us = refl
keyword_is a Else us = refl
keyword_is a While us = refl
keyword_is a For us = refl
keyword_is a In us = refl
keyword_is a Print us = refl
keyword_is a Next us = refl
keyword_is a Exit us = refl
keyword_is a Delete us = refl
keyword_is a Return us = refl
keyword_is a Length us = refl
keyword_is a Upper us = refl
keyword_is a Index us = refl
keyword_is a Substr us = refl
keyword_is a Split us = refl
keyword_is a Swap us = refl

pub level_is : (bs : List ℕ) (a : Term) (t : Token) (us : List Program.Token) → Seen bs (Some t) us → level_of a us ≡ level_at t (can_set a)
unfolding compare_sign
level_is bs a (AName v) us x =
    ap (level_of a) x.0 ∙ joined_at a (word (bytes_of bs v) ∷ rest us) (ap (λ b. or (not b) (any (same (bytes_of bs v)) (w_length ∷ w_upper ∷ w_index ∷ w_substr ∷ w_split ∷ w_swap ∷ []))) x.1)
level_is bs a (AKeyword k) us x = ap (level_of a) x ∙ keyword_is a k (rest us)
level_is bs a (Number n) us x = ap (level_of a) x
level_is bs a (Quoted n) us x = ap (level_of a) x.0
level_is bs a (Sign d) us x = ap (level_of a) x ∙ sign_is a d (rest us)
level_is bs a Bad us x = ap (level_of a) x

clash : false ≡ true → ⊥
clash e = let z : ◌≡◌ {A = ℕ} 0 1 = cc in omega arith

pub seen_sign : (bs : List ℕ) (c : ℕ) (t : Token) (us : List Program.Token) → Seen bs (Some t) us → sees c us ≡ true → t ≡ Sign c
seen_sign bs c (AName v) us x h = absurd (clash (sym (ap (sees c) x.0) ∙ h))
seen_sign bs c (AKeyword k) us x h = absurd (clash (sym (ap (sees c) x) ∙ h))
seen_sign bs c (Number n) us x h = absurd (clash (sym (ap (sees c) x) ∙ h))
seen_sign bs c (Quoted n) us x h = absurd (clash (sym (ap (sees c) x.0) ∙ h))
seen_sign bs c (Sign d) us x h = ap Sign (sym (eqb-true c d (sym (ap (sees c) x) ∙ h)))
seen_sign bs c Bad us x h = absurd (clash (sym (ap (sees c) x) ∙ h))

-- an operator by its sign
op_by : (bs : List ℕ) (f : List Program.Token → ℕ) (c k : ℕ) (t : Token) (us : List Program.Token) → Seen bs (Some t) us → operator_number (sign_operator c) ≡ k → f (sign c ∷ rest us) ≡ k → sees c us ≡ true → operator_number (operator_at t) ≡ f us
op_by bs f c k t us x p q h = ap (λ y. operator_number (operator_at y)) (seen_sign bs c t us x h) ∙ p ∙ sym (ap f (sees_front c us h) ∙ q)

pub op_or : (bs : List ℕ) (a : Term) (t : Token) (us : List Program.Token) → Seen bs (Some t) us → level_of a us ≡ 2 → operator_number (operator_at t) ≡ 0
op_or bs a t us x l = op_by bs (λ us. 0) 6 0 t us x refl refl (chain_finds 0 (tests a us) 1 l)

pub op_and : (bs : List ℕ) (a : Term) (t : Token) (us : List Program.Token) → Seen bs (Some t) us → level_of a us ≡ 3 → operator_number (operator_at t) ≡ 1
op_and bs a t us x l = op_by bs (λ us. 1) 5 1 t us x refl refl (chain_finds 0 (tests a us) 2 l)

compared : (a b c d e f : Bool) → not (eqb (pick a 2 (pick b 3 (pick c 4 (pick d 5 (pick e 13 (pick f 14 0)))))) 0) ≡ true → or a (or b (or c (or d (or e f)))) ≡ true
compared true b c d e f h = refl
compared false true c d e f h = refl
compared false false true d e f h = refl
compared false false false true e f h = refl
compared false false false false true f h = refl
compared false false false false false true h = refl
compared false false false false false false h = h

pub op_compare : (bs : List ℕ) (a : Term) (t : Token) (us : List Program.Token) → Seen bs (Some t) us → level_of a us ≡ 5 → operator_number (operator_at t) ≡ compare_sign us
unfolding compare_sign
op_compare bs a t us x l =
    let P : Type 0 = operator_number (operator_at t) ≡ compare_sign us in
    or_then (sees 1 us) _ P (op_by bs compare_sign 1 2 t us x refl refl) (or_then (sees 2 us) _ P (op_by bs compare_sign 2 3 t us x refl refl) (or_then (sees 60 us) _ P (op_by bs compare_sign 60 4 t us x refl refl)
    (or_then (sees 3 us) _ P (op_by bs compare_sign 3 5 t us x refl refl) (or_then (sees 62 us) (sees 4 us) P (op_by bs compare_sign 62 13 t us x refl refl) (op_by bs compare_sign 4 14 t us x refl refl)))))
    (compared (sees 1 us) (sees 2 us) (sees 60 us) (sees 3 us) (sees 62 us) (sees 4 us) (chain_finds 0 (tests a us) 4 l))

pub op_add : (bs : List ℕ) (a : Term) (t : Token) (us : List Program.Token) → Seen bs (Some t) us → level_of a us ≡ 7 → operator_number (operator_at t) ≡ op_sum us
op_add bs a t us x l =
    let P : Type 0 = operator_number (operator_at t) ≡ op_sum us in
    or_then (sees 43 us) (sees 45 us) P (op_by bs op_sum 43 6 t us x refl refl) (op_by bs op_sum 45 7 t us x refl refl) (chain_finds 0 (tests a us) 6 l)

pub op_multiply : (bs : List ℕ) (a : Term) (t : Token) (us : List Program.Token) → Seen bs (Some t) us → level_of a us ≡ 8 → operator_number (operator_at t) ≡ op_product us
op_multiply bs a t us x l =
    let P : Type 0 = operator_number (operator_at t) ≡ op_product us in
    or_then (sees 42 us) (or (sees 47 us) (sees 37 us)) P (op_by bs op_product 42 8 t us x refl refl)
    (or_then (sees 47 us) (sees 37 us) P (op_by bs op_product 47 9 t us x refl refl) (op_by bs op_product 37 10 t us x refl refl)) (chain_finds 0 (tests a us) 7 l)

pub low_is : (bs m : List ℕ) (n d : ℕ) (fs : List Begun) → Stack bs m n d fs → low fs ≡ low_at m d
unfolding Stack
low_is bs m n zero [] x = refl
low_is bs m n zero (f ∷ fs) x = absurd x
low_is bs m n (suc d) [] x = absurd x
low_is bs m n (suc d) (f ∷ fs) x = (frame_low_is bs m n (frame_of (cell m (21120 + d))) f fs x.0).0

-- where a token binds there is one
pub level_ahead : (bs m : List ℕ) (n : ℕ) (s : Spot) (i h : ℕ) (t : Token) (l : ℕ) → TokensIn bs m n → Binds bs m s i h t l → s.place < n
level_ahead bs m n s i h (AName v) l k b = ahead bs m n s.place _ _ k b.seen.0
level_ahead bs m n s i h (AKeyword w) l k b = ahead bs m n s.place _ _ k b.seen
level_ahead bs m n s i h (Number v) l k b = ahead bs m n s.place _ _ k b.seen
level_ahead bs m n s i h (Quoted v) l k b = ahead bs m n s.place _ _ k b.seen.0
level_ahead bs m n s i h (Sign d) l k b = ahead bs m n s.place _ _ k b.seen
level_ahead bs m n s i h Bad l k b = ahead bs m n s.place _ _ k b.seen
