-- The fuel of the grammar is always enough: 16 for each token and a few more.
use Rattle.std.proofs.Common.{◌≡◌, ℕ, zero, suc, ◌+◌, ◌*◌, ◌<◌, ◌≤◌, ◌&&◌, eqb, List, [], ◌∷◌, length, refl, arith}
use Rattle.language.specs.Text.{same, Pattern}
use Rattle.language.specs.Program.{Term, Token, word, number, quoted, sign, bad, none, got, sees, sees_word, rest, is_sign, name_of, pattern_here, pattern_of, first_pattern, can_set, begins_joined, compare_sign, kept_word, w_in, w_length, w_upper, w_index, w_substr, w_split, w_swap, term, ors, more_ors, ands, more_ands, likes, compares, joins, more_joins, sums, more_sums, products, more_products, unary, primary, args}
use Rattle.lexer.proofs.Picks.{pick_same}
use Rattle.lexer.proofs.Within.{Within, within_pick, within_more, after, then_same}

pub rest_less : (ts : List Token) → length (rest ts) ≤ length ts
rest_less [] = omega arith
rest_less (t ∷ ts) = omega arith

pub name_within : (ts : List Token) → Within (length ts) (name_of ts)
name_within [] = tt
name_within (word w ∷ ts) = within_pick (suc (length ts)) (kept_word w) none (got w ts) tt (omega arith)
name_within (number n ∷ ts) = tt
name_within (quoted b ∷ ts) = tt
name_within (sign d ∷ ts) = tt
name_within (bad ∷ ts) = tt

first_within : (k : ℕ) (ps : List Pattern) (ts : List Token) → length ts < k → Within k (first_pattern ps ts)
first_within k [] ts h = tt
first_within k (p ∷ ps) ts h = h

pub pattern_within : (ts : List Token) → Within (length ts) (pattern_here ts)
pattern_within [] = tt
pattern_within (word w ∷ ts) = tt
pattern_within (number n ∷ ts) = tt
pattern_within (quoted b ∷ ts) = first_within (suc (length ts)) (pattern_of b) ts (omega arith)
pattern_within (sign d ∷ ts) = tt
pattern_within (bad ∷ ts) = tt

mutual
  unfolding term ors more_ors ands more_ands likes compares joins more_joins sums more_sums products more_products unary primary args

  pub WTerm : (n : ℕ) (ts : List Token) → Within (length ts) (term n ts)
  WTerm zero ts = tt
  WTerm (suc n) ts =
      after _ (ors n ts) _ (WOrs n ts) (λ a us h.
      within_pick _ (sees 61 us && can_set a) _ _
      (after _ (term n (rest us)) _ (WTerm n (rest us)) (λ b vs k. omega (arith, rest_less us))) h)

  pub WOrs : (n : ℕ) (ts : List Token) → Within (length ts) (ors n ts)
  WOrs zero ts = tt
  WOrs (suc n) ts = after _ (ands n ts) _ (WAnds n ts) (λ a us h. within_more _ _ (more_ors n a us) (omega arith) (WMoreOrs n a us))

  pub WMoreOrs : (n : ℕ) (a : Term) (ts : List Token) → Within (suc (length ts)) (more_ors n a ts)
  WMoreOrs zero a ts = tt
  WMoreOrs (suc n) a ts =
      within_pick _ (sees 6 ts) _ _
      (after _ (ands n (rest ts)) _ (WAnds n (rest ts)) (λ b us h. within_more _ _ (more_ors n _ us) (omega (arith, rest_less ts)) (WMoreOrs n _ us))) (omega arith)

  pub WAnds : (n : ℕ) (ts : List Token) → Within (length ts) (ands n ts)
  WAnds zero ts = tt
  WAnds (suc n) ts = after _ (likes n ts) _ (WLikes n ts) (λ a us h. within_more _ _ (more_ands n a us) (omega arith) (WMoreAnds n a us))

  pub WMoreAnds : (n : ℕ) (a : Term) (ts : List Token) → Within (suc (length ts)) (more_ands n a ts)
  WMoreAnds zero a ts = tt
  WMoreAnds (suc n) a ts =
      within_pick _ (sees 5 ts) _ _
      (after _ (likes n (rest ts)) _ (WLikes n (rest ts)) (λ b us h. within_more _ _ (more_ands n _ us) (omega (arith, rest_less ts)) (WMoreAnds n _ us))) (omega arith)

  pub WSums : (n : ℕ) (ts : List Token) → Within (length ts) (sums n ts)
  WSums zero ts = tt
  WSums (suc n) ts = after _ (products n ts) _ (WProducts n ts) (λ a us h. within_more _ _ (more_sums n a us) (omega arith) (WMoreSums n a us))

  pub WMoreSums : (n : ℕ) (a : Term) (ts : List Token) → Within (suc (length ts)) (more_sums n a ts)
  WMoreSums zero a ts = tt
  WMoreSums (suc n) a ts =
      within_pick _ (sees 43 ts) _ _
      (after _ (products n (rest ts)) _ (WProducts n (rest ts)) (λ b us h. within_more _ _ (more_sums n _ us) (omega (arith, rest_less ts)) (WMoreSums n _ us))) (within_pick _ (sees 45 ts) _ _
      (after _ (products n (rest ts)) _ (WProducts n (rest ts)) (λ b us h. within_more _ _ (more_sums n _ us) (omega (arith, rest_less ts)) (WMoreSums n _ us))) (omega arith))

  pub WProducts : (n : ℕ) (ts : List Token) → Within (length ts) (products n ts)
  WProducts zero ts = tt
  WProducts (suc n) ts = after _ (unary n ts) _ (WUnary n ts) (λ a us h. within_more _ _ (more_products n a us) (omega arith) (WMoreProducts n a us))

  pub WMoreProducts : (n : ℕ) (a : Term) (ts : List Token) → Within (suc (length ts)) (more_products n a ts)
  WMoreProducts zero a ts = tt
  WMoreProducts (suc n) a ts =
      within_pick _ (sees 42 ts) _ _
      (after _ (unary n (rest ts)) _ (WUnary n (rest ts)) (λ b us h. within_more _ _ (more_products n _ us) (omega (arith, rest_less ts)) (WMoreProducts n _ us))) (within_pick _ (sees 47 ts) _ _
      (after _ (unary n (rest ts)) _ (WUnary n (rest ts)) (λ b us h. within_more _ _ (more_products n _ us) (omega (arith, rest_less ts)) (WMoreProducts n _ us))) (within_pick _ (sees 37 ts) _ _
      (after _ (unary n (rest ts)) _ (WUnary n (rest ts)) (λ b us h. within_more _ _ (more_products n _ us) (omega (arith, rest_less ts)) (WMoreProducts n _ us))) (omega arith)))

  pub WLikes : (n : ℕ) (ts : List Token) → Within (length ts) (likes n ts)
  WLikes zero ts = tt
  WLikes (suc n) ts =
      after _ (compares n ts) _ (WCompares n ts) (λ a us h.
      within_pick _ (sees 126 us) _ _ (after _ (pattern_here (rest us)) _ (pattern_within (rest us)) (λ p vs k. omega (arith, rest_less us)))
      (within_pick _ (sees 7 us) _ _ (after _ (pattern_here (rest us)) _ (pattern_within (rest us)) (λ p vs k. omega (arith, rest_less us)))
      (within_pick _ (sees_word w_in us) _ _ (after _ (name_of (rest us)) _ (name_within (rest us)) (λ p vs k. omega (arith, rest_less us))) h)))

  pub WCompares : (n : ℕ) (ts : List Token) → Within (length ts) (compares n ts)
  WCompares zero ts = tt
  WCompares (suc n) ts =
      after _ (joins n ts) _ (WJoins n ts) (λ a us h.
      within_pick _ (eqb (compare_sign us) 0) _ _ h
      (after _ (joins n (rest us)) _ (WJoins n (rest us)) (λ p vs k. omega (arith, rest_less us))))

  pub WJoins : (n : ℕ) (ts : List Token) → Within (length ts) (joins n ts)
  WJoins zero ts = tt
  WJoins (suc n) ts = after _ (sums n ts) _ (WSums n ts) (λ a us h. within_more _ _ (more_joins n a us) (omega arith) (WMoreJoins n a us))

  pub WMoreJoins : (n : ℕ) (a : Term) (ts : List Token) → Within (suc (length ts)) (more_joins n a ts)
  WMoreJoins zero a ts = tt
  WMoreJoins (suc n) a ts =
      within_pick _ (begins_joined ts) _ _
      (after _ (sums n ts) _ (WSums n ts) (λ b us h. within_more _ _ (more_joins n _ us) (omega arith) (WMoreJoins n _ us))) (omega arith)

  pub WUnary : (n : ℕ) (ts : List Token) → Within (length ts) (unary n ts)
  WUnary zero ts = tt
  WUnary (suc n) ts =
      within_pick _ (sees 33 ts) _ _ (after _ (unary n (rest ts)) _ (WUnary n (rest ts)) (λ b us h. omega (arith, rest_less ts)))
      (within_pick _ (sees 45 ts) _ _ (after _ (unary n (rest ts)) _ (WUnary n (rest ts)) (λ b us h. omega (arith, rest_less ts))) (WPrimary n ts))

  pub WPrimary : (n : ℕ) (ts : List Token) → Within (length ts) (primary n ts)
  WPrimary zero ts = tt
  WPrimary (suc n) [] = tt
  WPrimary (suc n) (number k ∷ ts) = omega arith
  WPrimary (suc n) (quoted b ∷ ts) = omega arith
  WPrimary (suc n) (sign d ∷ ts) =
      within_pick (suc (length ts)) (eqb d 40) _ _ (after (suc (length ts)) (term n ts) _ (WTerm n ts) (λ a2 v1 hv1. within_pick (suc (length ts)) (sees 41 v1) _ _ (let r3 : length (rest v1) ≤ length v1 = rest_less v1 in omega arith) tt))
      (within_pick (suc (length ts)) (eqb d 36) _ _ (after (suc (length ts)) (unary n ts) _ (WUnary n ts) (λ a us h. omega arith)) tt)
  WPrimary (suc n) (bad ∷ ts) = tt
  WPrimary (suc n) (word w ∷ ts) =
      within_pick (suc (length ts)) (same w w_length) _ _ (within_pick (suc (length ts)) (sees 40 ts) _ _ (let r4 : length (rest ts) ≤ length ts = rest_less ts in after (suc (length ts)) (term n (rest ts)) _ (WTerm n (rest ts)) (λ a6 v5 hv5. within_pick (suc (length ts)) (sees 41 v5) _ _ (let r7 : length (rest v5) ≤ length v5 = rest_less v5 in omega arith) tt)) tt)
      (within_pick (suc (length ts)) (same w w_upper) _ _ (within_pick (suc (length ts)) (sees 40 ts) _ _ (let r8 : length (rest ts) ≤ length ts = rest_less ts in after (suc (length ts)) (term n (rest ts)) _ (WTerm n (rest ts)) (λ a10 v9 hv9. within_pick (suc (length ts)) (sees 41 v9) _ _ (let r11 : length (rest v9) ≤ length v9 = rest_less v9 in omega arith) tt)) tt)
      (within_pick (suc (length ts)) (same w w_index) _ _ (within_pick (suc (length ts)) (sees 40 ts) _ _ (let r12 : length (rest ts) ≤ length ts = rest_less ts in after (suc (length ts)) (term n (rest ts)) _ (WTerm n (rest ts)) (λ a14 v13 hv13. within_pick (suc (length ts)) (sees 44 v13) _ _ (let r15 : length (rest v13) ≤ length v13 = rest_less v13 in after (suc (length ts)) (term n (rest v13)) _ (WTerm n (rest v13)) (λ a17 v16 hv16. within_pick (suc (length ts)) (sees 41 v16) _ _ (let r18 : length (rest v16) ≤ length v16 = rest_less v16 in omega arith) tt)) tt)) tt)
      (within_pick (suc (length ts)) (same w w_substr) _ _ (within_pick (suc (length ts)) (sees 40 ts) _ _ (let r19 : length (rest ts) ≤ length ts = rest_less ts in after (suc (length ts)) (term n (rest ts)) _ (WTerm n (rest ts)) (λ a21 v20 hv20. within_pick (suc (length ts)) (sees 44 v20) _ _ (let r22 : length (rest v20) ≤ length v20 = rest_less v20 in after (suc (length ts)) (term n (rest v20)) _ (WTerm n (rest v20)) (λ a24 v23 hv23. within_pick (suc (length ts)) (sees 44 v23) _ _ (let r25 : length (rest v23) ≤ length v23 = rest_less v23 in after (suc (length ts)) (term n (rest v23)) _ (WTerm n (rest v23)) (λ a27 v26 hv26. within_pick (suc (length ts)) (sees 41 v26) _ _ (let r28 : length (rest v26) ≤ length v26 = rest_less v26 in omega arith) tt)) tt)) tt)) tt)
      (within_pick (suc (length ts)) (same w w_split) _ _ (within_pick (suc (length ts)) (sees 40 ts) _ _ (let r29 : length (rest ts) ≤ length ts = rest_less ts in after (suc (length ts)) (term n (rest ts)) _ (WTerm n (rest ts)) (λ a31 v30 hv30. within_pick (suc (length ts)) (sees 44 v30) _ _ (let r32 : length (rest v30) ≤ length v30 = rest_less v30 in after (suc (length ts)) (name_of (rest v30)) _ (name_within (rest v30)) (λ a34 v33 hv33. within_pick (suc (length ts)) (sees 44 v33) _ _ (let r35 : length (rest v33) ≤ length v33 = rest_less v33 in after (suc (length ts)) (pattern_here (rest v33)) _ (pattern_within (rest v33)) (λ a37 v36 hv36. within_pick (suc (length ts)) (sees 41 v36) _ _ (let r38 : length (rest v36) ≤ length v36 = rest_less v36 in omega arith) tt)) tt)) tt)) tt)
      (within_pick (suc (length ts)) (same w w_swap) _ _ (within_pick (suc (length ts)) (sees 40 ts) _ _ (let r39 : length (rest ts) ≤ length ts = rest_less ts in after (suc (length ts)) (pattern_here (rest ts)) _ (pattern_within (rest ts)) (λ a41 v40 hv40. within_pick (suc (length ts)) (sees 44 v40) _ _ (let r42 : length (rest v40) ≤ length v40 = rest_less v40 in after (suc (length ts)) (term n (rest v40)) _ (WTerm n (rest v40)) (λ a44 v43 hv43. within_pick (suc (length ts)) (sees 44 v43) _ _ (let r45 : length (rest v43) ≤ length v43 = rest_less v43 in after (suc (length ts)) (term n (rest v43)) _ (WTerm n (rest v43)) (λ a47 v46 hv46. within_pick (suc (length ts)) (can_set a47) _ _ (within_pick (suc (length ts)) (sees 41 v46) _ _ (let r48 : length (rest v46) ≤ length v46 = rest_less v46 in omega arith) tt) tt)) tt)) tt)) tt)
      (within_pick (suc (length ts)) (kept_word w) _ _ tt
      (within_pick (suc (length ts)) (sees 91 ts) _ _ (let r0 : length (rest ts) ≤ length ts = rest_less ts in after (suc (length ts)) (term n (rest ts)) _ (WTerm n (rest ts)) (λ a50 v49 hv49. within_pick (suc (length ts)) (sees 93 v49) _ _ (let r51 : length (rest v49) ≤ length v49 = rest_less v49 in omega arith) tt))
      (within_pick (suc (length ts)) (sees 40 ts) _ _ (let r0 : length (rest ts) ≤ length ts = rest_less ts in
      (within_pick (suc (length ts)) (sees 41 (rest ts)) _ _ (omega (arith, rest_less (rest ts)))
      (after (suc (length ts)) (args n (rest ts)) _ (WArgs n (rest ts)) (λ xs us hus. within_pick (suc (length ts)) (sees 41 us) _ _ (let r52 : length (rest us) ≤ length us = rest_less us in omega arith) tt))))
      (omega arith)))))))))

  pub WArgs : (n : ℕ) (ts : List Token) → Within (length ts) (args n ts)
  WArgs zero ts = tt
  WArgs (suc n) ts =
      after _ (term n ts) _ (WTerm n ts) (λ a us h.
      within_pick _ (sees 44 us) _ _ (after _ (args n (rest us)) _ (WArgs n (rest us)) (λ xs vs k. omega (arith, rest_less us))) h)

-- ==== the same, however much fuel

mutual
  unfolding term ors more_ors ands more_ands likes compares joins more_joins sums more_sums products more_products unary primary args

  pub STerm : (n m : ℕ) (ts : List Token) → 16 * length ts + 10 ≤ n → 16 * length ts + 10 ≤ m → term n ts ≡ term m ts
  STerm zero m ts p q = absurd (omega arith)
  STerm (suc n) zero ts p q = absurd (omega arith)
  STerm (suc n) (suc m) ts p q =
      then_same (ors n ts) _ _ _ (WOrs n ts) (SOrs n m ts (omega arith) (omega arith)) (λ a2 v1 hv1. pick_same (sees 61 v1 && can_set a2) (let r5 : length (rest v1) ≤ length v1 = rest_less v1 in then_same (term n (rest v1)) _ _ _ (WTerm n (rest v1)) (STerm n m (rest v1) (omega arith) (omega arith)) (λ a4 v3 hv3. refl)) refl)

  pub SOrs : (n m : ℕ) (ts : List Token) → 16 * length ts + 9 ≤ n → 16 * length ts + 9 ≤ m → ors n ts ≡ ors m ts
  SOrs zero m ts p q = absurd (omega arith)
  SOrs (suc n) zero ts p q = absurd (omega arith)
  SOrs (suc n) (suc m) ts p q = then_same (ands n ts) _ _ _ (WAnds n ts) (SAnds n m ts (omega arith) (omega arith)) (λ a7 v6 hv6. SMoreOrs n m a7 v6 (omega arith) (omega arith))

  pub SMoreOrs : (n m : ℕ) (a : Term) (ts : List Token) → 16 * length ts + 9 ≤ n → 16 * length ts + 9 ≤ m → more_ors n a ts ≡ more_ors m a ts
  SMoreOrs zero m a ts p q = absurd (omega arith)
  SMoreOrs (suc n) zero a ts p q = absurd (omega arith)
  SMoreOrs (suc n) (suc m) a ts p q =
      pick_same (sees 6 ts) (let r10 : length (rest ts) ≤ length ts = rest_less ts in then_same (ands n (rest ts)) _ _ _ (WAnds n (rest ts)) (SAnds n m (rest ts) (omega arith) (omega arith)) (λ a9 v8 hv8. SMoreOrs n m _ v8 (omega arith) (omega arith)))
      refl

  pub SAnds : (n m : ℕ) (ts : List Token) → 16 * length ts + 8 ≤ n → 16 * length ts + 8 ≤ m → ands n ts ≡ ands m ts
  SAnds zero m ts p q = absurd (omega arith)
  SAnds (suc n) zero ts p q = absurd (omega arith)
  SAnds (suc n) (suc m) ts p q = then_same (likes n ts) _ _ _ (WLikes n ts) (SLikes n m ts (omega arith) (omega arith)) (λ a12 v11 hv11. SMoreAnds n m a12 v11 (omega arith) (omega arith))

  pub SMoreAnds : (n m : ℕ) (a : Term) (ts : List Token) → 16 * length ts + 8 ≤ n → 16 * length ts + 8 ≤ m → more_ands n a ts ≡ more_ands m a ts
  SMoreAnds zero m a ts p q = absurd (omega arith)
  SMoreAnds (suc n) zero a ts p q = absurd (omega arith)
  SMoreAnds (suc n) (suc m) a ts p q =
      pick_same (sees 5 ts) (let r15 : length (rest ts) ≤ length ts = rest_less ts in then_same (likes n (rest ts)) _ _ _ (WLikes n (rest ts)) (SLikes n m (rest ts) (omega arith) (omega arith)) (λ a14 v13 hv13. SMoreAnds n m _ v13 (omega arith) (omega arith)))
      refl

  pub SSums : (n m : ℕ) (ts : List Token) → 16 * length ts + 4 ≤ n → 16 * length ts + 4 ≤ m → sums n ts ≡ sums m ts
  SSums zero m ts p q = absurd (omega arith)
  SSums (suc n) zero ts p q = absurd (omega arith)
  SSums (suc n) (suc m) ts p q = then_same (products n ts) _ _ _ (WProducts n ts) (SProducts n m ts (omega arith) (omega arith)) (λ a17 v16 hv16. SMoreSums n m a17 v16 (omega arith) (omega arith))

  pub SMoreSums : (n m : ℕ) (a : Term) (ts : List Token) → 16 * length ts + 4 ≤ n → 16 * length ts + 4 ≤ m → more_sums n a ts ≡ more_sums m a ts
  SMoreSums zero m a ts p q = absurd (omega arith)
  SMoreSums (suc n) zero a ts p q = absurd (omega arith)
  SMoreSums (suc n) (suc m) a ts p q =
      pick_same (sees 43 ts) (let r23 : length (rest ts) ≤ length ts = rest_less ts in then_same (products n (rest ts)) _ _ _ (WProducts n (rest ts)) (SProducts n m (rest ts) (omega arith) (omega arith)) (λ a22 v21 hv21. SMoreSums n m _ v21 (omega arith) (omega arith)))
      (pick_same (sees 45 ts) (let r20 : length (rest ts) ≤ length ts = rest_less ts in then_same (products n (rest ts)) _ _ _ (WProducts n (rest ts)) (SProducts n m (rest ts) (omega arith) (omega arith)) (λ a19 v18 hv18. SMoreSums n m _ v18 (omega arith) (omega arith)))
      refl)

  pub SProducts : (n m : ℕ) (ts : List Token) → 16 * length ts + 3 ≤ n → 16 * length ts + 3 ≤ m → products n ts ≡ products m ts
  SProducts zero m ts p q = absurd (omega arith)
  SProducts (suc n) zero ts p q = absurd (omega arith)
  SProducts (suc n) (suc m) ts p q = then_same (unary n ts) _ _ _ (WUnary n ts) (SUnary n m ts (omega arith) (omega arith)) (λ a25 v24 hv24. SMoreProducts n m a25 v24 (omega arith) (omega arith))

  pub SMoreProducts : (n m : ℕ) (a : Term) (ts : List Token) → 16 * length ts + 3 ≤ n → 16 * length ts + 3 ≤ m → more_products n a ts ≡ more_products m a ts
  SMoreProducts zero m a ts p q = absurd (omega arith)
  SMoreProducts (suc n) zero a ts p q = absurd (omega arith)
  SMoreProducts (suc n) (suc m) a ts p q =
      pick_same (sees 42 ts) (let r34 : length (rest ts) ≤ length ts = rest_less ts in then_same (unary n (rest ts)) _ _ _ (WUnary n (rest ts)) (SUnary n m (rest ts) (omega arith) (omega arith)) (λ a33 v32 hv32. SMoreProducts n m _ v32 (omega arith) (omega arith)))
      (pick_same (sees 47 ts) (let r31 : length (rest ts) ≤ length ts = rest_less ts in then_same (unary n (rest ts)) _ _ _ (WUnary n (rest ts)) (SUnary n m (rest ts) (omega arith) (omega arith)) (λ a30 v29 hv29. SMoreProducts n m _ v29 (omega arith) (omega arith)))
      (pick_same (sees 37 ts) (let r28 : length (rest ts) ≤ length ts = rest_less ts in then_same (unary n (rest ts)) _ _ _ (WUnary n (rest ts)) (SUnary n m (rest ts) (omega arith) (omega arith)) (λ a27 v26 hv26. SMoreProducts n m _ v26 (omega arith) (omega arith)))
      refl))

  pub SLikes : (n m : ℕ) (ts : List Token) → 16 * length ts + 7 ≤ n → 16 * length ts + 7 ≤ m → likes n ts ≡ likes m ts
  SLikes zero m ts p q = absurd (omega arith)
  SLikes (suc n) zero ts p q = absurd (omega arith)
  SLikes (suc n) (suc m) ts p q = then_same (compares n ts) _ _ _ (WCompares n ts) (SCompares n m ts (omega arith) (omega arith)) (λ a36 v35 hv35. refl)

  pub SCompares : (n m : ℕ) (ts : List Token) → 16 * length ts + 6 ≤ n → 16 * length ts + 6 ≤ m → compares n ts ≡ compares m ts
  SCompares zero m ts p q = absurd (omega arith)
  SCompares (suc n) zero ts p q = absurd (omega arith)
  SCompares (suc n) (suc m) ts p q =
      then_same (joins n ts) _ _ _ (WJoins n ts) (SJoins n m ts (omega arith) (omega arith)) (λ a38 v37 hv37. pick_same (eqb (compare_sign v37) 0) refl (let r41 : length (rest v37) ≤ length v37 = rest_less v37 in then_same (joins n (rest v37)) _ _ _ (WJoins n (rest v37)) (SJoins n m (rest v37) (omega arith) (omega arith)) (λ a40 v39 hv39. refl)))

  pub SJoins : (n m : ℕ) (ts : List Token) → 16 * length ts + 5 ≤ n → 16 * length ts + 5 ≤ m → joins n ts ≡ joins m ts
  SJoins zero m ts p q = absurd (omega arith)
  SJoins (suc n) zero ts p q = absurd (omega arith)
  SJoins (suc n) (suc m) ts p q = then_same (sums n ts) _ _ _ (WSums n ts) (SSums n m ts (omega arith) (omega arith)) (λ a43 v42 hv42. SMoreJoins n m a43 v42 (omega arith) (omega arith))

  pub SMoreJoins : (n m : ℕ) (a : Term) (ts : List Token) → 16 * length ts + 5 ≤ n → 16 * length ts + 5 ≤ m → more_joins n a ts ≡ more_joins m a ts
  SMoreJoins zero m a ts p q = absurd (omega arith)
  SMoreJoins (suc n) zero a ts p q = absurd (omega arith)
  SMoreJoins (suc n) (suc m) a ts p q = pick_same (begins_joined ts) (then_same (sums n ts) _ _ _ (WSums n ts) (SSums n m ts (omega arith) (omega arith)) (λ a45 v44 hv44. SMoreJoins n m _ v44 (omega arith) (omega arith))) refl

  pub SUnary : (n m : ℕ) (ts : List Token) → 16 * length ts + 2 ≤ n → 16 * length ts + 2 ≤ m → unary n ts ≡ unary m ts
  SUnary zero m ts p q = absurd (omega arith)
  SUnary (suc n) zero ts p q = absurd (omega arith)
  SUnary (suc n) (suc m) [] p q = SPrimary n m [] (omega arith) (omega arith)
  SUnary (suc n) (suc m) (t ∷ ts) p q =
      pick_same (is_sign 33 t) (then_same (unary n ts) _ _ _ (WUnary n ts) (SUnary n m ts (omega arith) (omega arith)) (λ a47 v46 hv46. refl)) (pick_same (is_sign 45 t) (then_same (unary n ts) _ _ _ (WUnary n ts) (SUnary n m ts (omega arith) (omega arith)) (λ a49 v48 hv48. refl)) (SPrimary n m (t ∷ ts) (omega arith) (omega arith)))

  pub SPrimary : (n m : ℕ) (ts : List Token) → 16 * length ts + 1 ≤ n → 16 * length ts + 1 ≤ m → primary n ts ≡ primary m ts
  SPrimary zero m ts p q = absurd (omega arith)
  SPrimary (suc n) zero ts p q = absurd (omega arith)
  SPrimary (suc n) (suc m) [] p q = refl
  SPrimary (suc n) (suc m) (number k ∷ ts) p q = refl
  SPrimary (suc n) (suc m) (quoted b ∷ ts) p q = refl
  SPrimary (suc n) (suc m) (sign d ∷ ts) p q = pick_same (eqb d 40) (then_same (term n ts) _ _ _ (WTerm n ts) (STerm n m ts (omega arith) (omega arith)) (λ a51 v50 hv50. refl)) (pick_same (eqb d 36) (then_same (unary n ts) _ _ _ (WUnary n ts) (SUnary n m ts (omega arith) (omega arith)) (λ a53 v52 hv52. refl)) refl)
  SPrimary (suc n) (suc m) (bad ∷ ts) p q = refl
  SPrimary (suc n) (suc m) (word w ∷ ts) p q =
      pick_same (same w w_length) (pick_same (sees 40 ts) (let r56 : length (rest ts) ≤ length ts = rest_less ts in then_same (term n (rest ts)) _ _ _ (WTerm n (rest ts)) (STerm n m (rest ts) (omega arith) (omega arith)) (λ a55 v54 hv54. refl)) refl)
      (pick_same (same w w_upper) (pick_same (sees 40 ts) (let r59 : length (rest ts) ≤ length ts = rest_less ts in then_same (term n (rest ts)) _ _ _ (WTerm n (rest ts)) (STerm n m (rest ts) (omega arith) (omega arith)) (λ a58 v57 hv57. refl)) refl)
      (pick_same (same w w_index) (pick_same (sees 40 ts) (let r65 : length (rest ts) ≤ length ts = rest_less ts in then_same (term n (rest ts)) _ _ _ (WTerm n (rest ts)) (STerm n m (rest ts) (omega arith) (omega arith)) (λ a61 v60 hv60. pick_same (sees 44 v60) (let r64 : length (rest v60) ≤ length v60 = rest_less v60 in then_same (term n (rest v60)) _ _ _ (WTerm n (rest v60)) (STerm n m (rest v60) (omega arith) (omega arith)) (λ a63 v62 hv62. refl)) refl)) refl)
      (pick_same (same w w_substr) (pick_same (sees 40 ts) (let r74 : length (rest ts) ≤ length ts = rest_less ts in then_same (term n (rest ts)) _ _ _ (WTerm n (rest ts)) (STerm n m (rest ts) (omega arith) (omega arith)) (λ a67 v66 hv66. pick_same (sees 44 v66) (let r73 : length (rest v66) ≤ length v66 = rest_less v66 in then_same (term n (rest v66)) _ _ _ (WTerm n (rest v66)) (STerm n m (rest v66) (omega arith) (omega arith)) (λ a69 v68 hv68. pick_same (sees 44 v68) (let r72 : length (rest v68) ≤ length v68 = rest_less v68 in then_same (term n (rest v68)) _ _ _ (WTerm n (rest v68)) (STerm n m (rest v68) (omega arith) (omega arith)) (λ a71 v70 hv70. refl)) refl)) refl)) refl)
      (pick_same (same w w_split) (pick_same (sees 40 ts) (let r77 : length (rest ts) ≤ length ts = rest_less ts in then_same (term n (rest ts)) _ _ _ (WTerm n (rest ts)) (STerm n m (rest ts) (omega arith) (omega arith)) (λ a76 v75 hv75. refl)) refl)
      (pick_same (same w w_swap) (pick_same (sees 40 ts) (let r86 : length (rest ts) ≤ length ts = rest_less ts in then_same (pattern_here (rest ts)) _ _ _ (pattern_within (rest ts)) refl (λ a79 v78 hv78. pick_same (sees 44 v78) (let r85 : length (rest v78) ≤ length v78 = rest_less v78 in then_same (term n (rest v78)) _ _ _ (WTerm n (rest v78)) (STerm n m (rest v78) (omega arith) (omega arith)) (λ a81 v80 hv80. pick_same (sees 44 v80) (let r84 : length (rest v80) ≤ length v80 = rest_less v80 in then_same (term n (rest v80)) _ _ _ (WTerm n (rest v80)) (STerm n m (rest v80) (omega arith) (omega arith)) (λ a83 v82 hv82. refl)) refl)) refl)) refl)
      (pick_same (kept_word w) refl
      (pick_same (sees 91 ts) (let r89 : length (rest ts) ≤ length ts = rest_less ts in then_same (term n (rest ts)) _ _ _ (WTerm n (rest ts)) (STerm n m (rest ts) (omega arith) (omega arith)) (λ a88 v87 hv87. refl))
      (pick_same (sees 40 ts) (pick_same (sees 41 (rest ts)) refl (let r92 : length (rest ts) ≤ length ts = rest_less ts in then_same (args n (rest ts)) _ _ _ (WArgs n (rest ts)) (SArgs n m (rest ts) (omega arith) (omega arith)) (λ a91 v90 hv90. refl))) refl))))))))

  pub SArgs : (n m : ℕ) (ts : List Token) → 16 * length ts + 11 ≤ n → 16 * length ts + 11 ≤ m → args n ts ≡ args m ts
  SArgs zero m ts p q = absurd (omega arith)
  SArgs (suc n) zero ts p q = absurd (omega arith)
  SArgs (suc n) (suc m) ts p q = then_same (term n ts) _ _ _ (WTerm n ts) (STerm n m ts (omega arith) (omega arith)) (λ a94 v93 hv93. pick_same (sees 44 v93) (let r97 : length (rest v93) ≤ length v93 = rest_less v93 in then_same (args n (rest v93)) _ _ _ (WArgs n (rest v93)) (SArgs n m (rest v93) (omega arith) (omega arith)) (λ a96 v95 hv95. refl)) refl)
