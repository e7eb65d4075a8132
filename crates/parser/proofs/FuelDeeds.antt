-- The fuel of the grammar for deeds and programs is always enough, too.
use Rattle.std.proofs.Common.{◌≡◌, ℕ, zero, suc, ◌+◌, ◌*◌, ◌≤◌, List, [], ◌∷◌, length, refl, ap, arith}
use Rattle.language.specs.Program.{Token, with_got, Reads, sees, sees_word, rest, is_sign, is_word, name_of, w_in, w_if, w_else, w_while, w_for, w_print, w_next, w_exit, w_return, w_delete, w_function, w_begin, w_end, term, args, deed, block, names, params_of, program}
use Rattle.lexer.proofs.Within.{Within, within_pick, within_more, after, then_same}
use Rattle.parser.proofs.Fuel.{rest_less, name_within, WTerm, WArgs, STerm, SArgs}
use Rattle.lexer.proofs.Picks.{pick_same}

mutual
  unfolding deed block

  pub WDeed : (n : ℕ) (ts : List Token) → Within (length ts) (deed n ts)
  WDeed zero ts = tt
  WDeed (suc n) [] = after 0 (term n []) _ (WTerm n []) (λ a us h. absurd (omega arith))
  WDeed (suc n) (t ∷ ts) =
      within_pick (suc (length ts)) (is_sign 123 t) _ _ (within_more _ _ (block n ts) (omega arith) (WBlock n ts))
      (within_pick (suc (length ts)) (is_word w_if t) _ _ (within_pick (suc (length ts)) (sees 40 ts) _ _ (let r9 : length (rest ts) ≤ length ts = rest_less ts in after (suc (length ts)) (term n (rest ts)) _ (WTerm n (rest ts)) (λ a2 v1 hv1. within_pick (suc (length ts)) (sees 41 v1) _ _ (let r8 : length (rest v1) ≤ length v1 = rest_less v1 in after (suc (length ts)) (deed n (rest v1)) _ (WDeed n (rest v1)) (λ a4 v3 hv3. within_pick (suc (length ts)) (sees_word w_else v3) _ _ (let r7 : length (rest v3) ≤ length v3 = rest_less v3 in after (suc (length ts)) (deed n (rest v3)) _ (WDeed n (rest v3)) (λ a6 v5 hv5. omega arith)) (omega arith))) tt)) tt)
      (within_pick (suc (length ts)) (is_word w_while t) _ _ (within_pick (suc (length ts)) (sees 40 ts) _ _ (let r15 : length (rest ts) ≤ length ts = rest_less ts in after (suc (length ts)) (term n (rest ts)) _ (WTerm n (rest ts)) (λ a11 v10 hv10. within_pick (suc (length ts)) (sees 41 v10) _ _ (let r14 : length (rest v10) ≤ length v10 = rest_less v10 in after (suc (length ts)) (deed n (rest v10)) _ (WDeed n (rest v10)) (λ a13 v12 hv12. omega arith)) tt)) tt)
      (within_pick (suc (length ts)) (is_word w_for t) _ _ (within_pick (suc (length ts)) (sees 40 ts) _ _ (let r24 : length (rest ts) ≤ length ts = rest_less ts in after (suc (length ts)) (name_of (rest ts)) _ (name_within (rest ts)) (λ a17 v16 hv16. within_pick (suc (length ts)) (sees_word w_in v16) _ _ (let r23 : length (rest v16) ≤ length v16 = rest_less v16 in after (suc (length ts)) (name_of (rest v16)) _ (name_within (rest v16)) (λ a19 v18 hv18. within_pick (suc (length ts)) (sees 41 v18) _ _ (let r22 : length (rest v18) ≤ length v18 = rest_less v18 in after (suc (length ts)) (deed n (rest v18)) _ (WDeed n (rest v18)) (λ a21 v20 hv20. omega arith)) tt)) tt)) tt)
      (within_pick (suc (length ts)) (is_word w_print t) _ _ (within_pick (suc (length ts)) (sees 59 ts) _ _ (within_pick (suc (length ts)) (sees 59 ts) _ _ (let r25 : length (rest ts) ≤ length ts = rest_less ts in omega arith) tt) (after (suc (length ts)) (args n ts) _ (WArgs n ts) (λ a27 v26 hv26. within_pick (suc (length ts)) (sees 59 v26) _ _ (let r28 : length (rest v26) ≤ length v26 = rest_less v26 in omega arith) tt)))
      (within_pick (suc (length ts)) (is_word w_next t) _ _ (within_pick (suc (length ts)) (sees 59 ts) _ _ (let r29 : length (rest ts) ≤ length ts = rest_less ts in omega arith) tt)
      (within_pick (suc (length ts)) (is_word w_exit t) _ _ (within_pick (suc (length ts)) (sees 59 ts) _ _ (within_pick (suc (length ts)) (sees 59 ts) _ _ (let r30 : length (rest ts) ≤ length ts = rest_less ts in omega arith) tt) (after (suc (length ts)) (term n ts) _ (WTerm n ts) (λ a32 v31 hv31. within_pick (suc (length ts)) (sees 59 v31) _ _ (let r33 : length (rest v31) ≤ length v31 = rest_less v31 in omega arith) tt)))
      (within_pick (suc (length ts)) (is_word w_return t) _ _ (within_pick (suc (length ts)) (sees 59 ts) _ _ (within_pick (suc (length ts)) (sees 59 ts) _ _ (let r34 : length (rest ts) ≤ length ts = rest_less ts in omega arith) tt) (after (suc (length ts)) (term n ts) _ (WTerm n ts) (λ a36 v35 hv35. within_pick (suc (length ts)) (sees 59 v35) _ _ (let r37 : length (rest v35) ≤ length v35 = rest_less v35 in omega arith) tt)))
      (within_pick (suc (length ts)) (is_word w_delete t) _ _ (after (suc (length ts)) (name_of ts) _ (name_within ts) (λ a39 v38 hv38. within_pick (suc (length ts)) (sees 91 v38) _ _ (let r44 : length (rest v38) ≤ length v38 = rest_less v38 in after (suc (length ts)) (term n (rest v38)) _ (WTerm n (rest v38)) (λ a41 v40 hv40. within_pick (suc (length ts)) (sees 93 v40) _ _ (let r43 : length (rest v40) ≤ length v40 = rest_less v40 in within_pick (suc (length ts)) (sees 59 (rest v40)) _ _ (let r42 : length (rest (rest v40)) ≤ length (rest v40) = rest_less (rest v40) in omega arith) tt) tt)) tt))
      (after (suc (length ts)) (term n (t ∷ ts)) _ (WTerm n (t ∷ ts)) (λ a46 v45 hv45. within_pick (suc (length ts)) (sees 59 v45) _ _ (let r47 : length (rest v45) ≤ length v45 = rest_less v45 in omega arith) tt))))))))))

  pub WBlock : (n : ℕ) (ts : List Token) → Within (length ts) (block n ts)
  WBlock zero ts = tt
  WBlock (suc n) [] = after 0 (deed n []) _ (WDeed n []) (λ a us h. absurd (omega arith))
  WBlock (suc n) (t ∷ ts) =
      within_pick (suc (length ts)) (is_sign 125 t) _ _ (omega arith)
      (after (suc (length ts)) (deed n (t ∷ ts)) _ (WDeed n (t ∷ ts)) (λ a49 v48 hv48. after (suc (length ts)) (block n v48) _ (WBlock n v48) (λ a51 v50 hv50. omega arith)))

mutual
  unfolding deed block

  pub SDeed : (n m : ℕ) (ts : List Token) → 16 * length ts + 12 ≤ n → 16 * length ts + 12 ≤ m → deed n ts ≡ deed m ts
  SDeed zero m ts p q = absurd (omega arith)
  SDeed (suc n) zero ts p q = absurd (omega arith)
  SDeed (suc n) (suc m) [] p q = then_same (term n []) _ _ _ (WTerm n []) (STerm n m [] (omega arith) (omega arith)) (λ a53 v52 hv52. refl)
  SDeed (suc n) (suc m) (t ∷ ts) p q =
      pick_same (is_sign 123 t) (SBlock n m ts (omega arith) (omega arith))
      (pick_same (is_word w_if t) (pick_same (sees 40 ts) (let r62 : length (rest ts) ≤ length ts = rest_less ts in then_same (term n (rest ts)) _ _ _ (WTerm n (rest ts)) (STerm n m (rest ts) (omega arith) (omega arith)) (λ a55 v54 hv54. pick_same (sees 41 v54) (let r61 : length (rest v54) ≤ length v54 = rest_less v54 in then_same (deed n (rest v54)) _ _ _ (WDeed n (rest v54)) (SDeed n m (rest v54) (omega arith) (omega arith)) (λ a57 v56 hv56. pick_same (sees_word w_else v56) (let r60 : length (rest v56) ≤ length v56 = rest_less v56 in then_same (deed n (rest v56)) _ _ _ (WDeed n (rest v56)) (SDeed n m (rest v56) (omega arith) (omega arith)) (λ a59 v58 hv58. refl)) refl)) refl)) refl)
      (pick_same (is_word w_while t) (pick_same (sees 40 ts) (let r68 : length (rest ts) ≤ length ts = rest_less ts in then_same (term n (rest ts)) _ _ _ (WTerm n (rest ts)) (STerm n m (rest ts) (omega arith) (omega arith)) (λ a64 v63 hv63. pick_same (sees 41 v63) (let r67 : length (rest v63) ≤ length v63 = rest_less v63 in then_same (deed n (rest v63)) _ _ _ (WDeed n (rest v63)) (SDeed n m (rest v63) (omega arith) (omega arith)) (λ a66 v65 hv65. refl)) refl)) refl)
      (pick_same (is_word w_for t) (pick_same (sees 40 ts) (let r77 : length (rest ts) ≤ length ts = rest_less ts in then_same (name_of (rest ts)) _ _ _ (name_within (rest ts)) refl (λ a70 v69 hv69. pick_same (sees_word w_in v69) (let r76 : length (rest v69) ≤ length v69 = rest_less v69 in then_same (name_of (rest v69)) _ _ _ (name_within (rest v69)) refl (λ a72 v71 hv71. pick_same (sees 41 v71) (let r75 : length (rest v71) ≤ length v71 = rest_less v71 in then_same (deed n (rest v71)) _ _ _ (WDeed n (rest v71)) (SDeed n m (rest v71) (omega arith) (omega arith)) (λ a74 v73 hv73. refl)) refl)) refl)) refl)
      (pick_same (is_word w_print t) (pick_same (sees 59 ts) refl (then_same (args n ts) _ _ _ (WArgs n ts) (SArgs n m ts (omega arith) (omega arith)) (λ a79 v78 hv78. refl)))
      (pick_same (is_word w_next t) (refl)
      (pick_same (is_word w_exit t) (pick_same (sees 59 ts) refl (then_same (term n ts) _ _ _ (WTerm n ts) (STerm n m ts (omega arith) (omega arith)) (λ a81 v80 hv80. refl)))
      (pick_same (is_word w_return t) (pick_same (sees 59 ts) refl (then_same (term n ts) _ _ _ (WTerm n ts) (STerm n m ts (omega arith) (omega arith)) (λ a83 v82 hv82. refl)))
      (pick_same (is_word w_delete t) (then_same (name_of ts) _ _ _ (name_within ts) refl (λ a85 v84 hv84. pick_same (sees 91 v84) (let r89 : length (rest v84) ≤ length v84 = rest_less v84 in then_same (term n (rest v84)) _ _ _ (WTerm n (rest v84)) (STerm n m (rest v84) (omega arith) (omega arith)) (λ a87 v86 hv86. pick_same (sees 93 v86) (let r88 : length (rest v86) ≤ length v86 = rest_less v86 in refl) refl)) refl))
      (then_same (term n (t ∷ ts)) _ _ _ (WTerm n (t ∷ ts)) (STerm n m (t ∷ ts) (omega arith) (omega arith)) (λ a91 v90 hv90. refl))))))))))

  pub SBlock : (n m : ℕ) (ts : List Token) → 16 * length ts + 13 ≤ n → 16 * length ts + 13 ≤ m → block n ts ≡ block m ts
  SBlock zero m ts p q = absurd (omega arith)
  SBlock (suc n) zero ts p q = absurd (omega arith)
  SBlock (suc n) (suc m) [] p q = then_same (deed n []) _ _ _ (WDeed n []) (SDeed n m [] (omega arith) (omega arith)) (λ a93 v92 hv92. absurd (omega arith))
  SBlock (suc n) (suc m) (t ∷ ts) p q = pick_same (is_sign 125 t) refl (then_same (deed n (t ∷ ts)) _ _ _ (WDeed n (t ∷ ts)) (SDeed n m (t ∷ ts) (omega arith) (omega arith)) (λ a95 v94 hv94. then_same (block n v94) _ _ _ (WBlock n v94) (SBlock n m v94 (omega arith) (omega arith)) (λ a97 v96 hv96. refl)))

pub WNames : (n : ℕ) (ts : List Token) → Within (length ts) (names n ts)
unfolding names
WNames zero ts = tt
WNames (suc n) ts =
    after _ (name_of ts) _ (name_within ts) (λ x us h.
    within_pick _ (sees 44 us) _ _ (after _ (names n (rest us)) _ (WNames n (rest us)) (λ xs vs k. omega (arith, rest_less us))) h)

pub SNames : (n m : ℕ) (ts : List Token) → 16 * length ts + 1 ≤ n → 16 * length ts + 1 ≤ m → names n ts ≡ names m ts
unfolding names
SNames zero m ts p q = absurd (omega arith)
SNames (suc n) zero ts p q = absurd (omega arith)
SNames (suc n) (suc m) ts p q = then_same (name_of ts) _ _ _ (name_within ts) refl (λ a99 v98 hv98. pick_same (sees 44 v98) (let r102 : length (rest v98) ≤ length v98 = rest_less v98 in then_same (names n (rest v98)) _ _ _ (WNames n (rest v98)) (SNames n m (rest v98) (omega arith) (omega arith)) (λ a101 v100 hv100. refl)) refl)

params_within : (n : ℕ) (ts : List Token) → Within (suc (length ts)) (params_of n ts)
params_within n ts = within_pick _ (sees 41 ts) _ _ (omega arith) (within_more _ _ (names n ts) (omega arith) (WNames n ts))

then_only : {A B : Type 0} (g h : Reads A) (f : A → List Token → Reads B) → g ≡ h → with_got g f ≡ with_got h f
then_only g h f p = ap (λ x. with_got x f) p

pub SProgram : (n m : ℕ) (ts : List Token) → 16 * length ts + 16 ≤ n → 16 * length ts + 16 ≤ m → program n ts ≡ program m ts
unfolding program
SProgram zero m ts p q = absurd (omega arith)
SProgram (suc n) zero ts p q = absurd (omega arith)
SProgram (suc n) (suc m) [] p q = refl
SProgram (suc n) (suc m) (t ∷ ts) p q =
    pick_same (is_word w_function t) (then_same (name_of ts) _ _ _ (name_within ts) refl (λ a104 v103 hv103. pick_same (sees 40 v103) (let r109 : length (rest v103) ≤ length v103 = rest_less v103 in then_same (params_of n (rest v103)) _ _ _ (params_within n (rest v103)) (pick_same (sees 41 (rest v103)) refl (SNames n m (rest v103) (omega arith) (omega arith))) (λ ps ws hws. pick_same (sees 41 ws) (let r108 : length (rest ws) ≤ length ws = rest_less ws in pick_same (sees 123 (rest ws)) (let r107 : length (rest (rest ws)) ≤ length (rest ws) = rest_less (rest ws) in then_same (block n (rest (rest ws))) _ _ _ (WBlock n (rest (rest ws))) (SBlock n m (rest (rest ws)) (omega arith) (omega arith)) (λ a106 v105 hv105. then_only (program n v105) (program m v105) _ (SProgram n m v105 (omega arith) (omega arith)))) refl) refl)) refl))
    (pick_same (is_word w_begin t) (pick_same (sees 123 ts) (let r112 : length (rest ts) ≤ length ts = rest_less ts in then_same (block n (rest ts)) _ _ _ (WBlock n (rest ts)) (SBlock n m (rest ts) (omega arith) (omega arith)) (λ a111 v110 hv110. then_only (program n v110) (program m v110) _ (SProgram n m v110 (omega arith) (omega arith)))) refl)
    (pick_same (is_word w_end t) (pick_same (sees 123 ts) (let r115 : length (rest ts) ≤ length ts = rest_less ts in then_same (block n (rest ts)) _ _ _ (WBlock n (rest ts)) (SBlock n m (rest ts) (omega arith) (omega arith)) (λ a114 v113 hv113. then_only (program n v113) (program m v113) _ (SProgram n m v113 (omega arith) (omega arith)))) refl)
    (pick_same (is_sign 123 t) (then_same (block n ts) _ _ _ (WBlock n ts) (SBlock n m ts (omega arith) (omega arith)) (λ a117 v116 hv116. then_only (program n v116) (program m v116) _ (SProgram n m v116 (omega arith) (omega arith))))
    (then_same (term n (t ∷ ts)) _ _ _ (WTerm n (t ∷ ts)) (STerm n m (t ∷ ts) (omega arith) (omega arith)) (λ a119 v118 hv118. pick_same (sees 123 v118) (let r122 : length (rest v118) ≤ length v118 = rest_less v118 in then_same (block n (rest v118)) _ _ _ (WBlock n (rest v118)) (SBlock n m (rest v118) (omega arith) (omega arith)) (λ a121 v120 hv120. then_only (program n v120) (program m v120) _ (SProgram n m v120 (omega arith) (omega arith)))) refl)))))

-- what reads gives is what the grammar gives with any more fuel
pub fuel_enough : (k : ℕ) (ts : List Token) → program (16 * length ts + 16 + k) ts ≡ program (16 * length ts + 16) ts
fuel_enough k ts = SProgram (16 * length ts + 16 + k) (16 * length ts + 16) ts (omega arith) (omega arith)
