-- A program that is read weighs no more than the tokens that it is read from: by going over the functions of the grammar.
use Rattle.std.proofs.Common.{◌≡◌, ℕ, zero, suc, ◌+◌, ◌*◌, ◌≤◌, Bool, true, false, ◌&&◌, eqb, List, [], ◌∷◌, length, sym, refl, subst, arith}
use Rattle.language.specs.Text.{pick, same, added_up, plus, text, Pattern}
use Rattle.language.specs.Program.{Token, word, number, quoted, sign, bad, none, got, with_got, Reads, sees, sees_word, rest, is_sign, is_word, Term, Terms, num, txt, var, item, field, un, bin, like, there, put_in, call, part, split, swap, no_terms, term_and, Deed, Deeds, no_deeds, deed_and, joined_deeds, term, ors, more_ors, ands, more_ands, likes, compares, joins, more_joins, sums, more_sums, products, more_products, unary, primary, args, deed, block, closed, name_of, kept_word, pattern_here, first_pattern, pattern_of, can_set, compare_sign, begins_joined, w_in, w_if, w_else, w_while, w_for, w_print, w_next, w_exit, w_return, w_delete, w_length, w_upper, w_index, w_substr, w_split, w_swap, w_function, w_begin, w_end, Program, names, params_of, program, whole_program, cut_up, reads}
use Rattle.semantics.specs.Code.{count, save_code, swap_code}
use Rattle.assembly.specs.Assembly.{op_get_field, op_set_field, op_one, op_two, op_fail, op_drop, op_print_line, op_print_values, op_leave_line, op_exit, shape}
use Rattle.assembly.proofs.Pools.{no}
use Rattle.assembly.proofs.Weights.{Weights, weight, decided_weight, term_weight, key_weight, terms_weight, print_weight, deed_weight, deeds_weight, rule_weight, function_weight, program_weight}

-- whatever is read
pub data All {A : Type 0} (P : A → List Token → Type 0) : Reads A → Type 0 where
  all_none : All P none
  all_got : {a : A} {ts : List Token} → P a ts → All P (got a ts)

all_with : {A B : Type 0} {P : A → List Token → Type 0} {Q : B → List Token → Type 0} {g : Reads A} (f : A → List Token → Reads B) →
    All P g → ((a : A) (us : List Token) → P a us → All Q (f a us)) → All Q (with_got g f)
all_with f all_none h = all_none
all_with f (all_got {a} {ts} p) h = h a ts p

-- the same, known to more
all_with' : {A : Type 0} {P Q : A → List Token → Type 0} {g : Reads A} → All P g → ((a : A) (us : List Token) → P a us → Q a us) → All Q g
all_with' all_none h = all_none
all_with' (all_got {a} {ts} p) h = all_got (h a ts p)

all_pick : {A : Type 0} {Q : A → List Token → Type 0} (b : Bool) {x y : Reads A} → All Q x → All Q y → All Q (pick b x y)
all_pick true p q = p
all_pick false p q = q

-- so much to spare for each of some terms
abbrev pub spare : ℕ → Terms → ℕ
spare s no_terms = 0
spare s (term_and t ts) = s + spare s ts

-- Tokens of at least m, of which each constant and each name leaves s to spare; what else there is weighs at most s, and or and and at most both.
pub record Bounds (W : Weights) (s m : ℕ) (tok : Token → ℕ) : Type 0 where
  pub tokens : (t : Token) → m ≤ tok t
  pub numbers : (n : ℕ) → W.lit (plus n) + s ≤ tok (number n)
  pub texts : (b : List ℕ) → W.lit (text b) + s ≤ tok (quoted b)
  pub words : (w : List ℕ) → W.name w + s ≤ tok (word w)
  pub prints : (ts : Terms) → W.op (op_print_values (suc (count ts))) ≤ s + spare s ts + m + m
  pub twos : (k : ℕ) → 2 ≤ k → k ≤ 14 → W.op (op_two k) ≤ s
  pub small : s ≤ m
  pub going : W.going ≤ s
  pub outer : W.outer ≤ s
  pub or_weight : decided_weight W 1 ≤ s + m
  pub and_weight : decided_weight W 0 ≤ s + m
  pub zero_weight : W.lit (plus 0) ≤ m
  pub empty_weight : W.lit (text []) ≤ m
  pub not_weight : W.op (op_one 0) ≤ s
  pub opposite_weight : W.op (op_one 1) ≤ s
  pub length_weight : W.op (op_one 2) ≤ s
  pub capitals_weight : W.op (op_one 3) ≤ s
  pub get_weight : W.op op_get_field ≤ s
  pub set_weight : W.op op_set_field ≤ s
  pub no_function_weight : W.op (op_fail 5) ≤ s
  pub no_place_weight : W.op (op_fail 9) ≤ s
  pub drop_weight : W.op op_drop ≤ s
  pub line_weight : W.op op_print_line ≤ s
  pub leave_weight : W.op op_leave_line ≤ s
  pub exit_weight : W.op op_exit ≤ s

module _ (W : Weights) (s m : ℕ) (tok : Token → ℕ) (H : Bounds W s m tok) where
  abbrev pub toks : List Token → ℕ
  toks ts = added_up tok ts

  rest_le : (ts : List Token) → toks (rest ts) ≤ toks ts
  rest_le [] = omega arith
  rest_le (t ∷ ts) = omega arith

  -- where a sign is seen there is one token less behind it
  all_sees : {A : Type 0} {Q : A → List Token → Type 0} (c : ℕ) (ts : List Token) {x y : Reads A} → (m + toks (rest ts) ≤ toks ts → All Q x) → All Q y → All Q (pick (sees c ts) x y)
  all_sees c [] p q = q
  all_sees c (t ∷ ts) p q = all_pick (is_sign c t) (p (omega (arith, H.tokens t))) q

  all_word : {A : Type 0} {Q : A → List Token → Type 0} (w : List ℕ) (ts : List Token) {x y : Reads A} → (m + toks (rest ts) ≤ toks ts → All Q x) → All Q y → All Q (pick (sees_word w ts) x y)
  all_word w [] p q = q
  all_word w (t ∷ ts) p q = all_pick (is_word w t) (p (omega (arith, H.tokens t))) q

  abbrev Fit : List Token → Term → List Token → Type 0
  Fit ts a us = term_weight W a + s + toks us ≤ toks ts

  abbrev Fits : List Token → Terms → List Token → Type 0
  Fits ts a us = terms_weight W a + spare s a + toks us ≤ toks ts

  abbrev Does : List Token → Deeds → List Token → Type 0
  Does ts a us = deeds_weight W a + toks us ≤ toks ts

  abbrev Less : {A : Type 0} → List Token → A → List Token → Type 0
  Less ts a us = m + toks us ≤ toks ts

  abbrev Whole : List Token → Program → List Token → Type 0
  Whole ts p us = program_weight W p + toks us ≤ toks ts

  name_less : (ts : List Token) → All (Less ts) (name_of ts)
  name_less [] = all_none
  name_less (word w ∷ ts) = all_pick (kept_word w) all_none (all_got (omega (arith, H.tokens (word w))))
  name_less (number n ∷ ts) = all_none
  name_less (quoted b ∷ ts) = all_none
  name_less (sign d ∷ ts) = all_none
  name_less (bad ∷ ts) = all_none

  first_less : (ps : List Pattern) (t : Token) (ts : List Token) → All (Less (t ∷ ts)) (first_pattern ps ts)
  first_less [] t ts = all_none
  first_less (p ∷ ps) t ts = all_got (omega (arith, H.tokens t))

  pattern_less : (ts : List Token) → All (Less ts) (pattern_here ts)
  pattern_less [] = all_none
  pattern_less (word w ∷ ts) = all_none
  pattern_less (number n ∷ ts) = all_none
  pattern_less (quoted b ∷ ts) = first_less (pattern_of b) (quoted b) ts
  pattern_less (sign d ∷ ts) = all_none
  pattern_less (bad ∷ ts) = all_none

  -- comparisons have the numbers 2 to 5, 13 and 14
  compare_small : (ts : List Token) → eqb (compare_sign ts) 0 ≡ false → (2 ≤ compare_sign ts) × (compare_sign ts ≤ 14)
  unfolding compare_sign
  compare_small ts = of_tests (sees 1 ts) (sees 2 ts) (sees 60 ts) (sees 3 ts) (sees 62 ts) (sees 4 ts)
    where
      of_tests : (a b c d e f : Bool) → let k : ℕ = pick a 2 (pick b 3 (pick c 4 (pick d 5 (pick e 13 (pick f 14 0))))) in eqb k 0 ≡ false → (2 ≤ k) × (k ≤ 14)
      of_tests true b c d e f h = (omega arith, omega arith)
      of_tests false true c d e f h = (omega arith, omega arith)
      of_tests false false true d e f h = (omega arith, omega arith)
      of_tests false false false true e f h = (omega arith, omega arith)
      of_tests false false false false true f h = (omega arith, omega arith)
      of_tests false false false false false true h = (omega arith, omega arith)
      of_tests false false false false false false h = no (sym h)

  compare_less : (ts : List Token) → eqb (compare_sign ts) 0 ≡ false → m + toks (rest ts) ≤ toks ts
  unfolding compare_sign
  compare_less [] e = no (sym e)
  compare_less (t ∷ ts) e = omega (arith, H.tokens t)

  all_compare : {A : Type 0} {Q : A → List Token → Type 0} (ts : List Token) {x y : Reads A} → All Q x →
      (m + toks (rest ts) ≤ toks ts → 2 ≤ compare_sign ts → compare_sign ts ≤ 14 → All Q y) → All Q (pick (eqb (compare_sign ts) 0) x y)
  all_compare {Q} ts {x} {y} p q = by_test (eqb (compare_sign ts) 0) refl
    where
      by_test : (b : Bool) → eqb (compare_sign ts) 0 ≡ b → All Q (pick b x y)
      by_test true e = p
      by_test false e = q (compare_less ts e) (compare_small ts e).0 (compare_small ts e).1

  bin_bound : (k : ℕ) (a b : Term) → 2 ≤ k → k ≤ 14 → term_weight W (bin k a b) ≤ term_weight W a + term_weight W b + s
  unfolding term_weight
  bin_bound zero a b l h = absurd (omega arith)
  bin_bound (suc zero) a b l h = absurd (omega arith)
  bin_bound (suc (suc k)) a b l h = omega (arith, H.twos (suc (suc k)) l h)

  -- what sets a place weighs no more than the place and s
  place_bound : (a : Term) → key_weight W a + weight W (shape (save_code a)) ≤ term_weight W a + s
  unfolding term_weight
  place_bound (num n) = omega arith
  place_bound (txt b) = omega arith
  place_bound (var x) = omega arith
  place_bound (item x k) = omega arith
  place_bound (field k) = omega arith
  place_bound (un k a) = omega arith
  place_bound (bin k a b) = omega arith
  place_bound (like a y) = omega arith
  place_bound (there a x) = omega arith
  place_bound (put_in a b) = omega arith
  place_bound (call x ts) = omega arith
  place_bound (part a b c) = omega arith
  place_bound (split a x y) = omega arith
  place_bound (swap y a b) = omega arith

  swap_bound : (y : Pattern) (a : Term) → key_weight W a + weight W (shape (swap_code y a)) ≤ term_weight W a + s
  unfolding term_weight
  swap_bound z (num n) = omega arith
  swap_bound z (txt b) = omega arith
  swap_bound z (var x) = omega arith
  swap_bound z (item x k) = omega arith
  swap_bound z (field k) = omega arith
  swap_bound z (un k a) = omega arith
  swap_bound z (bin k a b) = omega arith
  swap_bound z (like a y) = omega arith
  swap_bound z (there a x) = omega arith
  swap_bound z (put_in a b) = omega arith
  swap_bound z (call x ts) = omega arith
  swap_bound z (part a b c) = omega arith
  swap_bound z (split a x y) = omega arith
  swap_bound z (swap y a b) = omega arith

  print_bound : (ts : Terms) → print_weight W ts ≤ terms_weight W ts + spare s ts + m + m
  unfolding print_weight
  print_bound no_terms = omega arith
  print_bound (term_and t ts) = omega (arith, H.prints ts)

  mutual
    unfolding term term_weight

    term_fits : (n : ℕ) (ts : List Token) → All (Fit ts) (term n ts)
    term_fits zero ts = all_none
    term_fits (suc n) ts = all_with _ (ors_fits n ts) λ a us h.
        all_pick (sees 61 us && can_set a) (all_with _ (term_fits n (rest us)) λ b vs g. all_got (omega (arith, h, g, rest_le us, place_bound a))) (all_got h)

    ors_fits : (n : ℕ) (ts : List Token) → All (Fit ts) (ors n ts)
    ors_fits zero ts = all_none
    ors_fits (suc n) ts = all_with _ (ands_fits n ts) λ a us h. more_ors_fits n a us ts h

    more_ors_fits : (n : ℕ) (a : Term) (ts ss : List Token) → Fit ss a ts → All (Fit ss) (more_ors n a ts)
    more_ors_fits zero a ts ss f = all_none
    more_ors_fits (suc n) a ts ss f = all_sees 6 ts (λ e. all_with _ (ands_fits n (rest ts)) λ b us h. more_ors_fits n (bin 0 a b) us ss (omega (arith, h, f, e))) (all_got f)

    ands_fits : (n : ℕ) (ts : List Token) → All (Fit ts) (ands n ts)
    ands_fits zero ts = all_none
    ands_fits (suc n) ts = all_with _ (likes_fits n ts) λ a us h. more_ands_fits n a us ts h

    more_ands_fits : (n : ℕ) (a : Term) (ts ss : List Token) → Fit ss a ts → All (Fit ss) (more_ands n a ts)
    more_ands_fits zero a ts ss f = all_none
    more_ands_fits (suc n) a ts ss f = all_sees 5 ts (λ e. all_with _ (likes_fits n (rest ts)) λ b us h. more_ands_fits n (bin 1 a b) us ss (omega (arith, h, f, e))) (all_got f)

    likes_fits : (n : ℕ) (ts : List Token) → All (Fit ts) (likes n ts)
    likes_fits zero ts = all_none
    likes_fits (suc n) ts = all_with _ (compares_fits n ts) λ a us h.
        all_sees 126 us (λ e. all_with _ (pattern_less (rest us)) λ p vs g. all_got (omega (arith, h, g, e)))
        (all_sees 7 us (λ e. all_with _ (pattern_less (rest us)) λ p vs g. all_got (omega (arith, h, g, e)))
        (all_word w_in us (λ e. all_with _ (name_less (rest us)) λ x vs g. all_got (omega (arith, h, g, e))) (all_got h)))

    compares_fits : (n : ℕ) (ts : List Token) → All (Fit ts) (compares n ts)
    compares_fits zero ts = all_none
    compares_fits (suc n) ts = all_with _ (joins_fits n ts) λ a us h.
        all_compare us (all_got h) (λ e low high. all_with _ (joins_fits n (rest us)) λ b vs g. all_got (omega (arith, h, g, e, bin_bound (compare_sign us) a b low high)))

    joins_fits : (n : ℕ) (ts : List Token) → All (Fit ts) (joins n ts)
    joins_fits zero ts = all_none
    joins_fits (suc n) ts = all_with _ (sums_fits n ts) λ a us h. more_joins_fits n a us ts h

    more_joins_fits : (n : ℕ) (a : Term) (ts ss : List Token) → Fit ss a ts → All (Fit ss) (more_joins n a ts)
    more_joins_fits zero a ts ss f = all_none
    more_joins_fits (suc n) a ts ss f = all_pick (begins_joined ts) (all_with _ (sums_fits n ts) λ b us h. more_joins_fits n (bin 11 a b) us ss (omega (arith, h, f, bin_bound 11 a b (omega arith) (omega arith)))) (all_got f)

    sums_fits : (n : ℕ) (ts : List Token) → All (Fit ts) (sums n ts)
    sums_fits zero ts = all_none
    sums_fits (suc n) ts = all_with _ (products_fits n ts) λ a us h. more_sums_fits n a us ts h

    more_sums_fits : (n : ℕ) (a : Term) (ts ss : List Token) → Fit ss a ts → All (Fit ss) (more_sums n a ts)
    more_sums_fits zero a ts ss f = all_none
    more_sums_fits (suc n) a ts ss f =
        all_sees 43 ts (λ e. all_with _ (products_fits n (rest ts)) λ b us h. more_sums_fits n (bin 6 a b) us ss (omega (arith, h, f, e, bin_bound 6 a b (omega arith) (omega arith))))
        (all_sees 45 ts (λ e. all_with _ (products_fits n (rest ts)) λ b us h. more_sums_fits n (bin 7 a b) us ss (omega (arith, h, f, e, bin_bound 7 a b (omega arith) (omega arith)))) (all_got f))

    products_fits : (n : ℕ) (ts : List Token) → All (Fit ts) (products n ts)
    products_fits zero ts = all_none
    products_fits (suc n) ts = all_with _ (unary_fits n ts) λ a us h. more_products_fits n a us ts h

    more_products_fits : (n : ℕ) (a : Term) (ts ss : List Token) → Fit ss a ts → All (Fit ss) (more_products n a ts)
    more_products_fits zero a ts ss f = all_none
    more_products_fits (suc n) a ts ss f =
        all_sees 42 ts (λ e. all_with _ (unary_fits n (rest ts)) λ b us h. more_products_fits n (bin 8 a b) us ss (omega (arith, h, f, e, bin_bound 8 a b (omega arith) (omega arith))))
        (all_sees 47 ts (λ e. all_with _ (unary_fits n (rest ts)) λ b us h. more_products_fits n (bin 9 a b) us ss (omega (arith, h, f, e, bin_bound 9 a b (omega arith) (omega arith))))
        (all_sees 37 ts (λ e. all_with _ (unary_fits n (rest ts)) λ b us h. more_products_fits n (bin 10 a b) us ss (omega (arith, h, f, e, bin_bound 10 a b (omega arith) (omega arith)))) (all_got f)))

    unary_fits : (n : ℕ) (ts : List Token) → All (Fit ts) (unary n ts)
    unary_fits zero ts = all_none
    unary_fits (suc n) ts =
        all_sees 33 ts (λ e. all_with _ (unary_fits n (rest ts)) λ a us h. all_got (omega (arith, h, e)))
        (all_sees 45 ts (λ e. all_with _ (unary_fits n (rest ts)) λ a us h. all_got (omega (arith, h, e))) (primary_fits n ts))

    primary_fits : (n : ℕ) (ts : List Token) → All (Fit ts) (primary n ts)
    primary_fits zero ts = all_none
    primary_fits (suc n) [] = all_none
    primary_fits (suc n) (number k ∷ ts) = all_got (omega (arith, H.numbers k))
    primary_fits (suc n) (quoted b ∷ ts) = all_got (omega (arith, H.texts b))
    primary_fits (suc n) (sign d ∷ ts) =
        all_pick (eqb d 40) (all_with _ (term_fits n ts) λ a us h. all_sees 41 us (λ e. let vs = rest us in all_got (omega (arith, h, e))) all_none)
        (all_pick (eqb d 36) (all_with _ (unary_fits n ts) λ a us h. all_got (omega (arith, h, H.tokens (sign d)))) all_none)
    primary_fits (suc n) (bad ∷ ts) = all_none
    primary_fits (suc n) (word w ∷ ts) =
        all_pick (same w w_length) (all_sees 40 ts (λ e. let us = rest ts in all_with _ (term_fits n us) λ a vs h. all_sees 41 vs (λ g. let ws = rest vs in all_got (omega (arith, e, h, g, H.tokens (word w)))) all_none) all_none)
        (all_pick (same w w_upper) (all_sees 40 ts (λ e. let us = rest ts in all_with _ (term_fits n us) λ a vs h. all_sees 41 vs (λ g. let ws = rest vs in all_got (omega (arith, e, h, g, H.tokens (word w)))) all_none) all_none)
        (all_pick (same w w_index) (all_sees 40 ts (λ e. let us = rest ts in all_with _ (term_fits n us) λ a vs h. all_sees 44 vs (λ g. let ws = rest vs in all_with _ (term_fits n ws) λ b xs i. all_sees 41 xs (λ j. let ys = rest xs in all_got (omega (arith, e, h, g, i, j, H.tokens (word w), bin_bound 12 a b (omega arith) (omega arith)))) all_none) all_none) all_none)
        (all_pick (same w w_substr) (all_sees 40 ts (λ e. let us = rest ts in all_with _ (term_fits n us) λ a vs h. all_sees 44 vs (λ g. let ws = rest vs in all_with _ (term_fits n ws) λ b xs i. all_sees 44 xs (λ j. let ys = rest xs in all_with _ (term_fits n ys) λ c zs k. all_sees 41 zs (λ l. let qs = rest zs in all_got (omega (arith, e, h, g, i, j, k, l, H.tokens (word w)))) all_none) all_none) all_none) all_none)
        (all_pick (same w w_split) (all_sees 40 ts (λ e. let us = rest ts in all_with _ (term_fits n us) λ a vs h. all_sees 44 vs (λ g. let ws = rest vs in all_with _ (name_less ws) λ x xs i. all_sees 44 xs (λ j. let ys = rest xs in all_with _ (pattern_less ys) λ p zs k. all_sees 41 zs (λ l. let qs = rest zs in all_got (omega (arith, e, h, g, i, j, k, l, H.tokens (word w)))) all_none) all_none) all_none) all_none)
        (all_pick (same w w_swap) (all_sees 40 ts (λ e. let us = rest ts in all_with _ (pattern_less us) λ p vs h. all_sees 44 vs (λ g. let ws = rest vs in all_with _ (term_fits n ws) λ a xs i. all_sees 44 xs (λ j. let ys = rest xs in all_with _ (term_fits n ys) λ b zs k. all_pick (can_set b) (all_sees 41 zs (λ l. let qs = rest zs in all_got (omega (arith, e, h, g, i, j, k, l, H.tokens (word w), swap_bound p b))) all_none) all_none) all_none) all_none) all_none)
        (all_pick (kept_word w) all_none
        (all_sees 91 ts (λ e. all_with _ (term_fits n (rest ts)) λ a us h. all_sees 93 us (λ g. let vs = rest us in all_got (omega (arith, e, h, g, H.tokens (word w)))) all_none)
        (all_sees 40 ts (λ e. all_sees 41 (rest ts) (λ f. all_got (omega (arith, e, f, H.tokens (word w)))) (all_with _ (args_fits n (rest ts)) λ xs us h. all_sees 41 us (λ g. let vs = rest us in all_got (omega (arith, e, h, g, H.tokens (word w)))) all_none))
        (all_got (omega (arith, H.words w)))))))))))

    args_fits : (n : ℕ) (ts : List Token) → All (Fits ts) (args n ts)
    args_fits zero ts = all_none
    args_fits (suc n) ts = all_with _ (term_fits n ts) λ a us h.
        all_sees 44 us (λ e. all_with _ (args_fits n (rest us)) λ xs vs g. all_got (omega (arith, h, g, e))) (all_got (omega (arith, h)))

  joined_weight : (ds es : Deeds) → deeds_weight W (joined_deeds ds es) ≡ deeds_weight W ds + deeds_weight W es
  unfolding deeds_weight joined_deeds
  joined_weight no_deeds es = omega arith
  joined_weight (deed_and d ds) es = omega (arith, joined_weight ds es)

  closed_fits : (d : Deed) (ts us : List Token) → deed_weight W d + toks us ≤ toks ts + m → All (Does ts) (closed d us)
  unfolding deeds_weight
  closed_fits d ts us h = all_sees 59 us (λ e. let vs = rest us in all_got (omega (arith, h, e))) all_none

  mutual
    unfolding deed deed_weight print_weight term_weight

    deed_fits : (n : ℕ) (ts : List Token) → All (Does ts) (deed n ts)
    deed_fits zero ts = all_none
    deed_fits (suc n) ts =
        all_sees 123 ts (λ e. all_with' (block_fits n (rest ts)) λ a us h. omega (arith, h, e))
        (all_word w_if ts (λ e. all_sees 40 (rest ts) (λ f. let us = rest (rest ts) in all_with _ (term_fits n us) λ c vs h. all_sees 41 vs (λ g. let ws = rest vs in all_with _ (deed_fits n ws) λ a xs i.
        all_word w_else xs (λ j. all_with _ (deed_fits n (rest xs)) λ b ys k. all_got (omega (arith, e, f, h, g, i, j, k))) (all_got (omega (arith, e, f, h, g, i)))) all_none) all_none)
        (all_word w_while ts (λ e. all_sees 40 (rest ts) (λ f. let us = rest (rest ts) in all_with _ (term_fits n us) λ c vs h. all_sees 41 vs (λ g. let ws = rest vs in all_with _ (deed_fits n ws) λ a xs i. all_got (omega (arith, e, f, h, g, i))) all_none) all_none)
        (all_word w_for ts (λ e. all_sees 40 (rest ts) (λ f. let us = rest (rest ts) in all_with _ (name_less us) λ x vs h. all_word w_in vs (λ g. all_with _ (name_less (rest vs)) λ y ws i. all_sees 41 ws (λ j. let xs = rest ws in all_with _ (deed_fits n xs) λ a ys k. all_got (omega (arith, e, f, h, g, i, j, k))) all_none) all_none) all_none)
        (all_word w_print ts (λ e. all_sees 59 (rest ts) (λ f. closed_fits _ ts (rest ts) (omega (arith, e))) (all_with _ (args_fits n (rest ts)) λ xs us h. closed_fits _ ts us (omega (arith, e, h, print_bound xs))))
        (all_word w_next ts (λ e. closed_fits _ ts (rest ts) (omega (arith, e)))
        (all_word w_exit ts (λ e. all_sees 59 (rest ts) (λ f. closed_fits _ ts (rest ts) (omega (arith, e))) (all_with _ (term_fits n (rest ts)) λ a us h. closed_fits _ ts us (omega (arith, e, h))))
        (all_word w_return ts (λ e. all_sees 59 (rest ts) (λ f. closed_fits _ ts (rest ts) (omega (arith, e))) (all_with _ (term_fits n (rest ts)) λ a us h. closed_fits _ ts us (omega (arith, e, h))))
        (all_word w_delete ts (λ e. all_with _ (name_less (rest ts)) λ x us f. all_sees 91 us (λ g. let vs = rest us in all_with _ (term_fits n vs) λ a ws h. all_sees 93 ws (λ i. let xs = rest ws in closed_fits _ ts xs (omega (arith, e, f, g, h, i))) all_none) all_none)
        (all_with _ (term_fits n ts) λ a us h. closed_fits _ ts us (omega (arith, h)))))))))))

    block_fits : (n : ℕ) (ts : List Token) → All (Does ts) (block n ts)
    block_fits zero ts = all_none
    block_fits (suc n) ts = all_sees 125 ts (λ e. all_got (omega (arith, e))) (all_with _ (deed_fits n ts) λ a us h. all_with _ (block_fits n us) λ b vs g. all_got (omega (arith, h, g, joined_weight a b)))

  names_less : (n : ℕ) (ts : List Token) → All (λ xs us. toks us ≤ toks ts) (names n ts)
  unfolding names
  names_less zero ts = all_none
  names_less (suc n) ts = all_with _ (name_less ts) λ x us h. all_sees 44 us (λ e. all_with _ (names_less n (rest us)) λ xs vs g. all_got (omega (arith, h, g, e))) (all_got (omega (arith, h)))

  params_less : (n : ℕ) (ts : List Token) → All (λ xs us. toks us ≤ toks ts) (params_of n ts)
  params_less n ts = all_pick (sees 41 ts) (all_got (omega arith)) (names_less n ts)

  program_fits : (n : ℕ) (ts : List Token) → All (Whole ts) (program n ts)
  unfolding program program_weight rule_weight function_weight
  program_fits zero ts = all_none
  program_fits (suc n) [] = all_got (omega arith)
  program_fits (suc n) (t ∷ ts) =
      all_pick (is_word w_function t) (all_with _ (name_less ts) λ x us a. all_sees 40 us (λ b. all_with _ (params_less n (rest us)) λ ps ws c. all_sees 41 ws (λ d. all_sees 123 (rest ws) (λ e. all_with _ (block_fits n (rest (rest ws))) λ ds zs f.
      all_with _ (program_fits n zs) λ p qs g. all_got (omega (arith, a, b, c, d, e, f, g))) all_none) all_none) all_none)
      (all_pick (is_word w_begin t) (all_sees 123 ts (λ e. all_with _ (block_fits n (rest ts)) λ ds us f. all_with _ (program_fits n us) λ p qs g. all_got (omega (arith, e, f, g))) all_none)
      (all_pick (is_word w_end t) (all_sees 123 ts (λ e. all_with _ (block_fits n (rest ts)) λ ds us f. all_with _ (program_fits n us) λ p qs g. all_got (omega (arith, e, f, g))) all_none)
      (all_pick (is_sign 123 t) (all_with _ (block_fits n ts) λ ds us f. all_with _ (program_fits n us) λ p qs g. all_got (omega (arith, f, g)))
      (all_with _ (term_fits n (t ∷ ts)) λ c us h. all_sees 123 us (λ e. all_with _ (block_fits n (rest us)) λ ds vs f. all_with _ (program_fits n vs) λ p qs g. all_got (omega (arith, h, e, f, g))) all_none))))

  whole_fits : (ts : List Token) (p : Program) (g : Reads Program) → All (Whole ts) g → whole_program g ≡ p ∷ [] → program_weight W p ≤ toks ts
  unfolding whole_program
  whole_fits ts p none a e = absurd (let z : ◌≡◌ {A = ℕ} 0 1 = cc in omega arith)
  whole_fits ts p (got q []) (all_got h) e = let z : q ≡ p = cc in subst (λ r. program_weight W r ≤ toks ts) z (omega (arith, h))
  whole_fits ts p (got q (u ∷ us)) a e = absurd (let z : ◌≡◌ {A = ℕ} 0 1 = cc in omega arith)

  -- A PROGRAM WEIGHS NO MORE THAN ITS TOKENS.
  pub read_weighs : (t : List ℕ) (p : Program) → reads t ≡ p ∷ [] → program_weight W p ≤ toks (cut_up t)
  read_weighs t p e = whole_fits (cut_up t) p (program (16 * length (cut_up t) + 16) (cut_up t)) (program_fits _ (cut_up t)) e
