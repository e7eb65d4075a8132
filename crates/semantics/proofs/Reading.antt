-- A program that is read from a text of bytes has sound texts only, since each one was quoted in it; and its code has at most six instructions for each of
-- its tokens. Both are shown in one walk over the grammar.
use Rattle.std.proofs.Common.{◌≡◌, ℕ, zero, suc, ◌+◌, ◌*◌, ◌<◌, ◌≤◌, Bool, true, false, ◌&&◌, eqb, ltb, leb, List, [], ◌∷◌, length, refl, subst, arith, ltb-true, leb-true}
use Rattle.std.proofs.lemmas.Bool.{and_parts}
use Rattle.language.specs.Text.{pick, or, every, same, digit, Pattern}
use Rattle.language.specs.Program.{Token, word, number, quoted, sign, bad, none, got, with_got, Reads, sees, sees_word, rest, is_sign, is_word, Term, Terms, num, bin, Deed, Deeds, no_deeds, deed_and, joined_deeds, term, ors, more_ors, ands, more_ands, likes, compares, joins, more_joins, sums, more_sums, products, more_products, unary, primary, args, deed, block, closed, name_of, kept_word, pattern_here, first_pattern, pattern_of, can_set, compare_sign, begins_joined, w_in, w_if, w_else, w_while, w_for, w_print, w_next, w_exit, w_return, w_delete, w_length, w_upper, w_index, w_substr, w_split, w_swap, w_function, w_begin, w_end, Program, names, params_of, program, ruled, whole_program, reads, cut_up, tokens, after_word, past_digits, past_line, quote_part, past_quote, quote_ends, pair_sign, a_sign, less_one, gap, letter, digits_part, meant}
use Rattle.language.specs.Run.{a_row}
use Rattle.semantics.specs.Invariants.{All, all_none, all_more, SoundText, SoundTerm, SoundTerms, SoundDeed, SoundDeeds, SoundProgram}
use Rattle.semantics.proofs.Sizes.{term_size, terms_size, deed_size, deeds_size, bin_size, joined_size, program_size}
use Rattle.semantics.proofs.Sound.{Bytes, no_bytes, bytes_cons, pick_of, few_pick}

-- tokens whose quoted texts are sound
abbrev SaneToken : Token → Type 0
SaneToken (word w) = Unit {0}
SaneToken (number n) = Unit {0}
SaneToken (quoted b) = SoundText b
SaneToken (sign d) = Unit {0}
SaneToken bad = Unit {0}

abbrev Sane : List Token → Type 0
Sane ts = All SaneToken ts

-- what holds of whatever is read, and of what is left
data Read {A : Type 0} (P : A → List Token → Type 0) : Reads A → Type 0 where
  no_read : Read P none
  is_read : {a : A} {ts : List Token} → P a ts → Read P (got a ts)

read_then : {A B : Type 0} {P : A → List Token → Type 0} {Q : B → List Token → Type 0} {g : Reads A} (f : A → List Token → Reads B) → Read P g → ((a : A) (us : List Token) → P a us → Read Q (f a us)) → Read Q (with_got g f)
read_then f no_read h = no_read
read_then f (is_read {a} {ts} p) h = h a ts p

read_as : {A : Type 0} {P Q : A → List Token → Type 0} {g : Reads A} → Read P g → ((a : A) (us : List Token) → P a us → Q a us) → Read Q g
read_as no_read h = no_read
read_as (is_read {a} {ts} p) h = is_read (h a ts p)

read_pick : {A : Type 0} {Q : A → List Token → Type 0} (b : Bool) {x y : Reads A} → Read Q x → Read Q y → Read Q (pick b x y)
read_pick true x y = x
read_pick false x y = y

-- what is left of sane tokens; one token less
abbrev After : List Token → List Token → Type 0
After ts us = Sane us × (suc (length us) ≤ length ts)

rest_sane : {ts : List Token} → Sane ts → Sane (rest ts)
rest_sane all_none = all_none
rest_sane (all_more h hs) = hs

rest_le : (ts : List Token) → length (rest ts) ≤ length ts
rest_le [] = omega arith
rest_le (t ∷ ts) = omega arith

read_if : {A : Type 0} {Q : A → List Token → Type 0} (c : ℕ) (ts : List Token) {x y : Reads A} → Sane ts → (After ts (rest ts) → Read Q x) → Read Q y → Read Q (pick (sees c ts) x y)
read_if c [] s p q = q
read_if c (t ∷ ts) s p q = read_pick (is_sign c t) (p (rest_sane s, omega arith)) q

read_word : {A : Type 0} {Q : A → List Token → Type 0} (w : List ℕ) (ts : List Token) {x y : Reads A} → Sane ts → (After ts (rest ts) → Read Q x) → Read Q y → Read Q (pick (sees_word w ts) x y)
read_word w [] s p q = q
read_word w (t ∷ ts) s p q = read_pick (is_word w t) (p (rest_sane s, omega arith)) q

read_sees : {A : Type 0} {Q : A → List Token → Type 0} (c : ℕ) (ts : List Token) {x : Reads A} → Sane ts → (After ts (rest ts) → Read Q x) → Read Q (pick (sees c ts) x none)
read_sees c ts s h = read_if c ts s h no_read

abbrev Skips : {A : Type 0} → List Token → A → List Token → Type 0
Skips ts a us = After ts us

name_read : (ts : List Token) → Sane ts → Read (Skips ts) (name_of ts)
name_read [] s = no_read
name_read (word w ∷ ts) (all_more h s) = read_pick (kept_word w) no_read (is_read (s, omega arith))
name_read (number n ∷ ts) s = no_read
name_read (quoted b ∷ ts) s = no_read
name_read (sign d ∷ ts) s = no_read
name_read (bad ∷ ts) s = no_read

pattern_read : (ts : List Token) → Sane ts → Read (Skips ts) (pattern_here ts)
pattern_read [] s = no_read
pattern_read (word w ∷ ts) s = no_read
pattern_read (number n ∷ ts) s = no_read
pattern_read (quoted b ∷ ts) (all_more h s) = first_read (pattern_of b)
  where
    first_read : (ps : List Pattern) → Read (Skips (quoted b ∷ ts)) (first_pattern ps ts)
    first_read [] = no_read
    first_read (p ∷ ps) = is_read (s, omega arith)
pattern_read (sign d ∷ ts) s = no_read
pattern_read (bad ∷ ts) s = no_read

read_compare : {A : Type 0} {Q : A → List Token → Type 0} (ts : List Token) {x y : Reads A} → Sane ts → Read Q x → (After ts (rest ts) → Read Q y) → Read Q (pick (eqb (compare_sign ts) 0) x y)
unfolding compare_sign
read_compare [] s p q = p
read_compare (t ∷ ts) s p q = read_pick (eqb (compare_sign (t ∷ ts)) 0) p (q (rest_sane s, omega arith))

-- a term: its texts are sound, its code is short; and so terms in a row
abbrev Fit : List Token → Term → List Token → Type 0
Fit ts a us = SoundTerm a × Sane us × (term_size a + 3 + 6 * length us ≤ 6 * length ts)

abbrev Fits : List Token → Terms → List Token → Type 0
Fits ts a us = SoundTerms a × Sane us × (terms_size a + 3 + 6 * length us ≤ 6 * length ts)

mutual
  unfolding term SoundTerm term_size

  term_read : (n : ℕ) (ts : List Token) → Sane ts → Read (Fit ts) (term n ts)
  term_read zero ts s = no_read
  term_read (suc n) ts s = read_then _ (ors_read n ts s) (λ a us h.
      read_pick (sees 61 us && can_set a) (read_then _ (term_read n (rest us) (rest_sane h.1)) (λ b vs g. is_read ((h.0, g.0), g.1, omega (arith, h.2, g.2, rest_le us)))) (is_read h))

  ors_read : (n : ℕ) (ts : List Token) → Sane ts → Read (Fit ts) (ors n ts)
  ors_read zero ts s = no_read
  ors_read (suc n) ts s = read_then _ (ands_read n ts s) (λ a us h. more_ors_read n a us ts h)

  more_ors_read : (n : ℕ) (a : Term) (ts ss : List Token) → Fit ss a ts → Read (Fit ss) (more_ors n a ts)
  more_ors_read zero a ts ss h = no_read
  more_ors_read (suc n) a ts ss h = read_if 6 ts h.1 (λ e. read_then _ (ands_read n (rest ts) e.0) (λ b us g. more_ors_read n (bin 0 a b) us ss ((h.0, g.0), g.1, omega (arith, h.2, g.2, e.1)))) (is_read h)

  ands_read : (n : ℕ) (ts : List Token) → Sane ts → Read (Fit ts) (ands n ts)
  ands_read zero ts s = no_read
  ands_read (suc n) ts s = read_then _ (likes_read n ts s) (λ a us h. more_ands_read n a us ts h)

  more_ands_read : (n : ℕ) (a : Term) (ts ss : List Token) → Fit ss a ts → Read (Fit ss) (more_ands n a ts)
  more_ands_read zero a ts ss h = no_read
  more_ands_read (suc n) a ts ss h = read_if 5 ts h.1 (λ e. read_then _ (likes_read n (rest ts) e.0) (λ b us g. more_ands_read n (bin 1 a b) us ss ((h.0, g.0), g.1, omega (arith, h.2, g.2, e.1)))) (is_read h)

  likes_read : (n : ℕ) (ts : List Token) → Sane ts → Read (Fit ts) (likes n ts)
  likes_read zero ts s = no_read
  likes_read (suc n) ts s = read_then _ (compares_read n ts s) (λ a us h.
      read_if 126 us h.1 (λ e. read_then _ (pattern_read (rest us) e.0) (λ p vs g. is_read (h.0, g.0, omega (arith, h.2, g.1, e.1))))
      (read_if 7 us h.1 (λ e. read_then _ (pattern_read (rest us) e.0) (λ p vs g. is_read (h.0, g.0, omega (arith, h.2, g.1, e.1))))
      (read_word w_in us h.1 (λ e. read_then _ (name_read (rest us) e.0) (λ x vs g. is_read (h.0, g.0, omega (arith, h.2, g.1, e.1)))) (is_read h))))

  compares_read : (n : ℕ) (ts : List Token) → Sane ts → Read (Fit ts) (compares n ts)
  compares_read zero ts s = no_read
  compares_read (suc n) ts s = read_then _ (joins_read n ts s) (λ a us h.
      read_compare us h.1 (is_read h) (λ e. read_then _ (joins_read n (rest us) e.0) (λ b vs g. is_read ((h.0, g.0), g.1, omega (arith, h.2, g.2, e.1, bin_size (compare_sign us) a b)))))

  joins_read : (n : ℕ) (ts : List Token) → Sane ts → Read (Fit ts) (joins n ts)
  joins_read zero ts s = no_read
  joins_read (suc n) ts s = read_then _ (sums_read n ts s) (λ a us h. more_joins_read n a us ts h)

  more_joins_read : (n : ℕ) (a : Term) (ts ss : List Token) → Fit ss a ts → Read (Fit ss) (more_joins n a ts)
  more_joins_read zero a ts ss h = no_read
  more_joins_read (suc n) a ts ss h = read_pick (begins_joined ts) (read_then _ (sums_read n ts h.1) (λ b us g. more_joins_read n (bin 11 a b) us ss ((h.0, g.0), g.1, omega (arith, h.2, g.2)))) (is_read h)

  sums_read : (n : ℕ) (ts : List Token) → Sane ts → Read (Fit ts) (sums n ts)
  sums_read zero ts s = no_read
  sums_read (suc n) ts s = read_then _ (products_read n ts s) (λ a us h. more_sums_read n a us ts h)

  more_sums_read : (n : ℕ) (a : Term) (ts ss : List Token) → Fit ss a ts → Read (Fit ss) (more_sums n a ts)
  more_sums_read zero a ts ss h = no_read
  more_sums_read (suc n) a ts ss h =
      read_if 43 ts h.1 (λ e. read_then _ (products_read n (rest ts) e.0) (λ b us g. more_sums_read n (bin 6 a b) us ss ((h.0, g.0), g.1, omega (arith, h.2, g.2, e.1))))
      (read_if 45 ts h.1 (λ e. read_then _ (products_read n (rest ts) e.0) (λ b us g. more_sums_read n (bin 7 a b) us ss ((h.0, g.0), g.1, omega (arith, h.2, g.2, e.1)))) (is_read h))

  products_read : (n : ℕ) (ts : List Token) → Sane ts → Read (Fit ts) (products n ts)
  products_read zero ts s = no_read
  products_read (suc n) ts s = read_then _ (unary_read n ts s) (λ a us h. more_products_read n a us ts h)

  more_products_read : (n : ℕ) (a : Term) (ts ss : List Token) → Fit ss a ts → Read (Fit ss) (more_products n a ts)
  more_products_read zero a ts ss h = no_read
  more_products_read (suc n) a ts ss h =
      read_if 42 ts h.1 (λ e. read_then _ (unary_read n (rest ts) e.0) (λ b us g. more_products_read n (bin 8 a b) us ss ((h.0, g.0), g.1, omega (arith, h.2, g.2, e.1))))
      (read_if 47 ts h.1 (λ e. read_then _ (unary_read n (rest ts) e.0) (λ b us g. more_products_read n (bin 9 a b) us ss ((h.0, g.0), g.1, omega (arith, h.2, g.2, e.1))))
      (read_if 37 ts h.1 (λ e. read_then _ (unary_read n (rest ts) e.0) (λ b us g. more_products_read n (bin 10 a b) us ss ((h.0, g.0), g.1, omega (arith, h.2, g.2, e.1)))) (is_read h)))

  unary_read : (n : ℕ) (ts : List Token) → Sane ts → Read (Fit ts) (unary n ts)
  unary_read zero ts s = no_read
  unary_read (suc n) ts s =
      read_if 33 ts s (λ e. read_then _ (unary_read n (rest ts) e.0) (λ a us h. is_read (h.0, h.1, omega (arith, h.2, e.1))))
      (read_if 45 ts s (λ e. read_then _ (unary_read n (rest ts) e.0) (λ a us h. is_read (h.0, h.1, omega (arith, h.2, e.1)))) (primary_read n ts s))

  primary_read : (n : ℕ) (ts : List Token) → Sane ts → Read (Fit ts) (primary n ts)
  primary_read zero ts s = no_read
  primary_read (suc n) [] s = no_read
  primary_read (suc n) (number k ∷ ts) (all_more h s) = is_read (tt, s, omega arith)
  primary_read (suc n) (quoted b ∷ ts) (all_more h s) = is_read (h, s, omega arith)
  primary_read (suc n) (sign d ∷ ts) (all_more h s) =
      read_pick (eqb d 40) (read_then _ (term_read n ts s) (λ a us g. read_sees 41 us g.1 (λ e. let vs = rest us in is_read (g.0, e.0, omega (arith, g.2, e.1)))))
      (read_pick (eqb d 36) (read_then _ (unary_read n ts s) (λ a us g. is_read (g.0, g.1, omega (arith, g.2)))) no_read)
  primary_read (suc n) (bad ∷ ts) s = no_read
  primary_read (suc n) (word w ∷ ts) (all_more o s) =
      read_pick (same w w_length) (read_sees 40 ts s (λ e. let us = rest ts in read_then _ (term_read n us e.0) (λ a vs h. read_sees 41 vs h.1 (λ g. let ws = rest vs in is_read (h.0, g.0, omega (arith, e.1, h.2, g.1))))))
      (read_pick (same w w_upper) (read_sees 40 ts s (λ e. let us = rest ts in read_then _ (term_read n us e.0) (λ a vs h. read_sees 41 vs h.1 (λ g. let ws = rest vs in is_read (h.0, g.0, omega (arith, e.1, h.2, g.1))))))
      (read_pick (same w w_index) (read_sees 40 ts s (λ e. let us = rest ts in read_then _ (term_read n us e.0) (λ a vs h. read_sees 44 vs h.1 (λ g. let ws = rest vs in read_then _ (term_read n ws g.0) (λ b xs i.
      read_sees 41 xs i.1 (λ j. let ys = rest xs in is_read ((h.0, i.0), j.0, omega (arith, e.1, h.2, g.1, i.2, j.1))))))))
      (read_pick (same w w_substr) (read_sees 40 ts s (λ e. let us = rest ts in read_then _ (term_read n us e.0) (λ a vs h. read_sees 44 vs h.1 (λ g. let ws = rest vs in read_then _ (term_read n ws g.0) (λ b xs i.
      read_sees 44 xs i.1 (λ j. let ys = rest xs in read_then _ (term_read n ys j.0) (λ c zs k. read_sees 41 zs k.1 (λ l. let qs = rest zs in is_read ((h.0, i.0, k.0), l.0, omega (arith, e.1, h.2, g.1, i.2, j.1, k.2, l.1))))))))))
      (read_pick (same w w_split) (read_sees 40 ts s (λ e. let us = rest ts in read_then _ (term_read n us e.0) (λ a vs h. read_sees 44 vs h.1 (λ g. let ws = rest vs in read_then _ (name_read ws g.0) (λ x xs i.
      read_sees 44 xs i.0 (λ j. let ys = rest xs in read_then _ (pattern_read ys j.0) (λ p zs k. read_sees 41 zs k.0 (λ l. let qs = rest zs in is_read (h.0, l.0, omega (arith, e.1, h.2, g.1, i.1, j.1, k.1, l.1))))))))))
      (read_pick (same w w_swap) (read_sees 40 ts s (λ e. let us = rest ts in read_then _ (pattern_read us e.0) (λ p vs h. read_sees 44 vs h.0 (λ g. let ws = rest vs in read_then _ (term_read n ws g.0) (λ a xs i.
      read_sees 44 xs i.1 (λ j. let ys = rest xs in read_then _ (term_read n ys j.0) (λ b zs k. read_pick (can_set b) (read_sees 41 zs k.1 (λ l. let qs = rest zs in is_read ((i.0, k.0), l.0, omega (arith, e.1, h.1, g.1, i.2, j.1, k.2, l.1)))) no_read)))))))
      (read_pick (kept_word w) no_read
      (read_if 91 ts s (λ e. read_then _ (term_read n (rest ts) e.0) (λ a us h. read_sees 93 us h.1 (λ g. let vs = rest us in is_read (h.0, g.0, omega (arith, e.1, h.2, g.1)))))
      (read_if 40 ts s (λ e. read_pick (sees 41 (rest ts)) (is_read (tt, rest_sane e.0, omega (arith, e.1, rest_le (rest ts))))
      (read_then _ (args_read n (rest ts) e.0) (λ xs us h. read_sees 41 us h.1 (λ g. let vs = rest us in is_read (h.0, g.0, omega (arith, e.1, h.2, g.1))))))
      (is_read (tt, s, omega arith))))))))))

  args_read : (n : ℕ) (ts : List Token) → Sane ts → Read (Fits ts) (args n ts)
  args_read zero ts s = no_read
  args_read (suc n) ts s = read_then _ (term_read n ts s) (λ a us h.
      read_if 44 us h.1 (λ e. read_then _ (args_read n (rest us) e.0) (λ xs vs g. is_read ((h.0, g.0), g.1, omega (arith, h.2, g.2, e.1)))) (is_read ((h.0, tt), h.1, omega (arith, h.2))))

-- statements, and statements with the sign that closes them
abbrev Does : List Token → Deeds → List Token → Type 0
Does ts a us = SoundDeeds a × Sane us × (deeds_size a + 6 * length us ≤ 6 * length ts)

abbrev Blocks : List Token → Deeds → List Token → Type 0
Blocks ts a us = SoundDeeds a × Sane us × (deeds_size a + 6 + 6 * length us ≤ 6 * length ts)

joined_sound : (a b : Deeds) → SoundDeeds a → SoundDeeds b → SoundDeeds (joined_deeds a b)
unfolding SoundDeeds joined_deeds
joined_sound no_deeds b h g = g
joined_sound (deed_and d a) b h g = (h.0, joined_sound a b h.1 g)

closed_read : (d : Deed) (ts us : List Token) → SoundDeed d → Sane us → deed_size d + 6 * length us ≤ 6 * length ts + 5 → Read (Does ts) (closed d us)
unfolding SoundDeeds deeds_size
closed_read d ts us h s l = read_sees 59 us s (λ e. let vs = rest us in is_read ((h, tt), e.0, omega (arith, l, e.1)))

mutual
  unfolding deed SoundDeeds SoundTerm deeds_size term_size

  deed_read : (n : ℕ) (ts : List Token) → Sane ts → Read (Does ts) (deed n ts)
  deed_read zero ts s = no_read
  deed_read (suc n) ts s =
      read_if 123 ts s (λ e. read_as (block_read n (rest ts) e.0) (λ a us h. (h.0, h.1, omega (arith, h.2, e.1))))
      (read_word w_if ts s (λ e. read_sees 40 (rest ts) e.0 (λ f. let us = rest (rest ts) in read_then _ (term_read n us f.0) (λ c vs h. read_sees 41 vs h.1 (λ g. let ws = rest vs in read_then _ (deed_read n ws g.0) (λ a xs i.
      read_word w_else xs i.1 (λ j. read_then _ (deed_read n (rest xs) j.0) (λ b ys k. is_read (((h.0, i.0, k.0), tt), k.1, omega (arith, e.1, f.1, h.2, g.1, i.2, j.1, k.2))))
      (is_read (((h.0, i.0, tt), tt), i.1, omega (arith, e.1, f.1, h.2, g.1, i.2))))))))
      (read_word w_while ts s (λ e. read_sees 40 (rest ts) e.0 (λ f. let us = rest (rest ts) in read_then _ (term_read n us f.0) (λ c vs h. read_sees 41 vs h.1 (λ g. let ws = rest vs in read_then _ (deed_read n ws g.0) (λ a xs i.
      is_read (((h.0, i.0), tt), i.1, omega (arith, e.1, f.1, h.2, g.1, i.2)))))))
      (read_word w_for ts s (λ e. read_sees 40 (rest ts) e.0 (λ f. let us = rest (rest ts) in read_then _ (name_read us f.0) (λ x vs h. read_pick (sees_word w_in vs) (read_then _ (name_read (rest vs) (rest_sane h.0)) (λ y ws i.
      read_sees 41 ws i.0 (λ j. let xs = rest ws in read_then _ (deed_read n xs j.0) (λ a ys k. is_read ((k.0, tt), k.1, omega (arith, e.1, f.1, h.1, rest_le vs, i.1, j.1, k.2)))))) no_read)))
      (read_word w_print ts s (λ e. read_pick (sees 59 (rest ts)) (closed_read _ ts (rest ts) tt e.0 (omega (arith, e.1))) (read_then _ (args_read n (rest ts) e.0) (λ xs us h. closed_read _ ts us h.0 h.1 (omega (arith, e.1, h.2)))))
      (read_word w_next ts s (λ e. closed_read _ ts (rest ts) tt e.0 (omega (arith, e.1)))
      (read_word w_exit ts s (λ e. read_pick (sees 59 (rest ts)) (closed_read _ ts (rest ts) tt e.0 (omega (arith, e.1))) (read_then _ (term_read n (rest ts) e.0) (λ a us h. closed_read _ ts us h.0 h.1 (omega (arith, e.1, h.2)))))
      (read_word w_return ts s (λ e. read_pick (sees 59 (rest ts)) (closed_read _ ts (rest ts) no_bytes e.0 (omega (arith, e.1))) (read_then _ (term_read n (rest ts) e.0) (λ a us h. closed_read _ ts us h.0 h.1 (omega (arith, e.1, h.2)))))
      (read_word w_delete ts s (λ e. read_then _ (name_read (rest ts) e.0) (λ x us f. read_sees 91 us f.0 (λ g. let vs = rest us in read_then _ (term_read n vs g.0) (λ a ws h. read_sees 93 ws h.1 (λ i. let xs = rest ws in
      closed_read _ ts xs h.0 i.0 (omega (arith, e.1, f.1, g.1, h.2, i.1)))))))
      (read_then _ (term_read n ts s) (λ a us h. closed_read _ ts us h.0 h.1 (omega (arith, h.2))))))))))))

  block_read : (n : ℕ) (ts : List Token) → Sane ts → Read (Blocks ts) (block n ts)
  block_read zero ts s = no_read
  block_read (suc n) ts s =
      read_if 125 ts s (λ e. is_read (tt, e.0, omega (arith, e.1)))
      (read_then _ (deed_read n ts s) (λ a us h. read_then _ (block_read n us h.1) (λ b vs g. is_read (joined_sound a b h.0 g.0, g.1, omega (arith, h.2, g.2, joined_size a b)))))

abbrev Passes : {A : Type 0} → List Token → A → List Token → Type 0
Passes ts a us = Sane us × (length us ≤ length ts)

names_read : (n : ℕ) (ts : List Token) → Sane ts → Read (Passes ts) (names n ts)
unfolding names
names_read zero ts s = no_read
names_read (suc n) ts s = read_then _ (name_read ts s) (λ x us h.
    read_if 44 us h.0 (λ e. read_then _ (names_read n (rest us) e.0) (λ xs vs g. is_read (g.0, omega (arith, h.1, g.1, e.1)))) (is_read (h.0, omega (arith, h.1))))

params_read : (n : ℕ) (ts : List Token) → Sane ts → Read (Passes ts) (params_of n ts)
params_read n ts s = read_pick (sees 41 ts) (is_read (s, omega arith)) (names_read n ts s)

abbrev Whole : List Token → Program → List Token → Type 0
Whole ts p us = SoundProgram p × Sane us × (program_size p + 6 * length us ≤ 6 * length ts)

-- a rule, and the others: k is what of it was read before its statements
ruled_read : (k : ℕ) (t : Term) (ts us : List Token) (n : ℕ) {d : Reads Deeds} → SoundTerm t → 6 * length us + term_size t + 3 ≤ 6 * length ts + 3 → Read (Blocks us) d → ((vs : List Token) → Sane vs → Read (Whole vs) (program n vs)) →
    Read (Whole ts) (ruled k t d (program n))
unfolding program_size
ruled_read k t ts us n h l r m = read_then _ r (λ a vs g. read_then _ (m vs g.1) (λ p ws e. is_read
    (record { in_rules = all_more (h, g.0) e.0.in_rules; in_functions = e.0.in_functions }, e.1, omega (arith, l, g.2, e.2))))

program_read : (n : ℕ) (ts : List Token) → Sane ts → Read (Whole ts) (program n ts)
unfolding program SoundTerm term_size program_size
program_read zero ts s = no_read
program_read (suc n) [] s = is_read (record { in_rules = all_none; in_functions = all_none }, all_none, omega arith)
program_read (suc n) (t ∷ ts) (all_more h s) =
    read_pick (is_word w_function t) (read_then _ (name_read ts s) (λ x us a. read_sees 40 us a.0 (λ b. read_then _ (params_read n (rest us) b.0) (λ ps ws c. read_sees 41 ws c.0 (λ d. read_sees 123 (rest ws) d.0 (λ e.
    read_then _ (block_read n (rest (rest ws)) e.0) (λ ds zs f. read_then _ (program_read n zs f.1) (λ p qs g. is_read
    (record { in_rules = g.0.in_rules; in_functions = all_more f.0 g.0.in_functions }, g.1, omega (arith, a.1, b.1, c.1, d.1, e.1, f.2, g.2))))))))))
    (read_pick (is_word w_begin t) (read_sees 123 ts s (λ e. ruled_read 0 (num 1) (t ∷ ts) (rest ts) n tt (omega (arith, e.1)) (block_read n (rest ts) e.0) (λ vs v. program_read n vs v)))
    (read_pick (is_word w_end t) (read_sees 123 ts s (λ e. ruled_read 1 (num 1) (t ∷ ts) (rest ts) n tt (omega (arith, e.1)) (block_read n (rest ts) e.0) (λ vs v. program_read n vs v)))
    (read_pick (is_sign 123 t) (ruled_read 2 (num 1) (t ∷ ts) ts n tt (omega arith) (block_read n ts s) (λ vs v. program_read n vs v))
    (read_then _ (term_read n (t ∷ ts) (all_more h s)) (λ c us a. read_sees 123 us a.1 (λ e. ruled_read 3 c (t ∷ ts) (rest us) n a.0 (omega (arith, a.2, e.1)) (block_read n (rest us) e.0) (λ vs v. program_read n vs v)))))))

-- Tokens: a quoted text is no longer than what it stands in, and has only bytes of it, or the end of a line.
tail_sound : {c : ℕ} {cs : List ℕ} → SoundText (c ∷ cs) → SoundText cs
tail_sound {c} {cs} s = record { small = omega (arith, s.small); in_bytes = (and_parts (ltb c 256) (every (λ d. ltb d 256) cs) s.in_bytes).1 }

-- what stands behind some of the bytes
abbrev Behind : ℕ → List ℕ → Type 0
Behind n x = SoundText x × (length x ≤ n)

behind_more : {n : ℕ} {x : List ℕ} → Behind n x → Behind (suc n) x
behind_more h = (h.0, omega (arith, h.1))

one_less : (cs : List ℕ) → SoundText cs → Behind (length cs) (less_one cs)
one_less [] s = (s, omega arith)
one_less (c ∷ cs) s = (tail_sound s, omega arith)

word_behind : (cs : List ℕ) → SoundText cs → Behind (length cs) (after_word cs)
unfolding after_word
word_behind [] s = (s, omega arith)
word_behind (c ∷ cs) s = pick_of (Behind (suc (length cs))) (or (letter c) (digit c)) (behind_more (word_behind cs (tail_sound s))) (s, omega arith)

digits_behind : (cs : List ℕ) → SoundText cs → Behind (length cs) (past_digits cs)
unfolding past_digits
digits_behind [] s = (s, omega arith)
digits_behind (c ∷ cs) s = pick_of (Behind (suc (length cs))) (digit c) (behind_more (digits_behind cs (tail_sound s))) (s, omega arith)

line_behind : (cs : List ℕ) → SoundText cs → Behind (length cs) (past_line cs)
unfolding past_line
line_behind [] s = (s, omega arith)
line_behind (c ∷ cs) s = pick_of (Behind (suc (length cs))) (eqb c 10) (tail_sound s, omega arith) (behind_more (line_behind cs (tail_sound s)))

quote_behind : (cs : List ℕ) → SoundText cs → Behind (length cs) (past_quote cs)
unfolding past_quote
quote_behind [] s = (s, omega arith)
quote_behind (c ∷ []) s = (no_bytes, omega arith)
quote_behind (c ∷ d ∷ cs) s =
    pick_of (Behind (suc (suc (length cs)))) (eqb c 34) (tail_sound s, omega arith)
    (pick_of (Behind (suc (suc (length cs)))) (eqb c 92) (behind_more (behind_more (quote_behind cs (tail_sound (tail_sound s))))) (behind_more (quote_behind (d ∷ cs) (tail_sound s))))

quote_length : (cs : List ℕ) → length (quote_part cs) ≤ length cs
unfolding quote_part
quote_length [] = omega arith
quote_length (c ∷ []) = few_pick (eqb c 34) [] (c ∷ []) 1 (omega arith) (omega arith)
quote_length (c ∷ d ∷ cs) =
    few_pick (eqb c 34) [] (pick (eqb c 92) (meant d ∷ quote_part cs) (c ∷ quote_part (d ∷ cs))) (suc (suc (length cs))) (omega arith)
    (few_pick (eqb c 92) (meant d ∷ quote_part cs) (c ∷ quote_part (d ∷ cs)) (suc (suc (length cs))) (omega (arith, quote_length cs)) (omega (arith, quote_length (d ∷ cs))))

head_small : (c : ℕ) (cs : List ℕ) → Bytes (c ∷ cs) → c < 256
head_small c cs h = ltb-true c 256 (and_parts (ltb c 256) (every (λ d. ltb d 256) cs) h).0

rest_bytes : (c : ℕ) (cs : List ℕ) → Bytes (c ∷ cs) → Bytes cs
rest_bytes c cs h = (and_parts (ltb c 256) (every (λ d. ltb d 256) cs) h).1

quote_bytes : (cs : List ℕ) → Bytes cs → Bytes (quote_part cs)
unfolding quote_part
quote_bytes [] h = refl
quote_bytes (c ∷ []) h = pick_of Bytes (eqb c 34) refl h
quote_bytes (c ∷ d ∷ cs) h =
    pick_of Bytes (eqb c 34) refl (pick_of Bytes (eqb c 92) (bytes_cons (meant d) (quote_part cs) (pick_of (λ x. x < 256) (eqb d 110) (omega arith) (head_small d cs (rest_bytes c (d ∷ cs) h))) (quote_bytes cs (rest_bytes d cs (rest_bytes c (d ∷ cs) h))))
    (bytes_cons c (quote_part (d ∷ cs)) (head_small c (d ∷ cs) h) (quote_bytes (d ∷ cs) (rest_bytes c (d ∷ cs) h))))

-- tokens: sane, and no more than bytes
abbrev CutUp : ℕ → List Token → Type 0
CutUp n ts = Sane ts × (length ts ≤ n)

cut_more : {m : ℕ} {ts : List Token} (n : ℕ) → m ≤ n → CutUp m ts → CutUp n ts
cut_more n l h = (h.0, omega (arith, l, h.1))

more_token : {n : ℕ} {ts : List Token} (t : Token) → SaneToken t → CutUp n ts → CutUp (suc n) (t ∷ ts)
more_token t s h = (all_more s h.0, omega (arith, h.1))

-- the first token, by its first byte, where all that may stand behind it is cut up right
first_token : (n c : ℕ) (cs : List ℕ) → SoundText (quote_part cs) → CutUp (length cs) (tokens n cs) → CutUp (length cs) (tokens n (past_line cs)) → CutUp (length cs) (tokens n (after_word cs)) →
    CutUp (length cs) (tokens n (past_digits cs)) → CutUp (length cs) (tokens n (past_quote cs)) → CutUp (length cs) (tokens n (less_one cs)) → CutUp (suc (length cs)) (tokens (suc n) (c ∷ cs))
unfolding tokens
first_token n c cs q rest_all line words digits quote one =
    pick_of (CutUp (suc (length cs))) (gap c) (cut_more _ (omega arith) rest_all)
    (pick_of (CutUp (suc (length cs))) (eqb c 35) (cut_more _ (omega arith) line)
    (pick_of (CutUp (suc (length cs))) (letter c) (more_token _ tt words)
    (pick_of (CutUp (suc (length cs))) (digit c) (pick_of (CutUp (suc (length cs))) (leb (length (digits_part (c ∷ cs))) 18) (more_token _ tt digits) (all_more tt all_none, omega arith))
    (pick_of (CutUp (suc (length cs))) (eqb c 34) (pick_of (CutUp (suc (length cs))) (quote_ends cs) (more_token _ q quote) (all_more tt all_none, omega arith))
    (pick_of (CutUp (suc (length cs))) (eqb (pair_sign c cs) 0) (pick_of (CutUp (suc (length cs))) (a_sign c) (more_token _ tt rest_all) (all_more tt all_none, omega arith)) (more_token _ tt one))))))

tokens_read : (n : ℕ) (cs : List ℕ) → SoundText cs → CutUp (length cs) (tokens n cs)
unfolding tokens
tokens_read zero cs s = (all_none, omega arith)
tokens_read (suc n) [] s = (all_none, omega arith)
tokens_read (suc n) (c ∷ cs) s =
    let r = tail_sound s in
    let behind : (x : List ℕ) → Behind (length cs) x → CutUp (length cs) (tokens n x) = λ x h. cut_more (length cs) h.1 (tokens_read n x h.0) in
    first_token n c cs (record { small = omega (arith, r.small, quote_length cs); in_bytes = quote_bytes cs r.in_bytes })
    (tokens_read n cs r) (behind _ (line_behind cs r)) (behind _ (word_behind cs r)) (behind _ (digits_behind cs r)) (behind _ (quote_behind cs r)) (behind _ (one_less cs r))

whole_read : {g : Reads Program} (ts : List Token) {p : Program} → Read (Whole ts) g → whole_program g ≡ p ∷ [] → SoundProgram p × (program_size p ≤ 6 * length ts)
unfolding whole_program
whole_read ts no_read e = let y : ◌≡◌ {A = ℕ} 0 1 = cc in absurd (omega arith)
whole_read ts (is_read {ts = []} h) e = subst (λ q. SoundProgram q × (program_size q ≤ 6 * length ts)) (cc) (h.0, omega (arith, h.2))
whole_read ts (is_read {ts = u ∷ us} h) e = let y : ◌≡◌ {A = ℕ} 0 1 = cc in absurd (omega arith)

-- a program that is read: its texts are sound, and its size is at most six for each byte
pub reads_right : (t : List ℕ) (p : Program) → a_row t ≡ true → reads t ≡ p ∷ [] → SoundProgram p × (program_size p ≤ 24576)
reads_right t p h e =
    let a = and_parts (leb (length t) 4096) (every (λ b. ltb b 256) t) h in
    let l : length t ≤ 4096 = leb-true (length t) 4096 a.0 in
    let s : SoundText t = record { small = omega arith; in_bytes = a.1 } in
    let c = tokens_read (suc (length t)) t s in
    let r = whole_read (cut_up t) (program_read _ (cut_up t) c.0) e in
    (r.0, omega (arith, r.1, c.1))

pub reads_sound : (t : List ℕ) (p : Program) → a_row t ≡ true → reads t ≡ p ∷ [] → SoundProgram p
reads_sound t p h e = (reads_right t p h e).0
