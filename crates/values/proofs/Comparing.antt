-- What an order of numbers, of texts and of values says.
use Rattle.std.proofs.Common.{◌≡◌, ℕ, suc, ◌+◌, ◌-◌, ◌^◌, ◌<◌, ◌≤◌, min, Bool, true, false, not, ◌&&◌, eqb, ltb, ◌⊎◌, List, [], ◌∷◌, length, get_or, drop, ℤ, pos, negsuc, ◌<ℤ◌, Ordering, Less, Equal, Greater, sym, refl, ap, ◌∙◌, inl, inr, arith, w64, SFits, of_z}
use lib.Signed.{lt_z}
use Rattle.std.specs.Ordering.{is_lt, is_gt, is_eq, is_ne, is_le, is_ge, MatchOrdering}
use Rattle.std.proofs.lemmas.Bool.{lt-ltb, le-ltb, eq-eqb, ne_eqb, true≢false}
use Rattle.std.proofs.lemmas.List.{drop_more, drop_all}
use Rattle.std.proofs.lemmas.Int.{ints}
use Rattle.language.specs.Text.{pick, Value, earlier, less_number, less, alike, looks, number_of, as_text, holds, text}
use Rattle.store.specs.Numbers.{number}
use Rattle.values.specs.Compare.{Ordered}

less_number_is : (a b : ℤ) → less_number (number a) (number b) ≡ lt_z a b
unfolding less_number
less_number_is (pos a) (pos b) = refl
less_number_is (pos a) (negsuc b) = refl
less_number_is (negsuc a) (pos b) = refl
less_number_is (negsuc a) (negsuc b) = refl

under : (a b : ℤ) → a <ℤ b → lt_z a b ≡ true
under a b h = grind (arith, ints)

not_under : (a b : ℤ) → a <ℤ b → lt_z b a ≡ false
not_under a b h = grind (arith, ints)

not_self : (a : ℤ) → lt_z a a ≡ false
not_self a = grind (arith, ints)

pub numbers_ordered : (a b : ℤ) (o : Ordering) → MatchOrdering o (a <ℤ b) (a ≡ b) (b <ℤ a) → Ordered less_number (number a) (number b) o
numbers_ordered a b Less h = record { first = sym (less_number_is a b ∙ under a b h); second = sym (less_number_is b a ∙ not_under a b h) }
numbers_ordered a b Equal h =
    record { first = sym (less_number_is a b ∙ ap (lt_z a) (sym h) ∙ not_self a); second = sym (less_number_is b a ∙ ap (λ z. lt_z z a) (sym h) ∙ not_self a) }
numbers_ordered a b Greater h = record { first = sym (less_number_is a b ∙ not_under b a h); second = sym (less_number_is b a ∙ under b a h) }

-- two texts from byte i on

heads_less : (x y : ℕ) (xs ys : List ℕ) → x < y → Ordered earlier (x ∷ xs) (y ∷ ys) Less
unfolding earlier
heads_less x y xs ys h = record { first = rw (lt-ltb x y h); second = rw (le-ltb y x (omega arith), ne_eqb y x (λ e. omega arith)) }

heads_greater : (x y : ℕ) (xs ys : List ℕ) → y < x → Ordered earlier (x ∷ xs) (y ∷ ys) Greater
unfolding earlier
heads_greater x y xs ys h = record { first = rw (le-ltb x y (omega arith), ne_eqb x y (λ e. omega arith)); second = rw (lt-ltb y x h) }

heads_same : (x y : ℕ) (xs ys : List ℕ) (o : Ordering) → x ≡ y → Ordered earlier xs ys o → Ordered earlier (x ∷ xs) (y ∷ ys) o
unfolding earlier
heads_same x y xs ys o h r =
    record { first = rw (le-ltb x y (omega arith), eq-eqb x y h) r.first; second = rw (le-ltb y x (omega arith), eq-eqb y x (sym h)) r.second }

module _ (xs ys : List ℕ) (i : ℕ) where
  module _ (k : i < length xs) (l : i < length ys) where
    at_heads : (o : Ordering) → Ordered earlier (get_or xs i 0 ∷ drop (i + 1) xs) (get_or ys i 0 ∷ drop (i + 1) ys) o → Ordered earlier (drop i xs) (drop i ys) o
    at_heads o r = rw (drop_more xs i 0 k, drop_more ys i 0 l) r

    bytes_less : get_or xs i 0 < get_or ys i 0 → Ordered earlier (drop i xs) (drop i ys) Less
    bytes_less h = at_heads Less (heads_less (get_or xs i 0) (get_or ys i 0) (drop (i + 1) xs) (drop (i + 1) ys) h)

    bytes_greater : get_or ys i 0 < get_or xs i 0 → Ordered earlier (drop i xs) (drop i ys) Greater
    bytes_greater h = at_heads Greater (heads_greater (get_or xs i 0) (get_or ys i 0) (drop (i + 1) xs) (drop (i + 1) ys) h)

    pub bytes_same : (o : Ordering) → get_or xs i 0 ≡ get_or ys i 0 → Ordered earlier (drop (i + 1) xs) (drop (i + 1) ys) o → Ordered earlier (drop i xs) (drop i ys) o
    bytes_same o h r = at_heads o (heads_same (get_or xs i 0) (get_or ys i 0) (drop (i + 1) xs) (drop (i + 1) ys) o h r)

    -- where the two bytes at i differ, their order is that of the texts
    pub bytes_found : (o : Ordering) → MatchOrdering o (get_or xs i 0 < get_or ys i 0) (get_or xs i 0 ≡ get_or ys i 0) (get_or ys i 0 < get_or xs i 0) → (o ≡ Equal → ⊥) → Ordered earlier (drop i xs) (drop i ys) o
    bytes_found Less h n = bytes_less h
    bytes_found Equal h n = absurd (n refl)
    bytes_found Greater h n = bytes_greater h

  pub bytes_over : i ≡ min (length xs) (length ys) → (o : Ordering) → MatchOrdering o (length xs < length ys) (length xs ≡ length ys) (length ys < length xs) → Ordered earlier (drop i xs) (drop i ys) o
  unfolding earlier
  bytes_over e Less h =
      let k : length xs ≤ i = omega arith in
      let l : i < length ys = omega arith in
      rw (drop_all i xs k, drop_more ys i 0 l) (record { first = refl; second = refl })
  bytes_over e Equal h =
      let k : length xs ≤ i = omega arith in
      let l : length ys ≤ i = omega arith in
      rw (drop_all i xs k, drop_all i ys l) (record { first = refl; second = refl })
  bytes_over e Greater h =
      let k : i < length xs = omega arith in
      let l : length ys ≤ i = omega arith in
      rw (drop_more xs i 0 k, drop_all i ys l) (record { first = refl; second = refl })

-- values: by their numbers if both look like numbers, otherwise by their texts

one_not : (a b : Bool) → (a ≡ false) ⊎ (b ≡ false) → (a && b) ≡ false
one_not true b (inl e) = absurd (true≢false e)
one_not false b (inl e) = refl
one_not true b (inr e) = e
one_not false b (inr e) = refl

turned : {P Q : Type 0} → P ⊎ Q → Q ⊎ P
turned (inl p) = inr p
turned (inr q) = inl q

module _ (v w : Value) (o : Ordering) where
  pub by_numbers : (a b : Value) → looks v ≡ true → looks w ≡ true → a ≡ number_of v → b ≡ number_of w → Ordered less_number a b o → Ordered less v w o
  unfolding less
  by_numbers a b h k e f r =
      record {
        first = rw (h, k) (r.first ∙ ap (λ x. less_number x b) e ∙ ap (less_number (number_of v)) f);
        second = rw (k, h) (r.second ∙ ap (λ x. less_number x a) f ∙ ap (less_number (number_of w)) e);
      }

  pub by_texts : (xs ys : List ℕ) → (looks v ≡ false) ⊎ (looks w ≡ false) → xs ≡ as_text v → ys ≡ as_text w → Ordered earlier xs ys o → Ordered less v w o
  unfolding less
  by_texts xs ys h e f r =
      record {
        first =
            r.first ∙ ap (λ x. earlier x ys) e ∙ ap (earlier (as_text v)) f
            ∙ ap (λ b. pick b (less_number (number_of v) (number_of w)) (earlier (as_text v) (as_text w))) (sym (one_not (looks v) (looks w) h));
        second =
            r.second ∙ ap (λ x. earlier x xs) f ∙ ap (earlier (as_text w)) e
            ∙ ap (λ b. pick b (less_number (number_of w) (number_of v)) (earlier (as_text w) (as_text v))) (sym (one_not (looks w) (looks v) (turned h)));
      }

pub number_looks : (z : ℤ) → looks (number z) ≡ true
unfolding looks
number_looks (pos n) = refl
number_looks (negsuc n) = refl

pub number_itself : (z : ℤ) → number z ≡ number_of (number z)
unfolding number_of
number_itself (pos n) = refl
number_itself (negsuc n) = refl

pub both_numbers : (a b : ℤ) (o : Ordering) → Ordered less_number (number a) (number b) o → Ordered less (number a) (number b) o
both_numbers a b o r = by_numbers (number a) (number b) o (number a) (number b) (number_looks a) (number_looks b) (number_itself a) (number_itself b) r

-- the six comparisons

module _ (v w : Value) (o : Ordering) (h : Ordered less v w o) where
  pub equal_is : is_eq o ≡ alike v w
  unfolding alike
  equal_is = by o ∙ ap (λ b. not b && not (is_gt o)) h.first ∙ ap (λ b. not (less v w) && not b) h.second
    where
      by : (p : Ordering) → is_eq p ≡ (not (is_lt p) && not (is_gt p))
      by Less = refl
      by Equal = refl
      by Greater = refl

  pub unequal_is : is_ne o ≡ not (alike v w)
  unequal_is = by o ∙ ap not equal_is
    where
      by : (p : Ordering) → is_ne p ≡ not (is_eq p)
      by Less = refl
      by Equal = refl
      by Greater = refl

  pub at_most_is : is_le o ≡ not (less w v)
  at_most_is = by o ∙ ap not h.second
    where
      by : (p : Ordering) → is_le p ≡ not (is_gt p)
      by Less = refl
      by Equal = refl
      by Greater = refl

  pub at_least_is : is_ge o ≡ not (less v w)
  at_least_is = by o ∙ ap not h.first
    where
      by : (p : Ordering) → is_ge p ≡ not (is_lt p)
      by Less = refl
      by Equal = refl
      by Greater = refl

-- what counts as true

pub number_counts : (z : ℤ) → SFits w64 z → not (eqb (of_z w64 z) 0) ≡ holds (number z)
unfolding holds
number_counts (pos n) f = refl
number_counts (negsuc n) f = ap not (ne_eqb (2 ^ 64 - suc n) 0 (λ e. omega (arith, f.sfits)))

pub text_counts : (bs : List ℕ) → ltb 0 (length bs) ≡ holds (text bs)
unfolding holds
text_counts [] = refl
text_counts (c ∷ cs) = lt-ltb 0 (suc (length cs)) (omega arith)
