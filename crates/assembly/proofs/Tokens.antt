-- Tokens of a text: no more than its bytes, and each with no more bytes, nor greater ones, than the text has; numbers have at most 18 digits.
use Rattle.std.proofs.Common.{◌≡◌, ℕ, zero, suc, ◌+◌, ◌-◌, ◌*◌, ◌<◌, ◌≤◌, Bool, true, false, ◌&&◌, eqb, ltb, leb, List, [], ◌∷◌, length, refl, le_refl, arith}
use Rattle.std.proofs.lemmas.Bool.{and_parts, ltb-true, lt-ltb, leb-true, le-leb, eqb-true}
use Rattle.language.specs.Text.{pick, or, every, digit, leading}
use Rattle.language.specs.Program.{Token, word, number, quoted, sign, bad, letter, word_part, after_word, digits_part, past_digits, past_line, meant, quote_part, quote_ends, past_quote, less_one, a_sign, pair_sign, gap, tokens, cut_up}

-- NUMBERS: the greatest number that k more digits behind n can give
abbrev greatest : ℕ → ℕ → ℕ
greatest zero n = n
greatest (suc k) n = greatest k (10 * n + 9)

greatest_more : (k m n : ℕ) → m ≤ n → greatest k m ≤ greatest k n
greatest_more zero m n h = h
greatest_more (suc k) m n h = greatest_more k (10 * m + 9) (10 * n + 9) (omega arith)

greatest_least : (k n : ℕ) → n ≤ greatest k n
greatest_least zero n = le_refl n
greatest_least (suc k) n = omega (arith, greatest_least k (10 * n + 9))

leading_small : (cs : List ℕ) (k n : ℕ) → length (digits_part cs) ≤ k → leading n cs ≤ greatest k n
unfolding leading digits_part
leading_small [] k n h = greatest_least k n
leading_small (c ∷ cs) k n h = by_digit (digit c) refl k h (λ j. leading_small cs j (10 * n + (c - 48)))
  where
    of_digit : digit c ≡ true → c - 48 ≤ 9
    of_digit e = let t = and_parts (leb 48 c) (leb c 57) e in omega (arith, leb-true c 57 t.1)

    by_digit : (b : Bool) → digit c ≡ b → (k : ℕ) → length (pick b (c ∷ digits_part cs) []) ≤ k →
        ((j : ℕ) → length (digits_part cs) ≤ j → leading (10 * n + (c - 48)) cs ≤ greatest j (10 * n + (c - 48))) → pick b (leading (10 * n + (c - 48)) cs) n ≤ greatest k n
    by_digit true e zero i r = absurd (omega arith)
    by_digit true e (suc j) i r = omega (arith, r j (omega arith), greatest_more j (10 * n + (c - 48)) (10 * n + 9) (omega (arith, of_digit e)))
    by_digit false e j i r = greatest_least j n

abbrev pub fine_number : ℕ → Bool
fine_number n = ltb n 1000000000000000000

-- BYTES below a limit
module _ (lim : ℕ) where
  abbrev pub below : List ℕ → Bool
  below b = every (λ c. ltb c lim) b

  -- a text with no more bytes than another, nor greater ones
  record Under (xs ys : List ℕ) : Type 0 where
    few : length xs ≤ length ys
    low : below ys ≡ true → below xs ≡ true

  under_self : (xs : List ℕ) → Under xs xs
  under_self xs = record { few = le_refl (length xs); low = λ e. e }

  under_none : (ys : List ℕ) → Under [] ys
  under_none ys = record { few = omega arith; low = λ e. refl }

  under_skip : {xs ys : List ℕ} (c : ℕ) → Under xs ys → Under xs (c ∷ ys)
  under_skip {xs} {ys} c u = record { few = omega (arith, u.few); low = λ e. u.low (and_parts (ltb c lim) (below ys) e).1 }

  under_keep : {xs ys : List ℕ} (c d : ℕ) → (d < lim → c < lim) → Under xs ys → Under (c ∷ xs) (d ∷ ys)
  under_keep {xs} {ys} c d k u = record {
    few = omega (arith, u.few);
    low = λ e. let t = and_parts (ltb d lim) (below ys) e in rw (lt-ltb c lim (k (ltb-true d lim t.0))) (u.low t.1);
  }

  under_pick : (b : Bool) {xs zs ys : List ℕ} → Under xs ys → Under zs ys → Under (pick b xs zs) ys
  under_pick true u v = u
  under_pick false u v = v

  under_trans : {xs ys zs : List ℕ} → Under xs ys → Under ys zs → Under xs zs
  under_trans u v = record { few = omega (arith, u.few, v.few); low = λ e. u.low (v.low e) }

  meant_low : (d : ℕ) → d < lim → meant d < lim
  meant_low d h = by_test (eqb d 110) refl
    where
      by_test : (b : Bool) → eqb d 110 ≡ b → pick b 10 d < lim
      by_test true e = omega (arith, eqb-true d 110 e)
      by_test false e = h

  word_part_under : (cs : List ℕ) → Under (word_part cs) cs
  unfolding word_part
  word_part_under [] = under_self []
  word_part_under (c ∷ cs) = under_pick (or (letter c) (digit c)) (under_keep c c (λ h. h) (word_part_under cs)) (under_none (c ∷ cs))

  after_word_under : (cs : List ℕ) → Under (after_word cs) cs
  unfolding after_word
  after_word_under [] = under_self []
  after_word_under (c ∷ cs) = under_pick (or (letter c) (digit c)) (under_skip c (after_word_under cs)) (under_self (c ∷ cs))

  past_digits_under : (cs : List ℕ) → Under (past_digits cs) cs
  unfolding past_digits
  past_digits_under [] = under_self []
  past_digits_under (c ∷ cs) = under_pick (digit c) (under_skip c (past_digits_under cs)) (under_self (c ∷ cs))

  past_line_under : (cs : List ℕ) → Under (past_line cs) cs
  unfolding past_line
  past_line_under [] = under_self []
  past_line_under (c ∷ cs) = under_pick (eqb c 10) (under_skip c (under_self cs)) (under_skip c (past_line_under cs))

  quote_part_under : (cs : List ℕ) → Under (quote_part cs) cs
  unfolding quote_part
  quote_part_under [] = under_self []
  quote_part_under (c ∷ []) = under_pick (eqb c 34) (under_none (c ∷ [])) (under_self (c ∷ []))
  quote_part_under (c ∷ d ∷ cs) =
      under_pick (eqb c 34) (under_none (c ∷ d ∷ cs)) (under_pick (eqb c 92) (under_skip c (under_keep (meant d) d (meant_low d) (quote_part_under cs))) (under_keep c c (λ h. h) (quote_part_under (d ∷ cs))))

  past_quote_under : (cs : List ℕ) → Under (past_quote cs) cs
  unfolding past_quote
  past_quote_under [] = under_self []
  past_quote_under (c ∷ []) = under_none (c ∷ [])
  past_quote_under (c ∷ d ∷ cs) = under_pick (eqb c 34) (under_skip c (under_self (d ∷ cs))) (under_pick (eqb c 92) (under_skip c (under_skip d (past_quote_under cs))) (under_skip c (past_quote_under (d ∷ cs))))

  less_one_under : (cs : List ℕ) → Under (less_one cs) cs
  less_one_under [] = under_self []
  less_one_under (c ∷ cs) = under_skip c (under_self cs)

  -- FINE TOKENS: a text of at most n bytes below the limit, a number below 10^18
  abbrev pub fine_text : ℕ → List ℕ → Bool
  fine_text n b = leb (length b) n && below b

  abbrev pub fine_token : ℕ → Token → Bool
  fine_token n (word w) = fine_text n w
  fine_token n (number k) = fine_number k
  fine_token n (quoted b) = fine_text n b
  fine_token n (sign d) = true
  fine_token n bad = true

  -- tokens of some text, no more than it has bytes, all fine
  record Fine (n : ℕ) (cs : List ℕ) (ts : List Token) : Type 0 where
    pub few : length ts ≤ length cs
    pub fine : length cs ≤ n → below cs ≡ true → every (fine_token n) ts ≡ true

  fine_none : (n : ℕ) (cs : List ℕ) → Fine n cs []
  fine_none n cs = record { few = omega arith; fine = λ h e. refl }

  fine_pick : (b : Bool) {n : ℕ} {cs : List ℕ} {ts us : List Token} → (b ≡ true → Fine n cs ts) → Fine n cs us → Fine n cs (pick b ts us)
  fine_pick true f g = f refl
  fine_pick false f g = g

  fine_later : {n : ℕ} {cs ds : List ℕ} {ts : List Token} (c : ℕ) → Under ds cs → Fine n ds ts → Fine n (c ∷ cs) ts
  fine_later {cs} c u f = record { few = omega (arith, u.few, f.few); fine = λ h e. f.fine (omega (arith, u.few)) (u.low (and_parts (ltb c lim) (below cs) e).1) }

  fine_and : {n : ℕ} {cs ds : List ℕ} {ts : List Token} (c : ℕ) (t : Token) → (length (c ∷ cs) ≤ n → below (c ∷ cs) ≡ true → fine_token n t ≡ true) → Under ds cs → Fine n ds ts → Fine n (c ∷ cs) (t ∷ ts)
  fine_and {cs} c t k u f = record {
    few = omega (arith, u.few, f.few);
    fine = λ h e. rw (k h e) (f.fine (omega (arith, u.few)) (u.low (and_parts (ltb c lim) (below cs) e).1));
  }

  fine_under : {n : ℕ} {b cs : List ℕ} → Under b cs → length cs ≤ n → below cs ≡ true → fine_text n b ≡ true
  fine_under {n} {b} u h e = rw (le-leb (length b) n (omega (arith, u.few))) (u.low e)

  number_fine : (cs : List ℕ) → leb (length (digits_part cs)) 18 ≡ true → fine_number (leading 0 cs) ≡ true
  number_fine cs e = let a : leading 0 cs ≤ 999999999999999999 = leading_small cs 18 0 (leb-true _ 18 e) in lt-ltb (leading 0 cs) 1000000000000000000 (omega (arith, a))

  lone_bad : (n : ℕ) (c : ℕ) (cs : List ℕ) → Fine n (c ∷ cs) (bad ∷ [])
  lone_bad n c cs = fine_and c bad (λ h e. refl) (under_self cs) (fine_none n cs)

  tokens_fine : (n k : ℕ) (cs : List ℕ) → Fine n cs (tokens k cs)
  unfolding tokens
  tokens_fine n zero cs = fine_none n cs
  tokens_fine n (suc k) [] = fine_none n []
  tokens_fine n (suc k) (c ∷ cs) =
      fine_pick (gap c) (λ _. fine_later c (under_self cs) (tokens_fine n k cs))
      (fine_pick (eqb c 35) (λ _. fine_later c (past_line_under cs) (tokens_fine n k (past_line cs)))
      (fine_pick (letter c) (λ _. fine_and c (word (word_part (c ∷ cs))) (λ h e. fine_under (word_part_under (c ∷ cs)) h e) (after_word_under cs) (tokens_fine n k (after_word cs)))
      (fine_pick (digit c) (λ _. fine_pick (leb (length (digits_part (c ∷ cs))) 18) (λ z. fine_and c (number (leading 0 (c ∷ cs))) (λ h e. number_fine (c ∷ cs) z) (past_digits_under cs) (tokens_fine n k (past_digits cs))) (lone_bad n c cs))
      (fine_pick (eqb c 34) (λ _. fine_pick (quote_ends cs) (λ _. fine_and c (quoted (quote_part cs)) (λ h e. fine_under (under_skip c (quote_part_under cs)) h e) (past_quote_under cs) (tokens_fine n k (past_quote cs))) (lone_bad n c cs))
      (fine_pick (eqb (pair_sign c cs) 0) (λ _. fine_pick (a_sign c) (λ _. fine_and c (sign c) (λ h e. refl) (under_self cs) (tokens_fine n k cs)) (lone_bad n c cs))
      (fine_and c (sign (pair_sign c cs)) (λ h e. refl) (less_one_under cs) (tokens_fine n k (less_one cs))))))))

  pub cut_few : (t : List ℕ) → length (cut_up t) ≤ length t
  cut_few t = (tokens_fine 0 (suc (length t)) t).few

  pub cut_fine : (n : ℕ) (t : List ℕ) → length t ≤ n → below t ≡ true → every (fine_token n) (cut_up t) ≡ true
  cut_fine n t h e = (tokens_fine n (suc (length t)) t).fine h e
