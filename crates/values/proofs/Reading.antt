-- Runs of bytes in a text, and the numbers that texts begin with.
use Rattle.std.proofs.Common.{◌≡◌, ℕ, zero, suc, ◌+◌, ◌-◌, ◌*◌, ◌^◌, ◌<◌, ◌≤◌, min, Bool, true, false, ◌&&◌, eqb, ltb, leb, ◌⊎◌, List, [], ◌∷◌, length, get_or, take, drop, Some, None, sym, refl, ap, ◌∙◌, inl, inr, pow-suc, zero-add, add-one, arith, length-drop, length-take}
use native.Mathlib.Nat.{pow-le-pow_right}
use lib.Dec.{leb-suc-suc}
use lib.Seq.{take-nil}
use Rattle.std.proofs.Math.Bool.{and-true}
use Rattle.std.proofs.lemmas.Bool.{eq-eqb, ne_eqb, lt-ltb, le-ltb, le-leb, lt-leb, ltb-true, leb-true, eqb-true, and_parts, and_right, cases_lt}
use Rattle.std.proofs.lemmas.List.{drop_more, drop_all, drop-drop, get_or-drop}
use Rattle.language.specs.Text.{pick, every, plus, text, blank, digit, negative, leading, no_blanks, after_digits, starts_digit, none_of, signed, unsigned, only_digits, number_of, looks}
use Rattle.values.specs.Texts.{run, Runs, dash, plain}

-- a run, one byte on and at its end

module _ (p : ℕ → Bool) (s : List ℕ) (i : ℕ) where
  pub run_more : i < length s → p (get_or s i 0) ≡ true → i + run p (drop i s) ≡ i + 1 + run p (drop (i + 1) s)
  unfolding run
  run_more l h = rw (drop_more s i 0 l, h) (omega arith)

  pub run_stop : i < length s → p (get_or s i 0) ≡ false → i ≡ i + run p (drop i s)
  unfolding run
  run_stop l h = rw (drop_more s i 0 l, h) (omega arith)

  pub run_over : length s ≤ i → i ≡ i + run p (drop i s)
  unfolding run
  run_over l = rw (drop_all i s l) (omega arith)

pub runs : Runs
unfolding run
runs p [] = (omega arith, refl, λ h. absurd (omega arith))
runs p (c ∷ cs) = by (p c) refl (runs p cs)
  where
    by : (b : Bool) → p c ≡ b → (run p cs ≤ length cs) × (every p (take (run p cs) cs) ≡ true) × (run p cs < length cs → p (get_or cs (run p cs) 0) ≡ false) →
        (pick b (suc (run p cs)) 0 ≤ suc (length cs)) × (every p (take (pick b (suc (run p cs)) 0) (c ∷ cs)) ≡ true)
        × (pick b (suc (run p cs)) 0 < suc (length cs) → p (get_or (c ∷ cs) (pick b (suc (run p cs)) 0) 0) ≡ false)
    by true e h = (omega (arith, h.0), rw e h.1, λ l. h.2 (omega arith))
    by false e h = (omega arith, refl, λ l. e)

pub run_le : (p : ℕ → Bool) (s : List ℕ) → run p s ≤ length s
run_le p s = (runs p s).0

pub dash_here : (s : List ℕ) (i : ℕ) → i < length s → get_or s i 0 ≡ 45 → i + 1 ≡ i + dash (drop i s)
unfolding dash
dash_here s i l h = rw (drop_more s i 0 l, eq-eqb (get_or s i 0) 45 h)

pub dash_not : (s : List ℕ) (i : ℕ) → i < length s → (get_or s i 0 ≡ 45 → ⊥) → i ≡ i + dash (drop i s)
unfolding dash
dash_not s i l h = rw (drop_more s i 0 l, ne_eqb (get_or s i 0) 45 h) (omega arith)

pub dash_over : (s : List ℕ) (i : ℕ) → length s ≤ i → i ≡ i + dash (drop i s)
unfolding dash
dash_over s i l = rw (drop_all i s l) (omega arith)

-- what the language passes over is a run

pub no_blanks_is : (s : List ℕ) → no_blanks s ≡ drop (run blank s) s
unfolding no_blanks run
no_blanks_is [] = refl
no_blanks_is (c ∷ cs) = by (blank c) (no_blanks_is cs)
  where
    by : (b : Bool) → no_blanks cs ≡ drop (run blank cs) cs → pick b (no_blanks cs) (c ∷ cs) ≡ drop (pick b (suc (run blank cs)) 0) (c ∷ cs)
    by true e = e
    by false e = refl

pub after_digits_is : (s : List ℕ) → after_digits s ≡ drop (run digit s) s
unfolding after_digits run
after_digits_is [] = refl
after_digits_is (c ∷ cs) = by (digit c) (after_digits_is cs)
  where
    by : (b : Bool) → after_digits cs ≡ drop (run digit cs) cs → pick b (after_digits cs) (c ∷ cs) ≡ drop (pick b (suc (run digit cs)) 0) (c ∷ cs)
    by true e = e
    by false e = refl

unsigned_is : (s : List ℕ) → unsigned s ≡ drop (dash s) s
unfolding unsigned dash
unsigned_is [] = refl
unsigned_is (c ∷ cs) = by (eqb c 45)
  where
    by : (b : Bool) → pick b cs (c ∷ cs) ≡ drop (pick b 1 0) (c ∷ cs)
    by true = refl
    by false = refl

-- a text as a number: with its minus, and what its digits are worth
signed_is : (s : List ℕ) → signed s ≡ pick (ltb 0 (dash s)) (negative (leading 0 (take 18 (drop (dash s) s)))) (plus (leading 0 (take 18 (drop (dash s) s))))
unfolding signed dash leading
signed_is [] = refl
signed_is (c ∷ cs) = by (eqb c 45)
  where
    by : (b : Bool) → pick b (negative (leading 0 (take 18 cs))) (plus (leading 0 (take 18 (c ∷ cs))))
        ≡ pick (ltb 0 (pick b 1 0)) (negative (leading 0 (take 18 (drop (pick b 1 0) (c ∷ cs))))) (plus (leading 0 (take 18 (drop (pick b 1 0) (c ∷ cs)))))
    by true = refl
    by false = refl

-- bytes that count: the first 18 of a text's digits

pub under : (k n : ℕ) → k < 18 → n < 10 ^ k → n < 10 ^ 17
under k n h l = omega (arith, pow-le-pow_right {n = 10} (omega arith) {i = k} {j = 17} (omega arith))

pub last_under : (k n : ℕ) → k ≤ 18 → n < 10 ^ k → n < 10 ^ 18
last_under k n h l = omega (arith, pow-le-pow_right {n = 10} (omega arith) {i = k} {j = 18} h)

pub ended : (l from k : ℕ) → min (l - from) 18 ≤ k → (18 ≤ k) ⊎ (l ≤ from + k)
ended l from k h = elim (cases_lt k 18) [ inl i ↦ inr (omega arith) | inr i ↦ inl i ]

module _ (bs : List ℕ) (from k n : ℕ) where
  more_left : k < 18 → from + k < length bs → take (18 - k) (drop k (drop from bs)) ≡ get_or bs (from + k) 0 ∷ take (18 - (k + 1)) (drop (k + 1) (drop from bs))
  more_left h l =
      let e : 18 - k ≡ suc (18 - (k + 1)) = omega arith in
      let i : k < length (drop from bs) = simp length-drop (omega arith) in
      rw (e, drop_more (drop from bs) k 0 i, get_or-drop from bs k 0)

  pub lead_more : k < 18 → from + k < length bs → digit (get_or bs (from + k) 0) ≡ true →
      leading n (take (18 - k) (drop k (drop from bs))) ≡ leading (10 * n + (get_or bs (from + k) 0 - 48)) (take (18 - (k + 1)) (drop (k + 1) (drop from bs)))
  unfolding leading
  lead_more h l d = rw (more_left h l, d)

  pub lead_stop : k < 18 → from + k < length bs → digit (get_or bs (from + k) 0) ≡ false → n ≡ leading n (take (18 - k) (drop k (drop from bs)))
  unfolding leading
  lead_stop h l d = rw (more_left h l, d)

  pub lead_end : (18 ≤ k) ⊎ (length bs ≤ from + k) → n ≡ leading n (take (18 - k) (drop k (drop from bs)))
  unfolding leading
  lead_end (inl h) = let e : 18 - k ≡ 0 = omega arith in rw e
  lead_end (inr h) = rw (drop-drop k from bs, drop_all (from + k) bs h, take-nil)

pub digit_low : (c : ℕ) → digit c ≡ true → c - 48 < 10
digit_low c h = omega (arith, leb-true c 57 (and_parts (leb 48 c) (leb c 57) h).1)

-- a text that looks like a number

starts_is : (s : List ℕ) → starts_digit s ≡ ltb 0 (run digit s)
unfolding run
starts_is [] = refl
starts_is (c ∷ cs) = by (digit c)
  where
    by : (b : Bool) → b ≡ ltb 0 (pick b (suc (run digit cs)) 0)
    by true = sym (lt-ltb 0 (suc (run digit cs)) (omega arith))
    by false = refl

none_is : (s : List ℕ) (i : ℕ) → none_of (drop i s) ≡ leb (length s) i
none_is [] zero = refl
none_is [] (suc i) = sym (le-leb 0 (suc i) (omega arith))
none_is (c ∷ cs) zero = sym (lt-leb (suc (length cs)) 0 (omega arith))
none_is (c ∷ cs) (suc i) = none_is cs i ∙ sym (leb-suc-suc (length cs) i)

shifted : (a r : ℕ) → ltb 0 r ≡ ltb a (a + r)
shifted a r =
    elim (cases_lt 0 r) [
      | inl h ↦ lt-ltb 0 r h ∙ sym (lt-ltb a (a + r) (omega arith))
      | inr h ↦ le-ltb 0 r h ∙ sym (le-ltb a (a + r) (omega arith))
    ]

at_most : (l r : ℕ) → r ≤ l → leb l (18 + (l - r)) ≡ leb r 18
at_most l r h =
    elim (cases_lt 18 r) [
      | inl k ↦ lt-leb l (18 + (l - r)) (omega arith) ∙ sym (lt-leb r 18 k)
      | inr k ↦ le-leb l (18 + (l - r)) (omega arith) ∙ sym (le-leb r 18 k)
    ]

module _ (bs : List ℕ) (first end close : ℕ) (runs : end ≡ first + run digit (drop first bs)) (closes : close ≡ end + run blank (drop end bs)) where
  starts : starts_digit (drop first bs) ≡ ltb first end
  starts = starts_is (drop first bs) ∙ shifted first (run digit (drop first bs)) ∙ ap (ltb first) (sym runs)

  behind : after_digits (drop first bs) ≡ drop end bs
  behind = after_digits_is (drop first bs) ∙ drop-drop (run digit (drop first bs)) first bs ∙ ap (λ i. drop i bs) (sym runs)

  bare : none_of (no_blanks (after_digits (drop first bs))) ≡ leb (length bs) close
  bare =
      ap (λ s. none_of (no_blanks s)) behind ∙ ap none_of (no_blanks_is (drop end bs)) ∙ ap none_of (drop-drop (run blank (drop end bs)) end bs)
      ∙ ap (λ i. none_of (drop i bs)) (sym closes) ∙ none_is bs close

  few : leb (length (drop first bs)) (18 + length (after_digits (drop first bs))) ≡ leb (end - first) 18
  few =
      let k : run digit (drop first bs) ≡ end - first = omega arith in
      ap (λ s. leb (length (drop first bs)) (18 + length s)) (after_digits_is (drop first bs))
      ∙ ap (λ n. leb (length (drop first bs)) (18 + n)) (length-drop (run digit (drop first bs)) (drop first bs))
      ∙ at_most (length (drop first bs)) (run digit (drop first bs)) (run_le digit (drop first bs)) ∙ ap (λ n. leb n 18) k

  only_is : only_digits (drop first bs) ≡ ((ltb first end && leb (length bs) close) && leb (end - first) 18)
  unfolding only_digits
  only_is =
      ap (λ x. (x && none_of (no_blanks (after_digits (drop first bs)))) && leb (length (drop first bs)) (18 + length (after_digits (drop first bs)))) starts
      ∙ ap (λ x. (ltb first end && x) && leb (length (drop first bs)) (18 + length (after_digits (drop first bs)))) bare
      ∙ ap (λ x. (ltb first end && leb (length bs) close) && x) few

-- a text read as a number: behind its blanks, at `start`, and behind its minus, at `first`

module _ (bs : List ℕ) (start first : ℕ) (begins : start ≡ 0 + run blank (drop 0 bs)) (after : first ≡ start + dash (drop start bs)) where
  begun : drop start bs ≡ no_blanks bs
  begun = ap (λ i. drop i bs) (begins ∙ zero-add (run blank bs)) ∙ sym (no_blanks_is bs)

  dashed : first ≡ start + dash (no_blanks bs)
  dashed = rw (← begun) after

  on : drop first bs ≡ drop (dash (no_blanks bs)) (no_blanks bs)
  on = ap (λ i. drop i bs) dashed ∙ sym (drop-drop (dash (no_blanks bs)) start bs) ∙ ap (drop (dash (no_blanks bs))) begun

  number_is : (n : ℕ) → n ≡ leading 0 (take 18 (drop first bs)) → number_of (text bs) ≡ pick (ltb 0 (dash (no_blanks bs))) (negative n) (plus n)
  unfolding number_of
  number_is n e = rw (e, on) (signed_is (no_blanks bs))

  pub number_below : (n : ℕ) → n ≡ leading 0 (take 18 (drop first bs)) → start < first → number_of (text bs) ≡ negative n
  number_below n e l = number_is n e ∙ ap (λ b. pick b (negative n) (plus n)) (lt-ltb 0 (dash (no_blanks bs)) (omega (arith, dashed)))

  pub number_above : (n : ℕ) → n ≡ leading 0 (take 18 (drop first bs)) → first ≤ start → number_of (text bs) ≡ plus n
  number_above n e l = number_is n e ∙ ap (λ b. pick b (negative n) (plus n)) (le-ltb 0 (dash (no_blanks bs)) (omega (arith, dashed)))

  pub looks_is : (end close : ℕ) → end ≡ first + run digit (drop first bs) → close ≡ end + run blank (drop end bs) →
      looks (text bs) ≡ ((ltb first end && leb (length bs) close) && leb (end - first) 18)
  unfolding looks
  looks_is end close e f = ap only_digits (unsigned_is (no_blanks bs) ∙ sym on) ∙ only_is bs first end close e f

  pub looks_not : (end : ℕ) → end ≡ first + run digit (drop first bs) → (end - first ≡ 0) ⊎ (18 < end - first) → false ≡ looks (text bs)
  looks_not end e (inl h) = rw (looks_is end (end + run blank (drop end bs)) e refl, le-ltb first end (omega arith))
  looks_not end e (inr h) =
      rw (looks_is end (end + run blank (drop end bs)) e refl, lt-leb (end - first) 18 h)
      (sym (and_right (ltb first end && leb (length bs) (end + run blank (drop end bs))) false refl))

  pub looks_so : (end close : ℕ) → end ≡ first + run digit (drop first bs) → close ≡ end + run blank (drop end bs) → (end - first ≡ 0 → ⊥) → end - first ≤ 18 →
      leb (length bs) close ≡ looks (text bs)
  looks_so end close e f h k =
      let l : first < end = omega arith in
      rw (looks_is end close e f, lt-ltb first end l, le-leb (end - first) 18 k) (sym (and-true (leb (length bs) close)))

-- a text of digits alone

module _ (s : List ℕ) where
  pub plain_empty : length s ≡ 0 → None ≡ plain s
  unfolding plain
  plain_empty h = rw (le-ltb 0 (length s) (omega arith))

  pub plain_long : 18 < length s → None ≡ plain s
  unfolding plain
  plain_long h = rw (lt-leb (length s) 18 h, and_right (ltb 0 (length s)) false refl)

  pub plain_other : (run digit s ≡ length s → ⊥) → None ≡ plain s
  unfolding plain
  plain_other n =
      rw (ne_eqb (run digit s) (length s) n, and_right (leb (length s) 18) false refl, and_right (ltb 0 (length s)) false refl)

  pub plain_is : 0 < length s → length s ≤ 18 → run digit s ≡ length s → Some (leading 0 (take 18 s)) ≡ plain s
  unfolding plain
  plain_is h l e = rw (lt-ltb 0 (length s) h, le-leb (length s) 18 l, eq-eqb (run digit s) (length s) e)

-- it begins with a digit, and so with no blank and no minus

first_digit : (c : ℕ) (cs : List ℕ) → 0 < run digit (c ∷ cs) → digit c ≡ true
unfolding run
first_digit c cs h = by (digit c) h
  where
    by : (b : Bool) → 0 < pick b (suc (run digit cs)) 0 → b ≡ true
    by true l = refl
    by false l = absurd (omega arith)

no_blank_first : (s : List ℕ) → 0 < run digit s → 0 ≡ 0 + run blank (drop 0 s)
unfolding run
no_blank_first [] h = absurd (omega arith)
no_blank_first (c ∷ cs) h =
    let l : 48 ≤ c = leb-true 48 c (and_parts (leb 48 c) (leb c 57) (first_digit c cs h)).0 in
    rw (ne_eqb c 32 (λ e. omega arith), ne_eqb c 9 (λ e. omega arith))

no_dash_first : (s : List ℕ) → 0 < run digit s → 0 ≡ 0 + dash (drop 0 s)
unfolding run dash
no_dash_first [] h = absurd (omega arith)
no_dash_first (c ∷ cs) h =
    let l : 48 ≤ c = leb-true 48 c (and_parts (leb 48 c) (leb c 57) (first_digit c cs h)).0 in
    rw (ne_eqb c 45 (λ e. omega arith))

lead_small : (s : List ℕ) (k n : ℕ) → n < 10 ^ k → k + length s ≤ 18 → leading n s < 10 ^ 18
unfolding leading
lead_small [] k n h l = last_under k n (omega arith) h
lead_small (c ∷ cs) k n h l = by (digit c) refl (λ m i. lead_small cs (k + 1) m i (omega arith))
  where
    by : (b : Bool) → digit c ≡ b → ((m : ℕ) → m < 10 ^ (k + 1) → leading m cs < 10 ^ 18) → pick b (leading (10 * n + (c - 48)) cs) n < 10 ^ 18
    by true e f = let d = digit_low c e in f (10 * n + (c - 48)) (rw (add-one, pow-suc) (omega arith))
    by false e f = last_under k n (omega arith) h

-- it looks like a number, and is taken as what it is worth
pub record Plainly (s : List ℕ) (n : ℕ) : Type 0 where
  pub like : looks (text s) ≡ true
  pub taken : number_of (text s) ≡ plus n
  pub small : n < 10 ^ 18

pub plainly : (s : List ℕ) (n : ℕ) → Some n ≡ plain s → Plainly s n
unfolding plain
plainly s n e = by (ltb 0 (length s) && (leb (length s) 18 && eqb (run digit s) (length s))) refl e
  where
    by : (b : Bool) → (ltb 0 (length s) && (leb (length s) 18 && eqb (run digit s) (length s))) ≡ b → Some n ≡ pick b (Some (leading 0 (take 18 s))) None → Plainly s n
    by false t f = let z : ◌≡◌ {A = ℕ} 0 1 = cc in absurd (omega arith)
    by true t f =
        let p = and_parts (ltb 0 (length s)) (leb (length s) 18 && eqb (run digit s) (length s)) t in
        let q = and_parts (leb (length s) 18) (eqb (run digit s) (length s)) p.1 in
        let l : 0 < length s = ltb-true 0 (length s) p.0 in
        let m : length s ≤ 18 = leb-true (length s) 18 q.0 in
        let r : run digit s ≡ length s = eqb-true (run digit s) (length s) q.1 in
        let v : n ≡ leading 0 (take 18 s) = cc in
        let a : 0 ≡ 0 + run blank (drop 0 s) = no_blank_first s (omega arith) in
        let d : 0 ≡ 0 + dash (drop 0 s) = no_dash_first s (omega arith) in
        let x : run digit s ≡ 0 + run digit (drop 0 s) = sym (zero-add (run digit s)) in
        record {
          like = sym (looks_so s 0 0 a d (run digit s) _ x refl (λ z. omega arith) (omega arith)) ∙ le-leb (length s) (run digit s + run blank (drop (run digit s) s)) (omega arith);
          taken = number_above s 0 0 a d n v (omega arith);
          small = rw v (lead_small (take 18 s) 0 0 (omega arith) (omega (arith, length-take 18 s)));
        }
