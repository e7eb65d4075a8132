-- Where a text stands in another, and pieces of a text.
use Rattle.std.proofs.Common.{◌≡◌, ℕ, suc, ◌+◌, ◌-◌, ◌<◌, ◌≤◌, min, Bool, true, false, eqb, List, [], ◌∷◌, length, get_or, take, drop, ℤ, pos, negsuc, nat_abs, sym, refl, ap, ◌∙◌, add-one, arith, length-drop, length-take}
use lib.Signed.{le_z}
use Rattle.std.proofs.lemmas.Bool.{eq-eqb, ne_eqb, leb-true, leb-false, true≢false}
use Rattle.std.proofs.lemmas.List.{drop_more, drop_all, drop-drop, get_or-take, get_or-drop, take_min, drop_min}
use Rattle.language.specs.Text.{pick, same}
use Rattle.language.specs.Meaning.{place_in, place_of, cut_from}
use Rattle.store.specs.Numbers.{number}

-- a text xs against as many bytes of another, from `from` on

module _ (xs ys : List ℕ) (k : ℕ) where
  same_more : k < length xs → k < length ys → get_or xs k 0 ≡ get_or ys k 0 → same (drop k xs) (drop k ys) ≡ same (drop (k + 1) xs) (drop (k + 1) ys)
  unfolding same
  same_more h l e = rw (drop_more xs k 0 h, drop_more ys k 0 l, eq-eqb (get_or xs k 0) (get_or ys k 0) e)

  same_stop : k < length xs → k < length ys → (get_or xs k 0 ≡ get_or ys k 0 → ⊥) → same (drop k xs) (drop k ys) ≡ false
  unfolding same
  same_stop h l e = rw (drop_more xs k 0 h, drop_more ys k 0 l, ne_eqb (get_or xs k 0) (get_or ys k 0) e)

  same_over : length xs ≤ k → length ys ≤ k → same (drop k xs) (drop k ys) ≡ true
  unfolding same
  same_over h l = rw (drop_all k xs h, drop_all k ys l)

module _ (xs bs : List ℕ) (from : ℕ) (fits : from + length xs ≤ length bs) where
  part_long : length (take (length xs) (drop from bs)) ≡ length xs
  part_long = simp (length-take, length-drop) (omega arith)

  part_byte : (k : ℕ) → k < length xs → get_or (take (length xs) (drop from bs)) k 0 ≡ get_or bs (from + k) 0
  part_byte k h = get_or-take (length xs) (drop from bs) k 0 h ∙ get_or-drop from bs k 0

  pub stands_more : (k : ℕ) → k < length xs → get_or xs k 0 ≡ get_or bs (from + k) 0 →
      same (drop k xs) (drop k (take (length xs) (drop from bs))) ≡ same (drop (k + 1) xs) (drop (k + 1) (take (length xs) (drop from bs)))
  stands_more k h e = same_more xs (take (length xs) (drop from bs)) k h (omega (arith, part_long)) (e ∙ sym (part_byte k h))

  pub stands_not : (k : ℕ) → k < length xs → (get_or xs k 0 ≡ get_or bs (from + k) 0 → ⊥) → same (drop k xs) (drop k (take (length xs) (drop from bs))) ≡ false
  stands_not k h e = same_stop xs (take (length xs) (drop from bs)) k h (omega (arith, part_long)) (λ f. e (f ∙ part_byte k h))

  pub stands_all : (k : ℕ) → length xs ≤ k → same (drop k xs) (drop k (take (length xs) (drop from bs))) ≡ true
  stands_all k h = same_over xs (take (length xs) (drop from bs)) k h (omega (arith, part_long))

-- the search, with n places in all, from place i on

module _ (t bs : List ℕ) (n i : ℕ) where
  pub place_more : i < n → same t (take (length t) (drop i bs)) ≡ false → place_in (n - i) t (drop i bs) (i + 1) ≡ place_in (n - (i + 1)) t (drop (i + 1) bs) (i + 1 + 1)
  unfolding place_in
  place_more h e =
      let f : n - i ≡ suc (n - (i + 1)) = omega arith in
      rw (f, e, drop-drop 1 i bs) (ap (λ j. place_in (n - (i + 1)) t (drop (i + 1) bs) j) (sym (add-one (i + 1))))

  pub place_found : i < n → same t (take (length t) (drop i bs)) ≡ true → place_in (n - i) t (drop i bs) (i + 1) ≡ i + 1
  unfolding place_in
  place_found h e = let f : n - i ≡ suc (n - (i + 1)) = omega arith in rw (f, e)

  pub place_over : n ≤ i → place_in (n - i) t (drop i bs) (i + 1) ≡ 0
  unfolding place_in
  place_over h = let f : n - i ≡ 0 = omega arith in rw f

pub place_of_nothing : (t bs : List ℕ) → length t ≡ 0 → 1 ≡ place_of bs t
unfolding place_in same
place_of_nothing [] bs h = let e : suc (length bs) - 0 ≡ suc (length bs) = omega arith in rw e
place_of_nothing (c ∷ cs) bs h = absurd (omega arith)

pub place_of_longer : (t bs : List ℕ) → length bs < length t → 0 ≡ place_of bs t
unfolding place_in
place_of_longer t bs h = let e : suc (length bs) - length t ≡ 0 = omega arith in rw e

-- pieces of a text: k bytes from position f on

pub cut_none : (f k : ℤ) (b : List ℕ) → le_z k (pos 0) ≡ true → [] ≡ cut_from (number f) (number k) b
unfolding cut_from
cut_none (pos i) (pos n) b h = let e : n ≡ 0 = omega (arith, leb-true n 0 h) in rw e (by (eqb i 0))
  where
    by : (t : Bool) → [] ≡ pick {A = List ℕ} t [] []
    by true = refl
    by false = refl
cut_none (pos i) (negsuc n) b h = refl
cut_none (negsuc i) (pos n) b h = let e : n - (i + 2) ≡ 0 = omega (arith, leb-true n 0 h) in rw e
cut_none (negsuc i) (negsuc n) b h = refl

pub cut_before : (f k : ℤ) (b : List ℕ) (r : ℕ) → le_z k (pos 0) ≡ false → le_z f (pos 0) ≡ true → r ≡ min (nat_abs k - (nat_abs f + 1)) (length b) →
    take r b ≡ cut_from (number f) (number k) b
unfolding cut_from
cut_before (pos i) (pos n) b r h l e =
    let z : i ≡ 0 = omega (arith, leb-true i 0 l) in
    let d : n - (i + 1) ≡ n - 1 = omega arith in
    rw (eq-eqb i 0 z) (ap (λ k. take k b) e ∙ take_min (n - (i + 1)) b ∙ ap (λ k. take k b) d)
cut_before (negsuc i) (pos n) b r h l e =
    let d : n - (suc i + 1) ≡ n - (i + 2) = omega arith in
    ap (λ k. take k b) e ∙ take_min (n - (suc i + 1)) b ∙ ap (λ k. take k b) d
cut_before f (negsuc n) b r h l e = absurd (true≢false h)

pub cut_inside : (f k : ℤ) (b : List ℕ) (s r : ℕ) → le_z k (pos 0) ≡ false → le_z f (pos 0) ≡ false → s ≡ min (nat_abs f - 1) (length b) → r ≡ min (nat_abs k) (length b - s) →
    take r (drop s b) ≡ cut_from (number f) (number k) b
unfolding cut_from
cut_inside (pos i) (pos n) b s r h l e d =
    rw (ne_eqb i 0 (λ z. omega (arith, leb-false i 0 l)))
    (ap (λ m. take m (drop s b)) (d ∙ ap (min n) (sym (length-drop s b))) ∙ take_min n (drop s b) ∙ ap (take n) (ap (λ m. drop m b) e ∙ drop_min (i - 1) b))
cut_inside (negsuc i) k b s r h l e d = absurd (true≢false l)
cut_inside (pos i) (negsuc n) b s r h l e d = absurd (true≢false h)
