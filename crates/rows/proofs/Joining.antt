-- The texts of values, one value after the other.
use Rattle.std.proofs.Common.{◌≡◌, ℕ, zero, suc, ◌+◌, ◌-◌, ◌≤◌, List, [], ◌∷◌, ◌++◌, length, get_or, take, drop, sym, refl, ap, ◌∙◌, append_assoc, add-zero, arith}
use Rattle.std.proofs.lemmas.List.{drop_more}
use Rattle.std.proofs.lemmas.Bool.{eq-eqb, ne_eqb}
use Rattle.language.specs.Text
use Rattle.language.specs.Text.{each, as_text, joined}
use Rattle.store.specs.declared.cells.Value.{Value}
use Rattle.store.specs.declared.cells.Value.TheVariants.{Unset}
use Rattle.store.specs.Values.{decoded, worth}
use Rattle.regions.specs.Parts.{Parts}
use Rattle.rows.specs.Rows.{run, worths, nth_text}
use Rattle.rows.specs.Pens.{Writing, put}
use Rattle.rows.proofs.Putting.{put_put, put_full}

-- one value more at the end
run_more : (cs : List Value) (i n : ℕ) → run cs i (n + 1) ≡ run cs i n ++ get_or cs (i + n) Unset ∷ []
unfolding run
run_more cs i zero = rw add-zero
run_more cs i (suc n) =
    let e : suc n + 1 ≡ suc (n + 1) = omega arith in
    let f : suc i + n ≡ i + suc n = omega arith in
    ap (run cs i) e ∙ ap (λ x. get_or cs i Unset ∷ x) (run_more cs (suc i) n ∙ ap (λ k. run cs (suc i) n ++ get_or cs k Unset ∷ []) f)

pub run_part : (cs : List Value) (i n : ℕ) → i + n ≤ length cs → run cs i n ≡ take n (drop i cs)
unfolding run
run_part cs i zero h = refl
run_part cs i (suc n) h =
    let e : i + 1 ≡ suc i = omega arith in
    ap (λ x. get_or cs i Unset ∷ x) (run_part cs (suc i) n (omega arith) ∙ ap (λ k. take n (drop k cs)) (sym e))
    ∙ sym (ap (take (suc n)) (drop_more cs i Unset (omega arith)))

each_append : {A B : Type 0} (f : A → B) (xs ys : List A) → each f (xs ++ ys) ≡ each f xs ++ each f ys
each_append f [] ys = refl
each_append f (x ∷ xs) ys = ap (λ t. f x ∷ t) (each_append f xs ys)

-- a text more
joined_more : (f : List ℕ) (fs : List (List ℕ)) (g : List ℕ) → joined ((f ∷ fs) ++ g ∷ []) ≡ joined (f ∷ fs) ++ 32 ∷ g
unfolding joined
joined_more f [] g = refl
joined_more f (h ∷ fs) g = ap (λ t. f ++ 32 ∷ t) (joined_more h fs g) ∙ sym (append_assoc f (32 ∷ joined (h ∷ fs)) (32 ∷ g))

-- what is written of a value

pub nth_first : (p : Parts) (from i : ℕ) → i ≡ 0 → as_text (worth 77822 p.texts (get_or (decoded p.stack) (from + i) Unset)) ≡ nth_text p from i
unfolding nth_text
nth_first p from i e = rw (eq-eqb i 0 e)

pub nth_later : (p : Parts) (from i : ℕ) → (i ≡ 0 → ⊥) → (32 ∷ []) ++ as_text (worth 77822 p.texts (get_or (decoded p.stack) (from + i) Unset)) ≡ nth_text p from i
unfolding nth_text
nth_later p from i e = rw (ne_eqb i 0 e)

-- the texts of n values with blanks between them
abbrev pub texts : Parts → ℕ → ℕ → List ℕ
texts p from n = joined (each as_text (worths p from n))

worths_more : (p : Parts) (from n : ℕ) → worths p from (n + 1) ≡ worths p from n ++ worth 77822 p.texts (get_or (decoded p.stack) (from + n) Unset) ∷ []
unfolding worths
worths_more p from n =
    ap (each (worth 77822 p.texts)) (run_more (decoded p.stack) from n)
    ∙ each_append (worth 77822 p.texts) (run (decoded p.stack) from n) (get_or (decoded p.stack) (from + n) Unset ∷ [])

worths_none : (p : Parts) (from : ℕ) → worths p from 0 ≡ []
unfolding worths run
worths_none p from = refl

pub texts_none : (p : Parts) (from : ℕ) → texts p from 0 ≡ []
unfolding worths run joined
texts_none p from = refl

after_first : (p : Parts) (from n : ℕ) (t : Text.Value) → joined (each as_text (worths p from (suc n) ++ t ∷ [])) ≡ texts p from (suc n) ++ 32 ∷ as_text t
unfolding worths run
after_first p from n t =
    ap joined (each_append as_text (worths p from (suc n)) (t ∷ []))
    ∙ joined_more (as_text (worth 77822 p.texts (get_or (decoded p.stack) from Unset))) (each as_text (worths p (suc from) n)) (as_text t)

pub texts_more : (p : Parts) (from n : ℕ) → texts p from (n + 1) ≡ texts p from n ++ nth_text p from n
unfolding joined
texts_more p from zero =
    ap (λ x. joined (each as_text x)) (worths_more p from 0) ∙ ap (λ x. joined (each as_text (x ++ worth 77822 p.texts (get_or (decoded p.stack) (from + 0) Unset) ∷ []))) (worths_none p from)
    ∙ nth_first p from 0 refl ∙ ap (λ x. x ++ nth_text p from 0) (sym (texts_none p from))
texts_more p from (suc n) =
    ap (λ x. joined (each as_text x)) (worths_more p from (suc n))
    ∙ after_first p from n (worth 77822 p.texts (get_or (decoded p.stack) (from + suc n) Unset))
    ∙ ap (λ x. texts p from (suc n) ++ x) (nth_later p from (suc n) (λ e. omega arith))

-- where a row is full, the rest of the values changes nothing
stops_at : (p : Parts) (from i k : ℕ) (v w : Writing) → w ≡ put v (texts p from i) → w.skip ≡ 0 → length w.row ≤ w.at → w ≡ put v (texts p from (i + k))
stops_at p from i zero v w e z h = rw add-zero e
stops_at p from i (suc k) v w e z h =
    let f : i + suc k ≡ i + k + 1 = omega arith in
    put_full w (nth_text p from (i + k)) z h
    ∙ ap (λ x. put x (nth_text p from (i + k))) (stops_at p from i k v w e z h)
    ∙ put_put v (texts p from (i + k)) (nth_text p from (i + k))
    ∙ ap (put v) (sym (ap (texts p from) f ∙ texts_more p from (i + k)))

pub stops : (p : Parts) (from i n : ℕ) (v w : Writing) → i ≤ n → w ≡ put v (texts p from i) → w.skip ≡ 0 → length w.row ≤ w.at → w ≡ put v (texts p from n)
stops p from i n v w l e z h = let f : i + (n - i) ≡ n = omega arith in stops_at p from i (n - i) v w e z h ∙ ap (λ k. put v (texts p from k)) f
