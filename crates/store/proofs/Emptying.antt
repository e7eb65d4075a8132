-- An empty region: each handle is followed by the next.
use Rattle.std.proofs.Common.{◌≡◌, ℕ, zero, suc, ◌+◌, ◌-◌, ◌<◌, ◌≤◌, List, [], ◌∷◌, length, get_or, set, sym, refl, ap, ◌∙◌, subst, inl, inr, zero-add, arith, length-set, get_or-set_other, get_or-set_same}
use Rattle.std.proofs.lemmas.Bool.{cases_eq}
use Rattle.store.specs.Space.{Space, chained, emptied}
use Rattle.store.specs.Model.{occ, Linked, Store}
use Rattle.store.proofs.Basics.{is_same, is_other}

pub length_chained : (k h : ℕ) (t : List ℕ) → length (chained k h t) ≡ length t
unfolding chained
length_chained zero h t = refl
length_chained (suc k) h t = length_chained k (h + 1) (set t h (h + 1)) ∙ length-set t h (h + 1)

chained_below : (k h : ℕ) (t : List ℕ) (j : ℕ) → j < h → get_or (chained k h t) j 0 ≡ get_or t j 0
unfolding chained
chained_below zero h t j l = refl
chained_below (suc k) h t j l = chained_below k (h + 1) (set t h (h + 1)) j (omega arith) ∙ get_or-set_other t h j (h + 1) 0 (omega arith)

chained_at : (k h : ℕ) (t : List ℕ) (j : ℕ) → h + k ≤ length t → h ≤ j → j < h + k → get_or (chained k h t) j 0 ≡ j + 1
unfolding chained
chained_at zero h t j b l m = absurd (omega arith)
chained_at (suc k) h t j b l m =
    elim (cases_eq j h) [
      | inl e ↦ ap (λ x. get_or (chained k (h + 1) (set t h (h + 1))) x 0) e ∙ chained_below k (h + 1) (set t h (h + 1)) h (omega arith) ∙ get_or-set_same t h (h + 1) 0 (omega arith) ∙ ap (λ x. x + 1) (sym e)
      | inr e ↦ chained_at k (h + 1) (set t h (h + 1)) j (omega (arith, length-set t h (h + 1))) (omega arith) (omega arith)
    ]

range : ℕ → ℕ → List ℕ
range zero h = []
range (suc k) h = h ∷ range k (h + 1)

range_length : (k h : ℕ) → length (range k h) ≡ k
unfolding range
range_length zero h = refl
range_length (suc k) h = ap suc (range_length k (h + 1))

range_below : (k h j : ℕ) → j < h → occ j (range k h) ≡ 0
unfolding range
range_below zero h j l = refl
range_below (suc k) h j l = omega (arith, is_other j h (omega arith), range_below k (h + 1) j (omega arith))

range_once : (k h j : ℕ) → occ j (range k h) ≤ 1
unfolding range
range_once zero h j = omega arith
range_once (suc k) h j =
    elim (cases_eq j h) [
      | inl e ↦ omega (arith, is_same j h e, range_below k (h + 1) j (omega arith))
      | inr e ↦ omega (arith, is_other j h e, range_once k (h + 1) j)
    ]

range_linked : (T k h : ℕ) (t : List ℕ) → h + k ≡ T → ((j : ℕ) → j < T → get_or t j 0 ≡ j + 1) → Linked T t h (range k h)
unfolding range
range_linked T zero h t e f = omega arith
range_linked T (suc k) h t e f =
    (refl, omega arith, subst (λ x. Linked T t x (range k (h + 1))) (sym (f h (omega arith))) (range_linked T k (h + 1) t (omega arith) f))

pub emptied_is : (T W : ℕ) (s : Space) → length s.table ≡ T → length s.heap ≡ W → Store T W (emptied T s) []
unfolding emptied
emptied_is T W s p q = (
  [],
  range T 0,
  record {
    front = refl;
    within = omega arith;
    wide = q;
    tall = length_chained T 0 s.table ∙ p;
    placed = tt;
    linked = range_linked T T 0 (chained T 0 s.table) (zero-add T) (λ j l. chained_at T 0 s.table j (omega arith) (omega arith) (omega arith));
    once = λ h k. omega (arith, range_once T 0 h);
    all = omega (arith, range_length T 0);
  },
  refl,
)

-- one turn of the loop
pub chained_more : (T i : ℕ) (t : List ℕ) → i < T → chained (T - i) i t ≡ chained (T - (i + 1)) (i + 1) (set t i (i + 1))
unfolding chained
chained_more T i t l = let k : T - i ≡ suc (T - (i + 1)) = omega arith in rw k

pub chained_done : (T i : ℕ) (t : List ℕ) → T ≤ i → chained (T - i) i t ≡ t
unfolding chained
chained_done T i t l = let k : T - i ≡ 0 = omega arith in rw k
