-- Compacting: the live blocks are laid one after the other, and the table says where.
use Rattle.std.proofs.Common.{◌≡◌, ℕ, zero, suc, ◌+◌, ◌-◌, ◌/◌, ◌<◌, ◌≤◌, min, ◌≢◌, List, [], ◌∷◌, ◌++◌, length, get_or, take, drop, set, sym, refl, ap, ◌∙◌, subst, inl, inr, append_assoc, not-suc-le-zero, add-zero, add_assoc, arith, length-drop, length-set, take-append-drop, length-take-le, get_or-drop, get_or-set_other, get_or-set_same, drop-drop, take_at, drop_at, le-ltb, lt-ltb}
use lib.Seq.{take-paste, drop-paste, length-paste}
use Rattle.std.proofs.lemmas.Bool.{cases_lt}
use Rattle.std.proofs.lemmas.List.{append-nil}
use Rattle.store.specs.Space.{Space, with_top, span, moved, step_of, slid, compacted}
use Rattle.store.specs.Model.{Cell, encoded, laid, live, extent, names, occ, Placed, Linked, Laid, Store}
use Rattle.store.proofs.Basics.{is_same, laid_append, live_in, live_out, live_live, names_live, extent_live, length_le_extent, length_laid, linked_same}

-- the table after cells were laid from o on
abbrev pub retabled : List ℕ → ℕ → List Cell → List ℕ
retabled t o [] = t
retabled t o (c ∷ cs) = retabled (set t c.handle o) (o + span c.size) cs

abbrev Sized : List Cell → Type 0
Sized [] = Unit {0}
Sized (c ∷ cs) = (length c.words ≡ c.size / 8 + 1) × Sized cs

sized : (T : ℕ) (t : List ℕ) (o : ℕ) (cs : List Cell) → Placed T t o cs → Sized cs
sized T t o [] p = tt
sized T t o (c ∷ cs) p = (p.0.wide, sized T t (o + span c.size) cs p.1)

record Slid (s r : Space) (to : ℕ) (kept new : List Cell) : Type 0 where
  front : take r.top r.heap ≡ laid (kept ++ new)
  top : r.top ≡ to + extent new
  table : r.table ≡ retabled s.table to new
  free : r.free ≡ s.free
  wide : length r.heap ≡ length s.heap

pub slid_end : (T k e : ℕ) (s : Space) (from to : ℕ) → e ≤ from → slid T k e s from to ≡ with_top s to
unfolding slid
slid_end T zero e s from to h = refl
slid_end T (suc k) e s from to h = rw (le-ltb from e h)

pub slid_live : (T k e : ℕ) (s : Space) (from to n h : ℕ) → from < e → step_of e s from ≡ n → get_or s.heap (from + 2) 0 ≡ h → h < T →
    slid T (suc k) e s from to ≡ slid T k e (moved s from to n h) (from + n) (to + n)
unfolding slid
slid_live T k e s from to n h l p q r = rw (lt-ltb from e l, p, q, lt-ltb h T r)

pub slid_dead : (T k e : ℕ) (s : Space) (from to n h : ℕ) → from < e → step_of e s from ≡ n → get_or s.heap (from + 2) 0 ≡ h → T ≤ h →
    slid T (suc k) e s from to ≡ slid T k e s (from + n) to
unfolding slid
slid_dead T k e s from to n h l p q r = rw (lt-ltb from e l, p, q, le-ltb h T r)

-- turns behind the last block change nothing
pub slid_fuel : (T k j e : ℕ) (s : Space) (from to : ℕ) → e ≤ from + k → e ≤ from + j → slid T k e s from to ≡ slid T j e s from to
slid_fuel T zero j e s from to h l = slid_end T zero e s from to (omega arith) ∙ sym (slid_end T j e s from to (omega arith))
slid_fuel T (suc k) zero e s from to h l = slid_end T (suc k) e s from to (omega arith) ∙ sym (slid_end T zero e s from to (omega arith))
slid_fuel T (suc k) (suc j) e s from to h l =
    let n = step_of e s from in
    elim (cases_lt from e) [
      | inr d ↦ slid_end T (suc k) e s from to d ∙ sym (slid_end T (suc j) e s from to d)
      | inl d ↦
          elim (cases_lt (get_or s.heap (from + 2) 0) T) [
            | inl r ↦
                slid_live T k e s from to n (get_or s.heap (from + 2) 0) d refl refl r
                ∙ slid_fuel T k j e (moved s from to n (get_or s.heap (from + 2) 0)) (from + n) (to + n) (omega arith) (omega arith)
                ∙ sym (slid_live T j e s from to n (get_or s.heap (from + 2) 0) d refl refl r)
            | inr r ↦
                slid_dead T k e s from to n (get_or s.heap (from + 2) 0) d refl refl r
                ∙ slid_fuel T k j e s (from + n) to (omega arith) (omega arith)
                ∙ sym (slid_dead T j e s from to n (get_or s.heap (from + 2) 0) d refl refl r)
          ]
    ]

slid_is : (T : ℕ) (todo kept : List Cell) (rest : List ℕ) (k e : ℕ) (s : Space) (from to : ℕ) → length todo ≤ k →
    take to s.heap ≡ laid kept → drop from s.heap ≡ laid todo ++ rest → to ≤ from → from + extent todo ≡ e → e ≤ length s.heap → Sized todo →
    Slid s (slid T k e s from to) to kept (live T todo)
slid_is T [] kept rest k e s from to l kp td le ex en sz =
    subst (λ r. Slid s r to kept []) (sym (slid_end T k e s from to (omega arith)))
    (record { front = kp ∙ ap laid (sym (append-nil kept)); top = sym (add-zero to); table = refl; free = refl; wide = refl })
slid_is T (c ∷ cs) kept rest zero e s from to l kp td le ex en sz = absurd (not-suc-le-zero l)
slid_is T (c ∷ cs) kept rest (suc k) e s from to l kp td le ex en sz =
    let n : ℕ = span c.size in
    let td' : drop from s.heap ≡ encoded c ++ (laid cs ++ rest) = td ∙ append_assoc (encoded c) (laid cs) rest in
    let le_c : length (encoded c) ≡ n = omega (arith, sz.0) in
    let sz_at : get_or s.heap (from + 1) 0 ≡ c.size = sym (get_or-drop from s.heap 1 0) ∙ ap (λ x. get_or x 1 0) td' in
    let h_at : get_or s.heap (from + 2) 0 ≡ c.handle = sym (get_or-drop from s.heap 2 0) ∙ ap (λ x. get_or x 2 0) td' in
    let st : step_of e s from ≡ n = rw sz_at (omega arith) in
    let nx : drop (from + n) s.heap ≡ laid cs ++ rest = sym (drop-drop n from s.heap) ∙ ap (drop n) td' ∙ drop_at (encoded c) (laid cs ++ rest) n le_c in
    elim (cases_lt c.handle T) [
      | inr d ↦
          subst (λ r. Slid s r to kept (live T (c ∷ cs))) (sym (slid_dead T k e s from to n c.handle (omega arith) st h_at d))
          (subst (λ x. Slid s (slid T k e s (from + n) to) to kept x) (sym (live_out T c cs d))
          (slid_is T cs kept rest k e s (from + n) to (omega arith) kp nx (omega arith) (omega arith) en sz.1))
      | inl d ↦
          let m : Space = moved s from to n c.handle in
          let w : length m.heap ≡ length s.heap = length-paste s.heap to (drop from s.heap) n (omega arith) (omega (arith, length-drop from s.heap)) in
          let kp' : take (to + n) m.heap ≡ laid (kept ++ (c ∷ [])) =
          take-paste s.heap to (drop from s.heap) n (omega arith) (omega (arith, length-drop from s.heap))
          ∙ ap (λ x. x ++ take n (drop from s.heap)) kp
          ∙ ap (λ x. laid kept ++ x) (ap (take n) td' ∙ take_at (encoded c) (laid cs ++ rest) n le_c ∙ sym (append-nil (encoded c)))
          ∙ sym (laid_append kept (c ∷ [])) in
          let dp : drop (to + n) m.heap ≡ drop (to + n) s.heap = drop-paste s.heap to (drop from s.heap) n (omega arith) (omega (arith, length-drop from s.heap)) in
          let sm : (to + n) + (from - to) ≡ from + n = omega arith in
          let nx' : drop (from + n) m.heap ≡ laid cs ++ rest =
          ap (λ x. drop x m.heap) (sym sm) ∙ sym (drop-drop (from - to) (to + n) m.heap) ∙ ap (drop (from - to)) dp
          ∙ drop-drop (from - to) (to + n) s.heap ∙ ap (λ x. drop x s.heap) sm ∙ nx in
          let ih = slid_is T cs (kept ++ (c ∷ [])) rest k e m (from + n) (to + n) (omega arith) kp' nx' (omega arith) (omega arith) (omega arith) sz.1 in
          subst (λ r. Slid s r to kept (live T (c ∷ cs))) (sym (slid_live T k e s from to n c.handle (omega arith) st h_at d))
          (subst (λ x. Slid s (slid T k e m (from + n) (to + n)) to kept x) (sym (live_in T c cs d))
          (record { front = ih.front ∙ ap laid (append_assoc kept (c ∷ []) (live T cs)); top = ih.top ∙ add_assoc to n (extent (live T cs)); table = ih.table; free = ih.free; wide = ih.wide ∙ w }))
    ]

-- the table

length_retabled : (t : List ℕ) (o : ℕ) (cs : List Cell) → length (retabled t o cs) ≡ length t
length_retabled t o [] = refl
length_retabled t o (c ∷ cs) = length_retabled (set t c.handle o) (o + span c.size) cs ∙ length-set t c.handle o

retabled_other : (h : ℕ) (t : List ℕ) (o : ℕ) (cs : List Cell) → occ h (names cs) ≡ 0 → get_or (retabled t o cs) h 0 ≡ get_or t h 0
retabled_other h t o [] e = refl
retabled_other h t o (c ∷ cs) e =
    let ne : h ≢ c.handle = λ p. omega (arith, is_same h c.handle p, e) in
    retabled_other h (set t c.handle o) (o + span c.size) cs (omega (arith, e)) ∙ get_or-set_other t c.handle h o 0 ne

-- each of the cells is somebody's, and they have different handles
placed_retabled : (T : ℕ) (t u : List ℕ) (p o : ℕ) (cs : List Cell) → length t ≡ T → ((h : ℕ) → h < T → occ h (names cs) ≤ 1) → Placed T u p cs → Placed T (retabled t o (live T cs)) o (live T cs)
placed_retabled T t u p o [] l d q = tt
placed_retabled T t u p o (c ∷ cs) l d q =
    elim (cases_lt c.handle T) [
      | inr k ↦
          subst (λ x. Placed T (retabled t o x) o x) (sym (live_out T c cs k))
          (placed_retabled T t u (p + span c.size) o cs l (λ h j. omega (arith, d h j)) q.1)
      | inl k ↦
          let none : occ c.handle (names (live T cs)) ≡ 0 = names_live T c.handle cs k ∙ (omega (arith, d c.handle k, is_same c.handle c.handle refl)) in
          let t' : List ℕ = set t c.handle o in
          subst (λ x. Placed T (retabled t o x) o x) (sym (live_in T c cs k)) (
            record { wide = q.0.wide; at = λ h. retabled_other c.handle t' (o + span c.size) (live T cs) none ∙ get_or-set_same t c.handle o 0 (omega arith); counted = q.0.counted },
            placed_retabled T t' u (p + span c.size) (o + span c.size) cs (length-set t c.handle o ∙ l) (λ h j. omega (arith, d h j)) q.1,
          )
    ]

pub compacted_laid : (T W : ℕ) (s : Space) (bs : List Cell) (fs : List ℕ) → Laid T W s bs fs → Laid T W (compacted T W s) (live T bs) fs
unfolding compacted
compacted_laid T W s bs fs i =
    let sz = sized T s.table 0 bs i.placed in
    let ln : s.top ≡ extent bs = sym (length-take-le s.top s.heap (omega (arith, i.within, i.wide))) ∙ ap length i.front ∙ length_laid T s.table 0 bs i.placed in
    let whole : s.heap ≡ laid bs ++ drop s.top s.heap = sym (take-append-drop s.top s.heap) ∙ ap (λ x. x ++ drop s.top s.heap) i.front in
    let en : min s.top W ≡ s.top = omega (arith, i.within) in
    let g = slid_is T bs [] (drop s.top s.heap) W (min s.top W) s 0 0 (omega (arith, i.within, length_le_extent bs)) refl whole (omega arith) (omega arith) (omega (arith, i.within, i.wide)) sz in
    let pl = placed_retabled T s.table s.table 0 0 bs i.tall (λ h k. omega (arith, i.once h k)) i.placed in
    record {
      front = g.front;
      within = omega (arith, g.top, extent_live T bs, i.within);
      wide = g.wide ∙ i.wide;
      tall = ap length g.table ∙ length_retabled s.table 0 (live T bs) ∙ i.tall;
      placed = subst (λ x. Placed T x 0 (live T bs)) (sym g.table) pl;
      linked = subst (λ x. Linked T (slid T W (min s.top W) s 0 0).table x fs) (sym g.free)
          (linked_same T s.table (slid T W (min s.top W) s 0 0).table s.free fs
          (λ h k l. ap (λ x. get_or x h 0) g.table ∙ retabled_other h s.table 0 (live T bs) (names_live T h bs k ∙ (omega (arith, i.once h k)))) i.linked);
      once = λ h k. omega (arith, i.once h k, names_live T h bs k);
      all = ap (λ x. length fs + length x) (live_live T bs) ∙ i.all;
    }

-- the top is what the blocks need
pub top_is : (T W : ℕ) (s : Space) (bs : List Cell) (fs : List ℕ) → Laid T W s bs fs → s.top ≡ extent bs
top_is T W s bs fs i =
    sym (length-take-le s.top s.heap (omega (arith, i.within, i.wide))) ∙ ap length i.front ∙ length_laid T s.table 0 bs i.placed

pub compacted_store : (T W : ℕ) (s : Space) (H : List Cell) → Store T W s H → Store T W (compacted T W s) H
compacted_store T W s H st = (live T st.0, st.1, compacted_laid T W s st.0 st.1 st.2, live_live T st.0 ∙ st.3)

-- one turn of the loop

pub turn_live : (T e : ℕ) (s r : Space) (from to n h : ℕ) → from < e → step_of e s from ≡ n → get_or s.heap (from + 2) 0 ≡ h → h < T → r ≡ moved s from to n h →
    slid T (e - from) e s from to ≡ slid T (e - (from + n)) e r (from + n) (to + n)
turn_live T e s r from to n h f p q b m =
    let k : e - from ≡ suc (e - (from + 1)) = omega arith in
    ap (λ x. slid T x e s from to) k ∙ slid_live T (e - (from + 1)) e s from to n h f p q b
    ∙ slid_fuel T (e - (from + 1)) (e - (from + n)) e (moved s from to n h) (from + n) (to + n) (omega (arith, p)) (omega arith)
    ∙ ap (λ x. slid T (e - (from + n)) e x (from + n) (to + n)) (sym m)

pub turn_dead : (T e : ℕ) (s : Space) (from to n h : ℕ) → from < e → step_of e s from ≡ n → get_or s.heap (from + 2) 0 ≡ h → T ≤ h →
    slid T (e - from) e s from to ≡ slid T (e - (from + n)) e s (from + n) to
turn_dead T e s from to n h f p q b =
    let k : e - from ≡ suc (e - (from + 1)) = omega arith in
    ap (λ x. slid T x e s from to) k ∙ slid_dead T (e - (from + 1)) e s from to n h f p q b
    ∙ slid_fuel T (e - (from + 1)) (e - (from + n)) e s (from + n) to (omega (arith, p)) (omega arith)
