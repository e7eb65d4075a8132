-- A new block at the top; when there is none.
use Rattle.std.proofs.Common.{◌≡◌, ℕ, suc, ◌+◌, ◌-◌, ◌/◌, ◌<◌, ◌≤◌, ◌≢◌, ◌⊎◌, List, [], ◌∷◌, ◌++◌, length, get_or, take, drop, set, Some, None, sym, refl, ap, ◌∙◌, subst, inl, inr, add-zero, zero-add, arith, length-append, length-drop, length-set, length-take-le, get_or-set_other, get_or-set_same, take-add, le-ltb, lt-ltb, le-leb}
use lib.Seq.{take-set-le, drop-set-add}
use borrow.Author.Tests.{lt-leb}
use Rattle.std.proofs.lemmas.Bool.{cases_lt}
use Rattle.std.proofs.lemmas.List.{append-nil}
use Rattle.store.specs.Space.{Space, Given, handle_of, span, compacted, taken, tried, allocated}
use Rattle.store.specs.Model.{Cell, encoded, laid, live, extent, names, is, occ, Linked, Laid, Store}
use Rattle.store.specs.Laws.{Got, Full}
use Rattle.store.proofs.Basics.{is_same, occ_names, laid_append, live_append, live_in, live_live, names_live, placed_same, linked_same, placed_append}
use Rattle.store.proofs.Sliding.{compacted_laid, top_is}

headed : (l : List ℕ) (m a b c : ℕ) → 3 ≤ length l → take (m + 4) (set (set (set l 0 a) 1 b) 2 c) ≡ a ∷ b ∷ c ∷ take (m + 1) (drop 3 l)
headed [] m a b c h = absurd (omega arith)
headed (x ∷ []) m a b c h = absurd (omega arith)
headed (x ∷ y ∷ []) m a b c h = absurd (omega arith)
headed (x ∷ y ∷ z ∷ l) m a b c h = let e : m + 4 ≡ suc (suc (suc (m + 1))) = omega arith in rw e

-- the block that is laid at the top; its bytes are what was there
abbrev pub fresh : Space → ℕ → Cell
fresh s n = record { handle = s.free; count = 1; size = n; words = take (n / 8 + 1) (drop 3 (drop s.top s.heap)) }

taken_front : (s : Space) (n : ℕ) → s.top + 4 ≤ length s.heap → take (s.top + span n) (taken s n).heap ≡ take s.top s.heap ++ encoded (fresh s n)
unfolding taken
taken_front s n r =
    let t : ℕ = s.top in
    let h₁ : List ℕ = set s.heap t 1 in
    let h₂ : List ℕ = set h₁ (t + 1) n in
    let h₃ : List ℕ = set h₂ (t + 2) s.free in
    let a : take t h₃ ≡ take t s.heap = take-set-le t h₂ (t + 2) s.free (omega arith) ∙ take-set-le t h₁ (t + 1) n (omega arith) ∙ take-set-le t s.heap t 1 (omega arith) in
    let d₁ : drop t h₁ ≡ set (drop t s.heap) 0 1 = ap (λ x. drop t (set s.heap x 1)) (sym (add-zero t)) ∙ drop-set-add t s.heap 0 1 in
    let d₂ : drop t h₂ ≡ set (set (drop t s.heap) 0 1) 1 n = drop-set-add t h₁ 1 n ∙ ap (λ x. set x 1 n) d₁ in
    let d₃ : drop t h₃ ≡ set (set (set (drop t s.heap) 0 1) 1 n) 2 s.free = drop-set-add t h₂ 2 s.free ∙ ap (λ x. set x 2 s.free) d₂ in
    take-add t (span n) h₃ ∙ ap (λ x. x ++ take (span n) (drop t h₃)) a
    ∙ ap (λ x. take t s.heap ++ x) (ap (take (span n)) d₃ ∙ headed (drop t s.heap) (n / 8) 1 n s.free (omega (arith, length-drop t s.heap)))

pub taken_laid : (T W : ℕ) (s : Space) (bs : List Cell) (fs : List ℕ) (n : ℕ) → Laid T W s bs (s.free ∷ fs) → span n ≤ W - s.top →
    Laid T W (taken s n) (bs ++ (fresh s n ∷ [])) fs
unfolding taken
taken_laid T W s bs fs n i r =
    let c : Cell = fresh s n in
    let lt : s.free < T = i.linked.1 in
    let le : s.top + span n ≤ length s.heap = omega (arith, i.wide, i.within) in
    let one : is s.free s.free ≡ 1 = is_same s.free s.free refl in
    let t' : List ℕ = set s.table s.free s.top in
    let other : (h : ℕ) → h ≢ s.free → get_or t' h 0 ≡ get_or s.table h 0 = λ h ne. get_or-set_other s.table s.free h s.top 0 ne in
    let lv : live T (bs ++ (c ∷ [])) ≡ live T bs ++ (c ∷ []) = live_append T bs (c ∷ []) ∙ ap (λ x. live T bs ++ x) (live_in T c [] lt) in
    let top : s.top ≡ 0 + extent bs = top_is T W s bs (s.free ∷ fs) i ∙ sym (zero-add (extent bs)) in
    let wd : length c.words ≡ n / 8 + 1 = length-take-le (n / 8 + 1) (drop 3 (drop s.top s.heap)) (omega (arith, length-drop 3 (drop s.top s.heap), length-drop s.top s.heap)) in
    record {
      front = taken_front s n (omega arith) ∙ ap (λ x. x ++ encoded c) i.front ∙ ap (λ x. laid bs ++ x) (sym (append-nil (encoded c))) ∙ sym (laid_append bs (c ∷ []));
      within = omega (arith, i.wide);
      wide = length-set _ (s.top + 2) s.free ∙ length-set _ (s.top + 1) n ∙ length-set s.heap s.top 1 ∙ i.wide;
      tall = length-set s.table s.free s.top ∙ i.tall;
      placed = placed_append T t' 0 bs (c ∷ [])
          (placed_same T s.table t' 0 bs (λ h k l. other h (λ p. omega (arith, i.once h k, is_same h s.free p))) i.placed)
          (record { wide = wd; at = λ h. get_or-set_same s.table s.free s.top 0 (omega (arith, i.tall)) ∙ top; counted = λ h. omega arith }, tt);
      linked = linked_same T s.table t' (get_or s.table s.free 0) fs (λ h k l. other h (λ p. omega (arith, i.once h k, is_same h s.free p))) i.linked.2;
      once = λ h k. omega (arith, i.once h k, occ_names h bs (c ∷ []));
      all = ap (λ x. length fs + length x) lv ∙ omega (arith, i.all, length-append (live T bs) (c ∷ []));
    }

tried_got : (T W : ℕ) (s : Space) (n : ℕ) → s.free < T → span n ≤ W - s.top → tried T W s n ≡ record { space = taken s n; handle = Some (handle_of s.free) }
unfolding tried
tried_got T W s n f r = rw (lt-ltb s.free T f, le-leb (span n) (W - s.top) r)

tried_none : (T W : ℕ) (s : Space) (n : ℕ) → (T ≤ s.free) ⊎ (W - s.top < span n) → tried T W s n ≡ record { space = s; handle = None }
unfolding tried
tried_none T W s n (inl f) = rw (le-ltb s.free T f)
tried_none T W s n (inr r) =
    elim (cases_lt s.free T) [ inl f ↦ rw (lt-ltb s.free T f, lt-leb (span n) (W - s.top) r) | inr f ↦ rw (le-ltb s.free T f) ]

free_used : (T : ℕ) (t : List ℕ) (f : ℕ) (fs : List ℕ) → Linked T t f fs → T ≤ f → length fs ≡ 0
free_used T t f [] p h = refl
free_used T t f (x ∷ fs) p h = absurd (omega (arith, p.0, p.1))

free_head : (T : ℕ) (t : List ℕ) (f : ℕ) (fs : List ℕ) → Linked T t f fs → f < T → (gs : List ℕ) × (fs ≡ f ∷ gs)
free_head T t f [] p h = absurd (omega arith)
free_head T t f (x ∷ fs) p h = (fs, ap (λ y. y ∷ fs) (sym p.0))

tried_is : (T W : ℕ) (s : Space) (bs : List Cell) (fs : List ℕ) (n : ℕ) → Laid T W s bs fs →
    (Got T W (live T bs) n (tried T W s n) ⊎ Full T W (live T bs) n (tried T W s n)) ⊎ (W < s.top + span n)
tried_is T W s bs fs n i =
    elim (cases_lt s.free T) [
      | inr f ↦
          inl (inr (subst (Full T W (live T bs) n) (sym (tried_none T W s n (inl f)))
          (record { handle = refl; why = inl (omega (arith, i.all, free_used T s.table s.free fs i.linked f)); store = (bs, fs, i, refl) })))
      | inl f ↦
          elim (cases_lt (W - s.top) (span n)) [
            | inl r ↦ inr (omega (arith, i.within))
            | inr r ↦
                let hd = free_head T s.table s.free fs i.linked f in
                let j : Laid T W s bs (s.free ∷ hd.0) = subst (λ x. Laid T W s bs x) hd.1 i in
                let c : Cell = fresh s n in
                let k = taken_laid T W s bs hd.0 n j r in
                let none : occ s.free (names bs) ≡ 0 = omega (arith, j.once s.free f, is_same s.free s.free refl) in
                inl (inl (subst (Got T W (live T bs) n) (sym (tried_got T W s n f r))
                (record {
                  cell = c;
                  handle = refl;
                  below = f;
                  count = refl;
                  size = refl;
                  wide = length-take-le (n / 8 + 1) (drop 3 (drop s.top s.heap)) (omega (arith, length-drop 3 (drop s.top s.heap), length-drop s.top s.heap, i.wide, i.within));
                  new = names_live T s.free bs f ∙ none;
                  store = (bs ++ (c ∷ []), hd.0, k, live_append T bs (c ∷ []) ∙ ap (λ x. live T bs ++ x) (live_in T c [] f));
                })))
          ]
    ]

allocated_first : (T W : ℕ) (s : Space) (n : ℕ) → span n ≤ W - s.top → allocated T W s n ≡ tried T W s n
unfolding allocated
allocated_first T W s n r = rw (le-leb (span n) (W - s.top) r)

allocated_then : (T W : ℕ) (s : Space) (n : ℕ) → W - s.top < span n → allocated T W s n ≡ tried T W (compacted T W s) n
unfolding allocated
allocated_then T W s n r = rw (lt-leb (span n) (W - s.top) r)

laid_allocated : (T W : ℕ) (s : Space) (bs : List Cell) (fs : List ℕ) (n : ℕ) → Laid T W s bs fs → Got T W (live T bs) n (allocated T W s n) ⊎ Full T W (live T bs) n (allocated T W s n)
laid_allocated T W s bs fs n i =
    elim (cases_lt (W - s.top) (span n)) [
      | inr r ↦
          elim (tried_is T W s bs fs n i) [
            | inl x ↦ subst (λ g. Got T W (live T bs) n g ⊎ Full T W (live T bs) n g) (sym (allocated_first T W s n r)) x
            | inr x ↦ absurd (omega (arith, i.within))
          ]
      | inl r ↦
          let u : Space = compacted T W s in
          let j = compacted_laid T W s bs fs i in
          let back : (g : Given) → Got T W (live T (live T bs)) n g ⊎ Full T W (live T (live T bs)) n g → Got T W (live T bs) n g ⊎ Full T W (live T bs) n g
          = λ g. subst (λ x. Got T W x n g ⊎ Full T W x n g) (live_live T bs) in
          subst (λ g. Got T W (live T bs) n g ⊎ Full T W (live T bs) n g) (sym (allocated_then T W s n r))
          (elim (tried_is T W u (live T bs) fs n j) [
            | inl x ↦ back (tried T W u n) x
            | inr x ↦
                let too : W < extent (live T bs) + span n = omega (arith, top_is T W u (live T bs) fs j) in
                inr (subst (Full T W (live T bs) n) (sym (tried_none T W u n (inr (omega (arith, j.within))))) (record { handle = refl; why = inr too; store = (live T bs, fs, j, live_live T bs) }))
          ])
    ]

pub allocated_is : (T W : ℕ) (s : Space) (H : List Cell) (n : ℕ) → Store T W s H → Got T W H n (allocated T W s n) ⊎ Full T W H n (allocated T W s n)
allocated_is T W s H n st = subst (λ x. Got T W x n (allocated T W s n) ⊎ Full T W x n (allocated T W s n)) st.3 (laid_allocated T W s st.0 st.1 n st.2)
