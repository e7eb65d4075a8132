-- One block among the others: its words read and written, its holders counted, the block given back.
use Rattle.std.proofs.Common.{◌≡◌, ℕ, ◌+◌, ◌-◌, ◌/◌, ◌%◌, ◌<◌, ◌≤◌, ◌≢◌, List, [], ◌∷◌, ◌++◌, length, get_or, take, set, sym, refl, ap, ◌∙◌, subst, inl, inr, add-zero, mod-eq_of_lt, zero-add, arith, length-append, length-set, get_or-set_other, get_or-take, get_or-set_same, le-ltb, lt-ltb, eq-eqb, ne_eqb}
use lib.Seq.{take-set-lt, set-append_left}
use Rattle.std.proofs.lemmas.Bool.{cases_eq}
use Rattle.std.proofs.lemmas.List.{get_or_append_left, get_or-append_right, set-append_right}
use Rattle.store.specs.Space.{Space, span, place, put_word, raised, lowered, freed}
use Rattle.store.specs.Model.{Cell, encoded, laid, live, extent, names, is, occ, Placed, Linked, Laid, Store, on, without, more, fewer, nobody's, look}
use Rattle.store.proofs.Basics.{is_same, is_other, occ_names, laid_append, extent_append, length_laid, live_append, live_in, live_out, names_live, placed_same, linked_same, placed_append, placed_left, placed_right}
use Rattle.store.proofs.Sliding.{top_is}

-- where the cell of h stands among the blocks
pub record Split (h : ℕ) (bs : List Cell) : Type 0 where
  pub xs : List Cell
  pub c : Cell
  pub ys : List Cell
  pub whole : bs ≡ xs ++ (c ∷ ys)
  pub name : c.handle ≡ h

pub split : (h : ℕ) (bs : List Cell) → 1 ≤ occ h (names bs) → Split h bs
split h [] l = absurd (omega arith)
split h (c ∷ bs) l =
    elim (cases_eq h c.handle) [
      | inl e ↦ record { xs = []; c = c; ys = bs; whole = refl; name = sym e }
      | inr e ↦
          let r = split h bs (omega (arith, is_other h c.handle e)) in
          record { xs = c ∷ r.xs; c = r.c; ys = r.ys; whole = ap (λ x. c ∷ x) r.whole; name = r.name }
    ]

on_none : (h : ℕ) (f : Cell → Cell) (cs : List Cell) → occ h (names cs) ≡ 0 → on h f cs ≡ cs
on_none h f [] e = refl
on_none h f (c ∷ cs) e =
    let ne : h ≢ c.handle = λ p. omega (arith, is_same h c.handle p, e) in
    rw (ne_eqb h c.handle ne) (ap (λ x. c ∷ x) (on_none h f cs (omega (arith, e))))

without_none : (h : ℕ) (cs : List Cell) → occ h (names cs) ≡ 0 → without h cs ≡ cs
without_none h [] e = refl
without_none h (c ∷ cs) e =
    let ne : h ≢ c.handle = λ p. omega (arith, is_same h c.handle p, e) in
    rw (ne_eqb h c.handle ne) (ap (λ x. c ∷ x) (without_none h cs (omega (arith, e))))

on_at : (h : ℕ) (f : Cell → Cell) (xs : List Cell) (c : Cell) (ys : List Cell) → occ h (names xs) ≡ 0 → c.handle ≡ h → occ h (names ys) ≡ 0 → on h f (xs ++ (c ∷ ys)) ≡ xs ++ (f c ∷ ys)
on_at h f [] c ys p q r = rw (eq-eqb h c.handle (sym q), on_none h f ys r)
on_at h f (x ∷ xs) c ys p q r =
    let ne : h ≢ x.handle = λ e. omega (arith, is_same h x.handle e, p) in
    rw (ne_eqb h x.handle ne) (ap (λ t. x ∷ t) (on_at h f xs c ys (omega (arith, p)) q r))

without_at : (h : ℕ) (xs : List Cell) (c : Cell) (ys : List Cell) → occ h (names xs) ≡ 0 → c.handle ≡ h → occ h (names ys) ≡ 0 → without h (xs ++ (c ∷ ys)) ≡ xs ++ ys
without_at h [] c ys p q r = rw (eq-eqb h c.handle (sym q), without_none h ys r)
without_at h (x ∷ xs) c ys p q r =
    let ne : h ≢ x.handle = λ e. omega (arith, is_same h x.handle e, p) in
    rw (ne_eqb h x.handle ne) (ap (λ t. x ∷ t) (without_at h xs c ys (omega (arith, p)) q r))

look_at : (h : ℕ) (xs : List Cell) (c : Cell) (ys : List Cell) → occ h (names xs) ≡ 0 → c.handle ≡ h → look h (xs ++ (c ∷ ys)) ≡ c
look_at h [] c ys p q = rw (eq-eqb h c.handle (sym q))
look_at h (x ∷ xs) c ys p q =
    let ne : h ≢ x.handle = λ e. omega (arith, is_same h x.handle e, p) in
    rw (ne_eqb h x.handle ne) (look_at h xs c ys (omega (arith, p)) q)

-- one of the texts, and what is known of its place
module _ (T W : ℕ) (s : Space) (xs : List Cell) (c : Cell) (ys : List Cell) (fs : List ℕ) (i : Laid T W s (xs ++ (c ∷ ys)) fs) (lt : c.handle < T) where
  h : ℕ
  h = c.handle

  pl : Placed T s.table (extent xs) (c ∷ ys)
  pl = subst (λ o. Placed T s.table o (c ∷ ys)) (zero-add (extent xs)) (placed_right T s.table 0 xs (c ∷ ys) i.placed)

  before : occ c.handle (names xs) ≡ 0
  before = omega (arith, i.once c.handle lt, occ_names c.handle xs (c ∷ ys), is_same c.handle c.handle refl)

  after : occ c.handle (names ys) ≡ 0
  after = omega (arith, i.once c.handle lt, occ_names c.handle xs (c ∷ ys), is_same c.handle c.handle refl)

  unfree : occ c.handle fs ≡ 0
  unfree = omega (arith, i.once c.handle lt, occ_names c.handle xs (c ∷ ys), is_same c.handle c.handle refl)

  pub room : extent xs + span c.size ≤ s.top
  room = omega (arith, top_is T W s (xs ++ (c ∷ ys)) fs i, extent_append xs (c ∷ ys))

  pub spot : place W s c.handle ≡ extent xs
  spot = omega (arith, pl.0.at lt, room, i.within)

  len_xs : length (laid xs) ≡ extent xs
  len_xs = length_laid T s.table 0 xs (placed_left T s.table 0 xs (c ∷ ys) i.placed)

  len_c : length (encoded c) ≡ span c.size
  len_c = omega (arith, pl.0.wide)

  pub read : (k : ℕ) → k < span c.size → get_or s.heap (place W s c.handle + k) 0 ≡ get_or (encoded c) k 0
  read k l =
      let e : extent xs + k - extent xs ≡ k = omega arith in
      ap (λ x. get_or s.heap (x + k) 0) spot
      ∙ sym (get_or-take s.top s.heap (extent xs + k) 0 (omega (arith, room)))
      ∙ ap (λ x. get_or x (extent xs + k) 0) (i.front ∙ laid_append xs (c ∷ ys))
      ∙ get_or-append_right (laid xs) (encoded c ++ laid ys) (extent xs) (extent xs + k) 0 len_xs (omega arith)
      ∙ ap (λ x. get_or (encoded c ++ laid ys) x 0) e
      ∙ get_or_append_left (encoded c) (laid ys) 0 k (omega (arith, len_c))

  -- a word of the block is written
  written : (k v : ℕ) (d : Cell) → k < span c.size → encoded d ≡ set (encoded c) k v →
      take s.top (set s.heap (place W s c.handle + k) v) ≡ laid (xs ++ (d ∷ ys))
  written k v d l e =
      let f : extent xs + k - extent xs ≡ k = omega arith in
      ap (λ x. take s.top (set s.heap (x + k) v)) spot
      ∙ take-set-lt s.top s.heap (extent xs + k) v (omega (arith, room))
      ∙ ap (λ x. set x (extent xs + k) v) (i.front ∙ laid_append xs (c ∷ ys))
      ∙ set-append_right (laid xs) (encoded c ++ laid ys) (extent xs) (extent xs + k) v len_xs (omega arith)
      ∙ ap (λ x. laid xs ++ set (encoded c ++ laid ys) x v) f
      ∙ ap (λ x. laid xs ++ x) (set-append_left (encoded c) (laid ys) k v (omega (arith, len_c)))
      ∙ ap (λ x. laid xs ++ (x ++ laid ys)) (sym e)
      ∙ sym (laid_append xs (d ∷ ys))

  -- what isn't its handle
  pub rewritten : (k v : ℕ) (d : Cell) → k < span c.size → encoded d ≡ set (encoded c) k v → d.handle ≡ c.handle → d.size ≡ c.size → length d.words ≡ length c.words → 1 ≤ d.count →
      Laid T W (put_word s (place W s c.handle + k) v) (xs ++ (d ∷ ys)) fs
  rewritten k v d l e eh es ew ec =
      record {
        front = written k v d l e;
        within = i.within;
        wide = length-set s.heap (place W s c.handle + k) v ∙ i.wide;
        tall = i.tall;
        placed = placed_append T s.table 0 xs (d ∷ ys) (placed_left T s.table 0 xs (c ∷ ys) i.placed)
            (subst (λ o. Placed T s.table o (d ∷ ys)) (sym (zero-add (extent xs))) (
              record { wide = ew ∙ pl.0.wide ∙ ap (λ x. x / 8 + 1) (sym es); at = λ q. ap (λ x. get_or s.table x 0) eh ∙ pl.0.at lt; counted = λ q. ec },
              subst (λ x. Placed T s.table (extent xs + span x) ys) (sym es) pl.1,
            ));
        linked = i.linked;
        once = λ j q. omega (arith, i.once j q, occ_names j xs (c ∷ ys), occ_names j xs (d ∷ ys), ap (is j) eh);
        all = omega (
          arith,
          i.all,
          ap length (live_append T xs (d ∷ ys)),
          ap length (live_append T xs (c ∷ ys)),
          length-append (live T xs) (live T (d ∷ ys)),
          length-append (live T xs) (live T (c ∷ ys)),
          ap length (live_in T c ys lt),
          ap length (live_in T d ys (subst (λ x. x < T) (sym eh) lt)),
        );
      }

  live_is : live T (xs ++ (c ∷ ys)) ≡ live T xs ++ (c ∷ live T ys)
  live_is = live_append T xs (c ∷ ys) ∙ ap (λ x. live T xs ++ x) (live_in T c ys lt)

  -- the texts change as the blocks do
  pub live_on : (f : Cell → Cell) → (f c).handle ≡ c.handle → live T (xs ++ (f c ∷ ys)) ≡ on c.handle f (live T (xs ++ (c ∷ ys)))
  live_on f e =
      live_append T xs (f c ∷ ys) ∙ ap (λ x. live T xs ++ x) (live_in T (f c) ys (subst (λ x. x < T) (sym e) lt))
      ∙ sym (on_at c.handle f (live T xs) c (live T ys) (names_live T c.handle xs lt ∙ before) refl (names_live T c.handle ys lt ∙ after))
      ∙ ap (on c.handle f) (sym live_is)

  pub looked : look c.handle (live T (xs ++ (c ∷ ys))) ≡ c
  looked = ap (look c.handle) live_is ∙ look_at c.handle (live T xs) c (live T ys) (names_live T c.handle xs lt ∙ before) refl

  freed_laid : Laid T W (freed T W s c.handle) (xs ++ (nobody's T c ∷ ys)) (c.handle ∷ fs)
  unfolding freed
  freed_laid =
      let d : Cell = nobody's T c in
      let t' : List ℕ = set s.table c.handle s.free in
      let other : (j : ℕ) → j ≢ c.handle → get_or t' j 0 ≡ get_or s.table j 0 = λ j ne. get_or-set_other s.table c.handle j s.free 0 ne in
      let same : get_or t' c.handle 0 ≡ s.free = get_or-set_same s.table c.handle s.free 0 (omega (arith, i.tall, lt)) in
      record {
        front = written 2 T d (omega arith) refl;
        within = i.within;
        wide = length-set s.heap (place W s c.handle + 2) T ∙ i.wide;
        tall = length-set s.table c.handle s.free ∙ i.tall;
        placed = placed_append T t' 0 xs (d ∷ ys)
            (placed_same T s.table t' 0 xs (λ j q l. other j (λ p. omega (arith, before, ap (λ x. occ x (names xs)) p))) (placed_left T s.table 0 xs (c ∷ ys) i.placed))
            (subst (λ o. Placed T t' o (d ∷ ys)) (sym (zero-add (extent xs))) (
              record { wide = pl.0.wide; at = λ q. absurd (omega arith); counted = λ q. absurd (omega arith) },
              placed_same T s.table t' (extent xs + span c.size) ys (λ j q l. other j (λ p. omega (arith, after, ap (λ x. occ x (names ys)) p))) pl.1,
            ));
        linked = (refl, lt, subst (λ x. Linked T t' x fs) (sym same) (linked_same T s.table t' s.free fs (λ j q l. other j (λ p. omega (arith, unfree, ap (λ x. occ x fs) p))) i.linked));
        once = λ j q. omega (arith, i.once j q, occ_names j xs (c ∷ ys), occ_names j xs (d ∷ ys), is_other j T (omega arith));
        all = omega (arith, i.all, ap length (live_append T xs (d ∷ ys)), ap length live_is, length-append (live T xs) (live T (d ∷ ys)), length-append (live T xs) (c ∷ live T ys), ap length (live_out T d ys (omega arith)));
      }

  live_without : live T (xs ++ (nobody's T c ∷ ys)) ≡ without c.handle (live T (xs ++ (c ∷ ys)))
  live_without =
      live_append T xs (nobody's T c ∷ ys) ∙ ap (λ x. live T xs ++ x) (live_out T (nobody's T c) ys (omega arith))
      ∙ sym (without_at c.handle (live T xs) c (live T ys) (names_live T c.handle xs lt ∙ before) refl (names_live T c.handle ys lt ∙ after))
      ∙ ap (without c.handle) (sym live_is)

  pub raised_cell : c.count + 1 < 18446744073709551616 → Store T W (raised W s c.handle) (on c.handle more (live T (xs ++ (c ∷ ys))))
  unfolding raised
  raised_cell b =
      let p : ℕ = place W s c.handle in
      let rd : get_or s.heap p 0 ≡ c.count = ap (λ x. get_or s.heap x 0) (sym (add-zero p)) ∙ read 0 (omega arith) in
      let v : (get_or s.heap p 0 + 1) % 18446744073709551616 ≡ c.count + 1 = ap (λ x. (x + 1) % 18446744073709551616) rd ∙ mod-eq_of_lt b in
      let eq : put_word s p ((get_or s.heap p 0 + 1) % 18446744073709551616) ≡ put_word s (p + 0) (c.count + 1) = ap (put_word s p) v ∙ ap (λ x. put_word s x (c.count + 1)) (sym (add-zero p)) in (
        xs ++ (more c ∷ ys),
        fs,
        subst (λ x. Laid T W x (xs ++ (more c ∷ ys)) fs) (sym eq) (rewritten 0 (c.count + 1) (more c) (omega arith) refl refl refl refl (omega arith)),
        live_on more refl,
      )

  pub lowered_cell : 1 < c.count → Store T W (lowered T W s c.handle) (on c.handle fewer (live T (xs ++ (c ∷ ys))))
  unfolding lowered
  lowered_cell b =
      let p : ℕ = place W s c.handle in
      let rd : get_or s.heap p 0 ≡ c.count = ap (λ x. get_or s.heap x 0) (sym (add-zero p)) ∙ read 0 (omega arith) in
      let eq : lowered T W s c.handle ≡ put_word s (p + 0) (c.count - 1) = rw (rd, lt-ltb 1 c.count b) (ap (λ x. put_word s x (c.count - 1)) (sym (add-zero p))) in (
        xs ++ (fewer c ∷ ys),
        fs,
        subst (λ x. Laid T W x (xs ++ (fewer c ∷ ys)) fs) (sym eq) (rewritten 0 (c.count - 1) (fewer c) (omega arith) refl refl refl refl (omega arith)),
        live_on fewer refl,
      )

  pub released_cell : c.count ≤ 1 → Store T W (lowered T W s c.handle) (without c.handle (live T (xs ++ (c ∷ ys))))
  unfolding lowered
  released_cell b =
      let p : ℕ = place W s c.handle in
      let rd : get_or s.heap p 0 ≡ c.count = ap (λ x. get_or s.heap x 0) (sym (add-zero p)) ∙ read 0 (omega arith) in
      let eq : lowered T W s c.handle ≡ freed T W s c.handle = rw (rd, le-ltb 1 c.count b) in (
        xs ++ (nobody's T c ∷ ys),
        c.handle ∷ fs,
        subst (λ x. Laid T W x (xs ++ (nobody's T c ∷ ys)) (c.handle ∷ fs)) (sym eq) freed_laid,
        live_without,
      )
