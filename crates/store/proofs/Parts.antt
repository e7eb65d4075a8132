-- The region of texts by its parts: what a read or a write of a word of it is.
use Rattle.std.proofs.Common.{◌≡◌, ℕ, ◌+◌, ◌-◌, ◌<◌, ◌≤◌, List, ◌++◌, length, get_or, take, drop, set, sym, refl, ap, ◌∙◌, add_assoc, arith, length-drop, take-append-drop, get_or-drop, get_or-set_other, get_or-take, get_or-set_same, drop-set-lt, take-add, drop_at}
use lib.Seq.{paste, take-set-le, take-set-lt, drop-set-add}
use Rattle.std.proofs.lemmas.List.{get_or_past, set_past, length-take-le, take-take, take-append-le, drop-append-le, append_assoc, append-nil, drop-drop, drop-take, take_all, drop_all}
use Rattle.std.proofs.lemmas.Slice.{take-put_mid, take-put_mid_below, drop-put_mid}
use borrow.Rule.Slice.PartMut.{put_mid}
use Rattle.store.specs.Space.{Space, space, with_top, with_free, with_heap, put_word, put_entry}

same_space : (a b c d : ℕ) (t u x y : List ℕ) → a ≡ b → c ≡ d → t ≡ u → x ≡ y →
    ◌≡◌ {A = Space} (record { top = a; free = c; table = t; heap = x }) (record { top = b; free = d; table = u; heap = y })
same_space a b c d t u x y e f g h = cc

module _ (T : ℕ) (m : List ℕ) where
  pub heap_length : length (space T m).heap ≡ length m - (2 + T)
  unfolding space
  heap_length = length-drop (2 + T) m

  pub heap_is : (space T m).heap ≡ drop (2 + T) m
  unfolding space
  heap_is = refl

  pub heap_read : (a : ℕ) → get_or m (2 + T + a) 0 ≡ get_or (space T m).heap a 0
  unfolding space
  heap_read a = sym (get_or-drop (2 + T) m a 0)

  pub heap_past : (a : ℕ) → length m ≤ 2 + T + a → 0 ≡ get_or (space T m).heap a 0
  unfolding space
  heap_past a h = sym (get_or_past (drop (2 + T) m) a 0 (omega (arith, length-drop (2 + T) m)))

  pub table_read : (h : ℕ) → h < T → get_or m (2 + h) 0 ≡ get_or (space T m).table h 0
  unfolding space
  table_read h l = sym (get_or-take T (drop 2 m) h 0 l ∙ get_or-drop 2 m h 0)

  pub table_past : (h : ℕ) → T ≤ h → 2 + T ≤ length m → 0 ≡ get_or (space T m).table h 0
  unfolding space
  table_past h l k = sym (get_or_past (take T (drop 2 m)) h 0 (omega (arith, length-take-le T (drop 2 m) (omega (arith, length-drop 2 m)))))

  pub heap_write : (a v : ℕ) → space T (set m (2 + T + a) v) ≡ put_word (space T m) a v
  unfolding space
  heap_write a v =
      let e : 2 + T + a ≡ 2 + (T + a) = add_assoc 2 T a in
      same_space _ _ _ _ _ _ _ _
      (get_or-set_other m (2 + T + a) 0 v 0 (omega arith))
      (get_or-set_other m (2 + T + a) 1 v 0 (omega arith))
      (ap (λ x. take T (drop 2 (set m x v))) e ∙ ap (take T) (drop-set-add 2 m (T + a) v) ∙ take-set-le T (drop 2 m) (T + a) v (omega arith))
      (drop-set-add (2 + T) m a v)

  pub heap_unwritten : (a v : ℕ) → length m ≤ 2 + T + a → space T m ≡ put_word (space T m) a v
  unfolding space
  heap_unwritten a v h = same_space _ _ _ _ _ _ _ _ refl refl refl (sym (set_past (drop (2 + T) m) a v (omega (arith, length-drop (2 + T) m))))

  pub table_write : (h v : ℕ) → h < T → space T (set m (2 + h) v) ≡ put_entry (space T m) h v
  unfolding space
  table_write h v l =
      same_space _ _ _ _ _ _ _ _
      (get_or-set_other m (2 + h) 0 v 0 (omega arith))
      (get_or-set_other m (2 + h) 1 v 0 (omega arith))
      (ap (take T) (drop-set-add 2 m h v) ∙ take-set-lt T (drop 2 m) h v l)
      (drop-set-lt (2 + T) m (2 + h) v (omega arith))

  pub table_unwritten : (h v : ℕ) → T ≤ h → 2 + T ≤ length m → space T m ≡ put_entry (space T m) h v
  unfolding space
  table_unwritten h v l k = same_space _ _ _ _ _ _ _ _ refl refl (sym (set_past (take T (drop 2 m)) h v (omega (arith, length-take-le T (drop 2 m) (omega (arith, length-drop 2 m)))))) refl

  pub top_write : (v : ℕ) → 2 ≤ length m → space T (set m 0 v) ≡ with_top (space T m) v
  unfolding space
  top_write v h =
      same_space _ _ _ _ _ _ _ _ (get_or-set_same m 0 v 0 (omega arith)) (get_or-set_other m 0 1 v 0 (omega arith))
      (ap (take T) (drop-set-lt 2 m 0 v (omega arith))) (drop-set-lt (2 + T) m 0 v (omega arith))

  pub free_write : (v : ℕ) → 2 ≤ length m → space T (set m 1 v) ≡ with_free (space T m) v
  unfolding space
  free_write v h =
      same_space _ _ _ _ _ _ _ _ (get_or-set_other m 1 0 v 0 (omega arith)) (get_or-set_same m 1 v 0 (omega arith))
      (ap (take T) (drop-set-lt 2 m 1 v (omega arith))) (drop-set-lt (2 + T) m 1 v (omega arith))

-- what begins alike differs in its blocks alone
front_same : (T : ℕ) (l m x : List ℕ) → 2 ≤ 2 + T → take (2 + T) l ≡ take (2 + T) m → drop (2 + T) l ≡ x → space T l ≡ with_heap (space T m) x
unfolding space
front_same T l m x h e f =
    let at : (k : ℕ) → k < 2 + T → get_or l k 0 ≡ get_or m k 0 = λ k b. sym (get_or-take (2 + T) l k 0 b) ∙ ap (λ y. get_or y k 0) e ∙ get_or-take (2 + T) m k 0 b in
    same_space _ _ _ _ _ _ _ _ (at 0 (omega arith)) (at 1 (omega arith)) (sym (drop-take 2 T l) ∙ ap (drop 2) e ∙ drop-take 2 T m) f

pub pasted : (T : ℕ) (m s : List ℕ) (at n : ℕ) → 2 + T + at ≤ length m → space T (paste m (2 + T + at) s n) ≡ with_heap (space T m) (paste (space T m).heap at s n)
pasted T m s at n h =
    let k : ℕ = 2 + T in
    let rest : List ℕ = take n s ++ drop (k + at + n) m in
    let p : paste m (k + at) s n ≡ take (k + at) m ++ rest = append_assoc (take (k + at) m) (take n s) (drop (k + at + n) m) in
    let le : length (take (k + at) m) ≡ k + at = length-take-le (k + at) m h in
    let b : k ≤ length (take (k + at) m) = omega arith in
    let hp : (space T m).heap ≡ drop k m = heap_is T m in
    front_same T (paste m (k + at) s n) m (paste (space T m).heap at s n) (omega arith)
    (ap (take k) p ∙ take-append-le k (take (k + at) m) rest b ∙ take-take k (k + at) m (omega arith))
    (ap (drop k) p ∙ drop-append-le k (take (k + at) m) rest b
    ∙ ap (λ y. y ++ rest) (drop-take k at m)
    ∙ ap (λ y. take at (drop k m) ++ (take n s ++ y)) (ap (λ y. drop y m) (add_assoc k at n) ∙ sym (drop-drop (at + n) k m))
    ∙ sym (append_assoc (take at (drop k m)) (take n s) (drop (at + n) (drop k m)))
    ∙ ap (λ y. paste y at s n) (sym hp))

-- the blocks as a slice of their own

pub heap_part : (T k : ℕ) (m : List ℕ) → length m ≡ 2 + T + k → take k (drop (2 + T) m) ≡ (space T m).heap
unfolding space
heap_part T k m e = take_all k (drop (2 + T) m) (omega (arith, length-drop (2 + T) m))

part_length : (T k : ℕ) (m : List ℕ) → length m ≡ 2 + T + k → length (take k (drop (2 + T) m)) ≡ k
part_length T k m e = length-take-le k (drop (2 + T) m) (omega (arith, length-drop (2 + T) m))

pub heap_put : (T k : ℕ) (m ys zs : List ℕ) → length m ≡ 2 + T + k → length ys ≡ length (take k (drop (2 + T) m)) → ys ≡ zs → space T (put_mid (2 + T) k m ys) ≡ with_heap (space T m) zs
heap_put T k m ys zs e h g =
    let a : ℕ = 2 + T in
    let l : List ℕ = put_mid a k m ys in
    let f : length ys ≡ k = h ∙ part_length T k m e in
    let whole : l ≡ take a m ++ ys =
    sym (take-append-drop (a + k) l) ∙ ap (λ x. x ++ drop (a + k) l) (take-put_mid a k m ys (a + k) (omega arith) (omega arith))
    ∙ ap (λ x. (take a m ++ ys) ++ x) (drop-put_mid a k m ys (a + k) (omega arith) (omega arith) f ∙ drop_all (a + k) m (omega arith)) ∙ append-nil (take a m ++ ys) in
    front_same T l m zs (omega arith) (take-put_mid_below a k m ys a (omega arith) (omega arith))
    (ap (drop a) whole ∙ drop_at (take a m) ys a (length-take-le a m (omega arith)) ∙ g)

-- what stands there already
pub paste_self : (d : List ℕ) (at n : ℕ) → paste d at (drop at d) n ≡ d
paste_self d at n = ap (λ x. x ++ drop (at + n) d) (sym (take-add at n d)) ∙ take-append-drop (at + n) d
