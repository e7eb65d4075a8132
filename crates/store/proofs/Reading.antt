-- The bytes of a text, read and written where its block lies.
use Rattle.std.proofs.Common.{◌≡◌, ℕ, ◌+◌, ◌-◌, ◌*◌, ◌/◌, ◌%◌, ◌<◌, ◌≤◌, min, ◌≢◌, List, [], ◌∷◌, ◌++◌, length, get_or, take, drop, set, sym, refl, ap, ◌∙◌, subst, inl, inr, add_assoc, zero-add, arith, length-append, length-drop, length-set, length-take-le, get_or-drop, get_or-take, ext_get_or}
use lib.Seq.{paste, take-set-lt}
use Rattle.std.proofs.lemmas.List.{drop_all, append-nil}
use Rattle.std.proofs.lemmas.List.Edits.{paste_all, paste-paste}
use Rattle.std.proofs.lemmas.Bool.{cases_eq}
use Rattle.store.specs.Words.{unpacked, with_byte, put_byte, put_bytes, over}
use Rattle.store.specs.Space.{Space, place, with_heap, put_word, bytes_at, length_of, text_of, written}
use Rattle.store.specs.Model.{Cell, Store, on, look, occ, with_word, bytes, Held}
use Rattle.store.specs.Laws.{Became, Filled}
use Rattle.store.proofs.Packing.{length_unpacked, byte_is}
use Rattle.store.proofs.Putting.{puts_over, over_set, over_nothing}
use Rattle.store.proofs.Basics.{placed_right}
use Rattle.store.proofs.Holding.{spot, room}
use Rattle.store.proofs.Holders.{at_cell, length_is, word_is, word_set, look_on, look_on_other, counted_there}

-- a text has the words that its length says
pub words_wide : (T W : ℕ) (s : Space) (H : List Cell) (h : ℕ) → Store T W s H → 1 ≤ (look h H).count → length (look h H).words ≡ (look h H).size / 8 + 1
words_wide T W s H h st l =
    let a = at_cell T W s H h st l in
    subst (λ c. length c.words ≡ c.size / 8 + 1) (sym a.found) (placed_right T s.table 0 a.xs (a.c ∷ a.ys) a.held.placed).0.wide

-- and its words end where the blocks do, or before
words_inside : (T W : ℕ) (s : Space) (H : List Cell) (h : ℕ) → Store T W s H → 1 ≤ (look h H).count → place W s h + 4 + (look h H).size / 8 ≤ length s.heap
words_inside T W s H h st l =
    let a = at_cell T W s H h st l in
    let p = spot T W s a.xs a.c a.ys a.fs a.held a.below in
    let r = room T W s a.xs a.c a.ys a.fs a.held a.below in
    omega (arith, p, r, ap (place W s) a.name, ap (λ c. c.size) a.found, a.held.within, a.held.wide)

pub text_is : (T W : ℕ) (s : Space) (H : List Cell) (h : ℕ) → Store T W s H → 1 ≤ (look h H).count → text_of W s h ≡ bytes (look h H)
unfolding text_of
text_is T W s H h st l =
    let c : Cell = look h H in
    let u = length_unpacked s.heap in
    let v = length_unpacked c.words in
    let w = words_wide T W s H h st l in
    let i = words_inside T W s H h st l in
    let a : ℕ = bytes_at W s h in
    let z : length_of W s h ≡ c.size = length_is T W s H h st l in
    let p : length (take c.size (drop a (unpacked s.heap))) ≡ c.size = length-take-le c.size (drop a (unpacked s.heap)) (omega (arith, length-drop a (unpacked s.heap))) in
    let q : length (bytes c) ≡ c.size = length-take-le c.size (unpacked c.words) (omega arith) in
    ap (λ k. take k (drop a (unpacked s.heap))) z
    ∙ ext_get_or 0 (take c.size (drop a (unpacked s.heap))) (bytes c) (p ∙ sym q)
    (λ k b.
    let e : (a + k) / 8 ≡ place W s h + 3 + k / 8 = omega arith in
    let f : (a + k) % 8 ≡ k % 8 = omega arith in
    get_or-take c.size (drop a (unpacked s.heap)) k 0 (omega arith) ∙ get_or-drop a (unpacked s.heap) k 0
    ∙ sym (byte_is s.heap (a + k) (omega arith))
    ∙ (rw (e, f, word_is T W s H h st l (k / 8) (omega arith)) (byte_is c.words k (omega arith)))
    ∙ sym (get_or-take c.size (unpacked c.words) k 0 (omega arith)))

put_here : (W : ℕ) (s : Space) (h at x : ℕ) (ws : List ℕ) → get_or s.heap (place W s h + 3 + at / 8) 0 ≡ get_or ws (at / 8) 0 →
    put_byte s.heap (bytes_at W s h + at) x ≡ set s.heap (place W s h + 3 + at / 8) (with_byte (get_or ws (at / 8) 0) (at % 8) x)
unfolding put_byte
put_here W s h at x ws e =
    let f : (bytes_at W s h + at) / 8 ≡ place W s h + 3 + at / 8 = omega arith in
    let g : (bytes_at W s h + at) % 8 ≡ at % 8 = omega arith in
    rw (f, g, e)

word_here : (ws : List ℕ) (at x : ℕ) → set ws (at / 8) (with_byte (get_or ws (at / 8) 0) (at % 8) x) ≡ put_byte ws at x
unfolding put_byte
word_here ws at x = refl

-- in G the text h has p over its words, from byte `at` on, and all else is as in H
record Put (h at : ℕ) (p : List ℕ) (H G : List Cell) : Type 0 where
  others : (j : ℕ) → j ≢ h → look j G ≡ look j H
  count : (look h G).count ≡ (look h H).count
  size : (look h G).size ≡ (look h H).size
  words : (look h G).words ≡ put_bytes (look h H).words at p

put_is : (T W : ℕ) (s : Space) (H : List Cell) (h at : ℕ) (p : List ℕ) → Store T W s H → 1 ≤ (look h H).count → at + length p ≤ 8 * ((look h H).size / 8 + 1) →
    (G : List Cell) × Store T W (with_heap s (put_bytes s.heap (bytes_at W s h + at) p)) G × Put h at p H G
unfolding put_bytes
put_is T W s H h at [] st l b = (H, st, record { others = λ j e. refl; count = refl; size = refl; words = refl })
put_is T W s H h at (x ∷ p) st l b =
    let v : ℕ = with_byte (get_or (look h H).words (at / 8) 0) (at % 8) x in
    let s₁ : Space = put_word s (place W s h + 3 + at / 8) v in
    let H₁ : List Cell = on h (with_word (at / 8) v) H in
    let st₁ : Store T W s₁ H₁ = word_set T W s H h st l (at / 8) v (omega arith) in
    let e : look h H₁ ≡ with_word (at / 8) v (look h H) = look_on h (with_word (at / 8) v) H (λ c. refl) (counted_there h H l) in
    let r = put_is T W s₁ H₁ h (at + 1) p st₁ (omega (arith, ap (λ c. c.count) e)) (omega (arith, ap (λ c. c.size) e)) in
    let here : put_byte s.heap (bytes_at W s h + at) x ≡ set s.heap (place W s h + 3 + at / 8) v = put_here W s h at x (look h H).words (word_is T W s H h st l (at / 8) (omega arith)) in
    let next : bytes_at W s h + at + 1 ≡ bytes_at W s h + (at + 1) = add_assoc (bytes_at W s h) at 1 in (
      r.0,
      subst (λ x. Store T W (with_heap s x) r.0) (sym (ap (λ t. put_bytes t (bytes_at W s h + at + 1) p) here ∙ ap (λ k. put_bytes (set s.heap (place W s h + 3 + at / 8) v) k p) next)) r.1,
      record {
        others = λ j f. r.2.others j f ∙ look_on_other h j (with_word (at / 8) v) H (λ c. refl) f;
        count = r.2.count ∙ ap (λ c. c.count) e;
        size = r.2.size ∙ ap (λ c. c.size) e;
        words = r.2.words ∙ ap (λ c. put_bytes c.words (at + 1) p) e ∙ ap (λ t. put_bytes t (at + 1) p) (word_here (look h H).words at x);
      },
    )

-- what is over a text's bytes
take_over : (n : ℕ) (d : List ℕ) (at : ℕ) (p : List ℕ) → at + length p ≤ n → take n (over d at p) ≡ over (take n d) at p
take_over n d at [] h = ap (take n) (over_nothing d at) ∙ sym (over_nothing (take n d) at)
take_over n d at (b ∷ p) h =
    ap (take n) (sym (over_set d at b p)) ∙ take_over n (set d at b) (at + 1) p (omega arith)
    ∙ ap (λ x. over x (at + 1) p) (take-set-lt n d at b (omega arith)) ∙ over_set (take n d) at b p

pub written_is : (T W : ℕ) (s : Space) (H : List Cell) (h at : ℕ) (p : List ℕ) → Store T W s H → 1 ≤ (look h H).count → at + length p ≤ (look h H).size → ((i : ℕ) → get_or p i 0 < 256) →
    (G : List Cell) × Store T W (written W s h at p) G × Became h (over (bytes (look h H)) at p) H G
unfolding written
written_is T W s H h at p st l n f =
    let r = put_is T W s H h at p st l (omega arith) in (
      r.0,
      r.1,
      record {
        others = r.2.others;
        count = r.2.count;
        size = r.2.size;
        text = ap (λ k. take k (unpacked (look h r.0).words)) r.2.size ∙ ap (λ x. take (look h H).size (unpacked x)) r.2.words
            ∙ ap (take (look h H).size) (puts_over (look h H).words at p f) ∙ take_over (look h H).size (unpacked (look h H).words) at p n;
      },
    )

pub held_became : (h : ℕ) (p : List ℕ) (H G : List Cell) (hs : List ℕ) → Became h p H G → Held H hs → Held G hs
held_became h p H G hs b e k =
    elim (cases_eq k h) [
      | inl q ↦ ap (λ x. (look x G).count) q ∙ b.count ∙ e h ∙ ap (λ x. occ x hs) (sym q)
      | inr q ↦ ap (λ c. c.count) (b.others k q) ∙ e k
    ]

-- a text that is written whole, or in two parts

pub length_over : (d : List ℕ) (at : ℕ) (p : List ℕ) → length (over d at p) ≡ length d
length_over d at [] = ap length (over_nothing d at)
length_over d at (b ∷ p) = ap length (sym (over_set d at b p)) ∙ length_over (set d at b) (at + 1) p ∙ length-set d at b

pub over_whole : (d p : List ℕ) → length d ≡ length p → over d 0 p ≡ p
over_whole d p e =
    let n : min (length p) (length d - 0) ≡ length p = omega arith in
    ap (paste d 0 p) n ∙ paste_all d 0 p (length p) refl ∙ ap (λ x. p ++ x) (drop_all (0 + length p) d (omega arith)) ∙ append-nil p

over_both : (d p q : List ℕ) → length d ≡ length p + length q → over (over d 0 p) (length p) q ≡ p ++ q
over_both d p q e =
    let n : min (length p) (length d - 0) ≡ length p = omega arith in
    let m : min (length q) (length (over d 0 p) - length p) ≡ length q = omega (arith, length_over d 0 p) in
    ap (paste (over d 0 p) (length p) q) m ∙ ap (λ x. paste x (length p) q (length q)) (ap (paste d 0 p) n)
    ∙ ap (λ k. paste (paste d 0 p (length p)) k q (length q)) (sym (zero-add (length p)))
    ∙ paste-paste d 0 p q (length p) (length q) refl refl (omega arith)
    ∙ paste_all d 0 (p ++ q) (length p + length q) (sym (length-append p q))
    ∙ ap (λ x. (p ++ q) ++ x) (drop_all (0 + (length p + length q)) d (omega arith)) ∙ append-nil (p ++ q)

pub filled : Filled
filled = record { whole = over_whole; both = over_both; keeps = length_over }
