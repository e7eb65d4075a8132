-- Regions of texts as the layers above see them.
use Rattle.std.proofs.Common.{◌≡◌, ℕ, ◌+◌, ◌*◌, ◌<◌, ◌≤◌, ◌≢◌, ◌⊎◌, List, [], ◌∷◌, ◌++◌, length, get_or, sym, refl, ap, ◌∙◌, subst, inl, inr, arith, length-take-le, le-ltb, lt-ltb, eq-eqb, ne_eqb}
use Rattle.std.proofs.lemmas.Bool.{cases_lt, cases_eq}
use Rattle.store.specs.Words.{unpacked, over}
use Rattle.store.specs.Space.{Space, span, allocated, compacted, raised, lowered, length_of, text_of, written, copied, emptied}
use Rattle.store.specs.Model.{Cell, occ, on, more, fewer, look, let_go, bytes, held_bytes}
use Rattle.store.specs.Laws.{Got, Texts, changed, spent, Fresh, NoRoom, spans, NewByWords, Interface}
use Rattle.store.proofs.Packing.{length_unpacked}
use Rattle.store.proofs.Moving.{window_below}
use Rattle.store.proofs.Basics.{is_same, is_other, occ_le}
use Rattle.store.proofs.Sliding.{compacted_store}
use Rattle.store.proofs.Emptying.{emptied_is}
use Rattle.store.proofs.Taking.{allocated_is}
use Rattle.store.proofs.Holders.{counted_there, none_there, extent_held, extent_spans, cell_spans, each_extent, raised_is, lowered_is, length_is, held_new, held_more, held_less, look_on, look_on_other, look_without_other, look_push, look_pushed}
use Rattle.store.proofs.Reading.{words_wide, text_is, written_is, held_became}

pub changed_same : (text : ℕ → List ℕ) (h : ℕ) (p : List ℕ) (k : ℕ) → k ≡ h → changed text h p k ≡ p
changed_same text h p k e = rw (eq-eqb k h e)

pub changed_other : (text : ℕ → List ℕ) (h : ℕ) (p : List ℕ) (k : ℕ) → k ≢ h → changed text h p k ≡ text k
changed_other text h p k e = rw (ne_eqb k h e)

module _ (T W : ℕ) where
  counted : (s : Space) (hs : List ℕ) (text : ℕ → List ℕ) (h : ℕ) (t : Texts T W s hs text) → 1 ≤ occ h hs → 1 ≤ (look h t.cells).count
  counted s hs text h t l = omega (arith, t.held h)

  sized : (s : Space) (hs : List ℕ) (text : ℕ → List ℕ) (h : ℕ) (t : Texts T W s hs text) → 1 ≤ occ h hs → (look h t.cells).size ≡ length (text h)
  sized s hs text h t l =
      let w = words_wide T W s t.cells h t.store (counted s hs text h t l) in
      sym (length-take-le (look h t.cells).size (unpacked (look h t.cells).words) (omega (arith, w, length_unpacked (look h t.cells).words))) ∙ ap length (t.says h l)

  held_spent : (H : List Cell) (text : ℕ → List ℕ) (gs : List ℕ) → ((k : ℕ) → 1 ≤ occ k gs → (look k H).size ≡ length (text k)) → held_bytes H gs ≡ spent text gs
  held_spent H text [] e = refl
  held_spent H text (g ∷ gs) e = omega (arith, e g (omega (arith, is_same g g refl)), held_spent H text gs (λ k l. e k (omega arith)))

  empty : (s : Space) (text : ℕ → List ℕ) → length s.table ≡ T → length s.heap ≡ W → Texts T W (emptied T s) [] text
  empty s text p q = record { cells = []; store = emptied_is T W s p q; held = λ k. refl; says = λ k l. absurd (omega arith) }

  fresh : (s : Space) (hs : List ℕ) (text : ℕ → List ℕ) (n : ℕ) (t : Texts T W s hs text) → Got T W t.cells n (allocated T W s n) → Fresh T W hs text n (allocated T W s n)
  fresh s hs text n t g =
      let H : List Cell = t.cells in
      let c : Cell = g.cell in
      let h : ℕ = c.handle in
      let at : look h (H ++ (c ∷ [])) ≡ c = look_pushed H c g.new in
      record {
        handle = h;
        got = g.handle;
        new = sym (t.held h) ∙ none_there h H g.new;
        was = bytes c;
        size = length-take-le c.size (unpacked c.words) (omega (arith, g.wide, g.size, length_unpacked c.words)) ∙ g.size;
        texts = record {
          cells = H ++ (c ∷ []);
          store = g.store;
          held = held_new H hs c t.held g.new g.count;
          says = λ k l. elim (cases_eq k h) [
            | inl e ↦ ap (λ x. bytes (look x (H ++ (c ∷ [])))) e ∙ ap bytes at ∙ sym (changed_same text h (bytes c) k e)
            | inr e ↦ ap bytes (look_push k H c e) ∙ t.says k (omega (arith, is_other k h e)) ∙ sym (changed_other text h (bytes c) k e)
          ];
        };
      }

  new : (s : Space) (hs : List ℕ) (text : ℕ → List ℕ) (n : ℕ) → Texts T W s hs text → W ≤ 4 * T → Fresh T W hs text n (allocated T W s n) ⊎ NoRoom T W hs text n (allocated T W s n)
  new s hs text n t r =
      let H : List Cell = t.cells in
      elim (allocated_is T W s H n t.store) [
        | inl g ↦ inl (fresh s hs text n t g)
        | inr f ↦
            let x = extent_held T W s H hs t.store t.held in
            let z = held_spent H text hs (λ k l. sized s hs text k t l) in
            inr (record {
              got = f.handle;
              full = elim f.why [ inl p ↦ omega (arith, each_extent H) | inr p ↦ omega arith ];
              texts = record { cells = H; store = f.store; held = t.held; says = t.says };
            })
      ]

  cells_spans : (H : List Cell) (text : ℕ → List ℕ) (gs : List ℕ) → ((k : ℕ) → 1 ≤ occ k gs → (look k H).size ≡ length (text k)) → cell_spans H gs ≡ spans text gs
  cells_spans H text [] e = refl
  cells_spans H text (g ∷ gs) e =
      let q : span (look g H).size ≡ span (length (text g)) = ap span (e g (omega (arith, is_same g g refl))) in
      omega (arith, q, cells_spans H text gs (λ k l. e k (omega arith)))

  pub new_by_words : NewByWords T W
  unfolding NewByWords
  new_by_words s hs text n t r =
      let H : List Cell = t.cells in
      elim (allocated_is T W s H n t.store) [
        | inl g ↦ inl (fresh s hs text n t g)
        | inr f ↦
            let x = extent_spans T W s H hs t.store t.held in
            let z = cells_spans H text hs (λ k l. sized s hs text k t l) in
            inr (record {
              got = f.handle;
              full = elim f.why [ inl p ↦ omega (arith, each_extent H) | inr p ↦ omega arith ];
              texts = record { cells = H; store = f.store; held = t.held; says = t.says };
            })
      ]

  hold : (s : Space) (hs : List ℕ) (text : ℕ → List ℕ) (h : ℕ) → Texts T W s hs text → 1 ≤ occ h hs → length hs + 1 < 18446744073709551616 → Texts T W (raised W s h) (h ∷ hs) text
  hold s hs text h t l b =
      let H : List Cell = t.cells in
      let n = counted s hs text h t l in
      record {
        cells = on h more H;
        store = raised_is T W s H h t.store n (omega (arith, t.held h, occ_le h hs));
        held = held_more H hs h t.held l;
        says = λ k m. elim (cases_eq k h) [
          | inl e ↦ ap (λ x. bytes (look x (on h more H))) e ∙ ap bytes (look_on h more H (λ c. refl) (counted_there h H n)) ∙ t.says h l ∙ ap text (sym e)
          | inr e ↦ ap bytes (look_on_other h k more H (λ c. refl) e) ∙ t.says k (omega (arith, is_other k h e))
        ];
      }

  release : (s : Space) (hs hs' : List ℕ) (text : ℕ → List ℕ) (h : ℕ) → Texts T W s hs text → ((k : ℕ) → occ k hs ≡ occ k (h ∷ hs')) → Texts T W (lowered T W s h) hs' text
  release s hs hs' text h t p =
      let H : List Cell = t.cells in
      let l : 1 ≤ occ h hs = omega (arith, p h, is_same h h refl) in
      let n = counted s hs text h t l in
      record {
        cells = let_go h H;
        store = lowered_is T W s H h t.store n;
        held = held_less H hs hs' h t.held p;
        says = λ k m. elim (cases_lt 1 (look h H).count) [
          | inl d ↦ rw (lt-ltb 1 (look h H).count d) (elim (cases_eq k h) [
            | inl e ↦ ap (λ x. bytes (look x (on h fewer H))) e ∙ ap bytes (look_on h fewer H (λ c. refl) (counted_there h H n)) ∙ t.says h l ∙ ap text (sym e)
            | inr e ↦ ap bytes (look_on_other h k fewer H (λ c. refl) e) ∙ t.says k (omega (arith, p k, is_other k h e))
          ])
          | inr d ↦ rw (le-ltb 1 (look h H).count d) (elim (cases_eq k h) [
            | inl e ↦ absurd (omega (arith, t.held h, p h, is_same h h refl, ap (λ x. occ x hs') e))
            | inr e ↦ ap bytes (look_without_other h k H e) ∙ t.says k (omega (arith, p k, is_other k h e))
          ])
        ];
      }

  measure : (s : Space) (hs : List ℕ) (text : ℕ → List ℕ) (h : ℕ) → Texts T W s hs text → 1 ≤ occ h hs → length_of W s h ≡ length (text h)
  measure s hs text h t l = length_is T W s t.cells h t.store (counted s hs text h t l) ∙ sized s hs text h t l

  view : (s : Space) (hs : List ℕ) (text : ℕ → List ℕ) (h : ℕ) → Texts T W s hs text → 1 ≤ occ h hs → text_of W s h ≡ text h
  view s hs text h t l = text_is T W s t.cells h t.store (counted s hs text h t l) ∙ t.says h l

  fill : (s : Space) (hs : List ℕ) (text : ℕ → List ℕ) (h at : ℕ) (p : List ℕ) → Texts T W s hs text → 1 ≤ occ h hs → at + length p ≤ length (text h) → ((i : ℕ) → get_or p i 0 < 256) →
      Texts T W (written W s h at p) hs (changed text h (over (text h) at p))
  fill s hs text h at p t l b f =
      let H : List Cell = t.cells in
      let q = written_is T W s H h at p t.store (counted s hs text h t l) (omega (arith, sized s hs text h t l)) f in
      record {
        cells = q.0;
        store = q.1;
        held = held_became h (over (bytes (look h H)) at p) H q.0 hs q.2 t.held;
        says = λ k m. elim (cases_eq k h) [
          | inl e ↦ ap (λ x. bytes (look x q.0)) e ∙ q.2.text ∙ ap (λ x. over x at p) (t.says h l) ∙ sym (changed_same text h (over (text h) at p) k e)
          | inr e ↦ ap bytes (q.2.others k e) ∙ t.says k m ∙ sym (changed_other text h (over (text h) at p) k e)
        ];
      }

  text_below : (s : Space) (k i : ℕ) → get_or (text_of W s k) i 0 < 256
  unfolding text_of
  text_below s k i = window_below _ (length_of W s k) s.heap i

  copy : (s : Space) (hs : List ℕ) (text : ℕ → List ℕ) (h at k : ℕ) → Texts T W s hs text → 1 ≤ occ h hs → 1 ≤ occ k hs → at + length (text k) ≤ length (text h) →
      Texts T W (copied W s h at k) hs (changed text h (over (text h) at (text k)))
  copy s hs text h at k t l m b =
      let e = view s hs text k t m in
      subst (λ x. Texts T W (copied W s h at k) hs (changed text h (over (text h) at x))) e
      (fill s hs text h at (text_of W s k) t l (omega (arith, ap length e)) (text_below s k))

  compact : (s : Space) (hs : List ℕ) (text : ℕ → List ℕ) → Texts T W s hs text → Texts T W (compacted T W s) hs text
  compact s hs text t = record { cells = t.cells; store = compacted_store T W s t.cells t.store; held = t.held; says = t.says }

  reorder : (s : Space) (hs hs' : List ℕ) (text : ℕ → List ℕ) → Texts T W s hs text → ((k : ℕ) → occ k hs ≡ occ k hs') → Texts T W s hs' text
  reorder s hs hs' text t p = record { cells = t.cells; store = t.store; held = λ k. t.held k ∙ p k; says = λ k l. t.says k (omega (arith, p k)) }

  same : (s : Space) (hs : List ℕ) (text text' : ℕ → List ℕ) → Texts T W s hs text → ((k : ℕ) → 1 ≤ occ k hs → text k ≡ text' k) → Texts T W s hs text'
  same s hs text text' t e = record { cells = t.cells; store = t.store; held = t.held; says = λ k l. t.says k l ∙ e k l }

  pub faces : Interface T W
  faces = record { empty = empty; new = new; hold = hold; release = release; measure = measure; view = view; fill = fill; copy = copy; compact = compact; reorder = reorder; same = same }
