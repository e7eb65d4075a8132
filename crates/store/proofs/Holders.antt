-- Texts by their handles: counts are holders, and there is room as long as what is counted for them is small enough.
use Rattle.std.proofs.Common.{◌≡◌, ℕ, suc, ◌+◌, ◌*◌, ◌/◌, ◌<◌, ◌≤◌, cond, eqb, ◌≢◌, List, [], ◌∷◌, ◌++◌, length, get_or, sym, refl, ap, ◌∙◌, subst, inl, inr, arith, length-set, le-ltb, lt-ltb, eq-eqb, ne_eqb}
use Rattle.std.proofs.lemmas.Bool.{cases_lt, cases_eq}
use Rattle.store.specs.Space.{Space, span, place, put_word, raised, lowered, length_of, allocated}
use Rattle.store.specs.Model.{Cell, live, extent, names, occ, Placed, Laid, Store, on, without, more, fewer, look, let_go, with_word, Held, held_bytes}
use Rattle.store.proofs.Basics.{is_same, is_other, names_live, live_in, live_out}
use Rattle.store.specs.Laws.{Got}
use Rattle.store.proofs.Taking.{allocated_is}
use Rattle.store.proofs.Holding.{split, read, rewritten, looked, live_on, raised_cell, lowered_cell, released_cell}

-- a text with a holder is there

pub counted_there : (h : ℕ) (H : List Cell) → 1 ≤ (look h H).count → 1 ≤ occ h (names H)
counted_there h [] l = absurd (omega arith)
counted_there h (c ∷ H) l =
    elim (cases_eq h c.handle) [
      | inl e ↦ omega (arith, is_same h c.handle e)
      | inr e ↦ let m : 1 ≤ (look h H).count = rw (ne_eqb h c.handle e) at l in omega (arith, counted_there h H m)
    ]

live_below : (T h : ℕ) (bs : List Cell) → T ≤ h → occ h (names (live T bs)) ≡ 0
live_below T h [] l = refl
live_below T h (c ∷ bs) l =
    elim (cases_lt c.handle T) [
      | inl k ↦ ap (λ x. occ h (names x)) (live_in T c bs k) ∙ (omega (arith, is_other h c.handle (omega arith), live_below T h bs l))
      | inr k ↦ ap (λ x. occ h (names x)) (live_out T c bs k) ∙ live_below T h bs l
    ]

pub record At (T W : ℕ) (s : Space) (H : List Cell) (h : ℕ) : Type 0 where
  pub xs : List Cell
  pub c : Cell
  pub ys : List Cell
  pub fs : List ℕ
  pub held : Laid T W s (xs ++ (c ∷ ys)) fs
  pub name : c.handle ≡ h
  pub below : c.handle < T
  pub texts : live T (xs ++ (c ∷ ys)) ≡ H
  pub found : look h H ≡ c

pub at_cell : (T W : ℕ) (s : Space) (H : List Cell) (h : ℕ) → Store T W s H → 1 ≤ (look h H).count → At T W s H h
at_cell T W s H h st l =
    let there : 1 ≤ occ h (names (live T st.0)) = subst (λ x. 1 ≤ occ h (names x)) (sym st.3) (counted_there h H l) in
    let lt : h < T = elim (cases_lt h T) [ inl k ↦ k | inr k ↦ absurd (omega (arith, live_below T h st.0 k)) ] in
    let sp = split h st.0 (omega (arith, names_live T h st.0 lt)) in
    let i : Laid T W s (sp.xs ++ (sp.c ∷ sp.ys)) st.1 = subst (λ x. Laid T W s x st.1) sp.whole st.2 in
    let below : sp.c.handle < T = omega (arith, sp.name) in
    let texts : live T (sp.xs ++ (sp.c ∷ sp.ys)) ≡ H = ap (live T) (sym sp.whole) ∙ st.3 in
    record {
      xs = sp.xs;
      c = sp.c;
      ys = sp.ys;
      fs = st.1;
      held = i;
      name = sp.name;
      below = below;
      texts = texts;
      found = ap (λ x. look x H) (sym sp.name) ∙ ap (look sp.c.handle) (sym texts) ∙ looked T W s sp.xs sp.c sp.ys st.1 i below;
    }

module _ (T W : ℕ) (s : Space) (H : List Cell) (h : ℕ) (st : Store T W s H) (l : 1 ≤ (look h H).count) where
  pub raised_is : (look h H).count + 1 < 18446744073709551616 → Store T W (raised W s h) (on h more H)
  raised_is b =
      let a = at_cell T W s H h st l in
      let r = raised_cell T W s a.xs a.c a.ys a.fs a.held a.below (omega (arith, b, ap (λ x. x.count) a.found)) in
      subst (λ x. Store T W (raised W s x) (on x more H)) a.name (subst (λ x. Store T W (raised W s a.c.handle) (on a.c.handle more x)) a.texts r)

  pub lowered_is : Store T W (lowered T W s h) (let_go h H)
  lowered_is =
      let a = at_cell T W s H h st l in
      let n : (look h H).count ≡ a.c.count = ap (λ x. x.count) a.found in
      elim (cases_lt 1 (look h H).count) [
        | inl k ↦
            let r = lowered_cell T W s a.xs a.c a.ys a.fs a.held a.below (omega (arith, n)) in
            subst (Store T W (lowered T W s h)) (sym (rw (lt-ltb 1 (look h H).count k)))
            (subst (λ x. Store T W (lowered T W s x) (on x fewer H)) a.name (subst (λ x. Store T W (lowered T W s a.c.handle) (on a.c.handle fewer x)) a.texts r))
        | inr k ↦
            let r = released_cell T W s a.xs a.c a.ys a.fs a.held a.below (omega (arith, n)) in
            subst (Store T W (lowered T W s h)) (sym (rw (le-ltb 1 (look h H).count k)))
            (subst (λ x. Store T W (lowered T W s x) (without x H)) a.name (subst (λ x. Store T W (lowered T W s a.c.handle) (without a.c.handle x)) a.texts r))
      ]

  pub length_is : length_of W s h ≡ (look h H).size
  length_is =
      let a = at_cell T W s H h st l in
      ap (length_of W s) (sym a.name) ∙ read T W s a.xs a.c a.ys a.fs a.held a.below 1 (omega arith) ∙ ap (λ x. x.size) (sym a.found)

  pub word_is : (k : ℕ) → k < (look h H).size / 8 + 1 → get_or s.heap (place W s h + 3 + k) 0 ≡ get_or (look h H).words k 0
  word_is k b =
      let a = at_cell T W s H h st l in
      let n : (look h H).size ≡ a.c.size = ap (λ x. x.size) a.found in
      let e : place W s a.c.handle + 3 + k ≡ place W s a.c.handle + suc (suc (suc k)) = omega arith in
      ap (λ x. get_or s.heap (place W s x + 3 + k) 0) (sym a.name) ∙ ap (λ x. get_or s.heap x 0) e
      ∙ read T W s a.xs a.c a.ys a.fs a.held a.below (suc (suc (suc k))) (omega (arith, n)) ∙ ap (λ x. get_or x.words k 0) (sym a.found)

  pub word_set : (k v : ℕ) → k < (look h H).size / 8 + 1 → Store T W (put_word s (place W s h + 3 + k) v) (on h (with_word k v) H)
  word_set k v b =
      let a = at_cell T W s H h st l in
      let n : (look h H).size ≡ a.c.size = ap (λ x. x.size) a.found in
      let m : (look h H).count ≡ a.c.count = ap (λ x. x.count) a.found in
      let e : place W s a.c.handle + 3 + k ≡ place W s a.c.handle + suc (suc (suc k)) = omega arith in
      let d : Cell = with_word k v a.c in
      let r = rewritten T W s a.xs a.c a.ys a.fs a.held a.below (suc (suc (suc k))) v d (omega (arith, n)) refl refl refl (length-set a.c.words k v) (omega (arith, m)) in
      let w : Store T W (put_word s (place W s a.c.handle + 3 + k) v) (on a.c.handle (with_word k v) H)
      = (
        a.xs ++ (d ∷ a.ys),
        a.fs,
        subst (λ x. Laid T W (put_word s x v) (a.xs ++ (d ∷ a.ys)) a.fs) (sym e) r,
        live_on T W s a.xs a.c a.ys a.fs a.held a.below (with_word k v) refl ∙ ap (on a.c.handle (with_word k v)) a.texts,
      ) in
      subst (λ x. Store T W (put_word s (place W s x + 3 + k) v) (on x (with_word k v) H)) a.name w

-- other texts are as they were

pub look_on_other : (h k : ℕ) (f : Cell → Cell) (H : List Cell) → ((c : Cell) → (f c).handle ≡ c.handle) → k ≢ h → look k (on h f H) ≡ look k H
look_on_other h k f [] e n = refl
look_on_other h k f (c ∷ H) e n =
    elim (cases_eq h c.handle) [
      | inl q ↦
          let m : k ≢ (f c).handle = λ p. n (p ∙ e c ∙ sym q) in
          let m' : k ≢ c.handle = λ p. n (p ∙ sym q) in
          rw (eq-eqb h c.handle q, ne_eqb k (f c).handle m, ne_eqb k c.handle m') (look_on_other h k f H e n)
      | inr q ↦ rw (ne_eqb h c.handle q) (ap (cond (eqb k c.handle) c) (look_on_other h k f H e n))
    ]

pub look_on : (h : ℕ) (f : Cell → Cell) (H : List Cell) → ((c : Cell) → (f c).handle ≡ c.handle) → 1 ≤ occ h (names H) → look h (on h f H) ≡ f (look h H)
look_on h f [] e n = absurd (omega arith)
look_on h f (c ∷ H) e n =
    elim (cases_eq h c.handle) [
      | inl q ↦ rw (eq-eqb h c.handle q, eq-eqb h (f c).handle (q ∙ sym (e c)))
      | inr q ↦ rw (ne_eqb h c.handle q, ne_eqb h c.handle q) (look_on h f H e (omega (arith, is_other h c.handle q)))
    ]

pub look_without_other : (h k : ℕ) (H : List Cell) → k ≢ h → look k (without h H) ≡ look k H
look_without_other h k [] n = refl
look_without_other h k (c ∷ H) n =
    elim (cases_eq h c.handle) [
      | inl q ↦ let m : k ≢ c.handle = λ p. n (p ∙ sym q) in rw (eq-eqb h c.handle q, ne_eqb k c.handle m) (look_without_other h k H n)
      | inr q ↦ rw (ne_eqb h c.handle q) (ap (cond (eqb k c.handle) c) (look_without_other h k H n))
    ]

pub look_without : (h : ℕ) (H : List Cell) → (look h (without h H)).count ≡ 0
look_without h [] = refl
look_without h (c ∷ H) =
    elim (cases_eq h c.handle) [
      | inl q ↦ rw (eq-eqb h c.handle q) (look_without h H)
      | inr q ↦ rw (ne_eqb h c.handle q, ne_eqb h c.handle q) (look_without h H)
    ]

pub look_push : (k : ℕ) (H : List Cell) (c : Cell) → k ≢ c.handle → look k (H ++ (c ∷ [])) ≡ look k H
look_push k [] c n = rw (ne_eqb k c.handle n)
look_push k (d ∷ H) c n = ap (cond (eqb k d.handle) d) (look_push k H c n)

pub look_pushed : (H : List Cell) (c : Cell) → occ c.handle (names H) ≡ 0 → look c.handle (H ++ (c ∷ [])) ≡ c
look_pushed [] c e = rw (eq-eqb c.handle c.handle refl)
look_pushed (d ∷ H) c e =
    let n : c.handle ≢ d.handle = λ p. omega (arith, is_same c.handle d.handle p, e) in
    rw (ne_eqb c.handle d.handle n) (look_pushed H c (omega (arith, e)))

-- counts are holders

pub none_there : (h : ℕ) (H : List Cell) → occ h (names H) ≡ 0 → (look h H).count ≡ 0
none_there h [] e = refl
none_there h (c ∷ H) e =
    let n : h ≢ c.handle = λ p. omega (arith, is_same h c.handle p, e) in
    rw (ne_eqb h c.handle n) (none_there h H (omega (arith, e)))

pub held_more : (H : List Cell) (hs : List ℕ) (h : ℕ) → Held H hs → 1 ≤ occ h hs → Held (on h more H) (h ∷ hs)
held_more H hs h e l k =
    elim (cases_eq k h) [
      | inl q ↦
          ap (λ x. (look x (on h more H)).count) q ∙ ap (λ x. x.count) (look_on h more H (λ c. refl) (counted_there h H (omega (arith, e h))))
          ∙ (omega (arith, e h, is_same k h q, ap (λ x. occ x hs) q))
      | inr q ↦ ap (λ x. x.count) (look_on_other h k more H (λ c. refl) q) ∙ (omega (arith, e k, is_other k h q))
    ]

pub held_new : (H : List Cell) (hs : List ℕ) (c : Cell) → Held H hs → occ c.handle (names H) ≡ 0 → c.count ≡ 1 → Held (H ++ (c ∷ [])) (c.handle ∷ hs)
held_new H hs c e z o k =
    elim (cases_eq k c.handle) [
      | inl q ↦
          ap (λ x. (look x (H ++ (c ∷ []))).count) q ∙ ap (λ x. x.count) (look_pushed H c z)
          ∙ (omega (arith, o, is_same k c.handle q, e c.handle, none_there c.handle H z, ap (λ x. occ x hs) q))
      | inr q ↦ ap (λ x. x.count) (look_push k H c q) ∙ (omega (arith, e k, is_other k c.handle q))
    ]

-- hs is h and hs', in some order
pub held_less : (H : List Cell) (hs hs' : List ℕ) (h : ℕ) → Held H hs → ((k : ℕ) → occ k hs ≡ occ k (h ∷ hs')) → Held (let_go h H) hs'
held_less H hs hs' h e p k =
    elim (cases_lt 1 (look h H).count) [
      | inl l ↦
          rw (lt-ltb 1 (look h H).count l)
          (elim (cases_eq k h) [
            | inl q ↦
                ap (λ x. (look x (on h fewer H)).count) q ∙ ap (λ x. x.count) (look_on h fewer H (λ c. refl) (counted_there h H (omega arith)))
                ∙ (omega (arith, e h, p h, is_same h h refl, ap (λ x. occ x hs') q))
            | inr q ↦ ap (λ x. x.count) (look_on_other h k fewer H (λ c. refl) q) ∙ (omega (arith, e k, p k, is_other k h q))
          ])
      | inr l ↦
          rw (le-ltb 1 (look h H).count l)
          (elim (cases_eq k h) [
            | inl q ↦ ap (λ x. (look x (without h H)).count) q ∙ look_without h H ∙ (omega (arith, e h, p h, is_same h h refl, ap (λ x. occ x hs') q))
            | inr q ↦ ap (λ x. x.count) (look_without_other h k H q) ∙ (omega (arith, e k, p k, is_other k h q))
          ])
    ]

-- room

abbrev share : ℕ → List Cell → ℕ
share h [] = 0
share h (c ∷ cs) = cond (eqb h c.handle) (span c.size) (share h cs)

abbrev weight : List Cell → List ℕ → ℕ
weight H [] = 0
weight H (h ∷ hs) = share h H + weight H hs

share_none : (h : ℕ) (H : List Cell) → occ h (names H) ≡ 0 → share h H ≡ 0
share_none h [] e = refl
share_none h (c ∷ H) e =
    let n : h ≢ c.handle = λ p. omega (arith, is_same h c.handle p, e) in
    rw (ne_eqb h c.handle n) (share_none h H (omega (arith, e)))

share_here : (h : ℕ) (c : Cell) (H : List Cell) → h ≡ c.handle → share h (c ∷ H) ≡ span c.size
share_here h c H e = rw (eq-eqb h c.handle e)

share_there : (h : ℕ) (c : Cell) (H : List Cell) → h ≢ c.handle → share h (c ∷ H) ≡ share h H
share_there h c H e = rw (ne_eqb h c.handle e)

weight_least : (c : Cell) (H : List Cell) (hs : List ℕ) → occ c.handle (names H) ≡ 0 → weight H hs ≤ weight (c ∷ H) hs
weight_least c H [] e = omega arith
weight_least c H (h ∷ hs) e =
    elim (cases_eq h c.handle) [
      | inl q ↦ omega (arith, share_none h H (ap (λ x. occ x (names H)) q ∙ e), weight_least c H hs e)
      | inr q ↦ omega (arith, share_there h c H q, weight_least c H hs e)
    ]

weight_more : (c : Cell) (H : List Cell) (hs : List ℕ) → occ c.handle (names H) ≡ 0 → 1 ≤ occ c.handle hs → span c.size + weight H hs ≤ weight (c ∷ H) hs
weight_more c H [] e l = absurd (omega arith)
weight_more c H (h ∷ hs) e l =
    elim (cases_eq h c.handle) [
      | inl q ↦ omega (arith, share_here h c H q, share_none h H (ap (λ x. occ x (names H)) q ∙ e), weight_least c H hs e)
      | inr q ↦ omega (arith, share_there h c H q, weight_more c H hs e (omega (arith, is_other c.handle h (λ p. q (sym p)))))
    ]

abbrev Each : List Cell → List ℕ → Type 0
Each [] hs = Unit {0}
Each (c ∷ cs) hs = (1 ≤ occ c.handle hs) × Each cs hs

extent_weight : (H : List Cell) (hs : List ℕ) → ((h : ℕ) → occ h (names H) ≤ 1) → Each H hs → extent H ≤ weight H hs
extent_weight [] hs d e = omega arith
extent_weight (c ∷ H) hs d e =
    let z : occ c.handle (names H) ≡ 0 = omega (arith, d c.handle, is_same c.handle c.handle refl) in
    omega (arith, weight_more c H hs z e.0, extent_weight H hs (λ h. omega (arith, d h)) e.1)

share_bytes : (h : ℕ) (H : List Cell) → 4 * share h H ≤ 16 + (look h H).size
share_bytes h [] = omega arith
share_bytes h (c ∷ H) =
    elim (cases_eq h c.handle) [
      | inl q ↦ rw (eq-eqb h c.handle q) (omega arith)
      | inr q ↦ rw (ne_eqb h c.handle q) (share_bytes h H)
    ]

weight_bytes : (H : List Cell) (hs : List ℕ) → 4 * weight H hs ≤ held_bytes H hs
weight_bytes H [] = omega arith
weight_bytes H (h ∷ hs) = omega (arith, share_bytes h H, weight_bytes H hs)

pub each_extent : (H : List Cell) → 4 * length H ≤ extent H
each_extent [] = omega arith
each_extent (c ∷ H) = omega (arith, each_extent H)

-- each text has a holder
each_from : (T : ℕ) (t : List ℕ) (o : ℕ) (bs : List Cell) (hs : List ℕ) → Placed T t o bs → ((h : ℕ) → h < T → (look h (live T bs)).count ≤ occ h hs) → ((h : ℕ) → h < T → occ h (names bs) ≤ 1) → Each (live T bs) hs
each_from T t o [] hs p e d = tt
each_from T t o (c ∷ bs) hs p e d =
    elim (cases_lt c.handle T) [
      | inr k ↦
          subst (λ x. Each x hs) (sym (live_out T c bs k))
          (each_from T t (o + span c.size) bs hs p.1 (λ h l. subst (λ x. (look h x).count ≤ occ h hs) (live_out T c bs k) (e h l)) (λ h l. omega (arith, d h l)))
      | inl k ↦
          let here : c.count ≤ occ c.handle hs = rw (eq-eqb c.handle c.handle refl) at (subst (λ x. (look c.handle x).count ≤ occ c.handle hs) (live_in T c bs k) (e c.handle k)) in
          let there : (h : ℕ) → h < T → (look h (live T bs)).count ≤ occ h hs
          = λ h l. elim (cases_eq h c.handle) [
            | inl q ↦ omega (arith, none_there h (live T bs) (names_live T h bs l ∙ (omega (arith, d h l, is_same h c.handle q))))
            | inr q ↦ rw (ne_eqb h c.handle q) at (subst (λ x. (look h x).count ≤ occ h hs) (live_in T c bs k) (e h l))
          ] in
          subst (λ x. Each x hs) (sym (live_in T c bs k))
          (omega (arith, p.0.counted k), each_from T t (o + span c.size) bs hs p.1 there (λ h l. omega (arith, d h l)))
    ]

share_span : (h : ℕ) (H : List Cell) → share h H ≤ span (look h H).size
share_span h [] = omega arith
share_span h (c ∷ H) =
    elim (cases_eq h c.handle) [
      | inl q ↦ rw (eq-eqb h c.handle q) (omega arith)
      | inr q ↦ rw (ne_eqb h c.handle q) (share_span h H)
    ]

-- the words that the texts of the holders need, by their cells
abbrev pub cell_spans : List Cell → List ℕ → ℕ
cell_spans H [] = 0
cell_spans H (h ∷ hs) = span (look h H).size + cell_spans H hs

weight_spans : (H : List Cell) (hs : List ℕ) → weight H hs ≤ cell_spans H hs
weight_spans H [] = omega arith
weight_spans H (h ∷ hs) = omega (arith, share_span h H, weight_spans H hs)

-- what the texts need is no more than what their holders count
extent_least : (T W : ℕ) (s : Space) (H : List Cell) (hs : List ℕ) → Store T W s H → Held H hs → extent H ≤ weight H hs
extent_least T W s H hs st e =
    let i = st.2 in
    let d : (h : ℕ) → occ h (names H) ≤ 1
    = λ h. subst (λ x. occ h (names x) ≤ 1) st.3
    (elim (cases_lt h T) [ inl k ↦ omega (arith, names_live T h st.0 k, i.once h k) | inr k ↦ omega (arith, live_below T h st.0 k) ]) in
    let ea : Each H hs
    = subst (λ x. Each x hs) st.3
    (each_from T s.table 0 st.0 hs i.placed (λ h l. omega (arith, e h, ap (λ x. (look h x).count) st.3)) (λ h l. omega (arith, i.once h l))) in
    extent_weight H hs d ea

pub extent_spans : (T W : ℕ) (s : Space) (H : List Cell) (hs : List ℕ) → Store T W s H → Held H hs → extent H ≤ cell_spans H hs
extent_spans T W s H hs st e = omega (arith, extent_least T W s H hs st e, weight_spans H hs)

-- in words, at most a quarter of what is counted for the holders
pub extent_held : (T W : ℕ) (s : Space) (H : List Cell) (hs : List ℕ) → Store T W s H → Held H hs → 4 * extent H ≤ held_bytes H hs
extent_held T W s H hs st e = omega (arith, extent_least T W s H hs st e, weight_bytes H hs)

-- so there is room as long as what is counted, with the new text, is at most four times the words
pub always_room : (T W : ℕ) (s : Space) (H : List Cell) (hs : List ℕ) (n : ℕ) → Store T W s H → Held H hs → held_bytes H hs + (16 + n) ≤ 4 * W → W ≤ 4 * T →
    Got T W H n (allocated T W s n)
always_room T W s H hs n st e b t =
    elim (allocated_is T W s H n st) [
      | inl g ↦ g
      | inr f ↦
          let x = extent_held T W s H hs st e in
          absurd (elim f.why [ inl p ↦ omega (arith, each_extent H) | inr p ↦ omega arith ])
    ]
