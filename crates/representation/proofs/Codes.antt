-- The code of a known program, as the operations need it.
use Rattle.std.proofs.Common.{◌≡◌, ℕ, zero, suc, ◌+◌, ◌<◌, ◌≤◌, Bool, true, false, ◌⊎◌, List, [], ◌∷◌, length, get_or, sym, refl, ap, ◌∙◌, subst, inl, inr, suc-add, zero-add, arith}
use Rattle.std.proofs.lemmas.Bool.{cases_lt, true≢false}
use Rattle.std.proofs.lemmas.List.{get_or_past}
use Rattle.language.specs.Text.{pick, same, text, Value}
use Rattle.language.specs.Program.{Program, Fun, reads}
use Rattle.language.specs.Meaning.{State, Got, got, left, note, w_nr, w_nf}
use Rattle.language.specs.Run.{a_row}
use Rattle.semantics.specs.Stack.{Cell, val, ret, keys, held, below_top, Config, at, off, exec, land, with_top, Instr, note_all, note_below, push_number, push_text, push_value, load_variable, load_field, load_item, apply_one, apply_two, to_truth, match_top, has_key, cut_part, split_into, save_variable, save_field, save_item, swap_variable, swap_field, swap_item, fail, jump, jump_if, jump_unless, drop_top, print_line, print_values, leave_line, exit_run, end_rules, call_function, return_empty, return_value, push_keys, next_key, delete_item}
use Rattle.semantics.specs.Code.{code, program_code}
use Rattle.semantics.specs.Lines.{Stage, Live, live, steps, Goes}
use Rattle.semantics.specs.Engine.{Comes}
use Rattle.semantics.specs.Invariants.{All, all_none, all_more, Noted, Followed, takes}
use Rattle.semantics.proofs.Pieces.{reached_goes}
use Rattle.semantics.proofs.Theorems.{noted_code}
use Rattle.assembly.specs.Assembly.{Op, op_load, op_save, op_line_count, op_field_count, op_get_field, op_set_field, op_one, op_two, op_truth, op_fail, op_jump, op_jump_if, op_jump_unless, op_drop, op_print_line, op_print_values, op_leave_line, op_exit, op_end, named, literal, Pool, slot_of, shape, is_note, is_count, lean_place, pool_after, translated, assemble, ops, pool}
use Rattle.assembly.specs.Laws.{Means, Loads, Saves}
use Rattle.assembly.proofs.Correspondence.{correspondence, length_for}
use Rattle.representation.specs.Room.{Apart}
use Rattle.representation.specs.Outcomes.{Pushes}

-- places without notes are within the operations
lean_inside : (to : ℕ → ℕ) (is : List Instr) (π : Pool) (q : ℕ) → lean_place is q ≤ length (translated to is π).ops
unfolding translated lean_place
lean_inside to [] π q = omega arith
lean_inside to (i ∷ is) π zero = omega arith
lean_inside to (i ∷ is) π (suc q) = rw (length_for to (shape i) π (translated to is (pool_after (shape i) π)).ops) (by (is_note i) (lean_inside to is (pool_after (shape i) π) q))
  where
    by : (t : Bool) → lean_place is q ≤ length (translated to is (pool_after (shape i) π)).ops →
        pick t (lean_place is q) (suc (lean_place is q)) ≤ pick t (length (translated to is (pool_after (shape i) π)).ops) (suc (length (translated to is (pool_after (shape i) π)).ops))
    by true l = l
    by false l = omega arith

pub lean_within : (p : Program) (q : ℕ) → lean_place (program_code p) q ≤ length (ops p)
unfolding assemble
lean_within p q = lean_inside (lean_place (program_code p)) (program_code p) [] q

-- a name has one slot
pub pool_apart : (p : Program) → Apart (pool p)
pool_apart p j k x l n e f =
    let c = correspondence p in
    c.one_slot j x (record { inside = l; there = e }) ∙ sym (c.one_slot k x (record { inside = n; there = f }))

-- what operations with slots need: a slot of the pool, to be saved into one of a name
abbrev pub OpOk : Pool → Op → Type 0
OpOk π (op_load k) = k < length π
OpOk π (op_save k) = (x : List ℕ) × (k < length π) × (get_or π k (literal (text [])) ≡ named x)
OpOk π op_line_count = Unit {0}
OpOk π op_field_count = Unit {0}
OpOk π op_get_field = Unit {0}
OpOk π op_set_field = Unit {0}
OpOk π (op_one k) = Unit {0}
OpOk π (op_two k) = Unit {0}
OpOk π op_truth = Unit {0}
OpOk π (op_fail k) = Unit {0}
OpOk π (op_jump q) = Unit {0}
OpOk π (op_jump_if q) = Unit {0}
OpOk π (op_jump_unless q) = Unit {0}
OpOk π op_drop = Unit {0}
OpOk π op_print_line = Unit {0}
OpOk π (op_print_values n) = Unit {0}
OpOk π op_leave_line = Unit {0}
OpOk π op_exit = Unit {0}
OpOk π op_end = Unit {0}

-- how many values an operation takes from the stack
abbrev pub op_takes : Op → ℕ
op_takes (op_load k) = 0
op_takes (op_save k) = 1
op_takes op_line_count = 0
op_takes op_field_count = 0
op_takes op_get_field = 1
op_takes op_set_field = 2
op_takes (op_one k) = 1
op_takes (op_two k) = 2
op_takes op_truth = 1
op_takes (op_fail k) = 0
op_takes (op_jump q) = 0
op_takes (op_jump_if q) = 1
op_takes (op_jump_unless q) = 1
op_takes op_drop = 1
op_takes op_print_line = 0
op_takes (op_print_values n) = n
op_takes op_leave_line = 0
op_takes op_exit = 1
op_takes op_end = 0

module _ (π : Pool) (to : ℕ → ℕ) (fs : List Fun) where
  -- what the operation of an instruction has, and what stands behind it if it pushes
  pub record Behind (i j : Instr) (o : Op) : Type 0 where
    pub ok : OpOk π o
    pub enough : op_takes o ≤ takes i
    pub noted : Pushes o → Noted j
    pub next : Pushes o → (q q₁ : ℕ) (st st₁ : List Cell) (s s₁ : State) → exec i q st s ≡ at q₁ st₁ s₁ → q₁ ≡ suc q

  abbrev place_in : Config → ℕ
  place_in (at q st s) = q
  place_in (off w) = 0

  abbrev OnCode : Config → Type 0
  OnCode (at q st s) = Unit {0}
  OnCode (off w) = ⊥

  land_next : (k q₁ : ℕ) (st st₁ : List Cell) (s₁ : State) (g : Got) → land k st g ≡ at q₁ st₁ s₁ → q₁ ≡ k
  land_next k q₁ st st₁ s₁ (got v s) e = sym (ap place_in e)
  land_next k q₁ st st₁ s₁ (left w) e = absurd (subst OnCode (sym e) tt)

  top_next : (f : Value → List Cell → Config) (a q₁ : ℕ) (st₁ : List Cell) (s s₁ : State) → ((v : Value) (r : List Cell) → f v r ≡ at q₁ st₁ s₁ → q₁ ≡ a) →
      (st : List Cell) → with_top f s st ≡ at q₁ st₁ s₁ → q₁ ≡ a
  top_next f a q₁ st₁ s s₁ h [] e = absurd (subst OnCode (sym e) tt)
  top_next f a q₁ st₁ s s₁ h (val v ∷ st) e = h v st e
  top_next f a q₁ st₁ s s₁ h (ret p d ∷ st) e = absurd (subst OnCode (sym e) tt)
  top_next f a q₁ st₁ s s₁ h (keys ks ∷ st) e = absurd (subst OnCode (sym e) tt)

  abbrev Next : Instr → Type 0
  Next i = (q q₁ : ℕ) (st st₁ : List Cell) (s s₁ : State) → exec i q st s ≡ at q₁ st₁ s₁ → q₁ ≡ suc q

  other : {i j : Instr} {o : Op} (o₀ : Op) → o ≡ o₀ → OpOk π o₀ → op_takes o₀ ≤ takes i → (Pushes o₀ → ⊥) → Behind i j o
  other {i} o₀ e k l h = record { ok = subst (OpOk π) (sym e) k; enough = subst (λ y. op_takes y ≤ takes i) (sym e) l; noted = λ u. absurd (h (subst Pushes e u)); next = λ u. absurd (h (subst Pushes e u)) }

  pushing : {i j : Instr} {o : Op} (o₀ : Op) → o ≡ o₀ → OpOk π o₀ → op_takes o₀ ≤ takes i → Noted j → Next i → Behind i j o
  pushing {i} o₀ e k l n f = record { ok = subst (OpOk π) (sym e) k; enough = subst (λ y. op_takes y ≤ takes i) (sym e) l; noted = λ u. n; next = λ u. f }

  loads_behind : (x : List ℕ) (j : Instr) (o : Op) → Noted j → Loads π x o → (a b : Bool) → same x w_nr ≡ a → same x w_nf ≡ b → Behind (load_variable x) j o
  loads_behind x j o n l true b e f = pushing op_line_count (l.lines e) tt (omega arith) n (λ q q₁ st st₁ s s₁ h. sym (ap place_in h))
  loads_behind x j o n l false true e f = pushing op_field_count (l.fields e f) tt (omega arith) n (λ q q₁ st st₁ s s₁ h. sym (ap place_in h))
  loads_behind x j o n l false false e f =
      let d = l.other (rw (e, f)) in
      pushing (op_load (slot_of π x)) d.0 d.1.inside (omega arith) n (λ q q₁ st st₁ s s₁ h. sym (ap place_in h))

  saves_behind : (x : List ℕ) (j : Instr) (o : Op) → Saves π x o → (a : Bool) → is_count x ≡ a → Behind (save_variable x) j o
  saves_behind x j o l true e = other (op_fail 6) (l.count e) tt (omega arith) (λ u. u)
  saves_behind x j o l false e = let d = l.other e in other (op_save (slot_of π x)) d.0 (x, d.1.inside, d.1.there) (omega arith) (λ u. u)

  pub behind : (i j : Instr) (o : Op) → is_note i ≡ false → Followed fs i j → Means π to i o → Behind i j o
  behind (note_all d) j o n f h = absurd (true≢false n)
  behind (note_below d) j o n f h = absurd (true≢false n)
  behind (push_number k) j o n f h = pushing (op_load h.0) h.1 h.2.inside (omega arith) f (λ q q₁ st st₁ s s₁ e. land_next (suc q) q₁ st st₁ s₁ _ e)
  behind (push_text b) j o n f h = pushing (op_load h.0) h.1 h.2.inside (omega arith) f.1 (λ q q₁ st st₁ s s₁ e. sym (ap place_in e))
  behind (push_value v) j o n f h = pushing (op_load h.0) h.1 h.2.inside (omega arith) f.1 (λ q q₁ st st₁ s s₁ e. sym (ap place_in e))
  behind (load_variable x) j o n f h = loads_behind x j o f h (same x w_nr) (same x w_nf) refl refl
  behind load_field j o n f h = pushing op_get_field h tt (omega arith) f (λ q q₁ st st₁ s s₁ e. top_next _ (suc q) q₁ st₁ s s₁ (λ v r d. land_next (suc q) q₁ r st₁ s₁ _ d) st e)
  behind (load_item x) j o n f h = other (op_fail 2) h tt (omega arith) (λ u. u)
  behind (apply_one k) j o n f h = other (op_one k) h tt (omega arith) (λ u. u)
  behind (apply_two k) j o n f h =
      pushing (op_two k) h tt (omega arith) f (λ q q₁ st st₁ s s₁ e. top_next _ (suc q) q₁ st₁ s s₁ (λ v r d. top_next _ (suc q) q₁ st₁ s s₁ (λ u r₁ d₁. land_next (suc q) q₁ r₁ st₁ s₁ _ d₁) r d) st e)
  behind to_truth j o n f h = other op_truth h tt (omega arith) (λ u. u)
  behind (match_top y) j o n f h = other (op_fail 2) h tt (omega arith) (λ u. u)
  behind (has_key x) j o n f h = other (op_fail 2) h tt (omega arith) (λ u. u)
  behind cut_part j o n f h = other (op_fail 2) h tt (omega arith) (λ u. u)
  behind (split_into x y) j o n f h = other (op_fail 2) h tt (omega arith) (λ u. u)
  behind (save_variable x) j o n f h = saves_behind x j o h (is_count x) refl
  behind save_field j o n f h =
      pushing op_set_field h tt (omega arith) f (λ q q₁ st st₁ s s₁ e. top_next _ (suc q) q₁ st₁ s s₁ (λ v r d. top_next _ (suc q) q₁ st₁ s s₁ (λ u r₁ d₁. land_next (suc q) q₁ r₁ st₁ s₁ _ d₁) r d) st e)
  behind (save_item x) j o n f h = other (op_fail 2) h tt (omega arith) (λ u. u)
  behind (swap_variable y x) j o n f h = other (op_fail 2) h tt (omega arith) (λ u. u)
  behind (swap_field y) j o n f h = other (op_fail 2) h tt (omega arith) (λ u. u)
  behind (swap_item y x) j o n f h = other (op_fail 2) h tt (omega arith) (λ u. u)
  behind (fail k) j o n f h = other (op_fail k) h tt (omega arith) (λ u. u)
  behind (jump q) j o n f h = other (op_jump (to q)) h tt (omega arith) (λ u. u)
  behind (jump_if q) j o n f h = other (op_jump_if (to q)) h tt (omega arith) (λ u. u)
  behind (jump_unless q) j o n f h = other (op_jump_unless (to q)) h tt (omega arith) (λ u. u)
  behind drop_top j o n f h = other op_drop h tt (omega arith) (λ u. u)
  behind print_line j o n f h = other op_print_line h tt (omega arith) (λ u. u)
  behind (print_values k) j o n f h = other (op_print_values k) h tt (omega arith) (λ u. u)
  behind leave_line j o n f h = other op_leave_line h tt (omega arith) (λ u. u)
  behind exit_run j o n f h = other op_exit h tt (omega arith) (λ u. u)
  behind end_rules j o n f h = other op_end h tt (omega arith) (λ u. u)
  behind (call_function d q xs k) j o n f h = other (op_fail 2) h tt (omega arith) (λ u. u)
  behind return_empty j o n f h = other (op_fail 2) h tt (omega arith) (λ u. u)
  behind return_value j o n f h = other (op_fail 2) h tt (omega arith) (λ u. u)
  behind (push_keys y) j o n f h = other (op_fail 2) h tt (omega arith) (λ u. u)
  behind (next_key x q) j o n f h = other (op_fail 2) h tt (omega arith) (λ u. u)
  behind (delete_item x) j o n f h = other (op_fail 2) h tt (omega arith) (λ u. u)

-- of every member of a list, and of what stands for none
pub all_at : {A : Type 0} (P : A → Type 0) (d : A) (xs : List A) → All P xs → P d → (i : ℕ) → P (get_or xs i d)
all_at P d [] all_none h i = h
all_at P d (x ∷ xs) (all_more a bs) h zero = a
all_at P d (x ∷ xs) (all_more a bs) h (suc i) = all_at P d xs bs h i

-- the code behind an instruction, also at the end
pub followed_all : (t : List ℕ) (p : Program) → a_row t ≡ true → reads t ≡ p ∷ [] → (i : ℕ) → Followed p.funs (code p i) (code p (suc i))
followed_all t p a e i =
    elim (cases_lt i (length (program_code p))) [
      | inl l ↦ (noted_code t p a e).0 i l
      | inr l ↦ subst (λ c. Followed p.funs c (code p (suc i))) (sym (get_or_past (program_code p) i end_rules l)) tt
    ]

-- NOTES change nothing but how much was held

abbrev pub with_heavy : State → ℕ → State
with_heavy s h = record { vars = s.vars; items = s.items; line = s.line; parts = s.parts; lines = s.lines; frames = s.frames; out = s.out; heavy = h }

pub through_notes : (p : Program) (g : Stage) (st : List Cell) (b : List ℕ) (z : Bool) (n q : ℕ) (s : State) → ((m : ℕ) → m < n → is_note (code p (m + q)) ≡ true) →
    (h : ℕ) × Goes p n (live g (at q st s) b z) (live g (at (n + q) st (with_heavy s h)) b z)
through_notes p g st b z zero q s f = (s.heavy, ap (λ k. live g (at k st s) b z) (sym (zero-add q)))
through_notes p g st b z (suc n) q s f =
    let first : is_note (code p q) ≡ true = ap (λ k. is_note (code p k)) (sym (zero-add q)) ∙ f 0 (omega arith) in
    let later : (m : ℕ) → m < n → is_note (code p (m + suc q)) ≡ true
    = λ m l. let e : m + suc q ≡ suc m + q = omega arith in ap (λ k. is_note (code p k)) e ∙ f (suc m) (omega arith) in
    let d = (correspondence p).only_notes q first in
    by d.0 d.1 (λ s₁. through_notes p g st b z n (suc q) s₁ later)
  where
    moved : n + suc q ≡ suc n + q
    moved = omega arith

    after : (d : ℕ) → exec (code p q) q st s ≡ at (suc q) st (note d s) →
        ((s₁ : State) → (h : ℕ) × Goes p n (live g (at (suc q) st s₁) b z) (live g (at (n + suc q) st (with_heavy s₁ h)) b z)) →
        (h : ℕ) × Goes p (suc n) (live g (at q st s) b z) (live g (at (suc n + q) st (with_heavy s h)) b z)
    after d e go =
        let s₁ = note d s in
        let r = go s₁ in (
          r.0,
          (
            live g (at (suc q) st s₁) b z,
            ap (λ c. steps (live g c b z)) e,
            subst (λ k. Goes p n (live g (at (suc q) st s₁) b z) (live g (at k st (with_heavy s r.0)) b z)) moved r.1,
          ),
        )

    by : (d : ℕ) → (code p q ≡ note_all d) ⊎ (code p q ≡ note_below d) →
        ((s₁ : State) → (h : ℕ) × Goes p n (live g (at (suc q) st s₁) b z) (live g (at (n + suc q) st (with_heavy s₁ h)) b z)) →
        (h : ℕ) × Goes p (suc n) (live g (at q st s) b z) (live g (at (suc n + q) st (with_heavy s h)) b z)
    by d (inl e) go = after (d + held st) (ap (λ i. exec i q st s) e) go
    by d (inr e) go = after (d + held (below_top st)) (ap (λ i. exec i q st s) e) go

-- steps one after the other

pub goes_then : (p : Program) (j k : ℕ) (x y z : Live) → Goes p j x y → Goes p k y z → Goes p (j + k) x z
goes_then p zero k x y z g h = rw (zero-add, g) h
goes_then p (suc j) k x y z g h = rw suc-add (g.0, g.1, goes_then p j k g.0 y z g.2 h)

pub comes_goes : {p : Program} {x : Live} (k : ℕ) (y : Live) → Comes p x → Goes p k x y → Comes p y
comes_goes {p} {x} k y c g = record { so_far = c.so_far; made = c.made + k; reached = reached_goes p k c.made x c.reached g; few = c.few }
