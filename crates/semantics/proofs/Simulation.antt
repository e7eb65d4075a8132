-- The stack machine does what the meaning says, by induction on the depth to which the meaning may go. Where a result is cut off at the depth n, the
-- machine comes to that state too, and has made at least n steps: so whatever the machine does in n steps is meant at the depth n.
use Rattle.std.proofs.Common.{◌≡◌, ℕ, zero, suc, ◌+◌, ◌≤◌, Bool, true, false, eqb, ltb, leb, ◌⊎◌, List, [], ◌∷◌, ◌++◌, length, sym, refl, ap, ◌∙◌, subst, inl, inr, append-nil, zero-add, arith, length-append, ltb-false, ltb-true}
use lib.Dec.{eqb-suc-zero, eqb-suc-suc}
use Rattle.language.specs.Text.{pick, Value, plus, minus, text, number_of, holds, truth, Pattern, added_up}
use Rattle.language.specs.Program.{Term, Terms, num, txt, var, item, field, un, bin, like, there, put_in, call, part, split, swap, no_terms, term_and, Deed, Deeds, value, print, when, while, each_key, next_line, exit, forget, give, no_deeds, deed_and, Fun}
use Rattle.language.specs.Meaning.{State, Went, went, nexted, stopped, given, wrong, unfinished, Got, got, left, Gots, gots, lefts, note, noted, larger, weight, size_of, exit_with, then_got, then_gots, got_then, went_then, and_gots, more_gots, print_gots, eval_all, eval, does, eval_by, deed_by, deeds_by, place_got, put_place, in_place, Ev, Ex, call_by, called, with_frames, framed, fun_of, over_keys, keys_of}
use Rattle.semantics.specs.Stack.{Cell, val, ret, keys, held, Instr, note_all, note_below, push_number, push_text, push_value, load_variable, load_field, load_item, apply_one, apply_two, to_truth, match_top, has_key, cut_part, split_into, save_variable, save_field, save_item, swap_variable, swap_field, swap_item, fail, jump, jump_if, jump_unless, drop_top, print_line, print_values, leave_line, exit_run, call_function, return_empty, return_value, push_keys, delete_item, Config, at, off, land, with_tops, unwound, set_then, swap_all, exec, step}
use Rattle.semantics.specs.Code.{Code, Calls, Stands, nothing_to_do, lone, ahead, seq, noted_code, decided_code, if_code, while_code, for_code, count, save_code, swap_code, two_code, body_code, key_code, terms_code, term_code, print_code, deed_code, deeds_code, call_code, calls_of, slot_of, function_code, by_place}
use Rattle.semantics.proofs.Steps.{Steps, none, one, then_steps, at_least, onward}
use Rattle.semantics.proofs.Primitives.{Place, a_name, an_item, a_field, no_place, NoPlace, place_view, Mild, a_value, a_fault, mild, quiet, faulty, mild_number, mild_field, mild_one, mild_two, mild_set, mild_store, mild_swap}

-- noting twice is noting once
larger_by : (a b : ℕ) (x y : Bool) → ltb a b ≡ x → ltb (pick x b a) b ≡ y → pick y b (pick x b a) ≡ pick x b a
larger_by a b true true p q = refl
larger_by a b true false p q = refl
larger_by a b false true p q = omega (arith, ltb-true a b q, ltb-false a b p)
larger_by a b false false p q = refl

note_again : (h : ℕ) (s : State) → note h (note h s) ≡ note h s
unfolding weight
note_again h s =
    ap (λ z. record { vars = s.vars; items = s.items; line = s.line; parts = s.parts; lines = s.lines; frames = s.frames; out = s.out; heavy = z })
    (larger_by s.heavy (weight s + h) (ltb s.heavy (weight s + h)) (ltb (larger s.heavy (weight s + h)) (weight s + h)) refl refl)

eqb_two : (k : ℕ) → eqb (suc (suc k)) 1 ≡ false
eqb_two k = eqb-suc-suc (suc k) 0 ∙ eqb-suc-zero k

-- values one by one onto a stack, and off it again
abbrev onto : List Value → List Cell → List Cell
onto [] st = st
onto (v ∷ vs) st = onto vs (val v ∷ st)

tops_by : (k : List Value → List Cell → Config) (s : State) (vs acc : List Value) (st : List Cell) (j : ℕ) →
    with_tops k s (length vs + j) acc (onto vs st) ≡ with_tops k s j (vs ++ acc) st
tops_by k s [] acc st j = rw zero-add
tops_by k s (v ∷ vs) acc st j =
    let e : length (v ∷ vs) + j ≡ length vs + suc j = omega arith in
    ap (λ z. with_tops k s z acc (onto vs (val v ∷ st))) e ∙ tops_by k s vs acc (val v ∷ st) (suc j)

tops_off : (k : List Value → List Cell → Config) (s : State) (vs : List Value) (st : List Cell) (n : ℕ) → length vs ≡ n → with_tops k s n [] (onto vs st) ≡ k vs st
tops_off k s vs st n e =
    let a : n ≡ length vs + 0 = omega arith in
    ap (λ z. with_tops k s z [] (onto vs st)) a ∙ tops_by k s vs [] st 0 ∙ ap (λ z. k z st) (append-nil vs)

-- The meaning notes once more where a loop is left than the machine does. What comes next notes again, which makes up for it.
abbrev Lag : ℕ → State → State → Type 0
Lag h s s₁ = (s ≡ s₁) ⊎ (s ≡ note h s₁)

-- Where a result of the meaning leads the machine: to a configuration; to one that may lag behind; to any with the state in which it was cut off.
-- Some results never come up.
pub data Aim : Type 0 where
  to : Config → Aim
  near : ℕ → ℕ → List Cell → State → Aim
  cut : State → Aim
  never : Aim

-- a result other than to go on
abbrev pub left_aim : Went → Aim
left_aim (went s) = never
left_aim (nexted s) = to (off (nexted s))
left_aim (stopped k s) = to (off (stopped k s))
left_aim (given v s) = never
left_aim (wrong k s) = to (off (wrong k s))
left_aim (unfinished s) = cut s

-- statements: where they go on is up to whoever asks; a function's value is taken out of the innermost function
abbrev pub ends_in : (State → Aim) → List Cell → Went → Aim
ends_in on st (went s) = on s
ends_in on st (nexted s) = to (off (nexted s))
ends_in on st (stopped k s) = to (off (stopped k s))
ends_in on st (given v s) = to (unwound st v s)
ends_in on st (wrong k s) = to (off (wrong k s))
ends_in on st (unfinished s) = cut s

-- The result of a term, of terms, of statements, and of statements that may lag, where the code ends at the place p and the stack is st.
pub data Goal : Type 0 where
  gets : ℕ → List Cell → Got → Goal
  rows : ℕ → List Cell → Gots → Goal
  goes : ℕ → List Cell → Went → Goal
  nears : ℕ → ℕ → List Cell → Went → Goal

abbrev pub aim : Goal → Aim
aim (gets p st (got v s)) = to (at p (val v ∷ st) s)
aim (gets p st (left w)) = left_aim w
aim (rows p st (gots vs s)) = to (at p (onto vs st) s)
aim (rows p st (lefts w)) = left_aim w
aim (goes p st w) = ends_in (λ s. to (at p st s)) st w
aim (nears h p st w) = ends_in (λ s. near h p st s) st w

-- so many values
abbrev Counted : ℕ → Gots → Type 0
Counted j (gots vs s) = length vs ≡ j
Counted j (lefts w) = Unit {0}

-- a piece of code ends where the next begins
seq_end : (A B : Code) (p : ℕ) → length (B (length (A p) + p)) + (length (A p) + p) ≡ length (seq A B p) + p
seq_end A B p = omega (arith, length-append (A p) (B (length (A p) + p)))

pub went_same : (w : Went) → went_then w (λ s. went s) ≡ w
went_same (went s) = refl
went_same (nexted s) = refl
went_same (stopped k s) = refl
went_same (given v s) = refl
went_same (wrong k s) = refl
went_same (unfinished s) = refl

-- Everything below is over one code.
module _ (f : ℕ → Instr) where
  abbrev pub Met : ℕ → Config → Aim → Type 0
  Met n c (to c₁) = Steps (step f) 0 c c₁
  Met n c (near h p st s) = (s₁ : State) × Lag h s s₁ × Steps (step f) 0 c (at p st s₁)
  Met n c (cut s) = (p : ℕ) × (st : List Cell) × Steps (step f) n c (at p st s)
  Met n c never = ⊥

  pub record Meets (n : ℕ) (c : Config) (g : Goal) : Type 0 where
    pub met : Met n c (aim g)

  met_after : (k n m : ℕ) {c c₁ : Config} (a : Aim) → m ≤ k + n → Steps (step f) k c c₁ → Met n c₁ a → Met m c a
  met_after k n m (to c₂) h x y = onward (step f) x y
  met_after k n m (near i p st s) h x y = (y.0, y.1, onward (step f) x y.2)
  met_after k n m (cut s) h x y = (y.0, y.1, at_least (step f) m h (then_steps (step f) x y.2))
  met_after k n m never h x y = absurd y

  pub after : (k n m : ℕ) {c c₁ : Config} {g : Goal} → m ≤ k + n → Steps (step f) k c c₁ → Meets n c₁ g → Meets m c g
  after k n m {g} h x y = record { met = met_after k n m (aim g) h x y.met }

  -- from where the steps lead
  on_from : {n : ℕ} {c c₁ : Config} {g : Goal} → Steps (step f) 0 c c₁ → Meets n c₁ g → Meets n c g
  on_from {n} x y = after 0 n n (omega arith) x y

  -- one instruction, which takes one step
  pub exec_one : {i : Instr} {p : ℕ} {st : List Cell} {s : State} → f p ≡ i → Steps (step f) 1 (at p st s) (exec i p st s)
  exec_one {p} {st} {s} e = let x = one (step f) {c = at p st s} in record { k = x.k; enough = x.enough; is = x.is ∙ ap (λ j. exec j p st s) e }

  -- where that step need not be counted
  pub skip : {i : Instr} {n p : ℕ} {st : List Cell} {s : State} {g : Goal} → f p ≡ i → Meets n (exec i p st s) g → Meets n (at p st s) g
  skip {n} e l = after 1 n n (omega arith) (exec_one e) l

  got_here : {n p : ℕ} {st : List Cell} {v : Value} {s : State} → Meets n (at p (val v ∷ st) s) (gets p st (got v s))
  got_here = record { met = none (step f) }

  near_here : {h n p : ℕ} {st : List Cell} {s : State} → Meets n (at p st s) (nears h p st (went s))
  near_here {s} = record { met = (s, inl refl, none (step f)) }

  pub meets_pick : {R : Type 0} (G : R → Goal) {n : ℕ} {c c₁ : Config} {g g₁ : R} (b : Bool) → Meets n c (G g) → Meets n c₁ (G g₁) → Meets n (pick b c c₁) (G (pick b g g₁))
  meets_pick G true x y = x
  meets_pick G false x y = y

  -- an operation of the meaning
  mild_meets : {n p : ℕ} {st : List Cell} {s : State} {g : Got} → Mild s g → Meets n (land p st g) (gets p st g)
  mild_meets (a_value q) = got_here
  mild_meets (a_fault h q) = record { met = none (step f) }

  left_ends : (n : ℕ) (c : Config) (on : State → Aim) (st : List Cell) (w : Went) → Met n c (left_aim w) → Met n c (ends_in on st w)
  left_ends n c on st (went s) l = absurd l
  left_ends n c on st (nexted s) l = l
  left_ends n c on st (stopped k s) l = l
  left_ends n c on st (given v s) l = absurd l
  left_ends n c on st (wrong k s) l = l
  left_ends n c on st (unfinished s) l = l

  -- One after the other: a term, then a term; a term, then a statement; statements, then statements.
  then_by : {n : ℕ} {c : Config} {p q : ℕ} {st st₁ : List Cell} (g : Got) (k : Value → State → Got) →
      Meets n c (gets p st g) → ((v : Value) (s : State) → Meets n (at p (val v ∷ st) s) (gets q st₁ (k v s))) → Meets n c (gets q st₁ (then_got g k))
  then_by (got v s) k l m = on_from l.met (m v s)
  then_by (left w) k l m = record { met = l.met }

  near_end : {h n : ℕ} {c : Config} {p q : ℕ} {st st₁ : List Cell} (g : Got) (k : Value → State → Went) →
      Meets n c (gets p st g) → ((v : Value) (s : State) → Meets n (at p (val v ∷ st) s) (nears h q st₁ (k v s))) → Meets n c (nears h q st₁ (got_then g k))
  near_end (got v s) k l m = on_from l.met (m v s)
  near_end {h} {n} {c} {q} {st₁} (left w) k l m = record { met = left_ends n c (λ s. near h q st₁ s) st₁ w l.met }

  pub run_end : {n : ℕ} {c : Config} {p q : ℕ} {st st₁ : List Cell} (g : Got) (k : Value → State → Went) →
      Meets n c (gets p st g) → ((v : Value) (s : State) → Meets n (at p (val v ∷ st) s) (goes q st₁ (k v s))) → Meets n c (goes q st₁ (got_then g k))
  run_end (got v s) k l m = on_from l.met (m v s)
  run_end {n} {c} {q} {st₁} (left w) k l m = record { met = left_ends n c (λ s. to (at q st₁ s)) st₁ w l.met }

  went_by : (n : ℕ) (c : Config) (on on₁ : State → Aim) (st st₁ : List Cell) (w : Went) (k : State → Went) → ((v : Value) (s : State) → unwound st v s ≡ unwound st₁ v s) →
      Met n c (ends_in on st w) → ((s : State) → Met n c (on s) → Met n c (ends_in on₁ st₁ (k s))) → Met n c (ends_in on₁ st₁ (went_then w k))
  went_by n c on on₁ st st₁ (went s) k u l m = m s l
  went_by n c on on₁ st st₁ (nexted s) k u l m = l
  went_by n c on on₁ st st₁ (stopped j s) k u l m = l
  went_by n c on on₁ st st₁ (given v s) k u l m = subst (λ z. Steps (step f) 0 c z) (u v s) l
  went_by n c on on₁ st st₁ (wrong j s) k u l m = l
  went_by n c on on₁ st st₁ (unfinished s) k u l m = l

  pub run_run : {n : ℕ} {c : Config} {p q : ℕ} {st : List Cell} (w : Went) (k : State → Went) →
      Meets n c (goes p st w) → ((s : State) → Meets n (at p st s) (goes q st (k s))) → Meets n c (goes q st (went_then w k))
  run_run {n} {c} {p} {q} {st} w k l m = record { met = went_by n c (λ s. to (at p st s)) (λ s. to (at q st s)) st st w k (λ v s. refl) l.met (λ s x. (on_from x (m s)).met) }

  -- the keys of a loop are on the stack in the first part, and nothing in the second
  run_near : {h n : ℕ} {c : Config} {p q : ℕ} (st st₁ : List Cell) (w : Went) (k : State → Went) → ((v : Value) (s : State) → unwound st v s ≡ unwound st₁ v s) →
      Meets n c (goes p st w) → ((s : State) → Meets n (at p st s) (nears h q st₁ (k s))) → Meets n c (nears h q st₁ (went_then w k))
  run_near {h} {n} {c} {p} {q} st st₁ w k u l m = record { met = went_by n c (λ s. to (at p st s)) (λ s. near h q st₁ s) st st₁ w k u l.met (λ s x. (on_from x (m s)).met) }

  near_run : {h n : ℕ} {c : Config} {p q : ℕ} {st : List Cell} (w : Went) (k : State → Went) →
      Meets n c (nears h p st w) → ((s s₁ : State) → Lag h s s₁ → Meets n (at p st s₁) (goes q st (k s))) → Meets n c (goes q st (went_then w k))
  near_run {h} {n} {c} {p} {q} {st} w k l m = record { met = went_by n c (λ s. near h p st s) (λ s. to (at q st s)) st st w k (λ v s. refl) l.met (λ s x. (on_from x.2 (m s x.0 x.1)).met) }

  near_near : {h n : ℕ} {c : Config} {p q : ℕ} {st : List Cell} (w : Went) (k : State → Went) →
      Meets n c (nears h p st w) → ((s s₁ : State) → Lag h s s₁ → Meets n (at p st s₁) (nears h q st (k s))) → Meets n c (nears h q st (went_then w k))
  near_near {h} {n} {c} {p} {q} {st} w k l m = record { met = went_by n c (λ s. near h p st s) (λ s. near h q st s) st st w k (λ v s. refl) l.met (λ s x. (on_from x.2 (m s x.0 x.1)).met) }

  -- the same statements, which end somewhere else
  run_to : {h n : ℕ} {c : Config} {p q : ℕ} {st : List Cell} (w : Went) → Meets n c (goes p st w) → ((s : State) → Steps (step f) 0 (at p st s) (at q st s)) → Meets n c (nears h q st w)
  run_to {h} {n} {c} {q} {st} w l m =
      subst (λ z. Meets n c (nears h q st z)) (went_same w) (run_near st st w (λ s. went s) (λ v s. refl) l (λ s. on_from (m s) near_here))

  -- a function's statements, as a term
  call_by_run : {n : ℕ} {c : Config} {p q d : ℕ} {st : List Cell} (w : Went) → f p ≡ return_empty → Meets n c (goes p (ret q d ∷ st) w) → Meets n c (gets q st (called w))
  call_by_run (went s) e l = on_from l.met (skip e got_here)
  call_by_run (nexted s) e l = record { met = l.met }
  call_by_run (stopped k s) e l = record { met = l.met }
  call_by_run (given v s) e l = record { met = l.met }
  call_by_run (wrong k s) e l = record { met = l.met }
  call_by_run (unfinished s) e l = record { met = l.met }

  noted_by : {n : ℕ} {c : Config} {q h d : ℕ} {st : List Cell} (g : Got) → f q ≡ note_below d → h ≡ d + held st → Meets n c (gets q st g) → Meets n c (gets (suc q) st (noted h g))
  noted_by (got v s) e z l = on_from l.met (skip e (rw z got_here))
  noted_by (left w) e z l = record { met = l.met }

  -- the code stands there, in two parts
  pub stands_both : (p : ℕ) (xs ys : List Instr) → Stands f p (xs ++ ys) → Stands f p xs × Stands f (length xs + p) ys
  stands_both p [] ys h = (tt, rw zero-add h)
  stands_both p (x ∷ xs) ys h =
      let e : length xs + suc p ≡ suc (length xs) + p = omega arith in
      let r : Stands f (suc p) xs × Stands f (length xs + suc p) ys = stands_both (suc p) xs ys h.1 in
      ((h.0, r.0), subst (λ n. Stands f n ys) e r.1)

  -- Code that comes to the goal G of the place where it ends, from a stack and a state, wherever it stands.
  pub record Works (n : ℕ) (A : Code) (st : List Cell) (s : State) (G : ℕ → Goal) : Type 0 where
    pub from : (p : ℕ) → Stands f p (A p) → Meets n (at p st s) (G (length (A p) + p))

  abbrev pub Gives : ℕ → Code → List Cell → State → List Cell → Got → Type 0
  Gives n A st s st₁ g = Works n A st s (λ r. gets r st₁ g)

  abbrev pub Runs : ℕ → Code → List Cell → State → Went → Type 0
  Runs n A st s w = Works n A st s (λ r. goes r st w)

  abbrev Nears : ℕ → ℕ → Code → List Cell → State → List Cell → Went → Type 0
  Nears h n A st s st₁ w = Works n A st s (λ r. nears h r st₁ w)

  lone_works : {n : ℕ} (i : Instr) {st : List Cell} {s : State} (G : ℕ → Goal) → ((p : ℕ) → Meets n (exec i p st s) (G (suc p))) → Works n (lone i) st s G
  lone_works {n} i {st} {s} G m = record { from = λ p h. let e : suc p ≡ length (lone i p) + p = omega arith in subst (λ r. Meets n (at p st s) (G r)) e (skip h.0 (m p)) }

  -- an instruction for an operation of the meaning
  plain : {n : ℕ} (i : Instr) {st st₁ : List Cell} {s : State} {g : Got} → ((p : ℕ) → exec i p st s ≡ land (suc p) st₁ g) → Mild s g → Gives n (lone i) st s st₁ g
  plain i {st₁} {g} e m = lone_works i (λ r. gets r st₁ g) (λ p. rw (e p) (mild_meets m))

  ahead_works : (n m : ℕ) (i : Instr) (A : Code) {st : List Cell} {s : State} (G : ℕ → Goal) → m ≤ suc n →
      ((p : ℕ) → Stands f (suc p) (A (suc p)) → Meets n (exec i p st s) (G (length (A (suc p)) + suc p))) → Works m (ahead i A) st s G
  ahead_works n m i A {st} {s} G l x = record {
    from = λ p h.
        let e : length (A (suc p)) + suc p ≡ length (ahead i A p) + p = omega arith in
        subst (λ r. Meets m (at p st s) (G r)) e (after 1 n m (omega arith) (exec_one h.0) (x p h.1));
  }

  pub seq_works : {n : ℕ} (A B : Code) {st : List Cell} {s : State} (G : ℕ → Goal) →
      ((p : ℕ) → Stands f p (A p) → Stands f (length (A p) + p) (B (length (A p) + p)) → Meets n (at p st s) (G (length (B (length (A p) + p)) + (length (A p) + p)))) → Works n (seq A B) st s G
  seq_works {n} A B {st} {s} G m = record {
    from = λ p h.
        let x = stands_both p (A p) (B (length (A p) + p)) h in
        subst (λ r. Meets n (at p st s) (G r)) (seq_end A B p) (m p x.0 x.1);
  }

  -- a term, then what needs its value
  then_seq : {n : ℕ} {A B : Code} {st st₁ st₂ : List Cell} {s : State} {g : Got} (k : Value → State → Got) →
      Gives n A st s st₁ g → ((v : Value) (r : State) → Gives n B (val v ∷ st₁) r st₂ (k v r)) → Gives n (seq A B) st s st₂ (then_got g k)
  then_seq {A} {B} {st₂} {g} k a b = seq_works A B (λ r. gets r st₂ (then_got g k)) (λ p x y. then_by g k (a.from p x) (λ v r. (b v r).from _ y))

  end_seq : {h n : ℕ} {A B : Code} {st st₁ st₂ : List Cell} {s : State} {g : Got} (k : Value → State → Went) →
      Gives n A st s st₁ g → ((v : Value) (r : State) → Nears h n B (val v ∷ st₁) r st₂ (k v r)) → Nears h n (seq A B) st s st₂ (got_then g k)
  end_seq {h} {A} {B} {st₂} {g} k a b = seq_works A B (λ r. nears h r st₂ (got_then g k)) (λ p x y. near_end g k (a.from p x) (λ v r. (b v r).from _ y))

  -- between its notes
  noted_works : {n : ℕ} {d h : ℕ} {A : Code} {st : List Cell} {s : State} {g : Got} → h ≡ d + held st → Gives n A st (note h s) st g → Gives (suc n) (noted_code d A) st s st (noted h g)
  noted_works {n} {d} {h} {A} {st} {s} {g} e a =
      let inner : Gives n (seq A (lone (note_below d))) st (note h s) st (noted h g) =
      seq_works A (lone (note_below d)) (λ r. gets r st (noted h g)) (λ p x y. let z : suc (length (A p) + p) ≡ length (lone (note_below d) (length (A p) + p)) + (length (A p) + p) = omega arith in
      subst (λ r. Meets n (at p st (note h s)) (gets r st (noted h g))) z (noted_by g y.0 e (a.from p x))) in
      ahead_works n (suc n) (note_all d) (seq A (lone (note_below d))) (λ r. gets r st (noted h g)) (omega arith) (λ p x. rw (← e) (inner.from (suc p) x))

  -- or and and
  decided_works : {n : ℕ} (i : ℕ → Instr) (k : Value) {A B : Code} {st : List Cell} {s : State} {g : Got} (b : State → Got) (K : Value → State → Got) →
      Gives n A st s st g → ((r : State) → Gives n B st r st (b r)) →
      ((v : Value) (r : State) (p q z : ℕ) → Meets n (at q st r) (gets z st (got k r)) → Meets n (at (suc p) st r) (gets z st (then_got (b r) (λ u o. got (truth (holds u)) o))) →
      Meets n (exec (i q) p (val v ∷ st) r) (gets z st (K v r))) →
      Gives n (decided_code i k A B) st s st (then_got g K)
  decided_works {n} i k {A} {B} {st} {s} {g} b K a m c = record {
    from = λ p h.
        let q = length (A p) + p in
        let r = length (B (suc q)) + suc q in
        let end = to_truth ∷ jump (suc (suc (suc r))) ∷ push_value k ∷ [] in
        let x = stands_both p (A p) (i (suc (suc r)) ∷ (B (suc q) ++ end)) h in
        let y = stands_both (suc q) (B (suc q)) end x.1.1 in
        let e : suc (suc (suc r)) ≡ length (decided_code i k A B p) + p = omega (arith, length-append (A p) (i (suc (suc r)) ∷ (B (suc q) ++ end)), length-append (B (suc q)) end) in
        subst (λ z. Meets n (at p st s) (gets z st (then_got g K))) e
        (then_by g K (a.from p x.0) (λ v o. skip x.1.0 (c v o q (suc (suc r)) (suc (suc (suc r)))
        (skip y.1.1.1.0 got_here)
        (then_by (b o) _ ((m o).from (suc q) y.0) (λ u w. skip y.1.0 (skip y.1.1.0 got_here))))));
  }

  -- several terms
  record Rows (n : ℕ) (A : Code) (st : List Cell) (s : State) (j : ℕ) (g : Gots) : Type 0 where
    works : Works n A st s (λ r. rows r st g)
    counted : Counted j g

  counted_more : (j : ℕ) (v : Value) (g : Gots) → Counted j g → Counted (suc j) (more_gots v g)
  counted_more j v (gots vs s) h = omega arith
  counted_more j v (lefts w) h = tt

  counted_and : (j : ℕ) (g : Got) (k : Value → State → Gots) → ((v : Value) (s : State) → Counted j (k v s)) → Counted j (and_gots g k)
  counted_and j (got v s) k m = m v s
  counted_and j (left w) k m = tt

  more_by : {n : ℕ} {c : Config} {q : ℕ} {st : List Cell} (v : Value) (g : Gots) → Meets n c (rows q (val v ∷ st) g) → Meets n c (rows q st (more_gots v g))
  more_by v (gots vs s) l = record { met = l.met }
  more_by v (lefts w) l = record { met = l.met }

  and_by : {n : ℕ} {c : Config} {p q : ℕ} {st : List Cell} (g : Got) (k : Value → State → Gots) →
      Meets n c (gets p st g) → ((v : Value) (s : State) → Meets n (at p (val v ∷ st) s) (rows q (val v ∷ st) (k v s))) → Meets n c (rows q st (and_gots g (λ v s. more_gots v (k v s))))
  and_by (got v s) k l m = on_from l.met (more_by v (k v s) (m v s))
  and_by (left w) k l m = record { met = l.met }

  -- and what needs their values
  rows_then : {n : ℕ} {c : Config} {p q : ℕ} {st : List Cell} {j : ℕ} (g : Gots) (k : List Value → State → Got) → Counted j g →
      Meets n c (rows p st g) → ((vs : List Value) (s : State) → length vs ≡ j → Meets n (at p (onto vs st) s) (gets q st (k vs s))) → Meets n c (gets q st (then_gots g k))
  rows_then (gots vs s) k e l m = on_from l.met (m vs s e)
  rows_then (lefts w) k e l m = record { met = l.met }

  module _ (c : Calls) (n d e : ℕ) (ev : Ev) (te : (t : Term) (h : ℕ) (st : List Cell) (s : State) → h ≡ e + held st → Gives n (term_code c t d) st s st (ev h t s)) where
    sim_terms : (ts : Terms) (h : ℕ) (st : List Cell) (s : State) → h ≡ e + held st → Rows n (terms_code c ts d) st s (count ts) (eval_all ev h ts s)
    unfolding terms_code count eval_all
    sim_terms no_terms h st s z = record {
      works = record { from = λ p x. let y : p ≡ length (nothing_to_do p) + p = omega arith in subst (λ r. Meets n (at p st s) (rows r st (gots [] s))) y (record { met = none (step f) }) };
      counted = refl;
    }
    sim_terms (term_and t ts) h st s z =
        let rest : (v : Value) (r : State) → Rows n (terms_code c ts d) (val v ∷ st) r (count ts) (eval_all ev (h + size_of v) ts r) = λ v r. sim_terms ts (h + size_of v) (val v ∷ st) r (omega arith) in
        record {
          works = seq_works (term_code c t d) (terms_code c ts d) (λ r. rows r st (eval_all ev h (term_and t ts) s)) (λ p x y. and_by _ _ ((te t h st s z).from p x) (λ v r. (rest v r).works.from _ y));
          counted = counted_and (suc (count ts)) _ _ (λ v r. counted_more (count ts) v _ (rest v r).counted);
        }

  -- Terms, where what stands within them is right.
  module _ (c : Calls) (n : ℕ) (ev : Ev) (ex : Ex) (fs : List Fun)
      (te : (t : Term) (d h : ℕ) (st : List Cell) (s : State) → h ≡ d + held st → Gives n (term_code c t (16 + d)) st s st (ev h t s))
      (cs : (x : List ℕ) (k d h : ℕ) (vs : List Value) (st : List Cell) (s : State) → length vs ≡ k → h ≡ d + held st → (p : ℕ) → f p ≡ c x k d →
      Meets n (at p (onto vs st) s) (gets (suc p) st (call_by ex h (fun_of fs x) vs s))) where
    no_gives : {a : Term} → NoPlace a → (d h : ℕ) (st st₁ : List Cell) (s : State) (v i : List ℕ → Instr) (o : Instr) (K : Value → State → Got) →
        Gives n (seq (key_code c a d) (lone (by_place a v i o (fail 9)))) st s st₁ (then_got (place_got ev h a s) K)
    no_gives z d h st st₁ s v i o K = rw (z.key_is c d, z.by_is v i o (fail 9), z.got_is ev h s) (plain (fail 9) (λ p. refl) (faulty 9 refl))

    sim_save : {a : Term} → Place a → (d h : ℕ) (st : List Cell) (v : Value) (s : State) → h ≡ d + held st →
        Gives n (seq (key_code c a d) (lone (save_code a))) (val v ∷ st) s st (then_got (place_got ev (h + size_of v) a s) (λ k q. put_place a k v q))
    unfolding key_code place_got put_place
    sim_save (a_name x) d h st v s e = plain (save_variable x) (λ p. refl) (mild_set s x v)
    sim_save (an_item x k) d h st v s e =
        then_seq _ (te k d (h + size_of v) (val v ∷ st) s (omega arith)) (λ u q. plain (save_item x) (λ p. refl) (a_value (quiet refl refl refl)))
    sim_save (a_field k) d h st v s e = then_seq _ (te k d (h + size_of v) (val v ∷ st) s (omega arith)) (λ u q. plain save_field (λ p. refl) (mild_store q v _))
    sim_save (no_place z) d h st v s e = no_gives z d (h + size_of v) (val v ∷ st) st s save_variable save_item save_field _

    sim_swap : (y : Pattern) {b : Term} → Place b → (d h : ℕ) (st : List Cell) (v : Value) (s : State) → h ≡ d + held st →
        Gives n (seq (key_code c b d) (lone (swap_code y b))) (val v ∷ st) s st (then_got (place_got ev (h + size_of v) b s) (λ k q. swap_all y b v k q))
    unfolding key_code place_got in_place put_place
    sim_swap y (a_name x) d h st v s e = plain (swap_variable y x) (λ p. refl) (mild_swap y (var x) v (text []) s)
    sim_swap y (an_item x k) d h st v s e =
        then_seq _ (te k d (h + size_of v) (val v ∷ st) s (omega arith)) (λ u q. plain (swap_item y x) (λ p. refl) (mild_swap y (item x k) v u q))
    sim_swap y (a_field k) d h st v s e = then_seq _ (te k d (h + size_of v) (val v ∷ st) s (omega arith)) (λ u q. plain (swap_field y) (λ p. refl) (mild_swap y (field k) v u q))
    sim_swap y (no_place z) d h st v s e = no_gives z d (h + size_of v) (val v ∷ st) st s (swap_variable y) (swap_item y) (swap_field y) _

    sim_two : (k : ℕ) (a b : Term) (d h : ℕ) (st : List Cell) (s : State) → h ≡ d + held st → Gives n (two_code k (term_code c a (16 + d)) (term_code c b (16 + d))) st s st (eval_by ev ex fs h (bin k a b) s)
    unfolding two_code eval_by
    sim_two zero a b d h st s e = decided_works jump_if (plus 1) (λ r. ev h b r) _ (te a d h st s e) (λ r. te b d h st r e) (λ v r p q z x y. meets_pick (λ g. gets z st g) (holds v) x y)
    sim_two (suc zero) a b d h st s e = decided_works jump_unless (plus 0) (λ r. ev h b r) _ (te a d h st s e) (λ r. te b d h st r e) (λ v r p q z x y. meets_pick (λ g. gets z st g) (holds v) y x)
    sim_two (suc (suc k)) a b d h st s e =
        then_seq {B = seq (term_code c b (16 + d)) (lone (apply_two (suc (suc k))))} _ (te a d h st s e) (λ v r. simp (eqb-suc-zero, eqb_two)
        (then_seq _ (te b d (h + size_of v) (val v ∷ st) r (omega arith)) (λ u q. plain (apply_two (suc (suc k))) (λ p. refl) (mild_two (suc (suc k)) v u))))

    sim_body : (t : Term) (d h : ℕ) (st : List Cell) (s : State) → h ≡ d + held st → Gives n (body_code c t d) st s st (eval_by ev ex fs h t s)
    unfolding body_code eval_by
    sim_body (num k) d h st s e = plain (push_number k) (λ p. refl) (mild_number _)
    sim_body (txt b) d h st s e = plain (push_text b) (λ p. refl) mild
    sim_body (var x) d h st s e = plain (load_variable x) (λ p. refl) mild
    sim_body (item x k) d h st s e = then_seq _ (te k d h st s e) (λ v q. plain (load_item x) (λ p. refl) mild)
    sim_body (field k) d h st s e = then_seq _ (te k d h st s e) (λ v q. plain load_field (λ p. refl) (mild_field _))
    sim_body (un k a) d h st s e = then_seq _ (te a d h st s e) (λ v q. plain (apply_one k) (λ p. refl) (mild_one k v))
    sim_body (bin k a b) d h st s e = sim_two k a b d h st s e
    sim_body (like a y) d h st s e = then_seq _ (te a d h st s e) (λ v q. plain (match_top y) (λ p. refl) mild)
    sim_body (there a x) d h st s e = then_seq _ (te a d h st s e) (λ v q. plain (has_key x) (λ p. refl) mild)
    sim_body (put_in a b) d h st s e = then_seq _ (te b d h st s e) (λ v q. sim_save (place_view a) d h st v q e)
    sim_body (call x ts) d h st s e =
        let r = sim_terms c n (16 + d) d ev (λ t h₁ st₁ s₁ z. te t d h₁ st₁ s₁ z) ts h st s e in
        seq_works (terms_code c ts (16 + d)) (lone (c x (count ts) d)) (λ z. gets z st (eval_by ev ex fs h (call x ts) s)) (λ p a b.
        let q = length (terms_code c ts (16 + d) p) + p in
        let z : suc q ≡ length (lone (c x (count ts) d) q) + q = omega arith in
        subst (λ o. Meets n (at p st s) (gets o st (eval_by ev ex fs h (call x ts) s))) z
        (rows_then _ _ r.counted (r.works.from p a) (λ vs o l. cs x (count ts) d h vs st o l e q b.0)))
    sim_body (part a b k) d h st s e =
        then_seq _ (te a d h st s e) (λ v q. then_seq _ (te b d (h + size_of v) (val v ∷ st) q (omega arith))
        (λ u o. then_seq _ (te k d (h + size_of v + size_of u) (val u ∷ val v ∷ st) o (omega arith)) (λ w z. plain cut_part (λ p. refl) mild)))
    sim_body (split a x y) d h st s e = then_seq _ (te a d h st s e) (λ v q. plain (split_into x y) (λ p. refl) (a_value (quiet refl refl refl)))
    sim_body (swap y a b) d h st s e = then_seq _ (te a d h st s e) (λ v q. sim_swap y (place_view b) d h st v q e)

  -- Statements.
  if_works : {h n : ℕ} {C A B : Code} {st : List Cell} {s : State} {g : Got} (wa wb : State → Went) →
      Gives n C st s st g → ((r : State) → Runs n A st r (wa r)) → ((r : State) → Runs n B st r (wb r)) → Nears h n (if_code C A B) st s st (got_then g (λ v r. pick (holds v) (wa r) (wb r)))
  if_works {h} {n} {C} {A} {B} {st} {s} {g} wa wb c a b = record {
    from = λ p x.
        let q = length (C p) + p in
        let r = length (A (suc q)) + suc q in
        let z = length (B (suc r)) + suc r in
        let y = stands_both p (C p) (jump_unless (suc r) ∷ (A (suc q) ++ (jump z ∷ B (suc r)))) x in
        let w = stands_both (suc q) (A (suc q)) (jump z ∷ B (suc r)) y.1.1 in
        let e : z ≡ length (if_code C A B p) + p = omega (arith, length-append (C p) (jump_unless (suc r) ∷ (A (suc q) ++ (jump z ∷ B (suc r)))), length-append (A (suc q)) (jump z ∷ B (suc r))) in
        subst (λ o. Meets n (at p st s) (nears h o st (got_then g (λ v r. pick (holds v) (wa r) (wb r))))) e
        (near_end g _ (c.from p y.0) (λ v o. skip y.1.0 (meets_pick (λ k. nears h z st k) (holds v)
        (run_to (wa o) ((a o).from (suc q) w.0) (λ i. at_least (step f) {n = 1} 0 (omega arith) (exec_one w.1.0)))
        (run_to (wb o) ((b o).from (suc r) w.1.1) (λ i. none (step f))))));
  }

  -- where a loop begins again
  abbrev again_at : Code → Code → ℕ → ℕ
  again_at C A p = length (A (suc (length (C p) + p))) + suc (length (C p) + p)

  record While (d : ℕ) (C A : Code) (p : ℕ) : Type 0 where
    cond : Stands f p (C p)
    test : f (length (C p) + p) ≡ jump_unless (length (while_code d C A p) + p)
    body : Stands f (suc (length (C p) + p)) (A (suc (length (C p) + p)))
    again : f (again_at C A p) ≡ note_all d
    back : f (suc (again_at C A p)) ≡ jump p

  while_at : (d : ℕ) (C A : Code) (p : ℕ) → Stands f p (while_code d C A p) → While d C A p
  while_at d C A p h =
      let q = length (C p) + p in
      let r = length (A (suc q)) + suc q in
      let x = stands_both p (C p) (jump_unless (suc (suc r)) ∷ (A (suc q) ++ (note_all d ∷ jump p ∷ []))) h in
      let y = stands_both (suc q) (A (suc q)) (note_all d ∷ jump p ∷ []) x.1.1 in
      let e : suc (suc r) ≡ length (while_code d C A p) + p =
      omega (arith, length-append (C p) (jump_unless (suc (suc r)) ∷ (A (suc q) ++ (note_all d ∷ jump p ∷ []))), length-append (A (suc q)) (note_all d ∷ jump p ∷ [])) in
      record { cond = x.0; test = x.1.0 ∙ ap jump_unless e; body = y.0; again = y.1.0; back = y.1.1.0 }

  exit_near : {h n q : ℕ} {st : List Cell} (v : Value) (s : State) → Meets n (off (exit_with v s)) (nears h q st (exit_with v s))
  exit_near {h} {n} {q} {st} (plus k) s = exit_pick (ltb k 256)
    where
      exit_pick : (b : Bool) → Meets n (off (pick b (stopped k s) (wrong 9 s))) (nears h q st (pick b (stopped k s) (wrong 9 s)))
      exit_pick true = record { met = none (step f) }
      exit_pick false = record { met = none (step f) }
  exit_near (minus k) s = record { met = none (step f) }
  exit_near (text b) s = record { met = none (step f) }

  set_near : {h n q : ℕ} {st : List Cell} {s : State} (j : State → Config) (k : Value → State → Went) {g : Got} → Mild s g → ((v : Value) (r : State) → Meets n (j r) (nears h q st (k v r))) →
      Meets n (set_then j g) (nears h q st (got_then g k))
  set_near j k (a_value {v} {r} q) m = m v r
  set_near j k (a_fault z q) m = record { met = none (step f) }

  -- Everything of a program whose functions stand in the code.
  module _ (fs : List Fun) where
    abbrev pub FunctionAt : ℕ → List Fun → Type 0
    FunctionAt p [] = Unit {0}
    FunctionAt p (g ∷ gs) = (q : ℕ) × (f p ≡ jump q) × Stands f q (function_code (calls_of fs) g q)

    module _ (funs : (x : List ℕ) → FunctionAt (slot_of fs x) (fun_of fs x)) where
      abbrev c : Calls
      c = calls_of fs

      abbrev TermsGo : ℕ → Type 0
      TermsGo n = (t : Term) (d h : ℕ) (st : List Cell) (s : State) → h ≡ d + held st → Gives n (term_code c t d) st s st (eval n fs h t s)

      abbrev DeedsGo : ℕ → Type 0
      DeedsGo n = (ds : Deeds) (d h : ℕ) (st : List Cell) (s : State) → h ≡ d + held st → Runs n (deeds_code c ds d) st s (does n fs h ds s)

      abbrev DeedGoes : ℕ → Type 0
      DeedGoes n = (e : Deed) (d h : ℕ) (st : List Cell) (s : State) → h ≡ d + held st → Nears h n (deed_code c e d) st s st (deed_by (λ j u q. eval n fs j u q) (λ j es q. does n fs j es q) h e s)

      -- a loop that begins again
      abbrev Loops : ℕ → Type 0
      Loops n = (t : Term) (a : Deeds) (d h : ℕ) (st : List Cell) (s : State) → h ≡ d + held st → (p : ℕ) → Stands f p (while_code d (term_code c t d) (deeds_code c a (16 + d)) p) →
          Meets n (at (again_at (term_code c t d) (deeds_code c a (16 + d)) p) st s) (nears h (length (while_code d (term_code c t d) (deeds_code c a (16 + d)) p) + p) st (does n fs h (deed_and (while t a) no_deeds) s))

      sim_call : (n : ℕ) → DeedsGo n → (x : List ℕ) (k d h : ℕ) (vs : List Value) (st : List Cell) (s : State) (gs : List Fun) → FunctionAt (slot_of fs x) gs → length vs ≡ k → h ≡ d + held st →
          (p : ℕ) → f p ≡ call_code gs (slot_of fs x) k d → Meets n (at p (onto vs st) s) (gets (suc p) st (call_by (λ j es q. does n fs (16 + j) es q) h gs vs s))
      sim_call n de x k d h vs st s [] b z e p i = skip i (record { met = none (step f) })
      sim_call n de x k d h vs st s (g ∷ gs) b z e p i = rw z (call_pick (leb k (length g.params)) i)
        where
          call_pick : (y : Bool) → f p ≡ pick y (call_function d (slot_of fs x) g.params k) (fail 5) →
              Meets n (at p (onto vs st) s) (gets (suc p) st (pick y (called (does n fs (16 + h) g.deeds (with_frames s (framed g.params vs ∷ s.frames)))) (left (wrong 5 s))))
          call_pick true j =
              let w = stands_both b.0 (deeds_code c g.deeds 16 b.0) (return_empty ∷ []) b.2 in
              skip j (rw (tops_off (λ us r. at (slot_of fs x) (ret (suc p) d ∷ r) (with_frames s (framed g.params us ∷ s.frames))) s vs st k z)
              (skip b.1 (call_by_run _ w.1.0
              ((de g.deeds 16 (16 + h) (ret (suc p) d ∷ st) (with_frames s (framed g.params vs ∷ s.frames)) (omega arith)).from b.0 w.0))))
          call_pick false j = skip j (record { met = none (step f) })

      -- terms, one level deeper
      eval_next : (n : ℕ) → TermsGo n → DeedsGo n → TermsGo (suc n)
      unfolding eval
      eval_next n te de t d h st s e =
          noted_works e (sim_body c n (λ j u r. eval n fs (16 + j) u r) (λ j es q. does n fs (16 + j) es q) fs
          (λ u d₁ h₁ st₁ s₁ e₁. te u (16 + d₁) (16 + h₁) st₁ s₁ (omega arith))
          (λ x k d₁ h₁ vs st₁ s₁ z₁ e₁ p i. sim_call n de x k d₁ h₁ vs st₁ s₁ (fun_of fs x) (funs x) z₁ e₁ p i) t d h st (note h s) e)

      module _ (n : ℕ) (te : TermsGo n) (de : DeedsGo n) (loop : Loops n) where
        print_row : {h p j : ℕ} {st : List Cell} {a : Config} (g : Gots) → Counted j g → Meets n a (rows p st g) → f p ≡ print_values j → Meets n a (nears h (suc p) st (print_gots g))
        print_row {j} {st} (gots vs s) z l i = on_from l.met (skip i (rw (tops_off _ s vs st j z) near_here))
        print_row {h} {p} {st} {a} (lefts w) z l i = record { met = left_ends n a (λ s. near h (suc p) st s) st w l.met }

        sim_print : (ts : Terms) (d h : ℕ) (st : List Cell) (s : State) → h ≡ d + held st → Nears h n (seq (terms_code c ts d) (lone (print_values (count ts)))) st s st (print_gots (eval_all (λ j u q. eval n fs j u q) h ts s))
        sim_print ts d h st s e =
            let r = sim_terms c n d d (λ j u q. eval n fs j u q) (λ t h₁ st₁ s₁ z. te t d h₁ st₁ s₁ z) ts h st s e in
            let G : ℕ → Goal = λ z. nears h z st (print_gots (eval_all (λ j u q. eval n fs j u q) h ts s)) in
            seq_works (terms_code c ts d) (lone (print_values (count ts))) G (λ p a b.
            let q = length (terms_code c ts d p) + p in
            let z : suc q ≡ length (lone (print_values (count ts)) q) + q = omega arith in
            subst (λ o. Meets n (at p st s) (G o)) z (print_row _ r.counted (r.works.from p a) b.0))

        sim_keys : (x : List ℕ) (a : Deeds) (d h : ℕ) (st : List Cell) (p : ℕ) → h ≡ d + held st → Stands f p (for_code x (deeds_code c a d) p) → (ks : List (List ℕ)) (s : State) →
            Meets n (at p (keys ks ∷ st) s) (nears h (length (for_code x (deeds_code c a d) p) + p) st (over_keys (λ j es q. does n fs j es q) h x a ks s))
        unfolding over_keys
        sim_keys x a d h st p e b ks s =
            let z : suc (length (deeds_code c a d (suc p)) + suc p) ≡ length (for_code x (deeds_code c a d) p) + p = omega (arith, length-append (deeds_code c a d (suc p)) (jump p ∷ [])) in
            subst (λ o. Meets n (at p (keys ks ∷ st) s) (nears h o st (over_keys (λ j es q. does n fs j es q) h x a ks s))) z (keys_by ks s)
          where
            w : Stands f (suc p) (deeds_code c a d (suc p)) × Stands f (length (deeds_code c a d (suc p)) + suc p) (jump p ∷ [])
            w = stands_both (suc p) (deeds_code c a d (suc p)) (jump p ∷ []) b.1

            keys_by : (ks : List (List ℕ)) (s : State) → Meets n (at p (keys ks ∷ st) s) (nears h (suc (length (deeds_code c a d (suc p)) + suc p)) st (over_keys (λ j es q. does n fs j es q) h x a ks s))
            keys_by [] s = skip b.0 near_here
            keys_by (k ∷ ks) s =
                skip b.0 (set_near _ _ (mild_set s x (text k)) (λ v o.
                run_near (keys ks ∷ st) st _ _ (λ u r. refl) ((de a d (16 + h + added_up (λ j. 16 + length j) ks) (keys ks ∷ st) o (omega arith)).from (suc p) w.0)
                (λ q. skip w.1.0 (keys_by ks q))))

        sim_deed : DeedGoes n
        unfolding deed_by deed_code print_code count
        sim_deed (value t) d h st s e = end_seq _ (te t d h st s e) (λ v q. lone_works drop_top (λ r. nears h r st (went q)) (λ p. near_here))
        sim_deed (print no_terms) d h st s e = lone_works print_line (λ r. nears h r st _) (λ p. near_here)
        sim_deed (print (term_and t ts)) d h st s e = sim_print (term_and t ts) d h st s e
        sim_deed (when t a b) d h st s e =
            if_works _ _ (te t d h st s e) (λ r. de a (16 + d) (16 + h) st r (omega arith)) (λ r. de b (16 + d) (16 + h) st r (omega arith))
        sim_deed (while t a) d h st s e = record {
          from = λ p x.
              let w = while_at d (term_code c t d) (deeds_code c a (16 + d)) p x in
              near_end _ _ ((te t d h st s e).from p w.cond) (λ v q. skip w.test (meets_pick (λ k. nears h (length (while_code d (term_code c t d) (deeds_code c a (16 + d)) p) + p) st k) (holds v)
              (run_near st st _ _ (λ u r. refl) ((de a (16 + d) (16 + h) st q (omega arith)).from _ w.body) (λ o. loop t a d h st o e p x)) near_here));
        }
        sim_deed (each_key x y a) d h st s e = ahead_works n n (push_keys y) (for_code x (deeds_code c a d)) (λ r. nears h r st _) (omega arith) (λ p b. sim_keys x a d h st (suc p) e b (keys_of s.items y) s)
        sim_deed next_line d h st s e = lone_works leave_line (λ r. nears h r st (nexted s)) (λ p. record { met = none (step f) })
        sim_deed (exit t) d h st s e = end_seq _ (te t d h st s e) (λ v q. lone_works exit_run (λ r. nears h r st _) (λ p. exit_near (number_of v) q))
        sim_deed (forget x t) d h st s e = end_seq _ (te t d h st s e) (λ v q. lone_works (delete_item x) (λ r. nears h r st _) (λ p. near_here))
        sim_deed (give t) d h st s e = end_seq _ (te t d h st s e) (λ v q. lone_works return_value (λ r. nears h r st (given v q)) (λ p. record { met = none (step f) }))

      loops_none : Loops 0
      unfolding does
      loops_none t a d h st s e p x = record { met = (again_at (term_code c t d) (deeds_code c a (16 + d)) p, st, none (step f)) }

      -- the statement of a loop, and nothing behind it
      loop_turn : (n : ℕ) {h r : ℕ} {st : List Cell} {b : Config} (t : Term) (a : Deeds) (s : State) →
          Meets n b (nears h r st (deed_by (λ j u q. eval n fs j u q) (λ j es q. does n fs j es q) h (while t a) s)) →
          Meets n b (nears h r st (went_then (deed_by (λ j u q. eval n fs j u q) (λ j es q. does n fs j es q) h (while t a) s) (λ q. does n fs h no_deeds q)))
      unfolding does eval deed_by deeds_by
      loop_turn zero t a s l = l
      loop_turn (suc n) {h} t a s l =
          near_near _ _ l (λ q q₁ g. record { met = (q₁, inr (elim g [ inl z ↦ ap (λ o. note h o) z | inr z ↦ ap (λ o. note h o) z ∙ note_again h q₁ ]), none (step f)) })

      loops_next : (n : ℕ) → DeedGoes n → Loops (suc n)
      unfolding does deeds_by deed_code
      loops_next n dg t a d h st s e p x =
          let w = while_at d (term_code c t d) (deeds_code c a (16 + d)) p x in
          after 2 n (suc n) (omega arith) (then_steps (step f) (exec_one w.again) (exec_one w.back))
          (rw (← e) (loop_turn n t a (note h s) ((dg (while t a) d h st (note h s) e).from p x)))

      -- statements behind one another begin where the one before may lag: their note makes up for it
      pub deeds_first : (ds : Deeds) (d p : ℕ) → Stands f p (deeds_code c ds d p) → f p ≡ note_all d
      unfolding deeds_code
      deeds_first no_deeds d p x = x.0
      deeds_first (deed_and e es) d p x = x.0

      lag_does : (n : ℕ) → DeedsGo n → (ds : Deeds) (d h : ℕ) (st : List Cell) (s s₁ : State) → h ≡ d + held st → Lag h s s₁ → (p : ℕ) → Stands f p (deeds_code c ds d p) →
          Meets n (at p st s₁) (goes (length (deeds_code c ds d p) + p) st (does n fs h ds s))
      unfolding does
      lag_does zero de ds d h st s s₁ e (inl z) p x = record { met = (p, st, rw z (none (step f))) }
      lag_does zero de ds d h st s s₁ e (inr z) p x = record { met = (suc p, st, at_least (step f) {n = 1} 0 (omega arith) (rw (z, e) (exec_one (deeds_first ds d p x)))) }
      lag_does (suc n) de ds d h st s s₁ e (inl z) p x = rw z ((de ds d h st s₁ e).from p x)
      lag_does (suc n) de ds d h st s s₁ e (inr z) p x =
          let y : note h s ≡ note h s₁ = ap (λ o. note h o) z ∙ note_again h s₁ in
          let P : State → Type 0 = λ o. Meets (suc n) (at p st s₁) (goes (length (deeds_code c ds d p) + p) st (deeds_by (λ j u q. eval n fs j u q) (λ j es q. does n fs j es q) h ds o)) in
          subst P (sym y) ((de ds d h st s₁ e).from p x)

      does_next : (n : ℕ) → DeedsGo n → DeedGoes n → DeedsGo (suc n)
      unfolding does deeds_by deeds_code
      does_next n de dg no_deeds d h st s e = lone_works (note_all d) (λ r. goes r st (went (note h s))) (λ p. record { met = rw e (none (step f)) })
      does_next n de dg (deed_and x ds) d h st s e =
          let G : ℕ → Goal = λ r. goes r st (does (suc n) fs h (deed_and x ds) s) in
          ahead_works n (suc n) (note_all d) (seq (deed_code c x d) (deeds_code c ds d)) G (omega arith) (λ p a.
          rw (← e) ((seq_works (deed_code c x d) (deeds_code c ds d) G (λ q y z.
          near_run _ _ ((dg x d h st (note h s) e).from q y) (λ o o₁ g. lag_does n de ds d h st o o₁ e g _ z))).from (suc p) a))

      -- everything, by the depth
      pub record Simulates (n : ℕ) : Type 0 where
        pub terms : TermsGo n
        pub deeds : DeedsGo n
        pub deed : DeedGoes n

      terms_none : TermsGo 0
      unfolding eval
      terms_none t d h st s e = record { from = λ p x. record { met = (p, st, none (step f)) } }

      deeds_none : DeedsGo 0
      unfolding does
      deeds_none ds d h st s e = record { from = λ p x. record { met = (p, st, none (step f)) } }

      pub simulates : (n : ℕ) → Simulates n
      simulates zero = record { terms = terms_none; deeds = deeds_none; deed = sim_deed 0 terms_none deeds_none loops_none }
      simulates (suc n) =
          let b : Simulates n = simulates n in
          let te : TermsGo (suc n) = eval_next n b.terms b.deeds in
          let de : DeedsGo (suc n) = does_next n b.deeds b.deed in
          record { terms = te; deeds = de; deed = sim_deed (suc n) te de (loops_next n b.deed) }
