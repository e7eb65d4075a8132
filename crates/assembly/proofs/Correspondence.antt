-- Operations stand for instructions, place by place.
use Rattle.std.proofs.Common.{◌≡◌, ℕ, zero, suc, ◌+◌, ◌*◌, ◌/◌, ◌%◌, ◌<◌, ◌≤◌, Bool, true, false, ◌⊎◌, List, [], ◌∷◌, ◌++◌, length, get_or, sym, refl, ap, ◌∙◌, subst, inl, inr, arith}
use lib.ListN.{get_or-eq_default}
use Rattle.language.specs.Text.{pick, or, same, Value, plus, text}
use Rattle.language.specs.Program.{Program}
use Rattle.language.specs.Meaning.{w_nr, w_nf}
use Rattle.semantics.specs.Stack.{Instr, note_all, note_below, push_number, push_text, push_value, load_variable, load_field, load_item, apply_one, apply_two, to_truth, match_top, has_key, cut_part, split_into, save_variable, save_field, save_item, swap_variable, swap_field, swap_item, fail, jump, jump_if, jump_unless, drop_top, print_line, print_values, leave_line, exit_run, end_rules, call_function, return_empty, return_value, push_keys, next_key, delete_item}
use Rattle.semantics.specs.Code.{program_code, code}
use Rattle.assembly.specs.Assembly.{Op, op_load, op_save, op_line_count, op_field_count, op_get_field, op_set_field, op_one, op_two, op_truth, op_fail, op_jump, op_jump_if, op_jump_unless, op_drop, op_print_line, op_print_values, op_leave_line, op_exit, op_end, coded, word, decoded, op_of, named, Pool, slot_of, with_name, is_count, load_from, save_into, Shape, silent, constant, loads, saves, goes, does, outside, shape, is_silent, is_note, lean_place, pool_after, op_for, translated, assemble, pool}
use Rattle.assembly.specs.Laws.{WordsRead, Holds, Constant, Loads, Saves, Means, Correspondence}
use Rattle.assembly.proofs.Pools.{no, Begins, begins_holds, begins_self, begins_trans, begins_translated, holds_constant, holds_name, Right, right_none, right_translated, right_slot, right_count}

-- WORDS
code_read : (k n : ℕ) → k < 64 → op_of (coded k n) ≡ decoded k n
unfolding op_of
code_read k n h =
    let a : (k + 64 * n) % 64 ≡ k = omega arith in
    let b : (k + 64 * n) / 64 ≡ n = omega arith in
    rw (a, b) refl

pub words_read : WordsRead
unfolding word decoded
words_read (op_load n) = code_read 0 n (omega arith)
words_read (op_save n) = code_read 1 n (omega arith)
words_read op_line_count = code_read 2 0 (omega arith)
words_read op_field_count = code_read 3 0 (omega arith)
words_read op_get_field = code_read 4 0 (omega arith)
words_read op_set_field = code_read 5 0 (omega arith)
words_read (op_one n) = code_read 6 n (omega arith)
words_read (op_two n) = code_read 7 n (omega arith)
words_read op_truth = code_read 8 0 (omega arith)
words_read (op_fail n) = code_read 9 n (omega arith)
words_read (op_jump n) = code_read 10 n (omega arith)
words_read (op_jump_if n) = code_read 11 n (omega arith)
words_read (op_jump_unless n) = code_read 12 n (omega arith)
words_read op_drop = code_read 13 0 (omega arith)
words_read op_print_line = code_read 14 0 (omega arith)
words_read (op_print_values n) = code_read 15 n (omega arith)
words_read op_leave_line = code_read 16 0 (omega arith)
words_read op_exit = code_read 17 0 (omega arith)
words_read op_end = code_read 18 0 (omega arith)

-- ONE INSTRUCTION. A name's slot, when it was met and in the whole pool.
slotted : (π ρ : Pool) (x : List ℕ) (t : Bool) → Begins (pick t π (with_name π x)) ρ → t ≡ false → Holds ρ (slot_of π x) (named x)
slotted π ρ x true b e = no (sym e)
slotted π ρ x false b e = begins_holds b (holds_name π x)

module _ (to : ℕ → ℕ) (π ρ : Pool) (r : Right ρ) where
  constant_here : (v : Value) → Begins (pool_after (constant v) π) ρ → Constant ρ v (op_load (length π))
  constant_here v b = (length π, refl, begins_holds b (holds_constant π v))

  name_here : (x : List ℕ) → Begins (pool_after (loads x) π) ρ → is_count x ≡ false → (slot_of π x ≡ slot_of ρ x) × Holds ρ (slot_of ρ x) (named x)
  name_here x b e =
      let met = slotted π ρ x (is_count x) b e in
      let same_slot = right_slot r met in
      (same_slot, subst (λ k. Holds ρ k (named x)) same_slot met)

  loads_here : (x : List ℕ) → Begins (pool_after (loads x) π) ρ → Loads ρ x (load_from x (slot_of π x))
  loads_here x b = record {
    lines = λ e. rw e refl;
    fields = λ e f. rw (e, f) refl;
    other = λ e. let n = name_here x b e in (load_same (same x w_nr) (same x w_nf) e ∙ ap op_load n.0, n.1);
  }
    where
      load_same : (a c : Bool) → or a c ≡ false → pick a op_line_count (pick c op_field_count (op_load (slot_of π x))) ≡ op_load (slot_of π x)
      load_same true c e = no (sym e)
      load_same false true e = no (sym e)
      load_same false false e = refl

  saves_here : (x : List ℕ) → Begins (pool_after (saves x) π) ρ → Saves ρ x (save_into x (slot_of π x))
  saves_here x b = record { count = λ e. rw e refl; other = λ e. let n = name_here x b e in (rw e (ap op_save n.0), n.1) }

  means_here : (i : Instr) (os : List Op) → Begins (pool_after (shape i) π) ρ → is_note i ≡ false → Means ρ to i (get_or (op_for to (shape i) π ++ os) 0 op_end)
  means_here (note_all d) os b e = tt
  means_here (note_below d) os b e = tt
  means_here (push_number n) os b e = constant_here (plus n) b
  means_here (push_text t) os b e = constant_here (text t) b
  means_here (push_value v) os b e = constant_here v b
  means_here (load_variable x) os b e = loads_here x b
  means_here load_field os b e = refl
  means_here (load_item x) os b e = refl
  means_here (apply_one k) os b e = refl
  means_here (apply_two k) os b e = refl
  means_here to_truth os b e = refl
  means_here (match_top y) os b e = refl
  means_here (has_key x) os b e = refl
  means_here cut_part os b e = refl
  means_here (split_into x y) os b e = refl
  means_here (save_variable x) os b e = saves_here x b
  means_here save_field os b e = refl
  means_here (save_item x) os b e = refl
  means_here (swap_variable y x) os b e = refl
  means_here (swap_field y) os b e = refl
  means_here (swap_item y x) os b e = refl
  means_here (fail k) os b e = refl
  means_here (jump q) os b e = refl
  means_here (jump_if q) os b e = refl
  means_here (jump_unless q) os b e = refl
  means_here drop_top os b e = refl
  means_here print_line os b e = refl
  means_here (print_values n) os b e = refl
  means_here leave_line os b e = refl
  means_here exit_run os b e = refl
  means_here end_rules os b e = refl
  means_here (call_function d q xs n) os b e = refl
  means_here return_empty os b e = refl
  means_here return_value os b e = refl
  means_here (push_keys y) os b e = refl
  means_here (next_key x q) os b e = refl
  means_here (delete_item x) os b e = refl

-- notes are the two instructions that note
is_a_note : (i : Instr) → is_note i ≡ true → (d : ℕ) × ((i ≡ note_all d) ⊎ (i ≡ note_below d))
is_a_note (note_all d) e = (d, inl refl)
is_a_note (note_below d) e = (d, inr refl)
is_a_note (push_number n) e = no e
is_a_note (push_text b) e = no e
is_a_note (push_value v) e = no e
is_a_note (load_variable x) e = no e
is_a_note load_field e = no e
is_a_note (load_item x) e = no e
is_a_note (apply_one k) e = no e
is_a_note (apply_two k) e = no e
is_a_note to_truth e = no e
is_a_note (match_top y) e = no e
is_a_note (has_key x) e = no e
is_a_note cut_part e = no e
is_a_note (split_into x y) e = no e
is_a_note (save_variable x) e = no e
is_a_note save_field e = no e
is_a_note (save_item x) e = no e
is_a_note (swap_variable y x) e = no e
is_a_note (swap_field y) e = no e
is_a_note (swap_item y x) e = no e
is_a_note (fail k) e = no e
is_a_note (jump q) e = no e
is_a_note (jump_if q) e = no e
is_a_note (jump_unless q) e = no e
is_a_note drop_top e = no e
is_a_note print_line e = no e
is_a_note (print_values n) e = no e
is_a_note leave_line e = no e
is_a_note exit_run e = no e
is_a_note end_rules e = no e
is_a_note (call_function d q xs n) e = no e
is_a_note return_empty e = no e
is_a_note return_value e = no e
is_a_note (push_keys y) e = no e
is_a_note (next_key x q) e = no e
is_a_note (delete_item x) e = no e

-- PLACES. A shape's operation, if it has one, stands before those of what comes behind it.
op_behind : (to : ℕ → ℕ) (s : Shape) (π : Pool) (os : List Op) (k : ℕ) → get_or (op_for to s π ++ os) (pick (is_silent s) k (suc k)) op_end ≡ get_or os k op_end
op_behind to silent π os k = refl
op_behind to (constant v) π os k = refl
op_behind to (loads x) π os k = refl
op_behind to (saves x) π os k = refl
op_behind to (goes j q) π os k = refl
op_behind to (does o) π os k = refl
op_behind to outside π os k = refl

pub length_for : (to : ℕ → ℕ) (s : Shape) (π : Pool) (os : List Op) → length (op_for to s π ++ os) ≡ pick (is_silent s) (length os) (suc (length os))
length_for to silent π os = refl
length_for to (constant v) π os = refl
length_for to (loads x) π os = refl
length_for to (saves x) π os = refl
length_for to (goes j q) π os = refl
length_for to (does o) π os = refl
length_for to outside π os = refl

stands_in : (to : ℕ → ℕ) (is : List Instr) (π ρ : Pool) (i : ℕ) → Right ρ → Begins (translated to is π).pool ρ → is_note (get_or is i end_rules) ≡ false →
    Means ρ to (get_or is i end_rules) (get_or (translated to is π).ops (lean_place is i) op_end)
unfolding translated lean_place
stands_in to [] π ρ i r b e = refl
stands_in to (j ∷ is) π ρ zero r b e = means_here to π ρ r j _ (begins_trans (begins_translated to is (pool_after (shape j) π)) b) e
stands_in to (j ∷ is) π ρ (suc i) r b e =
    subst (λ o. Means ρ to (get_or is i end_rules) o) (sym (op_behind to (shape j) π _ (lean_place is i))) (stands_in to is (pool_after (shape j) π) ρ i r b e)

pub lean_first : (is : List Instr) → lean_place is 0 ≡ 0
unfolding lean_place
lean_first [] = refl
lean_first (i ∷ is) = refl

past_note : (is : List Instr) (i : ℕ) → is_note (get_or is i end_rules) ≡ true → lean_place is (suc i) ≡ lean_place is i
unfolding lean_place
past_note [] i e = refl
past_note (j ∷ is) zero e = rw e (lean_first is)
past_note (j ∷ is) (suc i) e = ap (λ k. pick (is_note j) k (suc k)) (past_note is i e)

past_other : (is : List Instr) (i : ℕ) → i < length is → is_note (get_or is i end_rules) ≡ false → lean_place is (suc i) ≡ suc (lean_place is i)
unfolding lean_place
past_other [] i h e = absurd (omega arith)
past_other (j ∷ is) zero h e = rw e (ap suc (lean_first is))
past_other (j ∷ is) (suc i) h e = rw (past_other is i (omega arith) e) (swapped (is_note j) (lean_place is i))
  where
    swapped : (t : Bool) (k : ℕ) → pick t (suc k) (suc (suc k)) ≡ suc (pick t k (suc k))
    swapped true k = refl
    swapped false k = refl

-- notes in a row end
record Notes (is : List Instr) (i : ℕ) : Type 0 where
  notes : ℕ
  are_notes : (m : ℕ) → m < notes → is_note (get_or is (m + i) end_rules) ≡ true
  no_note : is_note (get_or is (notes + i) end_rules) ≡ false

notes_none : (is : List Instr) (i : ℕ) → is_note (get_or is i end_rules) ≡ false → Notes is i
notes_none is i h = record {
  notes = 0;
  are_notes = λ m l. absurd (omega arith);
  no_note = let e : i ≡ 0 + i = omega arith in subst (λ k. is_note (get_or is k end_rules) ≡ false) e h;
}

notes_more : (is : List Instr) (i : ℕ) → is_note (get_or is i end_rules) ≡ true → Notes is (suc i) → Notes is i
notes_more is i h n = record {
  notes = suc n.notes;
  are_notes = λ m l. by_place m l;
  no_note = let e : n.notes + suc i ≡ suc n.notes + i = omega arith in subst (λ k. is_note (get_or is k end_rules) ≡ false) e n.no_note;
}
  where
    by_place : (m : ℕ) → m < suc n.notes → is_note (get_or is (m + i) end_rules) ≡ true
    by_place zero l = let e : i ≡ 0 + i = omega arith in subst (λ k. is_note (get_or is k end_rules) ≡ true) e h
    by_place (suc m) l = let e : m + suc i ≡ suc m + i = omega arith in subst (λ k. is_note (get_or is k end_rules) ≡ true) e (n.are_notes m (omega arith))

-- of so many places from i on one is no note, since behind the end there are none
notes_from : (is : List Instr) (k i : ℕ) → length is ≤ k + i → Notes is i
notes_from is zero i h = notes_none is i (ap is_note (get_or-eq_default is end_rules {n = i} (omega arith)))
notes_from is (suc k) i h = by_test (is_note (get_or is i end_rules)) refl (notes_from is k (suc i) (omega arith))
  where
    by_test : (b : Bool) → is_note (get_or is i end_rules) ≡ b → Notes is (suc i) → Notes is i
    by_test true e n = notes_more is i e n
    by_test false e n = notes_none is i e

along_notes : (is : List Instr) (n i : ℕ) → ((m : ℕ) → m < n → is_note (get_or is (m + i) end_rules) ≡ true) → lean_place is (n + i) ≡ lean_place is i
along_notes is zero i h = let e : 0 + i ≡ i = omega arith in ap (lean_place is) e
along_notes is (suc n) i h = let e : suc n + i ≡ suc (n + i) = omega arith in ap (lean_place is) e ∙ past_note is (n + i) (h n (omega arith)) ∙ along_notes is n i (λ m l. h m (omega arith))

pub past_end : (to : ℕ → ℕ) (is : List Instr) (π : Pool) (i : ℕ) → length is ≤ i → lean_place is i ≡ length (translated to is π).ops
unfolding translated lean_place
past_end to [] π i h = refl
past_end to (j ∷ is) π zero h = absurd (omega arith)
past_end to (j ∷ is) π (suc i) h =
    ap (λ k. pick (is_note j) k (suc k)) (past_end to is (pool_after (shape j) π) i (omega arith)) ∙ sym (length_for to (shape j) π _)

pub right_program : (p : Program) → Right (pool p)
unfolding assemble
right_program p = right_translated _ (program_code p) [] right_none

pub correspondence : Correspondence
unfolding assemble
correspondence p =
    let is = program_code p in
    let to = lean_place is in
    let r = right_program p in
    record {
      stands = λ i e. stands_in to is [] (pool p) i r (begins_self (pool p)) e;
      only_notes = λ i e. is_a_note (code p i) e;
      at_first = lean_first is;
      past_note = λ i e. past_note is i e;
      past_other = λ i h e. past_other is i h e;
      past_notes = λ i.
          let n = notes_from is (length is) i (omega arith) in
          record { notes = n.notes; are_notes = n.are_notes; no_note = n.no_note; same_place = along_notes is n.notes i n.are_notes };
      past_end = λ i h. past_end to is [] i h;
      one_slot = λ k x h. right_slot r h;
      own_slot = λ k x y g h. let a = g.there in let b = h.there in cc;
      no_count = λ k x h. right_count r h;
    }
