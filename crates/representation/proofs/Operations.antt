-- Each operation that needs no text: it does to memory what it does to the abstract machine's stack and state.
use Rattle.std.proofs.Common.{◌≡◌, ℕ, suc, ◌-◌, ◌<◌, ◌≤◌, Bool, true, false, not, ltb, ◌≢◌, List, [], ◌∷◌, length, get_or, ℤ, pos, negsuc, sym, refl, ap, ◌∙◌, subst, arith, w64, SFits, to_z}
use mir.Facts.{to_z_pos}
use Rattle.language.specs.Text
use Rattle.language.specs.Text.{pick, each, same, plus, minus, text, number_of, holds, truth}
use Rattle.language.specs.Program.{Program}
use Rattle.language.specs.Meaning.{State, got, stopped, wrong, set_bound, first_or, reckon, reckon_one, exit_with}
use Rattle.semantics.specs.Stack.{Cell, val, at, off, land}
use Rattle.semantics.specs.Lines.{Stage}
use Rattle.language.proofs.Lists.{same_is}
use Rattle.assembly.specs.Assembly.{Op, op_load, op_save, op_line_count, op_field_count, op_one, op_two, op_truth, op_fail, op_jump, op_jump_if, op_jump_unless, op_exit, Entry, named, literal, pool}
use Rattle.assembly.specs.Machine.{entry_value, entry_set, op_exec}
use Rattle.store.specs.declared.cells.Value.{Value}
use Rattle.store.specs.declared.cells.Value.TheVariants.{Number}
use Rattle.store.specs.Numbers.{number}
use Rattle.regions.specs.Parts.{Parts}
use Rattle.values.specs.declared.numbers.Arithmetic.{Arithmetic}
use Rattle.values.specs.declared.compare.Comparison.{Comparison}
use Rattle.values.specs.Numbers.{operation}
use Rattle.values.specs.Compare.{operator}
use Rattle.interp.specs.Outcomes.{Turn, On, Refuse}
use Rattle.interp.specs.declared.registers.Registers.{Registers}
use Rattle.interp.specs.Turns.{Did, says, after, top_of, worth_in, replaced, replaced_two, truth_of}
use Rattle.interp.specs.Slots.{slot_of, loaded, kept_in, line_counted, fields_counted}
use Rattle.interp.specs.Jumps.{nothing_done, judged, negated, jumped, taking, jumped_if, jumped_unless, ended, exited}
use Rattle.interp.specs.Numbers.{settled, figured, figured_one}
use Rattle.representation.specs.Values.{entry_worth}
use Rattle.representation.specs.Room.{Apart}
use Rattle.representation.specs.Relation.{Running}
use Rattle.representation.specs.Outcomes.{Performs}
use Rattle.representation.proofs.Cells.{plain_at}
use Rattle.representation.proofs.Names.{bound_same, bound_other}
use Rattle.representation.proofs.Moves.{in_hand_plain}
use Rattle.representation.proofs.Stack.{top_worth, under_worth, drops, saves, slot_held}
use Rattle.representation.proofs.Running.{kept_row, re_run, next_pc, pushes_so, replaces_so, replaces_two_so, fails_so}
use Rattle.representation.proofs.Reckoning.{Figured, a_number, an_error, calculates, compares, opposes, negates}

value_worth : (s : State) (e : Entry) → entry_worth s.vars e ≡ entry_value s e
value_worth s (named x) = refl
value_worth s (literal v) = refl

count_number : (n : ℕ) → n < 9223372036854775808 → number (to_z w64 n) ≡ plus n
count_number n l = ap number (to_z_pos w64 l)

count_fits : (n : ℕ) → n < 9223372036854775808 → SFits w64 (to_z w64 n)
count_fits n l = subst (SFits w64) (sym (to_z_pos w64 l)) (record { sfits = l })

settled_number : (f : Value → Did) (g : Turn → Did) (k : ℤ) (s : State) → settled f g (got (number k) s) ≡ f (Number k)
settled_number f g (pos n) s = refl
settled_number f g (negsuc n) s = refl

land_number : (q : ℕ) (st : List Cell) (v : Text.Value) (s : State) → land q st (got v s) ≡ at q (val v ∷ st) s
land_number q st v s = refl

module _ (p : Program) (m : Parts) (r : Registers) (g : Stage) (pc : ℕ) (s : State) (b : List ℕ) (z : Bool) (small : pc ≤ 12291) where
  abbrev Runs : List Text.Value → Type 0
  Runs us = Running p m r g pc us s.vars s.line s.parts s.lines b z

  -- VARIABLES, CONSTANTS AND COUNTS

  pub load_does : {us : List Text.Value} (k : ℕ) → k < length (pool p) → Runs us → Performs p (op_load k) r g pc us s b z (op_exec (pool p) (op_load k) pc (each val us) s) (loaded m r k)
  unfolding loaded
  load_does k l R =
      pushes_so s (op_load k) R small tt (slot_of m k) (entry_value s (get_or (pool p) k (literal (text [])))) (plain_at m.slots k) (slot_held R.holds l)
      (R.holds.in_slots k l ∙ value_worth s (get_or (pool p) k (literal (text []))))

  pub count_lines_does : {us : List Text.Value} → s.lines < 9223372036854775808 → Runs us →
      Performs p op_line_count r g pc us s b z (op_exec (pool p) op_line_count pc (each val us) s) (line_counted m r)
  unfolding line_counted
  count_lines_does l R =
      pushes_so s op_line_count R small tt (Number (to_z w64 r.count)) (plus s.lines) (count_fits r.count (omega (arith, R.count))) (λ k. omega arith)
      (ap (λ n. number (to_z w64 n)) R.count ∙ count_number s.lines l)

  pub count_fields_does : {us : List Text.Value} → Runs us → Performs p op_field_count r g pc us s b z (op_exec (pool p) op_field_count pc (each val us) s) (fields_counted m r)
  unfolding fields_counted
  count_fields_does R =
      let l : length s.parts < 9223372036854775808 = omega (arith, R.line.holds.room) in
      pushes_so s op_field_count R small tt (Number (to_z w64 r.line.fields)) (plus (length s.parts)) (count_fits r.line.fields (omega (arith, R.line.holds.count))) (λ k. omega arith)
      (ap (λ n. number (to_z w64 n)) R.line.holds.count ∙ count_number (length s.parts) l)

  pub save_does : {u : Text.Value} {rest : List Text.Value} (k : ℕ) (x : List ℕ) → Apart (pool p) → k < length (pool p) → get_or (pool p) k (literal (text [])) ≡ named x → Runs (u ∷ rest) →
      Performs p (op_save k) r g pc (u ∷ rest) s b z (op_exec (pool p) (op_save k) pc (each val (u ∷ rest)) s) (kept_in m r k)
  unfolding kept_in
  save_does {u} {rest} k x apart l e R =
      let cs = set_bound s.vars x u in
      let H = saves r.depth k cs l (ap (entry_worth cs) e ∙ ap (first_or (text [])) (bound_same s.vars x u)) (λ j i n. others j i n (get_or (pool p) j (literal (text []))) refl) R.holds in
      subst (λ y. Performs p (op_save k) r g pc (u ∷ rest) s b z (at (suc pc) (val u ∷ each val rest) (entry_set s y u)) (kept_in m r k)) (sym e)
      ((u ∷ rest, refl, re_run R (suc pc) (after r.pc) r.depth (next_pc R small) H), refl, record { print = refl; used = refl })
    where
      differ : (j : ℕ) → j < length (pool p) → j ≢ k → (y : List ℕ) → get_or (pool p) j (literal (text [])) ≡ named y → (t : Bool) → same x y ≡ t → same x y ≡ false
      differ j i n y f true t = absurd (n (apart j k x i l (f ∙ ap named (sym (same_is x y t))) e))
      differ j i n y f false t = t

      others : (j : ℕ) → j < length (pool p) → j ≢ k → (y : Entry) → get_or (pool p) j (literal (text [])) ≡ y →
          entry_worth (set_bound s.vars x u) (get_or (pool p) j (literal (text []))) ≡ entry_worth s.vars (get_or (pool p) j (literal (text [])))
      others j i n (named y) f = rw f (ap (first_or (text [])) (bound_other s.vars x y u (differ j i n y f (same x y) refl)))
      others j i n (literal v) f = rw f

  -- OPERATORS

  -- a number, or another value that holds no text, in place of the top
  number_in_place : {u : Text.Value} {rest : List Text.Value} (o : Op) (k : ℤ) → SFits w64 k → Runs (u ∷ rest) →
      Performs p o r g pc (u ∷ rest) s b z (at (suc pc) (val (number k) ∷ each val rest) s) (replaced m r (Number k))
  number_in_place o k f R = replaces_so s o R small m.texts (Number k) (number k) f (in_hand_plain (Number k) (number k) refl (λ said. refl) R.holds)

  number_in_two : {u v : Text.Value} {rest : List Text.Value} (o : Op) (k : ℤ) → SFits w64 k → Runs (u ∷ v ∷ rest) →
      Performs p o r g pc (u ∷ v ∷ rest) s b z (at (suc pc) (val (number k) ∷ each val rest) s) (replaced_two m r (Number k))
  number_in_two o k f R = replaces_two_so s o R small m.texts (Number k) (number k) f (in_hand_plain (Number k) (number k) refl (λ said. refl) R.holds)

  truth_in_place : {u : Text.Value} {rest : List Text.Value} (o : Op) (t : Bool) → Runs (u ∷ rest) →
      Performs p o r g pc (u ∷ rest) s b z (at (suc pc) (val (truth t) ∷ each val rest) s) (replaced m r (truth_of t))
  unfolding truth_of
  truth_in_place o true R = number_in_place o (pos 1) (record { sfits = omega arith }) R
  truth_in_place o false R = number_in_place o (pos 0) (record { sfits = omega arith }) R

  pub truth_does : {u : Text.Value} {rest : List Text.Value} → Runs (u ∷ rest) → Performs p op_truth r g pc (u ∷ rest) s b z (op_exec (pool p) op_truth pc (each val (u ∷ rest)) s) (judged m r)
  unfolding judged
  truth_does {u} R = rw (top_worth r.depth R.holds) (truth_in_place op_truth (holds u) R)

  pub not_does : {u : Text.Value} {rest : List Text.Value} → Runs (u ∷ rest) → Performs p (op_one 0) r g pc (u ∷ rest) s b z (op_exec (pool p) (op_one 0) pc (each val (u ∷ rest)) s) (negated m r)
  unfolding negated
  not_does {u} {rest} R = rw (top_worth r.depth R.holds, negates u s) (truth_in_place (op_one 0) (not (holds u)) R)

  -- an operator's result in place of its two operands
  two_does : {u v : Text.Value} {rest : List Text.Value} (k : ℕ) → Figured (λ t. reckon k v u t) → Runs (u ∷ v ∷ rest) →
      Performs p (op_two k) r g pc (u ∷ v ∷ rest) s b z (op_exec (pool p) (op_two k) pc (each val (u ∷ v ∷ rest)) s) (figured k m r)
  unfolding figured
  two_does {u} {v} {rest} k (a_number i f e) R =
      rw (top_worth r.depth R.holds, under_worth r.depth R.holds, e nothing_done, e s, settled_number (replaced_two m r) (λ t. says t m r) i nothing_done) (number_in_two (op_two k) i f R)
  two_does {u} {v} {rest} k (an_error j e) R =
      rw (top_worth r.depth R.holds, under_worth r.depth R.holds, e nothing_done, e s) (fails_so s (op_two k) R j)

  pub calculate_does : {u v : Text.Value} {rest : List Text.Value} (c : Arithmetic) → Runs (u ∷ v ∷ rest) →
      Performs p (op_two (operation c)) r g pc (u ∷ v ∷ rest) s b z (op_exec (pool p) (op_two (operation c)) pc (each val (u ∷ v ∷ rest)) s) (figured (operation c) m r)
  calculate_does {u} {v} c R = two_does (operation c) (calculates c v u) R

  pub compare_does : {u v : Text.Value} {rest : List Text.Value} (c : Comparison) → Runs (u ∷ v ∷ rest) →
      Performs p (op_two (operator c)) r g pc (u ∷ v ∷ rest) s b z (op_exec (pool p) (op_two (operator c)) pc (each val (u ∷ v ∷ rest)) s) (figured (operator c) m r)
  compare_does {u} {v} c R = two_does (operator c) (compares c v u) R

  pub opposite_does : {u : Text.Value} {rest : List Text.Value} → Runs (u ∷ rest) → Performs p (op_one 1) r g pc (u ∷ rest) s b z (op_exec (pool p) (op_one 1) pc (each val (u ∷ rest)) s) (figured_one 1 m r)
  unfolding figured_one
  opposite_does {u} {rest} R = by (opposes u)
    where
      by : Figured (λ t. reckon_one 1 u t) →
          Performs p (op_one 1) r g pc (u ∷ rest) s b z (land (suc pc) (each val rest) (reckon_one 1 u s))
          (settled (replaced m r) (λ t. says t m r) (reckon_one 1 (worth_in m (top_of m r)) nothing_done))
      by (a_number i f e) = rw (top_worth r.depth R.holds, e nothing_done, e s, settled_number (replaced m r) (λ t. says t m r) i nothing_done) (number_in_place (op_one 1) i f R)
      by (an_error j e) = rw (top_worth r.depth R.holds, e nothing_done, e s) (fails_so s (op_one 1) R j)

  -- JUMPS AND ENDS

  pub jump_does : {us : List Text.Value} (q : ℕ) → Runs us → Performs p (op_jump q) r g pc us s b z (op_exec (pool p) (op_jump q) pc (each val us) s) (says On m (jumped r q))
  jump_does {us} q R = ((us, refl, re_run R q q r.depth refl R.holds), refl, record { print = refl; used = refl })

  taking_does : {u : Text.Value} {rest : List Text.Value} (o : Op) (t : Bool) (q : ℕ) → Runs (u ∷ rest) →
      Performs p o r g pc (u ∷ rest) s b z (pick t (at q (each val rest) s) (at (suc pc) (each val rest) s)) (taking m r t q)
  unfolding taking
  taking_does {u} {rest} o true q R = ((rest, refl, re_run R q q (r.depth - 1) refl (drops r.depth R.holds)), refl, record { print = refl; used = refl })
  taking_does {u} {rest} o false q R = ((rest, refl, re_run R (suc pc) (after r.pc) (r.depth - 1) (next_pc R small) (drops r.depth R.holds)), refl, record { print = refl; used = refl })

  pub jump_if_does : {u : Text.Value} {rest : List Text.Value} (q : ℕ) → Runs (u ∷ rest) →
      Performs p (op_jump_if q) r g pc (u ∷ rest) s b z (op_exec (pool p) (op_jump_if q) pc (each val (u ∷ rest)) s) (jumped_if m r q)
  unfolding jumped_if
  jump_if_does {u} q R = rw (top_worth r.depth R.holds) (taking_does (op_jump_if q) (holds u) q R)

  pub jump_unless_does : {u : Text.Value} {rest : List Text.Value} (q : ℕ) → Runs (u ∷ rest) →
      Performs p (op_jump_unless q) r g pc (u ∷ rest) s b z (op_exec (pool p) (op_jump_unless q) pc (each val (u ∷ rest)) s) (jumped_unless m r q)
  unfolding jumped_unless
  jump_unless_does {u} {rest} q R = rw (top_worth r.depth R.holds) (by (holds u))
    where
      by : (t : Bool) → Performs p (op_jump_unless q) r g pc (u ∷ rest) s b z (pick t (at (suc pc) (each val rest) s) (at q (each val rest) s)) (taking m r (not t) q)
      by true = taking_does (op_jump_unless q) false q R
      by false = taking_does (op_jump_unless q) true q R

  pub fail_does : {us : List Text.Value} (k : ℕ) → Runs us → Performs p (op_fail k) r g pc us s b z (op_exec (pool p) (op_fail k) pc (each val us) s) (says (Refuse k) m r)
  fail_does k R = fails_so s (op_fail k) R k

  pub exit_does : {u : Text.Value} {rest : List Text.Value} → Runs (u ∷ rest) → Performs p op_exit r g pc (u ∷ rest) s b z (op_exec (pool p) op_exit pc (each val (u ∷ rest)) s) (says (exited m r) m r)
  unfolding exited
  exit_does {u} {rest} R = rw (top_worth r.depth R.holds) (by (number_of u))
    where
      in_range : (n : ℕ) (t : Bool) → Performs p op_exit r g pc (u ∷ rest) s b z (off (pick t (stopped n s) (wrong 9 s))) (says (ended (pick t (stopped n nothing_done) (wrong 9 nothing_done))) m r)
      in_range n true = ((u ∷ rest, refl, R), kept_row r, refl)
      in_range n false = fails_so s op_exit R 9

      by : (v : Text.Value) → Performs p op_exit r g pc (u ∷ rest) s b z (off (exit_with v s)) (says (ended (exit_with v nothing_done)) m r)
      by (plus n) = in_range n (ltb n 256)
      by (minus n) = fails_so s op_exit R 9
      by (text t) = fails_so s op_exit R 9
