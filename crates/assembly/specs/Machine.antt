-- What the assembled code does, over the states of the meaning: a step for each operation. `specs/Laws` says that it is what the instruction does.
use Rattle.std.specs.Prelude.{ℕ, suc, List, [], ◌∷◌, ◌++◌, length, slice_index_or}
use Rattle.language.specs.Text.{pick, Value, plus, text, number_of, holds, truth}
use Rattle.language.specs.Meaning.{State, went, nexted, wrong, bound, set_bound, first_or, with_vars, field_got, field_number, store_field, reckon, reckon_one, with_out, printed, exit_with}
use Rattle.semantics.specs.Stack.{Cell, val, Config, at, off, land, with_top, with_tops}
use Rattle.assembly.specs.Assembly.{Op, op_load, op_save, op_line_count, op_field_count, op_get_field, op_set_field, op_one, op_two, op_truth, op_fail, op_jump, op_jump_if, op_jump_unless, op_drop, op_print_line, op_print_values, op_leave_line, op_exit, op_end, Entry, named, literal, Pool}

-- what an entry stands for: a variable's value, or the constant
abbrev pub entry_value : State → Entry → Value
entry_value s (named x) = first_or (text []) (bound s.vars x)
entry_value s (literal v) = v

-- the value of a slot
abbrev pub slot_value : Pool → State → ℕ → Value
slot_value π s k = entry_value s (slice_index_or π k (literal (text [])))

-- with a value put into an entry's variable; constants stay
abbrev pub entry_set : State → Entry → Value → State
entry_set s (named x) v = with_vars s (set_bound s.vars x v)
entry_set s (literal u) v = s

-- with a value put into a slot
abbrev pub slot_set : Pool → State → ℕ → Value → State
slot_set π s k v = entry_set s (slice_index_or π k (literal (text []))) v

-- what an operation at the place p does, with the program's pool
abbrev pub op_exec : Pool → Op → ℕ → List Cell → State → Config
op_exec π (op_load k) p st s = at (suc p) (val (slot_value π s k) ∷ st) s
op_exec π (op_save k) p st s = with_top (λ v r. at (suc p) (val v ∷ r) (slot_set π s k v)) s st
op_exec π op_line_count p st s = at (suc p) (val (plus s.lines) ∷ st) s
op_exec π op_field_count p st s = at (suc p) (val (plus (length s.parts)) ∷ st) s
op_exec π op_get_field p st s = with_top (λ k r. land (suc p) r (field_got s (field_number (number_of k)))) s st
op_exec π op_set_field p st s = with_top (λ k r. with_top (λ v q. land (suc p) q (store_field s v (field_number (number_of k)))) s r) s st
op_exec π (op_one k) p st s = with_top (λ v r. land (suc p) r (reckon_one k v s)) s st
op_exec π (op_two k) p st s = with_top (λ u r. with_top (λ v q. land (suc p) q (reckon k v u s)) s r) s st
op_exec π op_truth p st s = with_top (λ v r. at (suc p) (val (truth (holds v)) ∷ r) s) s st
op_exec π (op_fail k) p st s = off (wrong k s)
op_exec π (op_jump q) p st s = at q st s
op_exec π (op_jump_if q) p st s = with_top (λ v r. pick (holds v) (at q r s) (at (suc p) r s)) s st
op_exec π (op_jump_unless q) p st s = with_top (λ v r. pick (holds v) (at (suc p) r s) (at q r s)) s st
op_exec π op_drop p st s = with_top (λ v r. at (suc p) r s) s st
op_exec π op_print_line p st s = at (suc p) st (with_out s (s.line ++ 10 ∷ []))
op_exec π (op_print_values n) p st s = with_tops (λ vs r. at (suc p) r (with_out s (printed vs))) s n [] st
op_exec π op_leave_line p st s = off (nexted s)
op_exec π op_exit p st s = with_top (λ v r. off (exit_with (number_of v) s)) s st
op_exec π op_end p st s = off (went s)

-- a configuration at the lean place of its place
abbrev pub lean_config : (ℕ → ℕ) → Config → Config
lean_config to (at q st s) = at (to q) st s
lean_config to (off w) = off w
