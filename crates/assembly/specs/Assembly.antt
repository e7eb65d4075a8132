-- The code of a program as the machine in memory runs it: the notes are left out, names and constants are slots of a constant pool, and each
-- instruction is one word. `specs/Laws` says how it corresponds to the code with notes.
use Rattle.std.specs.Prelude.{ℕ, zero, suc, ◌+◌, ◌*◌, ◌/◌, ◌%◌, Bool, true, false, List, [], ◌∷◌, ◌++◌, length, ◌==◌, slice_index_or}
use Rattle.language.specs.Text.{pick, or, same, Value, plus, text}
use Rattle.language.specs.Program.{Program}
use Rattle.language.specs.Meaning.{w_nr, w_nf}
use Rattle.semantics.specs.Stack.{Instr, note_all, note_below, push_number, push_text, push_value, load_variable, load_field, load_item, apply_one, apply_two, to_truth, match_top, has_key, cut_part, split_into, save_variable, save_field, save_item, swap_variable, swap_field, swap_item, fail, jump, jump_if, jump_unless, drop_top, print_line, print_values, leave_line, exit_run, end_rules, call_function, return_empty, return_value, push_keys, next_key, delete_item}
use Rattle.semantics.specs.Code.{Entries, program_code}
use Rattle.semantics.specs.Code as code

-- An operation takes its operands from the stack, the last on top, and leaves its result there.
pub data Op : Type 0 where
  op_load : ℕ → Op  -- the value of a slot
  op_save : ℕ → Op  -- the top into a slot; it stays on the stack
  op_line_count : Op  -- how many lines there were
  op_field_count : Op  -- how many fields the line has
  op_get_field : Op  -- the field whose number is on top
  op_set_field : Op  -- the value, then the field's number
  op_one : ℕ → Op  -- an operation on one value: 0 not, 1 opposite
  op_two : ℕ → Op  -- on two, by its number in the language
  op_truth : Op  -- 1 if the top holds, otherwise 0
  op_fail : ℕ → Op  -- something is wrong, with this number
  op_jump : ℕ → Op
  op_jump_if : ℕ → Op  -- takes a value; goes there if it holds
  op_jump_unless : ℕ → Op  -- likewise if it doesn't
  op_drop : Op
  op_print_line : Op
  op_print_values : ℕ → Op  -- so many values from the stack
  op_leave_line : Op  -- no more rules for this line
  op_exit : Op
  op_end : Op  -- the end of a stage's rules

-- WORDS: an opcode below 64, and 64 times its number.
abbrev pub coded : ℕ → ℕ → ℕ
coded k n = k + 64 * n

-- the word of an operation
unfoldable pub word : Op → ℕ
word (op_load n) = coded 0 n
word (op_save n) = coded 1 n
word op_line_count = coded 2 0
word op_field_count = coded 3 0
word op_get_field = coded 4 0
word op_set_field = coded 5 0
word (op_one n) = coded 6 n
word (op_two n) = coded 7 n
word op_truth = coded 8 0
word (op_fail n) = coded 9 n
word (op_jump n) = coded 10 n
word (op_jump_if n) = coded 11 n
word (op_jump_unless n) = coded 12 n
word op_drop = coded 13 0
word op_print_line = coded 14 0
word (op_print_values n) = coded 15 n
word op_leave_line = coded 16 0
word op_exit = coded 17 0
word op_end = coded 18 0

-- the operation with this opcode and number
unfoldable pub decoded : ℕ → ℕ → Op
decoded k n =
    pick (k == 0) (op_load n) (pick (k == 1) (op_save n) (pick (k == 2) op_line_count (pick (k == 3) op_field_count (pick (k == 4) op_get_field
    (pick (k == 5) op_set_field (pick (k == 6) (op_one n) (pick (k == 7) (op_two n) (pick (k == 8) op_truth (pick (k == 9) (op_fail n)
    (pick (k == 10) (op_jump n) (pick (k == 11) (op_jump_if n) (pick (k == 12) (op_jump_unless n) (pick (k == 13) op_drop (pick (k == 14) op_print_line
    (pick (k == 15) (op_print_values n) (pick (k == 16) op_leave_line (pick (k == 17) op_exit op_end)))))))))))))))))

-- the operation of a word
unfoldable pub op_of : ℕ → Op
op_of w = decoded (w % 64) (w / 64)

-- THE POOL: a variable, or a constant of the program, in each slot.
pub data Entry : Type 0 where
  named : List ℕ → Entry
  literal : Value → Entry

-- slot by slot
abbrev pub Pool : Type 0
Pool = List Entry

-- is this the slot of that name
abbrev pub is_named : List ℕ → Entry → Bool
is_named x (named y) = same y x
is_named x (literal v) = false

-- the slot of a name: the first that has it, or the next free one
unfoldable pub slot_of : Pool → List ℕ → ℕ
slot_of [] x = 0
slot_of (e ∷ es) x = pick (is_named x e) 0 (suc (slot_of es x))

-- a pool that has a slot for a name: a new one at the end, if there was none
unfoldable pub with_name : Pool → List ℕ → Pool
with_name [] x = named x ∷ []
with_name (e ∷ es) x = pick (is_named x e) (e ∷ es) (e ∷ with_name es x)

-- the names of the counts of lines and of fields, which have no slots
abbrev pub is_count : List ℕ → Bool
is_count x = or (same x w_nr) (same x w_nf)

-- loading a name whose slot, if it has one, is k
abbrev pub load_from : List ℕ → ℕ → Op
load_from x k = pick (same x w_nr) op_line_count (pick (same x w_nf) op_field_count (op_load k))

-- saving into it; nothing can be saved into a count
abbrev pub save_into : List ℕ → ℕ → Op
save_into x k = pick (is_count x) (op_fail 6) (op_save k)

-- the three kinds of jump
pub data Jump : Type 0 where
  always : Jump
  if_holds : Jump
  unless_holds : Jump

-- the operation of each, to a place
abbrev pub jump_op : Jump → ℕ → Op
jump_op always q = op_jump q
jump_op if_holds q = op_jump_if q
jump_op unless_holds q = op_jump_unless q

-- INSTRUCTIONS, by what becomes of them.
pub data Shape : Type 0 where
  silent : Shape  -- a note: nothing
  constant : Value → Shape
  loads : List ℕ → Shape
  saves : List ℕ → Shape
  goes : Jump → ℕ → Shape  -- to the lean place of this place
  does : Op → Shape
  outside : Shape  -- of no program that is known

-- what becomes of each instruction
abbrev pub shape : Instr → Shape
shape (note_all d) = silent
shape (note_below d) = silent
shape (push_number n) = constant (plus n)
shape (push_text b) = constant (text b)
shape (push_value v) = constant v
shape (load_variable x) = loads x
shape load_field = does op_get_field
shape (load_item x) = outside
shape (apply_one k) = does (op_one k)
shape (apply_two k) = does (op_two k)
shape to_truth = does op_truth
shape (match_top y) = outside
shape (has_key x) = outside
shape cut_part = outside
shape (split_into x y) = outside
shape (save_variable x) = saves x
shape save_field = does op_set_field
shape (save_item x) = outside
shape (swap_variable y x) = outside
shape (swap_field y) = outside
shape (swap_item y x) = outside
shape (fail k) = does (op_fail k)
shape (jump q) = goes always q
shape (jump_if q) = goes if_holds q
shape (jump_unless q) = goes unless_holds q
shape drop_top = does op_drop
shape print_line = does op_print_line
shape (print_values n) = does (op_print_values n)
shape leave_line = does op_leave_line
shape exit_run = does op_exit
shape end_rules = does op_end
shape (call_function d q xs n) = outside
shape return_empty = outside
shape return_value = outside
shape (push_keys y) = outside
shape (next_key x q) = outside
shape (delete_item x) = outside

-- does nothing become of it
abbrev pub is_silent : Shape → Bool
is_silent silent = true
is_silent (constant v) = false
is_silent (loads x) = false
is_silent (saves x) = false
is_silent (goes j q) = false
is_silent (does o) = false
is_silent outside = false

-- a note becomes nothing, anything else becomes one operation
abbrev pub is_note : Instr → Bool
is_note i = is_silent (shape i)

-- the lean place of a place: how many instructions before it are no notes
unfoldable pub lean_place : List Instr → ℕ → ℕ
lean_place [] q = 0
lean_place (i ∷ is) zero = 0
lean_place (i ∷ is) (suc q) = pick (is_note i) (lean_place is q) (suc (lean_place is q))

-- the pool behind a shape
abbrev pub pool_after : Shape → Pool → Pool
pool_after silent π = π
pool_after (constant v) π = π ++ literal v ∷ []
pool_after (loads x) π = pick (is_count x) π (with_name π x)
pool_after (saves x) π = pick (is_count x) π (with_name π x)
pool_after (goes j q) π = π
pool_after (does o) π = π
pool_after outside π = π

-- the operation of a shape, if it has one, with the pool before it; `to` has the lean places that jumps go to
abbrev pub op_for : (ℕ → ℕ) → Shape → Pool → List Op
op_for to silent π = []
op_for to (constant v) π = op_load (length π) ∷ []
op_for to (loads x) π = load_from x (slot_of π x) ∷ []
op_for to (saves x) π = save_into x (slot_of π x) ∷ []
op_for to (goes j q) π = jump_op j (to q) ∷ []
op_for to (does o) π = o ∷ []
op_for to outside π = op_fail 2 ∷ []

-- operations, and the pool behind them
pub record Made : Type 0 where
  pub ops : List Op
  pub pool : Pool

-- instructions from front to back, with the pool so far
unfoldable pub translated : (ℕ → ℕ) → List Instr → Pool → Made
translated to [] π = record { ops = []; pool = π }
translated to (i ∷ is) π =
    let m = translated to is (pool_after (shape i) π) in
    record { ops = op_for to (shape i) π ++ m.ops; pool = m.pool }

-- A WHOLE PROGRAM, assembled.
unfoldable pub assemble : Program → Made
assemble p = translated (lean_place (program_code p)) (program_code p) []

-- its operations
abbrev pub ops : Program → List Op
ops p = (assemble p).ops

-- its constant pool
abbrev pub pool : Program → Pool
pool p = (assemble p).pool

-- the operation at a place; behind the last it is the end
abbrev pub op_at : Program → ℕ → Op
op_at p i = slice_index_or (ops p) i op_end

-- where the operations for the beginning, for each line and for the end stand
unfoldable pub entries : Program → Entries
entries p =
    let to = lean_place (program_code p) in
    record { at_begin = to (code.entries p).at_begin; at_line = to (code.entries p).at_line; at_end = to (code.entries p).at_end }
