-- What is true of the assembled code. Each is a statement; the functions of src/ ask for its proof.
use Rattle.std.specs.Prelude.{◌≡◌, ℕ, suc, ◌+◌, ◌<◌, ◌≤◌, Bool, true, false, not, ◌&&◌, ◌⊎◌, List, [], ◌∷◌, length, ◌==◌, nat_le, nat_lt, slice_index_or}
use Rattle.language.specs.Text.{every, same, limit, Value, plus, minus, text}
use Rattle.language.specs.Program.{Program, reads}
use Rattle.language.specs.Meaning.{State, w_nr, w_nf}
use Rattle.language.specs.Known.{core}
use Rattle.semantics.specs.Stack.{Cell, exec, Instr, note_all, note_below, push_number, push_text, push_value, load_variable, load_field, load_item, apply_one, apply_two, to_truth, match_top, has_key, cut_part, split_into, save_variable, save_field, save_item, swap_variable, swap_field, swap_item, fail, jump, jump_if, jump_unless, drop_top, print_line, print_values, leave_line, exit_run, end_rules, call_function, return_empty, return_value, push_keys, next_key, delete_item}
use Rattle.semantics.specs.Code.{program_code, code}
use Rattle.semantics.specs.Invariants.{All, takes, Values}
use Rattle.assembly.specs.Assembly.{Op, op_load, op_save, op_line_count, op_field_count, op_get_field, op_set_field, op_one, op_two, op_truth, op_fail, op_jump, op_jump_if, op_jump_unless, op_drop, op_print_line, op_print_values, op_leave_line, op_exit, op_end, word, op_of, Entry, named, literal, Pool, slot_of, is_count, Shape, silent, constant, loads, saves, goes, does, outside, shape, is_note, lean_place, assemble, ops, pool, op_at, entries}
use Rattle.assembly.specs.Machine.{op_exec, lean_config}
use Rattle.assembly.specs.Generator.{program_ops, program_starts}

-- WORDS. A word is read back as the operation that it was made of.
abbrev pub WordsRead : Type 0
WordsRead = (o : Op) → op_of (word o) ≡ o

-- THE CORRESPONDENCE. A slot of the pool has this entry.
pub record Holds (π : Pool) (k : ℕ) (e : Entry) : Type 0 where
  pub inside : k < length π
  pub there : slice_index_or π k (literal (text [])) ≡ e

-- loading a constant
abbrev pub Constant : Pool → Value → Op → Type 0
Constant π v o = (k : ℕ) × (o ≡ op_load k) × Holds π k (literal v)

-- loading a name: the count of lines, the count of fields, or what is in its slot
pub record Loads (π : Pool) (x : List ℕ) (o : Op) : Type 0 where
  pub lines : same x w_nr ≡ true → o ≡ op_line_count
  pub fields : same x w_nr ≡ false → same x w_nf ≡ true → o ≡ op_field_count
  pub other : is_count x ≡ false → (o ≡ op_load (slot_of π x)) × Holds π (slot_of π x) (named x)

-- saving into a name: a count fails with 6
pub record Saves (π : Pool) (x : List ℕ) (o : Op) : Type 0 where
  pub count : is_count x ≡ true → o ≡ op_fail 6
  pub other : is_count x ≡ false → (o ≡ op_save (slot_of π x)) × Holds π (slot_of π x) (named x)

-- an instruction that no known program has
abbrev pub Unknown : Op → Type 0
Unknown o = o ≡ op_fail 2

-- what operation stands for an instruction, with the program's pool and the lean places of its places
abbrev pub Means : Pool → (ℕ → ℕ) → Instr → Op → Type 0
Means π to (note_all d) o = Unit {0}
Means π to (note_below d) o = Unit {0}
Means π to (push_number n) o = Constant π (plus n) o
Means π to (push_text b) o = Constant π (text b) o
Means π to (push_value v) o = Constant π v o
Means π to (load_variable x) o = Loads π x o
Means π to load_field o = o ≡ op_get_field
Means π to (load_item x) o = Unknown o
Means π to (apply_one k) o = o ≡ op_one k
Means π to (apply_two k) o = o ≡ op_two k
Means π to to_truth o = o ≡ op_truth
Means π to (match_top y) o = Unknown o
Means π to (has_key x) o = Unknown o
Means π to cut_part o = Unknown o
Means π to (split_into x y) o = Unknown o
Means π to (save_variable x) o = Saves π x o
Means π to save_field o = o ≡ op_set_field
Means π to (save_item x) o = Unknown o
Means π to (swap_variable y x) o = Unknown o
Means π to (swap_field y) o = Unknown o
Means π to (swap_item y x) o = Unknown o
Means π to (fail k) o = o ≡ op_fail k
Means π to (jump q) o = o ≡ op_jump (to q)
Means π to (jump_if q) o = o ≡ op_jump_if (to q)
Means π to (jump_unless q) o = o ≡ op_jump_unless (to q)
Means π to drop_top o = o ≡ op_drop
Means π to print_line o = o ≡ op_print_line
Means π to (print_values n) o = o ≡ op_print_values n
Means π to leave_line o = o ≡ op_leave_line
Means π to exit_run o = o ≡ op_exit
Means π to end_rules o = o ≡ op_end
Means π to (call_function d q xs n) o = Unknown o
Means π to return_empty o = Unknown o
Means π to return_value o = Unknown o
Means π to (push_keys y) o = Unknown o
Means π to (next_key x q) o = Unknown o
Means π to (delete_item x) o = Unknown o

-- from a place on there are so many notes, all with its lean place, and then something else
pub record Next (p : Program) (i : ℕ) : Type 0 where
  pub notes : ℕ
  pub are_notes : (m : ℕ) → m < notes → is_note (code p (m + i)) ≡ true
  pub no_note : is_note (code p (notes + i)) ≡ false
  pub same_place : lean_place (program_code p) (notes + i) ≡ lean_place (program_code p) i

-- At the lean place of an instruction that is no note stands the operation for it, also behind the end, where both are ends. Behind a note the lean place
-- stays, behind anything else it is the next. A name has one slot, and a slot one name, which is no count.
pub record Corresponds (p : Program) : Type 0 where
  pub stands : (i : ℕ) → is_note (code p i) ≡ false → Means (pool p) (lean_place (program_code p)) (code p i) (op_at p (lean_place (program_code p) i))
  pub only_notes : (i : ℕ) → is_note (code p i) ≡ true → (d : ℕ) × ((code p i ≡ note_all d) ⊎ (code p i ≡ note_below d))
  pub at_first : lean_place (program_code p) 0 ≡ 0
  pub past_note : (i : ℕ) → is_note (code p i) ≡ true → lean_place (program_code p) (suc i) ≡ lean_place (program_code p) i
  pub past_other : (i : ℕ) → i < length (program_code p) → is_note (code p i) ≡ false → lean_place (program_code p) (suc i) ≡ suc (lean_place (program_code p) i)
  pub past_notes : (i : ℕ) → Next p i
  pub past_end : (i : ℕ) → length (program_code p) ≤ i → lean_place (program_code p) i ≡ length (ops p)
  pub one_slot : (k : ℕ) (x : List ℕ) → Holds (pool p) k (named x) → k ≡ slot_of (pool p) x
  pub own_slot : (k : ℕ) (x y : List ℕ) → Holds (pool p) k (named x) → Holds (pool p) k (named y) → x ≡ y
  pub no_count : (k : ℕ) (x : List ℕ) → Holds (pool p) k (named x) → is_count x ≡ false

-- so for every program
abbrev pub Correspondence : Type 0
Correspondence = (p : Program) → Corresponds p

-- KNOWN PROGRAMS. The operations of the core: not and opposite, and no places of texts in texts.
abbrev pub in_core_op : Op → Bool
in_core_op (op_load k) = true
in_core_op (op_save k) = true
in_core_op op_line_count = true
in_core_op op_field_count = true
in_core_op op_get_field = true
in_core_op op_set_field = true
in_core_op (op_one k) = nat_le k 1
in_core_op (op_two k) = not (k == 12)
in_core_op op_truth = true
in_core_op (op_fail k) = true
in_core_op (op_jump q) = true
in_core_op (op_jump_if q) = true
in_core_op (op_jump_unless q) = true
in_core_op op_drop = true
in_core_op op_print_line = true
in_core_op (op_print_values n) = true
in_core_op op_leave_line = true
in_core_op op_exit = true
in_core_op op_end = true

-- what becomes of the core's instructions
abbrev pub in_core : Shape → Bool
in_core silent = true
in_core (constant v) = true
in_core (loads x) = true
in_core (saves x) = true
in_core (goes j q) = true
in_core (does o) = in_core_op o
in_core outside = false

-- the code of a known program has no others
abbrev pub OnlyKnown : Type 0
OnlyKnown = (p : Program) → core p ≡ true → (i : ℕ) → in_core (shape (code p i)) ≡ true

-- SIZES. At most three operations for a token, and an end for each stage.
abbrev pub most_ops : ℕ
most_ops = 12291

-- at most one slot for a token
abbrev pub most_slots : ℕ
most_slots = 4096

-- the operations on two values: 2 to 11, 13 and 14
abbrev pub is_two : ℕ → Bool
is_two k = nat_le 2 k && (nat_le k 14 && not (k == 12))

-- an operation whose number is in range
abbrev pub FitsOp : Op → Type 0
FitsOp (op_load k) = k < most_slots
FitsOp (op_save k) = k < most_slots
FitsOp op_line_count = Unit {0}
FitsOp op_field_count = Unit {0}
FitsOp op_get_field = Unit {0}
FitsOp op_set_field = Unit {0}
FitsOp (op_one k) = k ≤ 1
FitsOp (op_two k) = is_two k ≡ true
FitsOp op_truth = Unit {0}
FitsOp (op_fail k) = k ≤ 9
FitsOp (op_jump q) = q ≤ most_ops
FitsOp (op_jump_if q) = q ≤ most_ops
FitsOp (op_jump_unless q) = q ≤ most_ops
FitsOp op_drop = Unit {0}
FitsOp op_print_line = Unit {0}
FitsOp (op_print_values n) = n ≤ 4096
FitsOp op_leave_line = Unit {0}
FitsOp op_exit = Unit {0}
FitsOp op_end = Unit {0}

-- such an operation's word is small
abbrev pub WordsSmall : Type 0
WordsSmall = (o : Op) → FitsOp o → word o < 1048576

-- names and texts have at most 4,096 bytes, numbers are below 2^62, and no constant is below zero
abbrev pub FitsEntry : Entry → Type 0
FitsEntry (named x) = length x ≤ 4096
FitsEntry (literal (plus n)) = n < limit
FitsEntry (literal (minus n)) = ⊥
FitsEntry (literal (text b)) = length b ≤ 4096

-- their bytes are below 256
abbrev pub InBytes : Entry → Type 0
InBytes (named x) = every (λ c. nat_lt c 256) x ≡ true
InBytes (literal (plus n)) = Unit {0}
InBytes (literal (minus n)) = Unit {0}
InBytes (literal (text b)) = every (λ c. nat_lt c 256) b ≡ true

-- everything of a program that was read from a text
pub record Fits (t : List ℕ) (p : Program) : Type 0 where
  pub ops_few : length (ops p) ≤ most_ops
  pub pool_few : length (pool p) ≤ most_slots
  pub numbers : All FitsOp (ops p)
  pub slots : All FitsEntry (pool p)
  pub bytes : every (λ c. nat_lt c 256) t ≡ true → All InBytes (pool p)
  pub begin_inside : (entries p).at_begin ≤ length (ops p)
  pub line_inside : (entries p).at_line ≤ length (ops p)
  pub end_inside : (entries p).at_end ≤ length (ops p)

-- so for every known program of at most 4,096 bytes
abbrev pub Sizes : Type 0
Sizes = (t : List ℕ) (p : Program) → length t ≤ 4096 → reads t ≡ p ∷ [] → core p ≡ true → Fits t p

-- STEPS. In a known program that was read from a text, an operation does what the instruction does that it stands for, from lean place to lean place, wherever
-- that finds its operands and no function is being worked out.
abbrev pub Steps : Type 0
Steps =
    (t : List ℕ) (p : Program) → length t ≤ 4096 → reads t ≡ p ∷ [] → core p ≡ true → (q : ℕ) (st : List Cell) (s : State) →
    is_note (code p q) ≡ false → Values (takes (code p q)) st → s.frames ≡ [] →
    lean_config (lean_place (program_code p)) (exec (code p q) q st s) ≡ op_exec (pool p) (op_at p (lean_place (program_code p) q)) (lean_place (program_code p) q) st s

-- THE GENERATOR makes the assembled code of each known program, and begins its stages at the same places.
pub record Generates (p : Program) : Type 0 where
  pub same_code : assemble p ≡ program_ops p
  pub same_starts : entries p ≡ program_starts p

-- so for each of them
abbrev pub Generated : Type 0
Generated = (p : Program) → core p ≡ true → Generates p
