-- A stack machine over the states of the meaning: what is on its stack, its instructions, and what each one does. Every instruction that works
-- something out calls the meaning's own definition for it, so that the two can differ only in the order of what is done.
use Rattle.std.specs.Prelude.{ℕ, zero, suc, ◌+◌, not, List, [], ◌∷◌, ◌++◌, length}
use Rattle.language.specs.Text.{pick, any, those, added_up, Value, plus, text, number_of, as_text, within, holds, truth, Pattern, matches}
use Rattle.language.specs.Program.{Term, txt, var, item, field}
use Rattle.language.specs.Meaning.{State, Went, went, nexted, given, wrong, Got, got, left, state_of, note, size_of, as_got, var_of, field_got, field_number, reckon, reckon_one, set_var, set_item, store_field, exit_with, with_out, printed, then_got, in_place, swap_got, swapped, item_of, is_item, cut_from, cut_by, numbered, without_table, with_items, with_frames, framed, unframed, keys_of}

-- a value; where a function that is being worked out goes on, and how deep its call stands in the program; the keys that a loop has still to go over
pub data Cell : Type 0 where
  val : Value → Cell
  ret : ℕ → ℕ → Cell
  keys : List (List ℕ) → Cell

-- what is held on a stack, in bytes, as the meaning counts it
abbrev pub held : List Cell → ℕ
held [] = 0
held (val v ∷ st) = size_of v + held st
held (ret p d ∷ st) = d + held st
held (keys ks ∷ st) = 16 + added_up (λ j. 16 + length j) ks + held st

-- what is under the top
abbrev pub below_top : List Cell → List Cell
below_top [] = []
below_top (c ∷ st) = st

-- An instruction takes its operands from the stack, the last on top, and leaves its result there.
pub data Instr : Type 0 where
  note_all : ℕ → Instr  -- note what is held: so much by depth, and what is on the stack; nothing else happens
  note_below : ℕ → Instr  -- likewise, without what is on top
  push_number : ℕ → Instr  -- a number of the program, if it isn't too large
  push_text : List ℕ → Instr
  push_value : Value → Instr
  load_variable : List ℕ → Instr
  load_field : Instr  -- the field whose number is on top
  load_item : List ℕ → Instr  -- of a table, under the key on top
  apply_one : ℕ → Instr  -- an operation on one value, by its number
  apply_two : ℕ → Instr  -- on two
  to_truth : Instr  -- 1 if the top holds, otherwise 0
  match_top : Pattern → Instr
  has_key : List ℕ → Instr  -- is the top a key of a table
  cut_part : Instr  -- a part of a text: the text, from where, how many
  split_into : List ℕ → Pattern → Instr
  save_variable : List ℕ → Instr  -- a value that is saved stays on the stack
  save_field : Instr  -- the value, then the field's number
  save_item : List ℕ → Instr  -- the value, then the key
  swap_variable : Pattern → List ℕ → Instr  -- what matches in a variable, by the text on top
  swap_field : Pattern → Instr  -- in a field: the text, then the field's number
  swap_item : Pattern → List ℕ → Instr  -- in an item: the text, then the key
  fail : ℕ → Instr  -- something is wrong, with this number
  jump : ℕ → Instr
  jump_if : ℕ → Instr  -- takes a value; goes there if it holds
  jump_unless : ℕ → Instr  -- likewise if it doesn't
  drop_top : Instr
  print_line : Instr
  print_values : ℕ → Instr  -- so many values from the stack
  leave_line : Instr  -- no more rules for this line
  exit_run : Instr
  end_rules : Instr
  call_function : ℕ → ℕ → List (List ℕ) → ℕ → Instr  -- how deep the call stands, where to, the names of what it takes, how many values it is given
  return_empty : Instr
  return_value : Instr
  push_keys : List ℕ → Instr  -- those of a table
  next_key : List ℕ → ℕ → Instr  -- the next of the keys on top into a variable; if there is none, they are dropped, and on from there
  delete_item : List ℕ → Instr

-- at a place of the code with a stack and a state; or off the code, with what came of it
pub data Config : Type 0 where
  at : ℕ → List Cell → State → Config
  off : Went → Config

-- its state
abbrev pub config_state : Config → State
config_state (at p st s) = s
config_state (off w) = state_of w

-- a value that was worked out goes onto the stack; anything else leaves the code
abbrev pub land : ℕ → List Cell → Got → Config
land p st (got v s) = at p (val v ∷ st) s
land p st (left w) = off w

-- with the value on top. Code that is made from a program always finds one there; 0 is no number that something wrong has
abbrev pub with_top : (Value → List Cell → Config) → State → List Cell → Config
with_top k s [] = off (wrong 0 s)
with_top k s (val v ∷ st) = k v st
with_top k s (ret p d ∷ st) = off (wrong 0 s)
with_top k s (keys ks ∷ st) = off (wrong 0 s)

-- with so many values from the top, the lowest first
abbrev pub with_tops : (List Value → List Cell → Config) → State → ℕ → List Value → List Cell → Config
with_tops k s zero vs st = k vs st
with_tops k s (suc n) vs st = with_top (λ v r. with_tops k s n (v ∷ vs) r) s st

-- with the keys on top
abbrev pub with_keys : (List (List ℕ) → List Cell → Config) → State → List Cell → Config
with_keys k s [] = off (wrong 0 s)
with_keys k s (val v ∷ st) = off (wrong 0 s)
with_keys k s (ret p d ∷ st) = off (wrong 0 s)
with_keys k s (keys ks ∷ st) = k ks st

-- out of the innermost function, with its value; outside of all functions it ends the rules
abbrev pub unwound : List Cell → Value → State → Config
unwound [] v s = off (given v s)
unwound (val u ∷ st) v s = unwound st v s
unwound (ret p d ∷ st) v s = at p (val v ∷ st) (unframed s)
unwound (keys ks ∷ st) v s = unwound st v s

-- what is done with a value that was set and isn't needed
abbrev pub set_then : (State → Config) → Got → Config
set_then k (got v s) = k s
set_then k (left w) = off w

-- the next key, or on from the place q
abbrev pub keyed : List ℕ → ℕ → ℕ → State → List (List ℕ) → List Cell → Config
keyed x q p s [] st = at q st s
keyed x q p s (k ∷ ks) st = set_then (λ r. at (suc p) (keys ks ∷ st) r) (set_var s x (text k))

-- what matches in a place is swapped by v; k is the place's key, if it has one
abbrev pub swap_all : Pattern → Term → Value → Value → State → Got
swap_all x b v k s = then_got (in_place b k s) (λ o r. swap_got b k o v (swapped x v o) r)

-- What an instruction at the place p does.
abbrev pub exec : Instr → ℕ → List Cell → State → Config
exec (note_all d) p st s = at (suc p) st (note (d + held st) s)
exec (note_below d) p st s = at (suc p) st (note (d + held (below_top st)) s)
exec (push_number n) p st s = land (suc p) st (as_got (within (plus n)) s)
exec (push_text b) p st s = at (suc p) (val (text b) ∷ st) s
exec (push_value v) p st s = at (suc p) (val v ∷ st) s
exec (load_variable x) p st s = at (suc p) (val (var_of s x) ∷ st) s
exec load_field p st s = with_top (λ k r. land (suc p) r (field_got s (field_number (number_of k)))) s st
exec (load_item x) p st s = with_top (λ k r. at (suc p) (val (item_of s.items x (as_text k)) ∷ r) s) s st
exec (apply_one k) p st s = with_top (λ v r. land (suc p) r (reckon_one k v s)) s st
exec (apply_two k) p st s = with_top (λ u r. with_top (λ v q. land (suc p) q (reckon k v u s)) s r) s st
exec to_truth p st s = with_top (λ v r. at (suc p) (val (truth (holds v)) ∷ r) s) s st
exec (match_top x) p st s = with_top (λ v r. at (suc p) (val (truth (matches (as_text v) x)) ∷ r) s) s st
exec (has_key x) p st s = with_top (λ v r. at (suc p) (val (truth (any (is_item x (as_text v)) s.items)) ∷ r) s) s st
exec cut_part p st s = with_top (λ w r. with_top (λ u q. with_top (λ v o. at (suc p) (val (text (cut_from (number_of u) (number_of w) (as_text v))) ∷ o) s) s q) s r) s st
exec (split_into x y) p st s =
    with_top (λ v r. at (suc p) (val (plus (length (cut_by y (as_text v)))) ∷ r) (with_items s (numbered 1 x (cut_by y (as_text v)) (without_table x s.items)))) s st
exec (save_variable x) p st s = with_top (λ v r. land (suc p) r (set_var s x v)) s st
exec save_field p st s = with_top (λ k r. with_top (λ v q. land (suc p) q (store_field s v (field_number (number_of k)))) s r) s st
exec (save_item x) p st s = with_top (λ k r. with_top (λ v q. at (suc p) (val v ∷ q) (with_items s (set_item s.items x (as_text k) v))) s r) s st
exec (swap_variable y x) p st s = with_top (λ v r. land (suc p) r (swap_all y (var x) v (text []) s)) s st
exec (swap_field y) p st s = with_top (λ k r. with_top (λ v q. land (suc p) q (swap_all y (field (txt [])) v k s)) s r) s st
exec (swap_item y x) p st s = with_top (λ k r. with_top (λ v q. land (suc p) q (swap_all y (item x (txt [])) v k s)) s r) s st
exec (fail k) p st s = off (wrong k s)
exec (jump q) p st s = at q st s
exec (jump_if q) p st s = with_top (λ v r. pick (holds v) (at q r s) (at (suc p) r s)) s st
exec (jump_unless q) p st s = with_top (λ v r. pick (holds v) (at (suc p) r s) (at q r s)) s st
exec drop_top p st s = with_top (λ v r. at (suc p) r s) s st
exec print_line p st s = at (suc p) st (with_out s (s.line ++ 10 ∷ []))
exec (print_values n) p st s = with_tops (λ vs r. at (suc p) r (with_out s (printed vs))) s n [] st
exec leave_line p st s = off (nexted s)
exec exit_run p st s = with_top (λ v r. off (exit_with (number_of v) s)) s st
exec end_rules p st s = off (went s)
exec (call_function d q xs n) p st s = with_tops (λ vs r. at q (ret (suc p) d ∷ r) (with_frames s (framed xs vs ∷ s.frames))) s n [] st
exec return_empty p st s = unwound st (text []) s
exec return_value p st s = with_top (λ v r. unwound r v s) s st
exec (push_keys y) p st s = at (suc p) (keys (keys_of s.items y) ∷ st) s
exec (next_key x q) p st s = with_keys (λ ks r. keyed x q p s ks r) s st
exec (delete_item x) p st s = with_top (λ v r. at (suc p) r (with_items s (those (λ i. not (is_item x (as_text v) i)) s.items))) s st

-- one step with the code f
abbrev pub step : (ℕ → Instr) → Config → Config
step f (at p st s) = exec (f p) p st s
step f (off w) = off w

-- n steps of any machine
unfoldable pub times : {C : Type 0} → (C → C) → ℕ → C → C
times next zero c = c
times next (suc n) c = times next n (next c)
