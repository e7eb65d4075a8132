-- What is true of a program's code, and of everything that its run comes to.
use Rattle.std.specs.Prelude.{◌≡◌, ℕ, zero, suc, ◌+◌, ◌-◌, ◌<◌, ◌≤◌, Bool, true, ◌⊎◌, List, [], ◌∷◌, length, take, drop, nat_lt}
use Rattle.language.specs.Text.{pick, has, every, each, limit, Value, plus, minus, text, Pattern, blank, fields_from, joined}
use Rattle.language.specs.Program.{Term, Terms, num, txt, var, item, field, un, bin, like, there, put_in, call, part, split, swap, no_terms, term_and, Deed, Deeds, value, print, when, while, each_key, next_line, exit, forget, give, no_deeds, deed_and, Fun, Program}
use Rattle.language.specs.Meaning.{State, Bind, Went, went, stopped, wrong, unfinished, state_of, settled, fun_of}
use Rattle.semantics.specs.Stack.{Cell, val, ret, keys, Instr, note_all, note_below, push_number, push_text, push_value, load_variable, load_field, load_item, apply_one, apply_two, to_truth, match_top, has_key, cut_part, split_into, save_variable, save_field, save_item, swap_variable, swap_field, swap_item, fail, jump, jump_if, jump_unless, drop_top, print_line, print_values, leave_line, exit_run, end_rules, call_function, return_empty, return_value, push_keys, next_key, delete_item, at, off}
use Rattle.semantics.specs.Code.{code, slot_of}
use Rattle.semantics.specs.Lines.{Stage, Live, live, over}

-- of every member of a list
pub data All {A : Type 0} (P : A → Type 0) : List A → Type 0 where
  all_none : All P []
  all_more : {x : A} {xs : List A} → P x → All P xs → All P (x ∷ xs)

-- ENDS. The numbers with which something can be wrong: 1 and 2 are said of programs, and 8 is said for want of room, which the meaning never says.
abbrev pub faults : List ℕ
faults = 3 ∷ 4 ∷ 5 ∷ 6 ∷ 7 ∷ 9 ∷ []

-- such a number
abbrev pub Fault : ℕ → Type 0
Fault k = has faults k ≡ true

-- How a run can end, if it isn't cut off: with the last line, with exit and a number below 256, or with a fault.
pub data Proper : Went → Type 0 where
  all_done : {s : State} → Proper (went s)
  exited : {k : ℕ} {s : State} → k < 256 → Proper (stopped k s)
  faulted : {k : ℕ} {s : State} → Fault k → Proper (wrong k s)
  cut_off : {s : State} → Proper (unfinished s)

-- VALUES. A text has at most 65,535 bytes, each below 256; a number is at least -2^62 and below 2^62.
pub record SoundText (b : List ℕ) : Type 0 where
  pub small : length b < 65536
  pub in_bytes : every (λ c. nat_lt c 256) b ≡ true

-- a sound value
pub data Sound : Value → Type 0 where
  sound_plus : {n : ℕ} → n < limit → Sound (plus n)
  sound_minus : {n : ℕ} → n < limit → Sound (minus n)
  sound_text : {b : List ℕ} → SoundText b → Sound (text b)

-- PROGRAMS whose texts are sound: those that are read from a text of at most 4,096 bytes.
unfoldable mutual
  pub SoundTerm : Term → Type 0
  SoundTerm (num n) = Unit {0}
  SoundTerm (txt b) = SoundText b
  SoundTerm (var x) = Unit {0}
  SoundTerm (item x k) = SoundTerm k
  SoundTerm (field k) = SoundTerm k
  SoundTerm (un k a) = SoundTerm a
  SoundTerm (bin k a b) = SoundTerm a × SoundTerm b
  SoundTerm (like a p) = SoundTerm a
  SoundTerm (there a x) = SoundTerm a
  SoundTerm (put_in a b) = SoundTerm a × SoundTerm b
  SoundTerm (call x ts) = SoundTerms ts
  SoundTerm (part a b c) = SoundTerm a × SoundTerm b × SoundTerm c
  SoundTerm (split a x p) = SoundTerm a
  SoundTerm (swap p a b) = SoundTerm a × SoundTerm b

  pub SoundTerms : Terms → Type 0
  SoundTerms no_terms = Unit {0}
  SoundTerms (term_and t ts) = SoundTerm t × SoundTerms ts

unfoldable mutual
  pub SoundDeed : Deed → Type 0
  SoundDeed (value t) = SoundTerm t
  SoundDeed (print ts) = SoundTerms ts
  SoundDeed (when c a b) = SoundTerm c × SoundDeeds a × SoundDeeds b
  SoundDeed (while c a) = SoundTerm c × SoundDeeds a
  SoundDeed (each_key x y a) = SoundDeeds a
  SoundDeed next_line = Unit {0}
  SoundDeed (exit t) = SoundTerm t
  SoundDeed (forget x t) = SoundTerm t
  SoundDeed (give t) = SoundTerm t

  pub SoundDeeds : Deeds → Type 0
  SoundDeeds no_deeds = Unit {0}
  SoundDeeds (deed_and d ds) = SoundDeed d × SoundDeeds ds

-- in its rules and in its functions
pub record SoundProgram (p : Program) : Type 0 where
  pub in_rules : All (λ r. SoundTerm r.test × SoundDeeds r.deeds) p.rules
  pub in_functions : All (λ f. SoundDeeds f.deeds) p.funs

-- CODE. What stands behind an instruction. One that leaves a value on the stack, by itself or when a function that it calls returns, is followed by a note
-- of all that is below this value. Keys are gone over at once, and the note that each turn begins with counts them. A truth value takes no more than a
-- cell, and is noted where the jump behind it leads.
abbrev pub Noted : Instr → Type 0
Noted j = (d : ℕ) × (j ≡ note_below d)

-- a call leads to the slot of a function that takes these names
pub record Callable (fs : List Fun) (q : ℕ) (xs : List (List ℕ)) : Type 0 where
  pub name : List ℕ
  pub fun : Fun
  pub others : List Fun
  pub found : fun_of fs name ≡ fun ∷ others
  pub slot : q ≡ slot_of fs name
  pub params : xs ≡ fun.params

-- j may stand behind the instruction
abbrev pub Followed : List Fun → Instr → Instr → Type 0
Followed fs (note_all d) j = Unit {0}
Followed fs (note_below d) j = Unit {0}
Followed fs (push_number n) j = Noted j
Followed fs (push_text b) j = SoundText b × Noted j
Followed fs (push_value v) j = Sound v × Noted j
Followed fs (load_variable x) j = Noted j
Followed fs load_field j = Noted j
Followed fs (load_item x) j = Noted j
Followed fs (apply_one k) j = Noted j
Followed fs (apply_two k) j = Noted j
Followed fs to_truth j = (q : ℕ) × (j ≡ jump q)
Followed fs (match_top y) j = Noted j
Followed fs (has_key x) j = Noted j
Followed fs cut_part j = Noted j
Followed fs (split_into x y) j = Noted j
Followed fs (save_variable x) j = Noted j
Followed fs save_field j = Noted j
Followed fs (save_item x) j = Noted j
Followed fs (swap_variable y x) j = Noted j
Followed fs (swap_field y) j = Noted j
Followed fs (swap_item y x) j = Noted j
Followed fs (fail k) j = Unit {0}
Followed fs (jump q) j = Unit {0}
Followed fs (jump_if q) j = Unit {0}
Followed fs (jump_unless q) j = Unit {0}
Followed fs drop_top j = Unit {0}
Followed fs print_line j = Unit {0}
Followed fs (print_values n) j = Unit {0}
Followed fs leave_line j = Unit {0}
Followed fs exit_run j = Unit {0}
Followed fs end_rules j = Unit {0}
Followed fs (call_function d q xs n) j = Callable fs q xs × Noted j
Followed fs return_empty j = Unit {0}
Followed fs return_value j = Unit {0}
Followed fs (push_keys y) j = (x : List ℕ) × (q : ℕ) × (j ≡ next_key x q)
Followed fs (next_key x q) j = (d : ℕ) × (j ≡ note_all d)
Followed fs (delete_item x) j = Unit {0}

-- how many values an instruction takes from the stack
abbrev pub takes : Instr → ℕ
takes (note_all d) = 0
takes (note_below d) = 0
takes (push_number n) = 0
takes (push_text b) = 0
takes (push_value v) = 0
takes (load_variable x) = 0
takes load_field = 1
takes (load_item x) = 1
takes (apply_one k) = 1
takes (apply_two k) = 2
takes to_truth = 1
takes (match_top y) = 1
takes (has_key x) = 1
takes cut_part = 3
takes (split_into x y) = 1
takes (save_variable x) = 1
takes save_field = 2
takes (save_item x) = 2
takes (swap_variable y x) = 1
takes (swap_field y) = 2
takes (swap_item y x) = 2
takes (fail k) = 0
takes (jump q) = 0
takes (jump_if q) = 1
takes (jump_unless q) = 1
takes drop_top = 1
takes print_line = 0
takes (print_values n) = n
takes leave_line = 0
takes exit_run = 1
takes end_rules = 0
takes (call_function d q xs n) = n
takes return_empty = 0
takes return_value = 1
takes (push_keys y) = 0
takes (next_key x q) = 0
takes (delete_item x) = 1

-- so many values are on top of a stack
abbrev pub Values : ℕ → List Cell → Type 0
Values zero st = Unit {0}
Values (suc n) [] = ⊥
Values (suc n) (val v ∷ st) = Values n st
Values (suc n) (ret q d ∷ st) = ⊥
Values (suc n) (keys ks ∷ st) = ⊥

-- STATES of a program's run. A name that the code sets:
pub data Sets (p : Program) (x : List ℕ) : Type 0 where
  by_save : (i : ℕ) → code p i ≡ save_variable x → Sets p x
  by_swap : (i : ℕ) (y : Pattern) → code p i ≡ swap_variable y x → Sets p x
  by_loop : (i q : ℕ) → code p i ≡ next_key x q → Sets p x

-- and a table whose items it sets
pub data Fills (p : Program) (x : List ℕ) : Type 0 where
  by_save_item : (i : ℕ) → code p i ≡ save_item x → Fills p x
  by_swap_item : (i : ℕ) (y : Pattern) → code p i ≡ swap_item y x → Fills p x
  by_split : (i : ℕ) (y : Pattern) → code p i ≡ split_into x y → Fills p x

-- what a function that is being worked out holds: the names that a call gives it
pub record SoundFrame (p : Program) (f : List Bind) : Type 0 where
  pub worths : All (λ b. Sound b.worth) f
  pub i : ℕ
  pub d : ℕ
  pub q : ℕ
  pub n : ℕ
  pub is_called : code p i ≡ call_function d q (each (λ b. b.name) f) n

-- Variables are names that the code sets, items stand in tables that it fills, all texts and numbers are sound. The fields are those of the line, or the
-- line is the fields joined.
pub record SoundState (p : Program) (s : State) : Type 0 where
  pub vars_sound : All (λ b. Sound b.worth × Sets p b.name) s.vars
  pub items_sound : All (λ i. SoundText i.key × Sound i.worth × Fills p i.table) s.items
  pub line_sound : SoundText s.line
  pub fields_of : (s.parts ≡ fields_from [] s.line) ⊎ (s.line ≡ joined s.parts)
  pub parts_sound : All SoundText s.parts
  pub parts_few : length s.parts ≤ suc (length s.line)
  pub frames_sound : All (SoundFrame p) s.frames

-- A cell: a sound value; the place behind a call; sound keys.
pub data SoundCell (p : Program) : Cell → Type 0 where
  cell_value : {v : Value} → Sound v → SoundCell p (val v)
  cell_return : {d : ℕ} (i q : ℕ) (xs : List (List ℕ)) (n : ℕ) → code p i ≡ call_function d q xs n → SoundCell p (ret (suc i) d)
  cell_keys : {ks : List (List ℕ)} → All SoundText ks → SoundCell p (keys ks)

-- how many functions a stack returns from
abbrev pub returns : List Cell → ℕ
returns [] = 0
returns (val v ∷ st) = returns st
returns (ret q d ∷ st) = suc (returns st)
returns (keys ks ∷ st) = returns st

-- ALL THAT A RUN COMES TO. At a place of the code the stack is sound, has what the instruction takes, and returns from as many functions as are being worked
-- out. Off the code and at the end it stopped with a proper number.
pub data SoundLive (p : Program) : Live → Type 0 where
  live_at : {g : Stage} {q : ℕ} {st : List Cell} {s : State} {b : List ℕ} {z : Bool} → SoundState p s → All (SoundCell p) st → returns st ≡ length s.frames →
      Values (takes (code p q)) st → ((x : List ℕ) (r : ℕ) → code p q ≡ next_key x r → (ks : List (List ℕ)) × (rest : List Cell) × (st ≡ keys ks ∷ rest)) →
      every (λ c. nat_lt c 256) b ≡ true → SoundLive p (live g (at q st s) b z)
  live_off : {g : Stage} {w : Went} {b : List ℕ} {z : Bool} → SoundState p (state_of w) → Proper (settled w) → every (λ c. nat_lt c 256) b ≡ true → SoundLive p (live g (off w) b z)
  live_over : {w : Went} {z : Bool} → SoundState p (state_of w) → Proper w → SoundLive p (over w z)

-- FIELDS AS PLACES IN THE LINE: from where, and how many bytes.
abbrev pub Spot : Type 0
Spot = ℕ × ℕ

-- what stands there
abbrev pub cut : List ℕ → Spot → List ℕ
cut l s = take s.1 (drop s.0 l)

-- those of a line: i bytes are behind, of which the last n are of a field
unfoldable pub spots_from : ℕ → ℕ → List ℕ → List Spot
spots_from i zero [] = []
spots_from i (suc n) [] = (i - suc n, suc n) ∷ []
spots_from i zero (c ∷ cs) = pick (blank c) (spots_from (suc i) 0 cs) (spots_from (suc i) 1 cs)
spots_from i (suc n) (c ∷ cs) = pick (blank c) ((i - suc n, suc n) ∷ spots_from (suc i) 0 cs) (spots_from (suc i) (suc (suc n)) cs)

-- and of fields that are joined, the first of which begins at a
unfoldable pub spots_joined : ℕ → List (List ℕ) → List Spot
spots_joined a [] = []
spots_joined a (f ∷ fs) = (a, length f) ∷ spots_joined (suc (a + length f)) fs
