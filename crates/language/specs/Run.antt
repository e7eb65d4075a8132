-- A machine that is given a program and then lines in pieces, and writes; whatever it is like inside. Assumes nothing: these are definitions.
-- The page first says what passes between a machine and its world, then how a run goes, then what is asked of a machine's memory.
-- Words: Event = what the machine is told; Act = what it does in answer; Engine = a machine as a step function on its memory, a list of numbers;
-- piece = a list of up to 4,096 bytes of input, cut anywhere, perhaps empty; row = up to 4,096 bytes; Ran = a record of a run so far.
-- A run alternates: the machine is told an event and does one act, and this act decides which event comes next.
-- A fault is an act that no machine may do: it ends the run.
use Rattle.std.specs.Prelude.{◌≡◌, ℕ, zero, suc, ◌+◌, ◌≤◌, Bool, true, false, ◌&&◌, ltb, List, [], ◌∷◌, ◌++◌, length, nat_eq, nat_le, nat_lt}
use Rattle.language.specs.Text.{pick, every}

-- what the machine is told
pub data Event : Type 0 where
  started : List ℕ → Event  -- the text of a program; the memory is as at the start
  bytes : List ℕ → Event  -- the piece that was asked for
  no_more : Event  -- a piece was asked for, but there is none left
  next : Event  -- what was to be written is written: go on

-- what the machine does
pub data Act : Type 0 where
  more : Act  -- asks for a piece
  write : List ℕ → Act  -- writes up to 4,096 bytes
  done : ℕ → Act  -- ends, with a number below 256
  refused : ℕ → Act  -- ends as refused, with a number from 1 to 99,999

-- what one step comes to: the memory afterwards, and the act
pub record Step : Type 0 where
  pub memory : List ℕ
  pub act : Act

-- a machine: its memory at the start, and its step, from the memory and what it is told
pub record Engine : Type 0 where
  pub start : List ℕ
  pub step : List ℕ → Event → Step

-- how a run went, up to some number of acts
pub record Ran : Type 0 where
  pub written : List ℕ  -- all bytes that were written, in order
  pub given : ℕ  -- how many pieces the machine was given
  pub asks : Bool  -- the last act was to ask for a piece, which isn't given yet
  -- 10000000 still running; 9999999 a fault; 1000 + k refused with k; below 256 done with this number
  pub end : ℕ

-- a record of a run, from its four fields in order
abbrev pub ran : List ℕ → ℕ → Bool → ℕ → Ran
ran w g a e = record { written = w; given = g; asks = a; end = e }

-- at most 4,096 numbers, each a byte (below 256)
abbrev pub a_row : List ℕ → Bool
a_row bs = nat_le (length bs) 4096 && every (λ b. ltb b 256) bs

-- what the machine is told when it asks: the first of the pieces left, or that there is none
abbrev pub first_piece : List (List ℕ) → Event
first_piece [] = no_more
first_piece (p ∷ ps) = bytes p

-- the pieces left after that
abbrev pub other_pieces : List (List ℕ) → List (List ℕ)
other_pieces [] = []
other_pieces (p ∷ ps) = ps

-- what comes of an act: go takes the run on from a memory, an event, the pieces left, what was written, how many were given, and whether it asks;
-- an act to write what isn't a row, or to end with a number out of bounds, is a fault
unfoldable pub one_act : (List ℕ → Event → List (List ℕ) → List ℕ → ℕ → Bool → Ran) → List (List ℕ) → List ℕ → ℕ → List ℕ → Act → Ran
one_act go ps w g m more = go m (first_piece ps) (other_pieces ps) w g true
one_act go ps w g m (write bs) = pick (a_row bs) (go m next ps (w ++ bs) g false) (ran w g false 9999999)
one_act go ps w g m (done k) = ran w g false (pick (nat_lt k 256) k 9999999)
one_act go ps w g m (refused k) = ran w g false (pick (nat_le 1 k && nat_lt k 100000) (1000 + k) 9999999)

-- how many pieces an event gives: 1 or 0
abbrev pub came : Event → ℕ
came (started t) = 0
came (bytes p) = 1
came no_more = 0
came next = 0

-- the run for n more acts: of machine e with memory m, told ev, with the pieces ps left, w written, g pieces given, and a whether it asked;
-- a piece counts as given from the step on that is told it, not yet when the machine asks for it
unfoldable pub runs : ℕ → Engine → List ℕ → Event → List (List ℕ) → List ℕ → ℕ → Bool → Ran
runs zero e m ev ps w g a = ran w g a 10000000
runs (suc n) e m ev ps w g a =
    one_act (λ m₁ ev₁ ps₁ w₁ g₁ a₁. runs n e m₁ ev₁ ps₁ w₁ g₁ a₁) ps w (g + pick a (came ev) 0) (e.step m ev).memory (e.step m ev).act

-- a run of n acts from the start: a machine, the text of a program, and the list in pieces
abbrev pub run_of : ℕ → Engine → List ℕ → List (List ℕ) → Ran
run_of n e text ps = runs n e e.start (started text) ps [] 0 false

-- all numbers are below 2^64
unfoldable pub all_small : List ℕ → Bool
all_small ms = every (λ m. ltb m 18446744073709551616) ms

-- what is asked of a machine's memory, of any memory and event, not only those of a run
unfoldable pub Steady : Engine → Type 0
Steady e =
    -- at the start at most 262,144 numbers, all of them 0
    (length e.start ≤ 262144) × (every (λ m. nat_eq m 0) e.start ≡ true)
    -- no step changes how many numbers there are; and if all are below 2^64 before a step, they are afterwards
    × ((m : List ℕ) (ev : Event) → (length (e.step m ev).memory ≡ length m) × (all_small m ≡ true → all_small (e.step m ev).memory ≡ true))
