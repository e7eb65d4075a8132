-- What a real machine owes, so that the whole promise follows. It works in turns: each turn follows the live run of the program for a step or more,
-- or asks for more, or stops. So many turns make one step of the machine, and what is to be written goes out in rows. What is owed is local: it says
-- something of one turn, from whatever the run has come to.
use Rattle.std.specs.Prelude.{◌≡◌, ℕ, zero, suc, ◌<◌, ◌≤◌, Bool, true, false, ◌⊎◌, List, [], ◌∷◌, ◌++◌, length, ◌≢◌}
use Rattle.language.specs.Text.{pick, none_of}
use Rattle.language.specs.Program.{Program, reads}
use Rattle.language.specs.Meaning.{State, Went, went, nexted, stopped, given, wrong, unfinished, state_of}
use Rattle.language.specs.Run.{Engine, Event, started, bytes, no_more, next, Act, more, write, done, refused, Step, a_row, Steady}
use Rattle.semantics.specs.Lines.{Live, over, waits, follow, live_state, live_out, live_start, buffer, told, Goes, Reached}

-- Within a step the machine may be in states S of its own: its memory with registers beside it, and the row that is being filled. Between steps there
-- is nothing but memory.

-- a turn leaves a state, and goes on; or asks; or stops with an act
pub data Turn (S : Type 0) : Type 0 where
  on : S → Turn S
  asks : S → Turn S
  stops : S → Act → Turn S

-- what the machine is made of
pub record Parts (S : Type 0) : Type 0 where
  pub take_in : List ℕ → Event → S  -- from memory and what is told: a piece, that there is none, or to go on
  pub turn : S → Turn S
  pub ripe : S → Bool  -- so much is to be written that it stops for it
  pub row : S → List ℕ  -- the first of what is to be written, at most 4,096 bytes
  pub save : S → List ℕ  -- memory once this row is out
  pub turns : ℕ  -- how many turns a step makes, after the first

-- why a step's turns came to an end
pub data Halt (S : Type 0) : Type 0 where
  tired : S → Halt S
  asked : S → Halt S
  halted : S → Act → Halt S

module _ {S : Type 0} (a : Parts S) where
  -- what comes of a turn, where `go` is what comes of the turns that are left
  abbrev pub turned : (S → Halt S) → Turn S → Halt S
  turned go (on s) = go s
  turned go (asks s) = asked s
  turned go (stops s c) = halted s c

  -- up to n turns
  unfoldable pub loop : ℕ → S → Halt S
  loop zero s = tired s
  loop (suc n) s = pick (a.ripe s) (tired s) (turned (λ s₁. loop n s₁) (a.turn s))

  -- it asks or stops only with nothing left to be written
  abbrev pub writes_or : Bool → Act → S → Step
  writes_or true c s = record { memory = a.save s; act = c }
  writes_or false c s = record { memory = a.save s; act = write (a.row s) }

  abbrev pub finish : Halt S → Step
  finish (tired s) = writes_or false more s
  finish (asked s) = writes_or (none_of (a.row s)) more s
  finish (halted s c) = writes_or (none_of (a.row s)) c s

  -- one step: take in what is told, then turns
  abbrev pub goes_by : List ℕ → Event → Step
  goes_by m ev = finish (loop (suc a.turns) (a.take_in m ev))

-- which end a number tells
abbrev pub DoneWith : ℕ → Went → Type 0
DoneWith j (went s) = j ≡ 0
DoneWith j (nexted s) = Unit {0}
DoneWith j (stopped k s) = j ≡ k
DoneWith j (given v s) = Unit {0}
DoneWith j (wrong k s) = ⊥
DoneWith j (unfinished s) = Unit {0}

-- and which fault
abbrev pub RefusedWith : ℕ → Went → Type 0
RefusedWith j (went s) = ⊥
RefusedWith j (nexted s) = Unit {0}
RefusedWith j (stopped k s) = ⊥
RefusedWith j (given v s) = Unit {0}
RefusedWith j (wrong k s) = j ≡ k
RefusedWith j (unfinished s) = Unit {0}

module _ (p : Program) where
  -- the program's run comes to x, with no more than 2^44 bytes until then
  pub record Comes (x : Live) : Type 0 where
    pub so_far : List ℕ
    pub made : ℕ
    pub reached : Reached p so_far made x
    pub few : length so_far ≤ 17592186044416

  -- the run waits, and w is all that it wrote
  abbrev pub Waiting : Live → List ℕ → Type 0
  Waiting x w = (s : State) × (follow p x ≡ waits s) × (w ≡ live_out x)

  -- the run ends, so that Q holds of how
  pub record Over (x : Live) (w : List ℕ) (Q : Went → Type 0) : Type 0 where
    pub k : ℕ
    pub v : Went
    pub z : Bool
    pub goes : Goes p k x (over v z)
    pub all : w ≡ (state_of v).out
    pub fits : Q v

  -- more is to be held than there may be, and nothing is written until then
  pub record Full (x : Live) (w : List ℕ) : Type 0 where
    pub k : ℕ
    pub y : Live
    pub goes : Goes p k x y
    pub all : w ≡ live_out y
    pub heavy : 262144 < (live_state y).heavy

  -- a line that has not ended is too long already: it may be refused at once
  pub record Long (x : Live) (w : List ℕ) : Type 0 where
    pub k : ℕ
    pub y : Live
    pub goes : Goes p k x y
    pub waiting : Waiting y w
    pub long : 65536 ≤ length (buffer y)

  -- when it may stop
  abbrev pub Stopping : Live → List ℕ → Act → Type 0
  Stopping x w more = ⊥
  Stopping x w (write bs) = ⊥
  Stopping x w (done j) = Over x w (DoneWith j)
  Stopping x w (refused j) = Over x w (RefusedWith j) ⊎ (((j ≡ 8) × Full x w) ⊎ ((j ≡ 7) × Long x w))

  -- `Rel m x u`: memory m stands for the run at x, and u of what it wrote has still to go out; `Mid s x u` says the same of a state within a step
  module _ {S : Type 0} (a : Parts S) (Rel : List ℕ → Live → List ℕ → Type 0) (Mid : S → Live → List ℕ → Type 0) where
    -- each turn is right, and so is each row, and each time something is taken in
    pub record Turning : Type 0 where
      pub on_right : (s s₁ : S) (u : List ℕ) (x : Live) → Mid s x u → Comes x → a.turn s ≡ on s₁ →
          (k : ℕ) × (y : Live) × (new : List ℕ) × Goes p (suc k) x y × (live_out y ≡ live_out x ++ new) × Mid s₁ y (u ++ new)
      pub asks_right : (s s₁ : S) (u : List ℕ) (x : Live) → Mid s x u → Comes x → a.turn s ≡ asks s₁ → Mid s₁ x u × ((r : State) × (follow p x ≡ waits r))
      pub stops_right : (s s₁ : S) (u : List ℕ) (x : Live) (c : Act) → Mid s x u → Comes x → a.turn s ≡ stops s₁ c → Mid s₁ x u × (u ≡ [] → Stopping x (live_out x) c)
      pub ripe_right : (s : S) (u : List ℕ) (x : Live) → Mid s x u → a.ripe s ≡ true → a.row s ≢ []
      pub row_right : (s : S) (u : List ℕ) (x : Live) → Mid s x u →
          (u₁ : List ℕ) × (u ≡ a.row s ++ u₁) × Rel (a.save s) x u₁ × (a_row (a.row s) ≡ true) × (a.row s ≡ [] → u ≡ [])
      pub bytes_right : (m q : List ℕ) (x : Live) (r : State) → Rel m x [] → follow p x ≡ waits r → a_row q ≡ true → Comes x → Comes (told (bytes q) x) →
          Mid (a.take_in m (bytes q)) (told (bytes q) x) []
      pub no_more_right : (m : List ℕ) (x : Live) (r : State) → Rel m x [] → follow p x ≡ waits r → Comes x → Mid (a.take_in m no_more) (told no_more x) []
      pub next_right : (m u : List ℕ) (x : Live) → Rel m x u → Mid (a.take_in m next) x u

-- What is owed of an engine for the programs that are known. `Rel p m x u`: memory m stands for the run of p at x, and u of what it wrote has still to
-- go out; `Mid` likewise for states within a step. Which relations these are, is up to the engine.
pub record Machine (known : Program → Bool) (e : Engine) (S : Type 0) (Rel : Program → List ℕ → Live → List ℕ → Type 0) (Mid : Program → S → Live → List ℕ → Type 0) : Type 0 where
  pub steady : Steady e
  pub no_program : (t : List ℕ) → a_row t ≡ true → none_of (reads t) ≡ true → (e.step e.start (started t)).act ≡ refused 1
  pub unknown : (t : List ℕ) (p : Program) → a_row t ≡ true → reads t ≡ p ∷ [] → known p ≡ false → (e.step e.start (started t)).act ≡ refused 2
  pub parts : Parts S
  pub at_bytes : (m q : List ℕ) → e.step m (bytes q) ≡ goes_by parts m (bytes q)
  pub at_no_more : (m : List ℕ) → e.step m no_more ≡ goes_by parts m no_more
  pub at_next : (m : List ℕ) → e.step m next ≡ goes_by parts m next
  -- a program that is known is put into memory, and nothing is written yet
  pub starts : (t : List ℕ) (p : Program) → a_row t ≡ true → reads t ≡ p ∷ [] → known p ≡ true →
      ((e.step e.start (started t)).act ≡ write []) × Rel p (e.step e.start (started t)).memory (live_start p) []
  pub turning : (t : List ℕ) (p : Program) → a_row t ≡ true → reads t ≡ p ∷ [] → known p ≡ true → Turning p parts (Rel p) (Mid p)
