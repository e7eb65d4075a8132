-- The machine itself, and how one step of it is told to the world outside: over a kind and some bytes, or over an enum of events. Assumes nothing:
-- these are definitions.
use Rattle.std.specs.Prelude.{◌≡◌, ℕ, ◌≤◌, Bool, true, false, ◌&&◌, List, [], ◌++◌, length, drop, replicate, ◌==◌, nat_le, Option, None, Some}
use Rattle.language.specs.Text.{pick}
use Rattle.language.specs.Run
use Rattle.language.specs.Run.{Engine, started, bytes, no_more, next, Act, more, write, done, refused, Step}
use Rattle.machine.specs.declared.Told.{Told}
use Rattle.machine.specs.declared.Told.TheVariants.{More, Write, Done, No}
use Rattle.machine.specs.declared.Event.{Event}
use Rattle.machine.specs.declared.Event.TheVariants.{Program, Piece, NoMore, Next}

-- THE MACHINE ITSELF: what it starts from, and what a step makes of its memory and of what it is told. As yet it knows no program: it refuses
-- everything with 2 and leaves its memory alone.
unfoldable pub own : Engine
own = record { start = replicate 262144 0; step = λ m ev. record { memory = m; act = refused 2 } }

-- what the world tells is a kind and some bytes: 0 a program, 1 a piece, 2 no more, 3 go on
unfoldable pub event_of : ℕ → List ℕ → Run.Event
event_of k bs = pick (k == 0) (started bs) (pick (k == 1) (bytes bs) (pick (k == 2) no_more next))

-- how an act is told: which answer, and what then stands in the row that was lent; only a write changes that, at its front
unfoldable pub ActTold : Act → Told → (out out₁ : List ℕ) → Type 0
ActTold more r out out₁ = (r ≡ More) × (out₁ ≡ out)
ActTold (write bs) r out out₁ = (r ≡ Write (length bs)) × (out₁ ≡ bs ++ drop (length bs) out)
ActTold (done k) r out out₁ = (r ≡ Done k) × (out₁ ≡ out)
ActTold (refused k) r out out₁ = (r ≡ No k) × (out₁ ≡ out)

-- one step: for memories of the machine's own length and a lent row of 4,096 bytes; for others number 0 is told and nothing is changed
unfoldable pub StepSays : (memory : List ℕ) (kind : ℕ) (piece out : List ℕ) → Bool → Told → (memory₁ out₁ : List ℕ) → Type 0
StepSays memory kind piece out true r memory₁ out₁ =
    (memory₁ ≡ (own.step memory (event_of kind piece)).memory) × ActTold (own.step memory (event_of kind piece)).act r out out₁
StepSays memory kind piece out false r memory₁ out₁ = (r ≡ No 0) × (memory₁ ≡ memory) × (out₁ ≡ out)

-- what may be told: memory of the machine's own length, a kind from 0 to 3, a piece of at most 4,096 bytes, a row of at least as many
unfoldable pub step_fits : (memory : List ℕ) (kind : ℕ) (piece out : List ℕ) → Bool
step_fits memory kind piece out = length memory == length own.start && (nat_le kind 3 && (nat_le (length piece) 4096 && nat_le 4096 (length out)))

-- an event of the code is one of the specification's
abbrev pub told_of : Event → Run.Event
told_of (Program t) = started t.now
told_of (Piece p) = bytes p.now
told_of NoMore = no_more
told_of Next = next

-- the bytes that come with an event
abbrev pub bytes_of : Event → List ℕ
bytes_of (Program t) = t.now
bytes_of (Piece p) = p.now
bytes_of NoMore = []
bytes_of Next = []

-- the same step, over an event
unfoldable pub TellSays : (memory : List ℕ) (event : Run.Event) (out : List ℕ) → Bool → Told → (memory₁ out₁ : List ℕ) → Type 0
TellSays memory event out true r memory₁ out₁ = (memory₁ ≡ (own.step memory event).memory) × ActTold (own.step memory event).act r out out₁
TellSays memory event out false r memory₁ out₁ = (r ≡ No 0) × (memory₁ ≡ memory) × (out₁ ≡ out)

unfoldable pub tell_fits : (memory piece out : List ℕ) → Bool
tell_fits memory piece out = length memory == length own.start && (nat_le (length piece) 4096 && nat_le 4096 (length out))

-- the same by lengths: of memory, of what comes, of a row
abbrev pub lengths_fit : (memory piece out : ℕ) → Bool
lengths_fit memory piece out = memory == 262144 && (nat_le piece 4096 && nat_le 4096 out)

-- a kind that there is, and a piece that isn't too long
abbrev pub may_tell : (kind piece : ℕ) → Bool
may_tell kind piece = nat_le kind 3 && nat_le piece 4096

-- the event of a kind with its bytes, just where it may be told
abbrev pub MayTell : (kind : ℕ) (piece : List ℕ) → Option Event → Type 0
MayTell kind piece None = may_tell kind (length piece) ≡ false
MayTell kind piece (Some e) = (may_tell kind (length piece) ≡ true) × (told_of e ≡ event_of kind piece) × (length (bytes_of e) ≤ length piece)

-- an answer as two numbers, for C: which act (0 ask, 1 write, 2 done, 3 refused), and its number; an ask has none, and 0 stands for it
abbrev pub act_number : Told → ℕ
act_number More = 0
act_number (Write n) = 1
act_number (Done k) = 2
act_number (No k) = 3

abbrev pub told_number : Told → ℕ
told_number More = 0
told_number (Write n) = n
told_number (Done k) = k
told_number (No k) = k
