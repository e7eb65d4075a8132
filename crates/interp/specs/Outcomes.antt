-- What comes of a turn: another turn, an ask, the end, or a refusal with its number. In the code a refusal is an error with a name, and its number is
-- what is told. Assumes nothing: these are definitions.
use Rattle.std.specs.Prelude.{ℕ, Result, Ok, Err}
use Rattle.interp.specs.declared.Turn as Code
use Rattle.interp.specs.declared.Turn.TheVariants as Kind
use Rattle.interp.specs.declared.Refusal.{Refusal}
use Rattle.interp.specs.declared.Refusal.TheVariants.{Unknown, OutOfBounds, ByZero, TooLong, NoRoom, NoSuchNumber, Stated}

pub data Turn : Type 0 where
  On : Turn  -- another turn can follow
  Ask : Turn  -- nothing can be done before more has come
  Done : ℕ → Turn  -- the run is over, with this number
  Refuse : ℕ → Turn  -- the run is refused, with this number

-- the number of a refusal: an operation that this machine does not have, a number out of bounds, a division by 0, a text or a line that is too long, no
-- room, a number that no field or exit has, and what the code states
abbrev pub refusal_number : Refusal → ℕ
refusal_number Unknown = 2
refusal_number OutOfBounds = 3
refusal_number ByZero = 4
refusal_number TooLong = 7
refusal_number NoRoom = 8
refusal_number NoSuchNumber = 9
refusal_number (Stated k) = k

-- what came of a turn in the code
abbrev pub came : Result Code.Turn Refusal → Turn
came (Ok Kind.On) = On
came (Ok Kind.Ask) = Ask
came (Ok (Kind.Done k)) = Done k
came (Err e) = Refuse (refusal_number e)
