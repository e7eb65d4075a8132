-- What the world outside does with the ends of files, and what is said at the end of a run. Assumes nothing: these are definitions.
use Rattle.std.specs.Prelude.{◌≡◌, ℕ, zero, suc, ◌≤◌, Bool, true, false, not, List, [], ◌∷◌, ◌++◌, codes, decimal, ◌==◌, length, slice_index, Option, None, Some, Result, Ok, Err}
use Rattle.machine.specs.declared.drive.Failure.{Failure}
use Rattle.machine.specs.declared.drive.Failure.TheVariants.{Refused, TooLong, Broken, Endless, NoMemory}
use Rattle.console.specs.declared.Trouble.{Trouble}
use Rattle.console.specs.declared.Trouble.TheVariants.{Opening, Reading, Writing}

-- a piece of at most so many bytes
abbrev pub Few : {E : Type 0} → Result (Option ℕ) E → ℕ → Type 0
Few (Ok (Some n)) k = n ≤ k
Few (Ok None) k = Unit {0}
Few (Err e) k = Unit {0}

-- whether a line is left open once these bytes have come: their last byte tells, and without bytes it is as it was
abbrev pub left_open : Bool → List ℕ → ℕ → Bool
left_open before into zero = before
left_open before into (suc n) = not (slice_index into n == 10)

-- the end of a file: a line that was left open is ended by byte 10, as a piece of its own
abbrev pub Closes : Bool → List ℕ → Option ℕ → List ℕ → Bool → Type 0
Closes false into r into₁ still = (r ≡ Some 0) × (into₁ ≡ into) × (still ≡ false)
Closes true [] r into₁ still = (r ≡ Some 0) × (into₁ ≡ []) × (still ≡ true)
Closes true (b ∷ bs) r into₁ still = (r ≡ Some 1) × (into₁ ≡ 10 ∷ bs) × (still ≡ false)

-- what failed outside
abbrev pub failure : Trouble → List ℕ
failure Opening = codes "failed: opening"
failure Reading = codes "failed: reading"
failure Writing = codes "failed: writing"

-- what is said at the end: nothing, if the run is done with 0; a text that is too long for a program is none, 1
abbrev pub said : Result ℕ (Failure Trouble) → List ℕ
said (Ok zero) = []
said (Ok (suc k)) = codes "done " ++ decimal (suc k)
said (Err (Refused k)) = codes "refused " ++ decimal k
said (Err TooLong) = codes "refused 1"
said (Err (Broken t)) = failure t
said (Err Endless) = codes "failed: no end"
said (Err NoMemory) = codes "failed: no memory"

-- whether that is nothing
abbrev pub silent : Result ℕ (Failure Trouble) → Bool
silent e = length (said e) == 0
