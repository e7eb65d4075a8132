-- What one step of the code owes. Assumes nothing: these are definitions; the law is proved.
use Rattle.std.specs.Prelude.{◌≡◌, ℕ, ◌≤◌, true, List, ◌++◌, length, take, drop, nat_lt, Result, Ok, Err}
use Rattle.language.specs.Text.{pick}
use Rattle.language.specs.Run
use Rattle.language.specs.Run.{bytes, no_more, next, Act, more, write, done, refused, all_small}
use Rattle.semantics.specs.Engine.{goes_by}
use Rattle.regions.specs.Parts.{parts}
use Rattle.interp.specs.declared.Refusal.{Refusal}
use Rattle.interp.specs.Outcomes.{Turn, On, Ask as Asks, Done as Ends, Refuse as Refuses, refusal_number}
use Rattle.interp.specs.declared.registers.Registers.{Registers}
use Rattle.engine.specs.declared.Event.{Event}
use Rattle.engine.specs.declared.Event.TheVariants.{Piece, NoMore, Next}
use Rattle.engine.specs.declared.Answer as Code
use Rattle.engine.specs.declared.Answer.TheVariants as Kind
use Rattle.engine.specs.Scenes.{Scene, machine_parts}

-- an event of the code is one of the specification's
abbrev pub told_of : Event → Run.Event
told_of (Piece p) = bytes p.now
told_of NoMore = no_more
told_of Next = next

-- the scene as the code has it: memory, registers, and the front of what is lent for a row
abbrev pub scene_in : List ℕ → Registers → List ℕ → Scene
scene_in m r out = record { size = length m; mem = parts m; regs = r; row = take r.used out }

-- bytes were put into what is lent only behind those that were used, and within the row
pub record PutBehind (out : List ℕ) (used : ℕ) (out₁ : List ℕ) (used₁ : ℕ) : Type 0 where
  pub on : used ≤ used₁
  pub room : used₁ ≤ 4096
  pub behind : drop used₁ out₁ ≡ drop used₁ out
  pub size : length out₁ ≡ length out

-- a step's answer, with the number of a refusal
pub data Answer : Type 0 where
  Ask : Answer  -- a piece is wanted
  Write : ℕ → Answer  -- so many bytes of the row are to be written
  Done : ℕ → Answer  -- the run is over, with this number
  Refuse : ℕ → Answer  -- the run is refused, with this number

-- an answer of the code is one of these
abbrev pub said : Result Code.Answer Refusal → Answer
said (Ok Kind.Ask) = Ask
said (Ok (Kind.Write n)) = Write n
said (Ok (Kind.Done k)) = Done k
said (Err e) = Refuse (refusal_number e)

-- how an act is answered, and what then stands in what was lent for a row
abbrev pub Answers : Act → Answer → (out out₁ : List ℕ) → Type 0
Answers more r out out₁ = (r ≡ Ask) × (out₁ ≡ out)
Answers (write bs) r out out₁ = (r ≡ Write (length bs)) × (out₁ ≡ bs ++ drop (length bs) out)
Answers (done k) r out out₁ = (r ≡ Done k) × (out₁ ≡ out)
Answers (refused k) r out out₁ = (r ≡ Refuse k) × (out₁ ≡ out)

-- the answer when nothing is to be written but the last turn came to this
abbrev pub plain_answer : Turn → Answer
plain_answer On = Write 0
plain_answer Asks = Ask
plain_answer (Ends k) = Done k
plain_answer (Refuses k) = Refuse k

-- with so many bytes in the row, these are written first
unfoldable pub answer_of : Turn → ℕ → Answer
answer_of t used = pick (nat_lt 0 used) (Write used) (plain_answer t)

-- No step changes how many numbers memory has, and all are below 2^64 afterwards, whatever memory and event it was.
pub record StepsSteady : Type 0 where
  pub length_kept : (m : List ℕ) (ev : Run.Event) → length (goes_by machine_parts m ev).memory ≡ length m
  pub small : (m : List ℕ) (ev : Run.Event) → all_small (goes_by machine_parts m ev).memory ≡ true
