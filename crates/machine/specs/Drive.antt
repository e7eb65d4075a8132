-- What a driver of the machine does: it obeys the machine's acts, and so makes certain calls to the world, in a certain order. Assumes nothing: these
-- are definitions.
use Rattle.std.specs.Prelude.{◌≡◌, ℕ, zero, suc, ◌+◌, ◌<◌, ◌≤◌, Bool, true, false, ◌&&◌, List, [], ◌∷◌, ◌++◌, length, take, Some, None, Option, Ok, Err, Result, nat_le, nat_lt}
use Rattle.language.specs.Text.{pick, or, none_of}
use Rattle.language.specs.Run.{Engine, Event, started, next, Act, more, write, done, refused, first_piece, other_pieces, one_act, runs, run_of, a_row}
use Rattle.machine.specs.declared.Told.{Told}
use Rattle.machine.specs.Entry.{own, ActTold}
use Rattle.machine.specs.declared.drive.Driver.{Driver}
use Rattle.machine.specs.declared.drive.Failure.{Failure}
use Rattle.machine.specs.declared.drive.Failure.TheVariants.{Refused, TooLong, Broken, Endless, NoMemory}

-- a call to the world: it was asked for a piece, and gave this one; it was asked, and had none; it was given a row to show
pub data Call : Type 0 where
  took : List ℕ → Call
  ended : Call
  showed : List ℕ → Call

-- the calls that an ask makes: the world that has said that it has no more isn't asked again
abbrev pub asks : Bool → List (List ℕ) → List Call
asks over (p ∷ ps) = took p ∷ []
asks true [] = []
asks false [] = ended ∷ []

-- the calls that an act makes, and then those of the acts that follow; a row that is none is a fault, which ends it
abbrev pub obeyed : (List ℕ → Event → List (List ℕ) → Bool → List Call) → List (List ℕ) → Bool → List ℕ → Act → List Call
obeyed go ps over m more = asks over ps ++ go m (first_piece ps) (other_pieces ps) (or over (none_of ps))
obeyed go ps over m (write bs) = pick (a_row bs) (showed bs ∷ go m next ps over) []
obeyed go ps over m (done k) = []
obeyed go ps over m (refused k) = []

-- the calls that so many acts of an engine make, where the world has these pieces
unfoldable pub calls : ℕ → Engine → List ℕ → Event → List (List ℕ) → Bool → List Call
calls zero e m ev ps over = []
calls (suc n) e m ev ps over = obeyed (λ m₁ ev₁ ps₁ over₁. calls n e m₁ ev₁ ps₁ over₁) ps over (e.step m ev).memory (e.step m ev).act

-- what the world was given to show, all of it
abbrev pub shown : List Call → List ℕ
shown [] = []
shown (took p ∷ cs) = shown cs
shown (ended ∷ cs) = shown cs
shown (showed bs ∷ cs) = bs ++ shown cs

-- Whatever the engine: what was shown by these calls is what its run has written.
unfoldable pub ShownIsWritten : Type 0
ShownIsWritten = (e : Engine) (n : ℕ) (t : List ℕ) (ps : List (List ℕ)) → (run_of n e t ps).written ≡ shown (calls n e e.start (started t) ps false)

-- A world's own account of each call: which state it may go to from which.
pub record Account (S : Type 0) : Type 1 where
  pub takes : S → List ℕ → S → Type 0
  pub ends : S → S → Type 0
  pub shows : S → List ℕ → S → Type 0

abbrev pub Link : {S : Type 0} → Account S → S → Call → S → Type 0
Link a s (took p) r = a.takes s p r
Link a s ended r = a.ends s r
Link a s (showed bs) r = a.shows s bs r

-- from one state to another by these calls, in this order
abbrev pub Chain : {S : Type 0} → Account S → S → List Call → S → Type 0
Chain {S} a s [] r = s ≡ r
Chain {S} a s (c ∷ cs) r = (q : S) × Link a s c q × Chain a q cs r

-- what the world gives when it is asked: bytes at the front of what was lent, nothing more, or a failure of which nothing is known
abbrev pub Gives : {S E : Type 0} → Account S → S → Result (Option ℕ) E → List ℕ → S → Type 0
Gives a s (Ok (Some n)) into r = (n ≤ length into) × a.takes s (take n into) r
Gives a s (Ok None) into r = a.ends s r
Gives a s (Err e) into r = Unit {0}

-- it was shown, or it failed of which nothing is known
abbrev pub Shows : {S E : Type 0} → Account S → S → Result Unit E → List ℕ → S → Type 0
Shows a s (Ok u) row r = a.shows s row r
Shows a s (Err e) row r = Unit {0}

-- The run so far, where the machine's last answer isn't obeyed yet: after n acts, with the pieces ps, these calls were made, and they lead from the
-- world w₀ to the world w; what the run comes to is what this act and those that follow make of it, whatever pieces are still to come (none, if the
-- world has said so).
pub record Going {S : Type 0} (a : Account S) (t : List ℕ) (w₀ : S) (over : Bool) (told : Told) (row m : List ℕ) (w : S) : Type 0 where
  pub n : ℕ
  pub ps : List (List ℕ)
  pub log : List Call
  pub written : List ℕ
  pub given : ℕ
  pub act : Act
  pub lent : List ℕ
  pub chain : Chain a w₀ log w
  pub made : calls n own own.start (started t) ps false ≡ log
  pub busy : (run_of n own t ps).end ≡ 10000000
  pub calls_on : (fu : List (List ℕ)) (k : ℕ) → (over ≡ true → fu ≡ []) →
      calls (n + suc k) own own.start (started t) (ps ++ fu) false ≡ log ++ obeyed (λ m₁ ev₁ ps₁ over₁. calls k own m₁ ev₁ ps₁ over₁) fu over m act
  pub runs_on : (fu : List (List ℕ)) (k : ℕ) → (over ≡ true → fu ≡ []) →
      runs (n + suc k) own own.start (started t) (ps ++ fu) [] 0 false ≡ one_act (λ m₁ ev₁ ps₁ w₁ g₁ a₁. runs k own m₁ ev₁ ps₁ w₁ g₁ a₁) fu written given m act
  pub says : ActTold act told lent row

-- the run so far, beside the driver
abbrev pub Drives : {S : Type 0} → Account S → (t : List ℕ) (w₀ : S) → Told → Driver S → Type 0
Drives a t w₀ told d = Going a t w₀ d.over told d.row d.memory.now d.world.now

-- one act more, unless the world failed
abbrev pub GoesOn : {S E : Type 0} → Account S → Told → Driver S → Result Told E → Driver S → Type 0
GoesOn {S} a told d (Err e) d₁ = Unit {0}
GoesOn {S} a told d (Ok told₁) d₁ = (t : List ℕ) (w₀ : S) → Drives a t w₀ told d → Drives a t w₀ told₁ d₁

-- the driver has the same world and the same memory as before, whatever is in them
abbrev pub SameLoans : {S : Type 0} → Driver S → Driver S → Type 0
SameLoans d d₁ = (d₁.world.ghost_name ≡ d.world.ghost_name) × (d₁.memory.ghost_name ≡ d.memory.ghost_name)

-- the number of a run's end: as `run_of` has it
abbrev pub done_end : ℕ → ℕ
done_end k = pick (nat_lt k 256) k 9999999

abbrev pub refused_end : ℕ → ℕ
refused_end k = pick (nat_le 1 k && nat_lt k 100000) (1000 + k) 9999999

-- A run from the world w₀ to the world w that a driver may make: for some number of acts and some pieces, exactly the calls of the machine's own run
-- were made, in its order, and that run then ended so; or it is still going on, if the world failed or it went on for too long.
abbrev pub Reached : {S : Type 0} → Account S → (program : List ℕ) → S → (end : ℕ) → S → Type 0
Reached a t w₀ end w = (n : ℕ) × (ps : List (List ℕ)) × Chain a w₀ (calls n own own.start (started t) ps false) w × ((run_of n own t ps).end ≡ end)

-- What each ending says of the run, from the world w₀ to the world w. Where reading or showing failed, the run had come to a world before that call.
unfoldable pub EndedSo : {S E : Type 0} → Account S → (program : List ℕ) → S → Result ℕ (Failure E) → S → Type 0
EndedSo {S} a t w₀ (Ok k) w = Reached a t w₀ (done_end k) w
EndedSo {S} a t w₀ (Err (Refused k)) w = Reached a t w₀ (refused_end k) w
EndedSo {S} a t w₀ (Err TooLong) w = (4096 < length t) × (w₀ ≡ w)
EndedSo {S} a t w₀ (Err (Broken e)) w = (w₁ : S) × Reached a t w₀ 10000000 w₁
EndedSo {S} a t w₀ (Err Endless) w = Reached a t w₀ 10000000 w
EndedSo {S} a t w₀ (Err NoMemory) w = w₀ ≡ w
