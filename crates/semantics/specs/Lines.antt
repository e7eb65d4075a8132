-- Runs of the stack machine over lines, in two forms. A `Run` has all its lines from the start, as the meaning has. A `Live` run has the bytes
-- that came and are in no line yet, and whether the end was told; it never looks at what is still to come, so a machine that is given lines in
-- pieces can follow it step by step.
use Rattle.std.specs.Prelude.{◌≡◌, ℕ, zero, suc, Bool, true, false, List, [], ◌∷◌, ◌++◌, ◌==◌, nat_lt}
use Rattle.language.specs.Text.{pick, every, fields_from}
use Rattle.language.specs.Program.{Program}
use Rattle.language.specs.Meaning.{State, Went, went, nexted, stopped, given, wrong, unfinished, state_of, note, settled, short, whole_lines, last_line, at_first}
use Rattle.language.specs.Run.{Event, started, bytes, no_more, next}
use Rattle.semantics.specs.Stack.{Instr, Config, at, off, config_state, exec, times}
use Rattle.semantics.specs.Code.{Entries, entries, code}

-- the rules before the first line, for each line, after the last
pub data Stage : Type 0 where
  first_stage : Stage
  line_stage : Stage
  last_stage : Stage

-- the state with which the rules for a line begin
abbrev pub fresh : List ℕ → State → State
fresh l s = note 0 (record { vars = s.vars; items = s.items; line = l; parts = fields_from [] l; lines = suc s.lines; frames = []; out = s.out; heavy = s.heavy })

-- the stage, the lines that are left, and the machine; or how it ended
pub data Run : Type 0 where
  busy : Stage → List (List ℕ) → Config → Run
  done_by : Went → Run

-- the state that it is in, or ended in
abbrev pub run_state : Run → State
run_state (busy g ls c) = config_state c
run_state (done_by w) = state_of w

-- the next line. An open run has only the lines that came so far: behind the last of them it is done as far as it goes
abbrev pub take_line : Entries → Bool → List (List ℕ) → State → Run
take_line e o [] s = pick o (done_by (went s)) (busy last_stage [] (at e.at_end [] s))
take_line e o (l ∷ ls) s = pick (short l) (busy line_stage ls (at e.at_line [] (fresh l s))) (done_by (wrong 7 s))

-- behind the rules of a stage: the next line, or the end
abbrev pub after_stage : Entries → Bool → Stage → List (List ℕ) → State → Run
after_stage e o first_stage ls s = take_line e o ls s
after_stage e o line_stage ls s = take_line e o ls s
after_stage e o last_stage ls s = done_by (went s)

-- what comes when the rules of a stage have settled
abbrev pub driven : Entries → Bool → Stage → List (List ℕ) → Went → Run
driven e o g ls (went s) = after_stage e o g ls s
driven e o g ls (nexted s) = done_by (nexted s)
driven e o g ls (stopped k s) = done_by (stopped k s)
driven e o g ls (given v s) = done_by (given v s)
driven e o g ls (wrong k s) = done_by (wrong k s)
driven e o g ls (unfinished s) = done_by (unfinished s)

-- one step, of the machine or of the driver
abbrev pub run_step : (ℕ → Instr) → Entries → Bool → Run → Run
run_step f e o (busy g ls (at p st s)) = busy g ls (exec (f p) p st s)
run_step f e o (busy g ls (off w)) = driven e o g ls (settled w)
run_step f e o (done_by w) = done_by w

-- at the beginning, with these lines
abbrev pub begin : Entries → List (List ℕ) → Run
begin e ls = busy first_stage ls (at e.at_begin [] at_first)

-- a program's run over all the lines of some bytes, after n steps
abbrev pub run : Program → List ℕ → ℕ → Run
run p bs n = times (run_step (code p) (entries p) false) n (begin (entries p) (whole_lines [] bs ++ last_line [] bs))

-- the first whole line of some bytes and what is behind it; or there is none, and this is what there is of one
pub data Cut : Type 0 where
  whole : List ℕ → List ℕ → Cut
  part : List ℕ → Cut

-- where l has come of the line already
unfoldable pub cut_line : List ℕ → List ℕ → Cut
cut_line l [] = part l
cut_line l (c ∷ cs) = pick (c == 10) (whole l cs) (cut_line (l ++ c ∷ []) cs)

-- the stage, the machine, the bytes that wait to be taken as lines, and whether these are all; or how it ended
pub data Live : Type 0 where
  live : Stage → Config → List ℕ → Bool → Live
  over : Went → Bool → Live

-- a step is made; or it waits for more bytes, in this state; or it has ended
pub data Now : Type 0 where
  steps : Live → Now
  waits : State → Now
  ends : Went → Now

-- the state that it is in, or ended in
abbrev pub live_state : Live → State
live_state (live g c b z) = config_state c
live_state (over w z) = state_of w

-- all that was written
abbrev pub live_out : Live → List ℕ
live_out x = (live_state x).out

-- the end was told
abbrev pub shut : Live → Bool
shut (live g c b z) = z
shut (over w z) = z

-- the bytes that wait
abbrev pub buffer : Live → List ℕ
buffer (live g c b z) = b
buffer (over w z) = []

-- what it is told: a piece is put behind the bytes that wait
abbrev pub told : Event → Live → Live
told (started t) x = x
told (bytes q) (live g c b z) = live g c (b ++ q) z
told (bytes q) (over w z) = over w z
told no_more (live g c b z) = live g c b true
told no_more (over w z) = over w true
told next x = x

-- a line l is taken, and r waits behind it; one of more than 65,535 bytes is wrong
abbrev pub live_line : Entries → Bool → State → List ℕ → List ℕ → Now
live_line e z s l r = pick (short l) (steps (live line_stage (at e.at_line [] (fresh l s)) r z)) (steps (over (wrong 7 s) z))

-- the next line, if there is a whole one, or if what there is of one is the last
abbrev pub live_take : Entries → Bool → State → Cut → Now
live_take e z s (whole l r) = live_line e z s l r
live_take e false s (part l) = waits s
live_take e true s (part []) = steps (live last_stage (at e.at_end [] s) [] true)
live_take e true s (part (c ∷ cs)) = live_line e true s (c ∷ cs) []

-- behind the rules of a stage
abbrev pub live_after : Entries → Stage → List ℕ → Bool → State → Now
live_after e first_stage b z s = live_take e z s (cut_line [] b)
live_after e line_stage b z s = live_take e z s (cut_line [] b)
live_after e last_stage b z s = steps (over (went s) z)

-- what comes when they have settled
abbrev pub live_driven : Entries → Stage → List ℕ → Bool → Went → Now
live_driven e g b z (went s) = live_after e g b z s
live_driven e g b z (nexted s) = steps (over (nexted s) z)
live_driven e g b z (stopped k s) = steps (over (stopped k s) z)
live_driven e g b z (given v s) = steps (over (given v s) z)
live_driven e g b z (wrong k s) = steps (over (wrong k s) z)
live_driven e g b z (unfinished s) = steps (over (unfinished s) z)

-- one step
abbrev pub live_next : (ℕ → Instr) → Entries → Live → Now
live_next f e (live g (at p st s) b z) = steps (live g (exec (f p) p st s) b z)
live_next f e (live g (off w) b z) = live_driven e g b z (settled w)
live_next f e (over w z) = ends w

-- the next of a program's run
abbrev pub follow : Program → Live → Now
follow p x = live_next (code p) (entries p) x

-- the beginning of a program's run, before any byte came
abbrev pub live_start : Program → Live
live_start p = live first_stage (at (entries p).at_begin [] at_first) [] false

-- so many steps, none of which waits or is at the end
abbrev pub Goes : Program → ℕ → Live → Live → Type 0
Goes p zero x y = x ≡ y
Goes p (suc k) x y = (x₁ : Live) × (follow p x ≡ steps x₁) × Goes p k x₁ y

-- What a program's run comes to, with the bytes that came until then, in so many steps. More comes only where it waits; a byte is below 256.
pub data Reached (p : Program) : List ℕ → ℕ → Live → Type 0 where
  at_start : Reached p [] 0 (live_start p)
  one_more : {bs : List ℕ} {n : ℕ} {x y : Live} → Reached p bs n x → follow p x ≡ steps y → Reached p bs (suc n) y
  piece_came : {bs cs : List ℕ} {n : ℕ} {x y : Live} {s : State} (q : List ℕ) → Reached p bs n x → follow p x ≡ waits s → every (λ b. nat_lt b 256) q ≡ true →
      cs ≡ bs ++ q → y ≡ told (bytes q) x → Reached p cs n y
  end_told : {bs : List ℕ} {n : ℕ} {x y : Live} {s : State} → Reached p bs n x → follow p x ≡ waits s → y ≡ told no_more x → Reached p bs n y
