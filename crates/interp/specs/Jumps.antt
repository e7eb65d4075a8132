-- What the operations on conditions, jumps and ends do. Assumes nothing: these are definitions.
use Rattle.std.specs.Prelude.{ℕ, ◌-◌, Bool, false, not, []}
use Rattle.language.specs.Text.{pick, number_of, holds}
use Rattle.language.specs.Meaning.{State, Went, went, nexted, stopped, given, wrong, unfinished, exit_with}
use Rattle.regions.specs.Parts.{Parts}
use Rattle.interp.specs.Outcomes.{Turn, On, Done, Refuse}
use Rattle.interp.specs.declared.registers.Registers.{Registers}
use Rattle.interp.specs.Turns.{Did, says, placed, after, top_of, worth_in, releasing, replaced, truth_of}

-- a state in which nothing was done: operators need one, and change none
abbrev pub nothing_done : State
nothing_done = record { vars = []; items = []; line = []; parts = []; lines = 0; frames = []; out = []; heavy = 0 }

-- the top holds
abbrev pub top_holds : Parts → Registers → Bool
top_holds p r = holds (worth_in p (top_of p r))

unfoldable pub judged : Parts → Registers → Did
judged p r = replaced p r (truth_of (top_holds p r))

unfoldable pub negated : Parts → Registers → Did
negated p r = replaced p r (truth_of (not (top_holds p r)))

abbrev pub jumped : Registers → ℕ → Registers
jumped r q = placed r q r.depth

-- the top is taken
unfoldable pub taking : Parts → Registers → Bool → ℕ → Did
taking p r b q = says On (releasing p (top_of p r)) (placed r (pick b q (after r.pc)) (r.depth - 1))

unfoldable pub jumped_if : Parts → Registers → ℕ → Did
jumped_if p r q = taking p r (top_holds p r) q

unfoldable pub jumped_unless : Parts → Registers → ℕ → Did
jumped_unless p r q = taking p r (not (top_holds p r)) q

-- registers out of the code
abbrev pub between : Registers → Registers
between r =
    record {
      pc = r.pc;
      depth = 0;
      running = false;
      stage = r.stage;
      count = r.count;
      line = r.line;
      input = r.input;
      at_line = r.at_line;
      at_end = r.at_end;
      print = r.print;
      used = r.used;
    }

-- the turn of an exit: the number of an exit ends the run, any other is refused; nothing else comes of one
abbrev pub ended : Went → Turn
ended (went s) = Done 0
ended (nexted s) = Done 0
ended (stopped k s) = Done k
ended (given v s) = Done 0
ended (wrong k s) = Refuse k
ended (unfinished s) = Done 0

unfoldable pub exited : Parts → Registers → Turn
exited p r = ended (exit_with (number_of (worth_in p (top_of p r))) nothing_done)
