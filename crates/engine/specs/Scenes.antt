-- The machine within a step, and what it is made of as an engine. Assumes nothing: these are definitions.
use Rattle.std.specs.Prelude.{ℕ, zero, suc, ◌-◌, ◌%◌, true, List, [], ◌∷◌, ◌++◌, length, take, Some, None, Option, nat_le}
use Rattle.language.specs.Run.{Event, started, bytes, no_more, next, done, refused}
use Rattle.semantics.specs.Engine
use Rattle.semantics.specs.Engine.{on, asks, stops, tired, asked, halted}
use Rattle.regions.specs.Parts.{Parts, parts, joined, with_registers, with_lines}
use Rattle.lines.specs.Scanning.{waiting, taken_lines, after_taken, input_of}
use Rattle.interp.specs.Outcomes.{Turn, On, Ask, Done, Refuse}
use Rattle.interp.specs.declared.registers.Registers.{Registers}
use Rattle.interp.specs.Between.{with_input}
use Rattle.interp.specs.Registers.{registers_in, row_of, saved_row}
use Rattle.interp.specs.Turns.{Did, says}
use Rattle.engine.specs.Prints.{pending_left, resumed}
use Rattle.engine.specs.Dispatch.{turned, turned_text}

-- how many numbers the memory has, its regions, the registers, and the bytes that this step has put into the lent row
pub record Scene : Type 0 where
  pub size : ℕ
  pub mem : Parts
  pub regs : Registers
  pub row : List ℕ

abbrev pub scene : ℕ → Did → List ℕ → Scene
scene n d row = record { size = n; mem = d.mem; regs = d.regs; row = row }

-- as much of what is printed as has room in a row of which so many bytes are used
abbrev pub with_room : ℕ → Option (List ℕ) → List ℕ
with_room used None = []
with_room used (Some b) = take (4096 - used) b

-- A TURN

abbrev pub turn_of : Turn → Scene → Engine.Turn Scene
turn_of On s = on s
turn_of Ask s = asks s
turn_of (Done k) s = stops s (done k)
turn_of (Refuse k) s = stops s (refused k)

-- the scene after a turn
abbrev pub scene_after : Scene → Scene
scene_after s = scene s.size (turned s.mem s.regs) (s.row ++ with_room s.regs.used (turned_text s.mem s.regs))

abbrev pub scene_turn : Scene → Engine.Turn Scene
scene_turn s = turn_of (turned s.mem s.regs).turn (scene_after s)

-- WHAT IS TOLD

-- the registers of a memory
abbrev pub regs_of : List ℕ → Registers
regs_of m = registers_in (parts m).registers

-- a piece is taken in behind what waits
abbrev pub piece_taken : List ℕ → Parts → Registers → Did
piece_taken q p r =
    says On (with_lines p (taken_lines p.lines (waiting r.input p.lines) q)) (with_input r (after_taken r.input (waiting r.input p.lines) q))

-- the end is told
abbrev pub end_told : Parts → Registers → Did
end_told p r = says On p (with_input r (input_of r.input.from r.input.to r.input.cut true))

-- from memory and what is told; a program is told elsewhere
abbrev pub taken_in : List ℕ → Event → Scene
taken_in m (started t) = scene (length m) (resumed (parts m) (regs_of m)) (with_room 0 (pending_left (parts m) (regs_of m)))
taken_in m (bytes q) = scene (length m) (piece_taken q (parts m) (regs_of m)) []
taken_in m no_more = scene (length m) (end_told (parts m) (regs_of m)) []
taken_in m next = scene (length m) (resumed (parts m) (regs_of m)) (with_room 0 (pending_left (parts m) (regs_of m)))

-- MEMORY BETWEEN STEPS

-- n numbers below 2^64: those of a list, cut or with zeros behind them
unfoldable pub fitted : ℕ → List ℕ → List ℕ
fitted zero ms = []
fitted (suc n) [] = 0 ∷ fitted n []
fitted (suc n) (m ∷ ms) = (m % 18446744073709551616) ∷ fitted n ms

-- the regions with the registers among them
abbrev pub put_away : Parts → Registers → Parts
put_away p r = with_registers p (saved_row (row_of r) p.registers)

unfoldable pub saved : Scene → List ℕ
saved s = fitted s.size (joined (put_away s.mem s.regs))

-- THE ENGINE

unfoldable pub machine_parts : Engine.Parts Scene
machine_parts = record { take_in = taken_in; turn = scene_turn; ripe = λ s. nat_le 4096 s.regs.used; row = λ s. s.row; save = saved; turns = 16383 }

-- why turns came to an end, by what the last one came to: where it came to nothing, the row is full or so many turns were made
abbrev pub halt_of : Turn → Scene → Engine.Halt Scene
halt_of On s = tired s
halt_of Ask s = asked s
halt_of (Done k) s = halted s (done k)
halt_of (Refuse k) s = halted s (refused k)
