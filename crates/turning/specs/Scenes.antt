-- Which run a scene of the engine, and memory between steps, stand for. Assumes nothing: these are definitions.
use Rattle.std.specs.Prelude.{◌≡◌, ℕ, ◌<◌, ◌≤◌, Bool, ◌⊎◌, List, [], ◌++◌, length, drop}
use Rattle.language.specs.Text
use Rattle.language.specs.Text.{each}
use Rattle.language.specs.Program.{Program}
use Rattle.language.specs.Meaning.{State}
use Rattle.semantics.specs.Stack.{at, off, val}
use Rattle.semantics.specs.Code.{program_code}
use Rattle.semantics.specs.Lines.{Stage, Live, live, over}
use Rattle.assembly.specs.Assembly.{lean_place}
use Rattle.regions.specs.Parts.{Parts, parts}
use Rattle.interp.specs.declared.registers.Registers.{Registers}
use Rattle.representation.specs.Relation.{Running, Rep}
use Rattle.engine.specs.Prints.{pending_text}
use Rattle.engine.specs.Scenes.{Scene, regs_of}

-- no print is unfinished
pub record Quiet (r : Registers) : Type 0 where
  pub values : r.print.values ≡ 0
  pub out : r.print.out ≡ 0

-- A print is unfinished: its values, above those of the abstract stack, are still there, and some of its bytes, but not all, are out.
pub record Printing (p : Program) (m : Parts) (r : Registers) (g : Stage) (pc : ℕ) (us : List Text.Value) (s : State) (b : List ℕ) (z : Bool) : Type 0 where
  pub above : List Text.Value
  pub many : length above ≡ r.print.values
  pub runs : Running p m r g pc (above ++ us) s.vars s.line s.parts s.lines b z
  pub begun : 0 < r.print.out
  pub unfinished : r.print.out < length (pending_text m r)

-- so for a run, which has made the print already
abbrev pub PrintsAt : Program → Parts → Registers → Live → Type 0
PrintsAt p m r (live g (at q st s) b z) = (us : List Text.Value) × (st ≡ each val us) × Printing p m r g (lean_place (program_code p) q) us s b z
PrintsAt p m r (live g (off w) b z) = ⊥
PrintsAt p m r (over w z) = ⊥

-- what is left of an unfinished print
abbrev pub left_of : Parts → Registers → List ℕ
left_of m r = drop r.print.out (pending_text m r)

-- Within a step: u is to go out, what is in the row and what is left of a print. With a print that is unfinished the row is full.
abbrev pub Mid : Program → Scene → Live → List ℕ → Type 0
Mid p c x u =
    (length c.row ≡ c.regs.used) × (c.regs.used ≤ 4096) × (c.size ≡ 262144)
    × ((Rep p c.mem c.regs x × Quiet c.regs × (u ≡ c.row))
    ⊎ (PrintsAt p c.mem c.regs x × (c.regs.used ≡ 4096) × (u ≡ c.row ++ left_of c.mem c.regs)))

-- between steps the row is empty
abbrev pub Rel : Program → List ℕ → Live → List ℕ → Type 0
Rel p m x u =
    (length m ≡ 262144)
    × ((Rep p (parts m) (regs_of m) x × Quiet (regs_of m) × (u ≡ []))
    ⊎ (PrintsAt p (parts m) (regs_of m) x × (u ≡ left_of (parts m) (regs_of m))))
