-- Which configuration of the abstract machine memory and registers stand for. Places of the code are those of the assembled code, without notes.
-- Assumes nothing: these are definitions.
use Rattle.std.specs.Prelude.{◌≡◌, ℕ, ◌≤◌, Bool, true, false, ◌⊎◌, List, [], ◌++◌, length, take, slice_index}
use Rattle.language.specs.Text
use Rattle.language.specs.Text.{each, has}
use Rattle.language.specs.Program.{Program}
use Rattle.language.specs.Meaning.{Bind, Went, went, nexted, stopped, given, wrong, unfinished}
use Rattle.semantics.specs.Stack.{val, Config, at, off}
use Rattle.semantics.specs.Code.{program_code}
use Rattle.semantics.specs.Lines
use Rattle.semantics.specs.Lines.{first_stage, line_stage, last_stage, Live, live, over}
use Rattle.assembly.specs.Assembly.{op_of, lean_place, ops, pool, op_at, entries}
use Rattle.assembly.specs.Machine.{lean_config}
use Rattle.regions.specs.Parts.{Parts}
use Rattle.lines.specs.declared.line.Line.{Line}
use Rattle.lines.specs.declared.input.Input.{Input}
use Rattle.lines.specs.Cutting.{fresh_cut}
use Rattle.lines.specs.Fields.{Sound, LineHolds}
use Rattle.lines.specs.Laws.{ScannedSo, InPlace}
use Rattle.lines.specs.Scanning.{waiting}
use Rattle.interp.specs.declared.registers.Stage.{Stage}
use Rattle.interp.specs.declared.registers.Stage.TheVariants.{Begin, Lines as ForLines, End}
use Rattle.interp.specs.declared.registers.Registers.{Registers}
use Rattle.representation.specs.Values.{Holds}

-- the stage that the registers name
abbrev pub stage_is : Stage → Lines.Stage
stage_is Begin = first_stage
stage_is ForLines = line_stage
stage_is End = last_stage

-- the program is in its region, an end behind its last operation, and the registers know where its stages begin
pub record Loaded (p : Program) (m : Parts) (r : Registers) : Type 0 where
  pub code : (i : ℕ) → i ≤ length (ops p) → op_of (slice_index m.code i) ≡ op_at p i
  pub line_at : r.at_line ≡ (entries p).at_line
  pub end_at : r.at_end ≡ (entries p).at_end

-- the line with its fields
pub record LineSo (m : Parts) (line : Line) (l : List ℕ) (fs : List (List ℕ)) : Type 0 where
  pub holds : LineHolds m line l fs
  pub placed : InPlace line

-- IN THE CODE, at the place pc with the values us on the stack; variables, line, fields and how many lines there were; b waits, and z says whether that is all
pub record Running (p : Program) (m : Parts) (r : Registers) (g : Lines.Stage) (pc : ℕ) (us : List Text.Value) (bs : List Bind) (l : List ℕ) (fs : List (List ℕ)) (n : ℕ) (b : List ℕ) (z : Bool) : Type 0 where
  pub loaded : Loaded p m r
  pub sound : Sound m
  pub running : r.running ≡ true
  pub at_pc : r.pc ≡ pc
  pub stage : stage_is r.stage ≡ g
  pub count : r.count ≡ n
  pub holds : Holds (pool p) [] [] m r.depth us bs
  pub line : LineSo m r.line l fs
  pub waits : waiting r.input m.lines ≡ b
  pub inside : r.input.to ≤ 69632
  pub unscanned : r.input.cut ≡ fresh_cut
  pub ended : r.input.ended ≡ z

-- The bytes that wait between lines. All of them are there; or so much of a line that it is too long, and what came behind may have had no room. Such a line
-- is refused before anything else is done, but what is taken in once more still has to be accounted for.
pub record Waits (m : Parts) (i : Input) (b : List ℕ) (z : Bool) : Type 0 where
  pub lost : List ℕ
  pub all : b ≡ waiting i m.lines ++ lost
  pub excuse : (lost ≡ []) ⊎ ((65536 ≤ length (waiting i m.lines)) × (has (take 65536 (waiting i m.lines)) 10 ≡ false))
  pub inside : i.to ≤ 69632
  pub ended : i.ended ≡ z

-- BETWEEN two runs through the code. The line is needed only if nothing waits, since then the rules for the end may still come.
pub record Between (p : Program) (m : Parts) (r : Registers) (g : Lines.Stage) (bs : List Bind) (l : List ℕ) (fs : List (List ℕ)) (n : ℕ) (b : List ℕ) (z : Bool) : Type 0 where
  pub loaded : Loaded p m r
  pub sound : Sound m
  pub running : r.running ≡ false
  pub stage : stage_is r.stage ≡ g
  pub count : r.count ≡ n
  pub empty : r.depth ≡ 0
  pub holds : Holds (pool p) [] [] m 0 [] bs
  pub line : b ≡ [] → LineSo m r.line l fs
  pub waits : Waits m r.input b z
  pub scanned : ScannedSo (waiting r.input m.lines) m r.input.cut

-- off the code a machine in memory is only at the end of rules, or by next: anything else ends its run at once
abbrev pub Rests : Program → Parts → Registers → Lines.Stage → List ℕ → Bool → Went → Type 0
Rests p m r g b z (went s) = Between p m r g s.vars s.line s.parts s.lines b z
Rests p m r g b z (nexted s) = Between p m r g s.vars s.line s.parts s.lines b z
Rests p m r g b z (stopped k s) = ⊥
Rests p m r g b z (given v s) = ⊥
Rests p m r g b z (wrong k s) = ⊥
Rests p m r g b z (unfinished s) = ⊥

-- a configuration at places without notes; all that is on its stack are values
abbrev pub Stands : Program → Parts → Registers → Lines.Stage → List ℕ → Bool → Config → Type 0
Stands p m r g b z (at pc st s) = (us : List Text.Value) × (st ≡ each val us) × Running p m r g pc us s.vars s.line s.parts s.lines b z
Stands p m r g b z (off w) = Rests p m r g b z w

-- a run, as far as it has come
abbrev pub Rep : Program → Parts → Registers → Live → Type 0
Rep p m r (live g c b z) = Stands p m r g b z (lean_config (lean_place (program_code p)) c)
Rep p m r (over w z) = ⊥
