-- Memory stays what it is made of, and turns between lines stop only where the run does. Assumes nothing: these are definitions and statements, and the
-- functions that carry them are proved.
use Rattle.std.specs.Prelude.{◌≡◌, ℕ, Bool, List}
use Rattle.language.specs.Text.{Value}
use Rattle.language.specs.Program.{Program}
use Rattle.language.specs.Meaning.{State, Got}
use Rattle.language.specs.Run.{done, refused}
use Rattle.semantics.specs.Code.{Entries, entries}
use Rattle.semantics.specs.Lines.{Now, Live, buffer, live_out, follow}
use Rattle.semantics.specs.Engine.{Stopping}
use Rattle.regions.specs.Parts.{Parts, parts}
use Rattle.interp.specs.Outcomes.{Done, Refuse}
use Rattle.interp.specs.declared.registers.Registers.{Registers}
use Rattle.interp.specs.Turns.{Did}
use Rattle.engine.specs.Scenes.{Scene, piece_taken, end_told, regs_of, saved}
use Rattle.records.specs.Records.{BetweenLines, SameRecords}
use Rattle.records.specs.Laws.{NextLine, FieldSet}
use Rattle.records.specs.Prints.{Prints}
use Rattle.records.specs.Saving.{Sized, Small, SmallCode, SmallLines, ValuesSo, OnlyValues}

-- memory has its sizes and consists of words, and so do the registers for the code
pub record MemorySo (m : Parts) (r : Registers) : Type 0 where
  pub sized : Sized m
  pub small : Small m
  pub code : SmallCode r

-- 10. So it stays, whatever a turn does, and whatever is told.
pub record MemoryStays : Type 0 where
  pub values_so : (m : Parts) (r : Registers) → MemorySo m r → ValuesSo m
  pub values : (m : Parts) (r : Registers) (d : Did) → OnlyValues m r d → MemorySo m r → MemorySo d.mem d.regs
  pub next : (m : Parts) (r : Registers) (e : Entries) (s : State) (b : List ℕ) (z : Bool) (now : Now) (d : Did) → NextLine m r e s b z now d → MemorySo m r → MemorySo d.mem d.regs
  pub field : (m : Parts) (r : Registers) (s : State) (v : Value) (b : List ℕ) (z : Bool) (now : Got) (d : Did) → FieldSet m r s v b z now d → MemorySo m r → MemorySo d.mem d.regs
  pub print : (m : Parts) (r : Registers) (n : ℕ) (row t : List ℕ) (d : Did) → Prints m r n row t d → MemorySo m r → MemorySo d.mem d.regs
  pub piece : (m : Parts) (r : Registers) (l : List ℕ) (fs : List (List ℕ)) (n : ℕ) (b q : List ℕ) (z : Bool) → BetweenLines (piece_taken q m r).mem (piece_taken q m r).regs l fs n b z →
      MemorySo m r → MemorySo (piece_taken q m r).mem (piece_taken q m r).regs
  pub end : (m : Parts) (r : Registers) → MemorySo m r → MemorySo (end_told m r).mem (end_told m r).regs
  -- between steps
  pub saves : (s : Scene) → s.size ≡ 262144 → MemorySo s.mem s.regs → SmallLines s.regs → MemorySo (parts (saved s)) (regs_of (saved s))
  pub records : (s : Scene) → s.size ≡ 262144 → MemorySo s.mem s.regs → SmallLines s.regs → SameRecords s.mem s.regs (parts (saved s)) (regs_of (saved s))

-- 11. Where the next line is refused, the run ends so, or is full, or has too long a line; and where there is nothing left to do, it is done.
pub record NextStops : Type 0 where
  pub refuses : (p : Program) (x : Live) (m : Parts) (r : Registers) (s : State) (z : Bool) (d : Did) (j : ℕ) → NextLine m r (entries p) s (buffer x) z (follow p x) d → live_out x ≡ s.out →
      d.turn ≡ Refuse j → Stopping p x (live_out x) (refused j)
  pub ends : (p : Program) (x : Live) (m : Parts) (r : Registers) (s : State) (z : Bool) (d : Did) (j : ℕ) → NextLine m r (entries p) s (buffer x) z (follow p x) d → live_out x ≡ s.out →
      d.turn ≡ Done j → Stopping p x (live_out x) (done j)
