-- What is printed: the row that a step fills, and a print that goes on in the next one. Assumes nothing: these are definitions and statements, and the
-- functions that carry them are proved.
use Rattle.std.specs.Prelude.{◌≡◌, ℕ, ◌+◌, ◌-◌, ◌<◌, ◌≤◌, true, false, ltb, ◌⊎◌, List, [], ◌∷◌, ◌++◌, length, Some, None, Option, ◌≢◌, nat_le, nat_lt}
use Rattle.language.specs.Text.{pick, Value, every}
use Rattle.language.specs.Meaning.{printed}
use Rattle.language.specs.Run.{a_row}
use Rattle.semantics.specs.Invariants.{All, Sound}
use Rattle.regions.specs.Parts.{Parts, with_registers, with_texts}
use Rattle.interp.specs.Outcomes.{On}
use Rattle.interp.specs.declared.registers.Registers.{Registers}
use Rattle.interp.specs.Registers.{rested}
use Rattle.interp.specs.Turns.{Did, says}
use Rattle.engine.specs.Prints.{few, print_of, with_print, advanced, released, line_text, values_text, line_printed, values_printed, pending_text, pending_left, resumed}
use Rattle.engine.specs.Scenes.{with_room}
use Rattle.records.specs.Records.{Current}

-- all are bytes
abbrev pub InBytes : List ℕ → Type 0
InBytes b = every (λ c. ltb c 256) b ≡ true

-- what is left of a print, if one isn't finished
abbrev pub left_of : Option (List ℕ) → List ℕ
left_of None = []
left_of (Some b) = b

-- u has still to go out of a print that isn't finished; if that is nothing, there is none
pub record Pending (m : Parts) (r : Registers) (u : List ℕ) : Type 0 where
  pub is : left_of (pending_left m r) ≡ u
  pub none : u ≡ [] → r.print.out ≡ 0
  pub in_bytes : InBytes u
  pub few_values : r.print.values ≤ 16416
  pub part : r.print.out ≤ length (pending_text m r)

-- Within a step: these bytes are in the row, and u has still to go out of a print that isn't finished, only where the row is full.
pub record RowSo (m : Parts) (r : Registers) (row u : List ℕ) : Type 0 where
  pub pending : Pending m r u
  pub used : r.used ≡ length row
  pub room : length row ≤ 4096
  pub in_bytes : InBytes row
  pub full : (u ≡ []) ⊎ (length row ≡ 4096)

-- What comes of a print that writes t, of n values or of the line: it is finished, and its values are let go; or the row is full, and the rest is still to
-- go out. What is put into the row and what is left is together t.
pub data Prints (m : Parts) (r : Registers) (n : ℕ) (row t : List ℕ) (d : Did) : Type 0 where
  is_out : d ≡ says On (released m r.depth n) (with_print r (r.depth - n) (print_of 0 0) (r.used + length t)) → with_room r.used (Some t) ≡ t →
      RowSo (released m r.depth n) (with_print r (r.depth - n) (print_of 0 0) (r.used + length t)) (row ++ with_room r.used (Some t)) [] → Prints m r n row t d
  goes_on : (k : ℕ) (u : List ℕ) → d ≡ says On m (with_print r r.depth (print_of n k) 4096) → 0 < k → with_room r.used (Some t) ++ u ≡ t → (u ≢ []) →
      RowSo m (with_print r r.depth (print_of n k) 4096) (row ++ with_room r.used (Some t)) u → Prints m r n row t d

-- A step begins with a print that isn't finished, or there is none.
abbrev pub Resumes : Parts → Registers → List ℕ → Type 0
Resumes m r u =
    ((u ≡ []) × (pending_left m r ≡ None) × (resumed m r ≡ says On m r) × RowSo m r [] [])
    ⊎ ((pending_left m r ≡ Some u) × Prints m r (few r.print.values) [] u (resumed m r))

-- 6. Prints write what is meant, in one row after the other.
pub record PrintsRight : Type 0 where
  -- a print begins where none is left
  pub line_is : (m : Parts) (r : Registers) (l : List ℕ) (fs : List (List ℕ)) → Current m r l fs → line_text m r ≡ l ++ 10 ∷ []
  pub line : (m : Parts) (r : Registers) (row : List ℕ) → RowSo m r row [] → r.used < 4096 → Prints m (advanced r) 0 row (line_text m r) (line_printed m r)
  pub values : (m : Parts) (r : Registers) (n : ℕ) (row : List ℕ) → n ≤ 16416 → InBytes (values_text m r n) → RowSo m r row [] → r.used < 4096 →
      Prints m (advanced r) n row (values_text m r n) (values_printed m r n)
  pub sound : (vs : List Value) → All Sound vs → InBytes (printed vs)
  -- it goes on in the next step
  pub rests : (m : Parts) (r : Registers) (row u ws : List ℕ) → RowSo m r row u → Pending (with_registers m ws) (rested r) u
  pub resumes : (m : Parts) (r : Registers) (u : List ℕ) → Pending m r u → r.used ≡ 0 → Resumes m r u
  -- other turns leave it alone
  pub begins : (m : Parts) (r : Registers) → Pending m r [] → r.used ≡ 0 → RowSo m r [] []
  pub kept : (m : Parts) (r : Registers) (m₁ : Parts) (r₁ : Registers) (row : List ℕ) → RowSo m r row [] → r₁.print ≡ r.print → r₁.used ≡ r.used → RowSo m₁ r₁ row []
  -- rows
  pub ripe : (m : Parts) (r : Registers) (row u : List ℕ) → RowSo m r row u → nat_le 4096 r.used ≡ true → row ≢ []
  pub unripe : (m : Parts) (r : Registers) (row u : List ℕ) → RowSo m r row u → nat_le 4096 r.used ≡ false → (u ≡ []) × (r.used < 4096)
  pub is_row : (m : Parts) (r : Registers) (row u : List ℕ) → RowSo m r row u → a_row row ≡ true
  pub empty : (m : Parts) (r : Registers) (row u : List ℕ) → RowSo m r row u → row ≡ [] → u ≡ []

-- MEMORY AND REGISTERS ONCE A PRINT IS OUT: its values are let go. The abstract machine is there when the print begins.

abbrev pub once_out : Parts → Registers → Parts
once_out m r = pick (nat_lt 0 r.print.out) (released m r.depth (few r.print.values)) m

abbrev pub once_out_regs : Registers → Registers
once_out_regs r = pick (nat_lt 0 r.print.out) (with_print r (r.depth - few r.print.values) (print_of 0 0) r.used) r

-- 7. However far a print has come, they will be the same once it is out; memory between steps says so, too.
pub record OnceOut : Type 0 where
  pub print : (m : Parts) (r : Registers) (n : ℕ) (row t : List ℕ) (d : Did) → n ≤ 16416 → Prints m r n row t d →
      (once_out d.mem d.regs ≡ released m r.depth n) × (once_out_regs d.regs ≡ with_print r (r.depth - n) (print_of 0 0) d.regs.used)
  pub none : (m : Parts) (r : Registers) → r.print.out ≡ 0 → (once_out m r ≡ m) × (once_out_regs r ≡ r)
  pub some : (m : Parts) (r : Registers) (u : List ℕ) → pending_left m r ≡ Some u →
      (once_out m r ≡ released m r.depth (few r.print.values)) × (once_out_regs r ≡ with_print r (r.depth - few r.print.values) (print_of 0 0) r.used)
  pub rests : (m : Parts) (r : Registers) (ws : List ℕ) → (once_out (with_registers m ws) (rested r) ≡ with_registers (once_out m r) ws) × (once_out_regs (rested r) ≡ rested (once_out_regs r))
  -- only texts will have changed
  pub texts : (m : Parts) (r : Registers) → once_out m r ≡ with_texts m (once_out m r).texts
