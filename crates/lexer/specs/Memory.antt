-- The work area as numbered cells of seven words. Assumes nothing: these are definitions.
use Rattle.std.specs.Prelude.{◌≡◌, ℕ, ◌+◌, ◌*◌, ◌<◌, ◌≤◌, List, ◌≢◌, slice_index}
use Rattle.lexer.specs.declared.cells.Cell.{Cell}

-- the cell with this number
unfoldable pub cell : List ℕ → ℕ → Cell
cell m i =
    record { kind = slice_index m (7 * i); flag = slice_index m (7 * i + 1); first = slice_index m (7 * i + 2); second = slice_index m (7 * i + 3); third = slice_index m (7 * i + 4); fourth = slice_index m (7 * i + 5); fifth = slice_index m (7 * i + 6) }

-- one cell is written, and no other
pub record Stored (m m₁ : List ℕ) (i : ℕ) (c : Cell) : Type 0 where
  pub here : cell m₁ i ≡ c
  pub others : (j : ℕ) → (j ≢ i) → cell m₁ j ≡ cell m j

-- the cells from the first number up to the second are as they were
abbrev pub Kept : ℕ → ℕ → List ℕ → List ℕ → Type 0
Kept low high m m₁ = (j : ℕ) → low ≤ j → j < high → cell m₁ j ≡ cell m j
