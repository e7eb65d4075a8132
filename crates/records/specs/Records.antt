-- What memory and registers have of the current line, of the bytes that wait, and of a print that isn't finished. Assumes nothing: these are
-- definitions. They speak only of the regions of lines and fields, and of the registers for the line, the input and the count.
use Rattle.std.specs.Prelude.{◌≡◌, ℕ, ◌<◌, ◌≤◌, Bool, false, ◌⊎◌, List, [], ◌++◌, length, take, slice_index}
use Rattle.language.specs.Text.{has}
use Rattle.regions.specs.Parts.{Parts}
use Rattle.lines.specs.Cutting.{fresh_cut}
use Rattle.lines.specs.Fields.{Sound, LineHolds}
use Rattle.lines.specs.Laws.{ScannedSo, InPlace}
use Rattle.lines.specs.Scanning.{waiting}
use Rattle.interp.specs.declared.registers.Registers.{Registers}

-- all are words
abbrev pub InWords : List ℕ → Type 0
InWords ws = (i : ℕ) → slice_index ws i < 18446744073709551616

-- the current line is l, with the fields fs
pub record Current (m : Parts) (r : Registers) (l : List ℕ) (fs : List (List ℕ)) : Type 0 where
  pub sound : Sound m
  pub holds : LineHolds m r.line l fs
  pub in_place : InPlace r.line

-- Of the bytes b only the first are held, since the buffer is full; they are too many for a line already: none ends among the first 65,536.
pub record TooLong (held b : List ℕ) : Type 0 where
  pub more : List ℕ
  pub split : b ≡ held ++ more
  pub full : 69632 ≤ length held
  pub none : has (take 65536 held) 10 ≡ false

-- The bytes b wait, and z says whether the end was told. They lie in the buffer of what comes, and are looked through so far. A line that has grown
-- too long may have lost its end: it is refused anyway.
pub record Waits (m : Parts) (r : Registers) (b : List ℕ) (z : Bool) : Type 0 where
  pub sound : Sound m
  pub held : List ℕ
  pub are : waiting r.input m.lines ≡ held
  pub whole : (held ≡ b) ⊎ TooLong held b
  pub seen : ScannedSo held m r.input.cut
  pub end : r.input.ended ≡ z
  pub order : r.input.from ≤ r.input.to
  pub inside : r.input.to ≤ 69632
  pub in_fields : InWords m.fields
  pub in_lines : InWords m.lines

-- The rules for a line run: the line is l with the fields fs, the nth; b waits behind it, all of it, and none of it is looked through yet.
pub record WithinLine (m : Parts) (r : Registers) (l : List ℕ) (fs : List (List ℕ)) (n : ℕ) (b : List ℕ) (z : Bool) : Type 0 where
  pub current : Current m r l fs
  pub count : r.count ≡ n
  pub waits : Waits m r b z
  pub all : waiting r.input m.lines ≡ b
  pub unseen : r.input.cut ≡ fresh_cut

-- The next line is looked for. The last one is given up once there are bytes that may be of the next.
pub record BetweenLines (m : Parts) (r : Registers) (l : List ℕ) (fs : List (List ℕ)) (n : ℕ) (b : List ℕ) (z : Bool) : Type 0 where
  pub current : b ≡ [] → Current m r l fs
  pub in_place : InPlace r.line
  pub few_fields : r.line.fields ≤ 16448
  pub count : r.count ≡ n
  pub waits : Waits m r b z

-- the regions and registers that these speak of are the same
pub record SameRecords (m : Parts) (r : Registers) (m₁ : Parts) (r₁ : Registers) : Type 0 where
  pub fields : m₁.fields ≡ m.fields
  pub lines : m₁.lines ≡ m.lines
  pub line : r₁.line ≡ r.line
  pub input : r₁.input ≡ r.input
  pub count : r₁.count ≡ r.count
