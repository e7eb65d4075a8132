-- What a print puts into a row. Assumes nothing: these are definitions.
use Rattle.std.specs.Prelude.{ℕ, zero, suc, ◌+◌, ◌-◌, min, List, [], ◌∷◌, ◌++◌, length, take, drop, ◌==◌, nat_le, slice_index_or}
use Rattle.language.specs.Text
use Rattle.language.specs.Text.{pick, each, as_text}
use Rattle.store.specs.declared.cells.Value.{Value}
use Rattle.store.specs.declared.cells.Value.TheVariants.{Unset}
use Rattle.store.specs.Words.{over, window}
use Rattle.store.specs.Values.{decoded, worth}
use Rattle.store.specs.declared.place.Place.{Place}
use Rattle.regions.specs.Parts.{Parts}
use Rattle.rows.specs.declared.Printed.{Printed}

-- n values from cell i on; unset behind the last cell
unfoldable pub run : List Value → ℕ → ℕ → List Value
run cs i zero = []
run cs i (suc n) = slice_index_or cs i Unset ∷ run cs (suc i) n

-- what n values of the stack from cell i on are worth
unfoldable pub worths : Parts → ℕ → ℕ → List Text.Value
worths p i n = each (worth 77822 p.texts) (run (decoded p.stack) i n)

-- what the n topmost values of a stack of this depth are worth, the lowest first
abbrev pub topmost : Parts → ℕ → ℕ → List Text.Value
topmost p depth n = worths p (depth - n) n

-- what is written of value i of those from cell `from` of the stack on
unfoldable pub nth_text : Parts → ℕ → ℕ → List ℕ
nth_text p from i = pick (i == 0) [] (32 ∷ []) ++ as_text (worth 77822 p.texts (slice_index_or (decoded p.stack) (from + i) Unset))

-- what print without values writes: the line, and byte 10
abbrev pub printed_line : Parts → Place → List ℕ
printed_line p place = window place.start place.len p.lines ++ 10 ∷ []

-- bytes over the row that is the first 4,096 bytes of what is lent, as many of them as there is room for
unfoldable pub over_row : List ℕ → ℕ → List ℕ → List ℕ
over_row d at s = over (take 4096 d) at s ++ drop 4096 d

-- how many bytes of p from byte `done` on have room in a row of which `used` bytes are used
abbrev pub fitting : List ℕ → ℕ → ℕ → ℕ
fitting p done used = min (length p - done) (4096 - used)

-- how far the print of p has come when those are written
unfoldable pub went : List ℕ → ℕ → ℕ → Printed
went p done used =
    record {
      done = done + fitting p done used;
      used = used + fitting p done used;
      finished = nat_le (length p) (done + fitting p done used);
    }
