-- A line with its fields, as memory has them. Assumes nothing: these are definitions.
use Rattle.std.specs.Prelude.{ℕ, ◌+◌, ◌-◌, min, List, ◌==◌, nat_lt, slice_index}
use Rattle.language.specs.Text.{pick, or}
use Rattle.store.specs.declared.place.Place.{Place}
use Rattle.regions.specs.Places.{place_of}
use Rattle.lines.specs.declared.line.Line.{Line}

abbrev pub place : ℕ → ℕ → Place
place s n = record { start = s; len = n }

-- a place in a text that begins at s, as a place where the text is
abbrev pub within : ℕ → Place → Place
within s p = place (min (s + p.start) 18446744073709551615) p.len

-- where field n is, given the words of the region of fields
unfoldable pub nth_place : List ℕ → Line → ℕ → Place
nth_place ws l n = pick (or (n == 0) (nat_lt l.fields n)) (place l.place.start 0) (within l.place.start (place_of (slice_index ws (n - 1))))
