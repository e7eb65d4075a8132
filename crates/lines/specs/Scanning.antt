-- What a scan of the waiting bytes finds, and what becomes of them. Assumes nothing: these are definitions.
use Rattle.std.specs.Prelude.{ℕ, ◌+◌, ◌-◌, Bool, true, false, List, [], ◌∷◌, length, take, drop, Some, None, Option, ◌==◌}
use Rattle.language.specs.Text.{pick, none_of}
use Rattle.store.specs.Words.{window, put_bytes}
use Rattle.regions.specs.Parts.{Parts}
use Rattle.store.specs.declared.place.Place.{Place}
use Rattle.lines.specs.declared.cutting.Cut.{Cut}
use Rattle.lines.specs.declared.line.Line.{Line}
use Rattle.lines.specs.declared.input.Input.{Input}
use Rattle.lines.specs.Cutting.{Cuts, cuts_of, fresh_cut, closed, closed_words, closed_count, pass_byte}
use Rattle.lines.specs.Lines.{place}

-- where a scan comes to: the end of a line, or of the bytes
pub record Scanned : Type 0 where
  pub found : Bool
  pub cuts : Cuts

unfoldable pub scan_on : List ℕ → Cuts → Scanned
scan_on [] s = record { found = false; cuts = s }
scan_on (b ∷ bs) s = pick (b == 10) (record { found = true; cuts = closed s }) (scan_on bs (pass_byte b s))

-- the waiting bytes
abbrev pub waits_at : Input → Place
waits_at i = place i.from (i.to - i.from)

abbrev pub waiting : Input → List ℕ → List ℕ
waiting i ls = window i.from (i.to - i.from) ls

abbrev pub input_of : ℕ → ℕ → Cut → Bool → Input
input_of f t c e = record { from = f; to = t; cut = c; ended = e }

-- a piece is taken in

abbrev pub that_fits : List ℕ → List ℕ → List ℕ
that_fits w piece = take (69632 - length w) piece

unfoldable pub taken_lines : List ℕ → List ℕ → List ℕ → List ℕ
taken_lines ls w piece = put_bytes (put_bytes ls 0 w) (length w) (that_fits w piece)

unfoldable pub after_taken : Input → List ℕ → List ℕ → Input
after_taken i w piece = input_of 0 (length w + length (that_fits w piece)) i.cut i.ended

-- a scan

unfoldable pub scan_of : Parts → Input → Scanned
scan_of p i = scan_on (drop i.cut.at (waiting i p.lines)) (cuts_of p.fields i.cut)

abbrev pub line_at : ℕ → ℕ → ℕ → Line
line_at s n k = record { place = place s n; fields = k }

unfoldable pub after_scan : Input → Scanned → Input
after_scan i s = pick s.found (input_of (i.from + s.cuts.cut.at + 1) i.to fresh_cut i.ended) (input_of i.from i.to s.cuts.cut i.ended)

unfoldable pub found_of : Input → Scanned → Option Line
found_of i s = pick s.found (Some (line_at i.from s.cuts.cut.at s.cuts.cut.fields)) None

-- the last line

unfoldable pub last_words : Parts → Input → List ℕ
last_words p i = pick (none_of (waiting i p.lines)) p.fields (closed_words p.fields i.cut)

unfoldable pub after_last : Parts → Input → Input
after_last p i = pick (none_of (waiting i p.lines)) i (input_of (i.from + length (waiting i p.lines)) i.to fresh_cut i.ended)

unfoldable pub last_of : Parts → Input → Option Line
last_of p i = pick (none_of (waiting i p.lines)) None (Some (line_at i.from (length (waiting i p.lines)) (closed_count i.cut)))
