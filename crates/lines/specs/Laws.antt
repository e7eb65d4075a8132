-- What scanning, taking in and cutting come to, in the words of the specification: lines, and the fields of a line. Assumes nothing: these are
-- statements, and the functions that carry them are proved.
use Rattle.std.specs.Prelude.{◌≡◌, ℕ, ◌+◌, ◌<◌, ◌≤◌, Bool, true, false, List, [], ◌∷◌, ◌++◌, length, take, Some, None, slice_index}
use Rattle.language.specs.Text.{has, none_of, fields_from, joined}
use Rattle.language.specs.Meaning.{whole_lines, last_line, nth_part, set_part, short}
use Rattle.store.specs.Words.{window}
use Rattle.regions.specs.Parts.{Parts, with_fields, with_lines}
use Rattle.store.specs.declared.place.Place.{Place}
use Rattle.lines.specs.declared.cutting.Cut.{Cut}
use Rattle.lines.specs.declared.line.Line.{Line}
use Rattle.lines.specs.declared.input.Input.{Input}
use Rattle.lines.specs.Building.{buffer_of, filled, built, after_built, after_line, line_of}
use Rattle.lines.specs.Cutting.{cuts_of, fresh_cut, pass_all, recut_of}
use Rattle.lines.specs.Fields.{Sound, LineHolds}
use Rattle.lines.specs.Lines.{nth_place}
use Rattle.lines.specs.Scanning.{Scanned, scan_of, after_scan, found_of, waiting, taken_lines, after_taken, last_words, last_of, after_last, line_at}

-- The waiting bytes w are looked through so far: there was no byte 10, and what is noted is what one pass over the bytes so far notes.
pub record ScannedSo (w : List ℕ) (p : Parts) (c : Cut) : Type 0 where
  pub seed : List ℕ
  pub room : length seed ≡ 16448
  pub inside : c.at ≤ length w
  pub none : has (take c.at w) 10 ≡ false
  pub is : cuts_of p.fields c ≡ pass_all (take c.at w) (cuts_of seed fresh_cut)

-- nothing is looked through yet
unfoldable pub FreshRight : Type 0
FreshRight = (w : List ℕ) (p : Parts) → Sound p → ScannedSo w p fresh_cut

-- The scan found a line: the bytes before the first byte 10, with its fields; what follows waits.
pub record WholeFound (p : Parts) (i : Input) (s : Scanned) : Type 0 where
  pub line : List ℕ
  pub rest : List ℕ
  pub split : waiting i p.lines ≡ line ++ 10 ∷ rest
  pub none : has line 10 ≡ false
  pub first : whole_lines [] (waiting i p.lines) ≡ line ∷ whole_lines [] rest
  pub last : last_line [] (waiting i p.lines) ≡ last_line [] rest
  pub told : found_of i s ≡ Some (line_at i.from (length line) (length (fields_from [] line)))
  pub holds : length (fields_from [] line) ≤ 16448 → LineHolds (with_fields p s.cuts.words) (line_at i.from (length line) (length (fields_from [] line))) line (fields_from [] line)
  pub waits : waiting (after_scan i s) p.lines ≡ rest
  pub ready : (after_scan i s).cut ≡ fresh_cut

-- The scan found no line: there is no byte 10, and all that waits is looked through.
pub record PartFound (p : Parts) (i : Input) (s : Scanned) : Type 0 where
  pub none : has (waiting i p.lines) 10 ≡ false
  pub first : whole_lines [] (waiting i p.lines) ≡ []
  pub told : found_of i s ≡ None
  pub waits : waiting (after_scan i s) p.lines ≡ waiting i p.lines
  pub all : (after_scan i s).cut.at ≡ length (waiting i p.lines)
  pub ready : ScannedSo (waiting i p.lines) (with_fields p s.cuts.words) (after_scan i s).cut

abbrev pub ScanSays : Parts → Input → Scanned → Bool → Type 0
ScanSays p i s true = WholeFound p i s
ScanSays p i s false = PartFound p i s

unfoldable pub ScanRight : Type 0
ScanRight = (p : Parts) (i : Input) → Sound p → ScannedSo (waiting i p.lines) p i.cut → ScanSays p i (scan_of p i) (scan_of p i).found

-- A piece that has room: it waits behind what waited before, and what was looked through stays so.
pub record TakenIn (p : Parts) (i : Input) (w piece : List ℕ) : Type 0 where
  pub waits : waiting (after_taken i w piece) (taken_lines p.lines w piece) ≡ w ++ piece
  pub ready : ScannedSo (w ++ piece) (with_lines p (taken_lines p.lines w piece)) (after_taken i w piece).cut

unfoldable pub TakeRight : Type 0
TakeRight = (p : Parts) (i : Input) (piece : List ℕ) → Sound p → ((k : ℕ) → slice_index piece k < 256) → length (waiting i p.lines) + length piece ≤ 69632 →
    ScannedSo (waiting i p.lines) p i.cut → TakenIn p i (waiting i p.lines) piece

-- The end was told, and all that waits is looked through: if it has bytes, they are the last line.
pub record LastFound (p : Parts) (i : Input) (w : List ℕ) : Type 0 where
  pub last : last_line [] w ≡ w ∷ []
  pub told : last_of p i ≡ Some (line_at i.from (length w) (length (fields_from [] w)))
  pub holds : length (fields_from [] w) ≤ 16448 → LineHolds (with_fields p (last_words p i)) (line_at i.from (length w) (length (fields_from [] w))) w (fields_from [] w)
  pub waits : waiting (after_last p i) p.lines ≡ []

pub record NoneLeft (p : Parts) (i : Input) (w : List ℕ) : Type 0 where
  pub last : last_line [] w ≡ []
  pub told : last_of p i ≡ None
  pub kept : last_words p i ≡ p.fields

abbrev pub LastSays : Parts → Input → List ℕ → Bool → Type 0
LastSays p i w true = NoneLeft p i w
LastSays p i w false = LastFound p i w

unfoldable pub LastRight : Type 0
LastRight = (p : Parts) (i : Input) → Sound p → ScannedSo (waiting i p.lines) p i.cut → i.cut.at ≡ length (waiting i p.lines) →
    LastSays p i (waiting i p.lines) (none_of (waiting i p.lines))

-- A text that is cut anew.
pub record CutAnew (p : Parts) (q : Place) (l : List ℕ) : Type 0 where
  pub count : (recut_of p.fields l).cut.fields ≡ length (fields_from [] l)
  pub holds : length l ≡ q.len → length (fields_from [] l) ≤ 16448 → LineHolds (with_fields p (recut_of p.fields l).words) (line_at q.start q.len (length (fields_from [] l))) l (fields_from [] l)

unfoldable pub RecutRight : Type 0
RecutRight = (p : Parts) (q : Place) → Sound p → CutAnew p q (window q.start q.len p.lines)

-- A field of a line is where it is said to be.
unfoldable pub NthRight : Type 0
NthRight = (p : Parts) (line : Line) (l : List ℕ) (fs : List (List ℕ)) (n : ℕ) → Sound p → line.place.start + length l < 18446744073709551616 → LineHolds p line l fs →
    window (nth_place p.fields line n).start (nth_place p.fields line n).len p.lines ≡ nth_part fs n

-- A line with one field changed.

-- it lies before the second buffer, or in it
pub record InPlace (line : Line) : Type 0 where
  pub before : line.place.start < 135168 → line.place.start + line.place.len ≤ 135168
  pub within : line.place.start + line.place.len ≤ 200704

-- The new line has room: once it is filled, it is held with its fields.
pub record BuiltSo (p : Parts) (line : Line) (n : ℕ) (v : List ℕ) (gs : List (List ℕ)) : Type 0 where
  pub told : built p line n (length v) ≡ Some (line_at (buffer_of line) (length (joined gs)) (length gs))
  pub holds : LineHolds (filled (after_built p line n (length v)) (line_at (buffer_of line) (length (joined gs)) (length gs)) n v) (line_at (buffer_of line) (length (joined gs)) (length gs)) (joined gs) gs

-- It has none, and nothing is changed.
pub record RefusedSo (p : Parts) (line : Line) (n : ℕ) (v : List ℕ) : Type 0 where
  pub told : built p line n (length v) ≡ None
  pub kept : after_built p line n (length v) ≡ p

abbrev pub BuildSays : Parts → Line → ℕ → List ℕ → List (List ℕ) → Bool → Type 0
BuildSays p line n v gs true = BuiltSo p line n v gs
BuildSays p line n v gs false = RefusedSo p line n v

unfoldable pub BuildRight : Type 0
BuildRight = (p : Parts) (line : Line) (l : List ℕ) (fs : List (List ℕ)) (n : ℕ) (v : List ℕ) → Sound p → LineHolds p line l fs → InPlace line → 1 ≤ n → n ≤ 1000 → ((k : ℕ) → slice_index v k < 256) →
    BuildSays p line n v (set_part 1001 fs n v) (short (joined (set_part 1001 fs n v)))

-- Bytes as a line of their own.
unfoldable pub LineRight : Type 0
LineRight = (p : Parts) (line : Line) (v : List ℕ) → Sound p → ((k : ℕ) → slice_index v k < 256) → length v < 65536 → length (fields_from [] v) ≤ 16448 →
    LineHolds (after_line p line v) (line_of p line v) v (fields_from [] v)
