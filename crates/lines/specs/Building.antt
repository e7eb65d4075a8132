-- A line that is put together anew, with one field changed. Assumes nothing: these are definitions.
use Rattle.std.specs.Prelude.{ℕ, zero, suc, ◌+◌, ◌-◌, max, List, [], ◌∷◌, length, Some, None, Option, ◌==◌, nat_le, nat_lt, slice_set}
use Rattle.language.specs.Text.{pick}
use Rattle.store.specs.Words.{window, put_byte, put_bytes}
use Rattle.regions.specs.Parts.{Parts, with_fields, with_lines}
use Rattle.store.specs.declared.place.Place.{Place}
use Rattle.regions.specs.Places.{place_word}
use Rattle.lines.specs.declared.line.Line.{Line}
use Rattle.lines.specs.declared.building.Piece.{Piece}
use Rattle.lines.specs.Cutting.{Cuts, recut_of}
use Rattle.lines.specs.Lines.{place, nth_place}
use Rattle.lines.specs.Scanning.{line_at}

-- where a buffer begins in which the line does not lie
unfoldable pub buffer_of : Line → ℕ
buffer_of l = pick (nat_lt l.place.start 135168) 135168 69632

abbrev pub gap : ℕ → Piece
gap n = record { from = 0; copy = 0; room = n }

abbrev pub copied : Place → Piece
copied p = record { from = p.start; copy = p.len; room = p.len }

-- what is laid down for field i + 1, where field n is to have k bytes that come later
unfoldable pub piece_of : List ℕ → Line → ℕ → ℕ → ℕ → Piece
piece_of ws l n k i = pick (i + 1 == n) (gap k) (copied (nth_place ws l (i + 1)))

-- so many pieces, from that for field i + 1 on
unfoldable pub pieces : List ℕ → Line → ℕ → ℕ → ℕ → ℕ → List Piece
pieces ws l n k zero i = []
pieces ws l n k (suc m) i = piece_of ws l n k i ∷ pieces ws l n k m (i + 1)

abbrev pub all_pieces : List ℕ → Line → ℕ → ℕ → List Piece
all_pieces ws l n k = pieces ws l n k (max l.fields n) 0

-- how many bytes they take, each with a blank behind it
unfoldable pub total : List Piece → ℕ
total [] = 0
total (p ∷ ps) = (p.room + 1) + total ps

-- their places
unfoldable pub offsets : ℕ → List Piece → List Place
offsets at [] = []
offsets at (p ∷ ps) = place at p.room ∷ offsets (at + (p.room + 1)) ps

-- one piece is laid down for field i + 1, at byte `at` of the buffer that begins at b
abbrev pub laid_one : Parts → ℕ → ℕ → ℕ → Piece → Parts
laid_one p b i at x =
    with_lines (with_fields p (slice_set p.fields i (place_word (place at x.room))))
    (put_byte (put_bytes p.lines (b + at) (window x.from x.copy p.lines)) (b + at + x.room) 32)

unfoldable pub laid : Parts → ℕ → ℕ → ℕ → List Piece → Parts
laid p b i at [] = p
laid p b i at (x ∷ xs) = laid (laid_one p b i at x) b (i + 1) (at + (x.room + 1)) xs

unfoldable pub after_built : Parts → Line → ℕ → ℕ → Parts
after_built p l n k = pick (nat_le (total (all_pieces p.fields l n k)) 65536) (laid p (buffer_of l) 0 0 (all_pieces p.fields l n k)) p

unfoldable pub built : Parts → Line → ℕ → ℕ → Option Line
built p l n k = pick (nat_le (total (all_pieces p.fields l n k)) 65536) (Some (line_at (buffer_of l) (total (all_pieces p.fields l n k) - 1) (max l.fields n))) None

-- the room that was left is filled
abbrev pub filled : Parts → Line → ℕ → List ℕ → Parts
filled p line n v = with_lines p (put_bytes p.lines (nth_place p.fields line n).start v)

abbrev pub filled_if : Option Line → Parts → ℕ → List ℕ → Parts
filled_if None p n v = p
filled_if (Some line) p n v = filled p line n v

unfoldable pub after_set : Parts → Line → ℕ → List ℕ → Parts
after_set p l n v = filled_if (built p l n (length v)) (after_built p l n (length v)) n v

-- bytes as a line of their own

unfoldable pub with_text : Parts → Line → List ℕ → Parts
with_text p l v = with_lines p (put_bytes p.lines (buffer_of l) v)

abbrev pub recut_text : Parts → Line → List ℕ → Cuts
recut_text p l v = recut_of p.fields (window (buffer_of l) (length v) (with_text p l v).lines)

unfoldable pub after_line : Parts → Line → List ℕ → Parts
after_line p l v = with_fields (with_text p l v) (recut_text p l v).words

unfoldable pub line_of : Parts → Line → List ℕ → Line
line_of p l v = line_at (buffer_of l) (length v) (recut_text p l v).cut.fields
