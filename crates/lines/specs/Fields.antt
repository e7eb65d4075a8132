-- What memory has of a line: its bytes, and the places of its fields. Assumes nothing: these are definitions.
use Rattle.std.specs.Prelude.{◌≡◌, ℕ, ◌+◌, ◌<◌, ◌≤◌, List, [], ◌∷◌, length, take, drop, nat_lt, slice_index, slice_set}
use Rattle.language.specs.Text.{pick, each, blank}
use Rattle.store.specs.Words.{window}
use Rattle.regions.specs.Parts.{Parts}
use Rattle.store.specs.declared.place.Place.{Place}
use Rattle.regions.specs.Places.{place_word, place_of}
use Rattle.lines.specs.declared.line.Line.{Line}
use Rattle.lines.specs.Cutting.{from_to}

-- the bytes at a place of a text
abbrev pub cut_out : List ℕ → Place → List ℕ
cut_out l p = take p.len (drop p.start l)

-- the places that are noted in the first n words
abbrev pub places : ℕ → List ℕ → List Place
places n ws = each place_of (take n ws)

-- the words with places noted from word n on
unfoldable pub noted : List ℕ → ℕ → List Place → List ℕ
noted ws n [] = ws
noted ws n (p ∷ ps) = noted (slice_set ws n (place_word p)) (n + 1) ps

-- the places of the fields that end in a text, of which i bytes are passed, the last blank before s
unfoldable pub places_from : ℕ → ℕ → List ℕ → List Place
places_from i s [] = pick (nat_lt s i) (from_to s i ∷ []) []
places_from i s (c ∷ cs) =
    pick (blank c) (pick (nat_lt s i) (from_to s i ∷ places_from (i + 1) (i + 1) cs) (places_from (i + 1) (i + 1) cs)) (places_from (i + 1) s cs)

-- regions of the right size
pub record Sound (p : Parts) : Type 0 where
  pub fields_room : length p.fields ≡ 16448
  pub lines_room : length p.lines ≡ 25088

-- the line has these bytes and these fields, each of which lies inside it
pub record LineHolds (p : Parts) (line : Line) (l : List ℕ) (fs : List (List ℕ)) : Type 0 where
  pub bytes : window line.place.start line.place.len p.lines ≡ l
  pub whole : length l ≡ line.place.len
  pub count : line.fields ≡ length fs
  pub room : length fs ≤ 16448
  pub inside : (i : ℕ) → i < length fs → (place_of (slice_index p.fields i)).start + (place_of (slice_index p.fields i)).len ≤ length l
  pub parts : each (cut_out l) (places (length fs) p.fields) ≡ fs
