-- How a text is cut into fields in one pass over its bytes. Assumes nothing: these are definitions.
use Rattle.std.specs.Prelude.{ℕ, ◌+◌, ◌-◌, min, List, [], ◌∷◌, nat_lt, slice_set}
use Rattle.language.specs.Text.{pick, blank}
use Rattle.store.specs.declared.place.Place.{Place}
use Rattle.regions.specs.Places.{place_word}
use Rattle.lines.specs.declared.cutting.Cut.{Cut}

-- how far a text is cut, with the words of the region of fields
pub record Cuts : Type 0 where
  pub words : List ℕ
  pub cut : Cut

abbrev pub cuts_of : List ℕ → Cut → Cuts
cuts_of ws c = record { words = ws; cut = c }

abbrev pub cut_of : ℕ → ℕ → ℕ → Cut
cut_of i s n = record { at = i; since = s; fields = n }

abbrev pub fresh_cut : Cut
fresh_cut = cut_of 0 0 0

-- the place from s to i
abbrev pub from_to : ℕ → ℕ → Place
from_to s i = record { start = s; len = i - s }

-- a count has an end
abbrev pub one_more : ℕ → ℕ
one_more n = min (n + 1) 18446744073709551615

-- the field that has not ended ends here, if there is one

unfoldable pub closed_words : List ℕ → Cut → List ℕ
closed_words ws c = pick (nat_lt c.since c.at) (slice_set ws c.fields (place_word (from_to c.since c.at))) ws

unfoldable pub closed_count : Cut → ℕ
closed_count c = pick (nat_lt c.since c.at) (one_more c.fields) c.fields

abbrev pub closed : Cuts → Cuts
closed s = cuts_of (closed_words s.words s.cut) (cut_of s.cut.at s.cut.since (closed_count s.cut))

-- byte b is passed: a blank ends a field, any other byte is of one

abbrev pub pass_blank : Cuts → Cuts
pass_blank s = cuts_of (closed_words s.words s.cut) (cut_of (s.cut.at + 1) (s.cut.at + 1) (closed_count s.cut))

abbrev pub pass_other : Cuts → Cuts
pass_other s = cuts_of s.words (cut_of (s.cut.at + 1) s.cut.since s.cut.fields)

unfoldable pub pass_byte : ℕ → Cuts → Cuts
pass_byte b s = pick (blank b) (pass_blank s) (pass_other s)

unfoldable pub pass_all : List ℕ → Cuts → Cuts
pass_all [] s = s
pass_all (b ∷ bs) s = pass_all bs (pass_byte b s)

-- a whole text
unfoldable pub recut_of : List ℕ → List ℕ → Cuts
recut_of ws bs = closed (pass_all bs (cuts_of ws fresh_cut))
