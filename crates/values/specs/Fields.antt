-- Places in a text, and the fields that stand there.
use Rattle.std.specs.Prelude.{◌≡◌, ℕ, ◌+◌, ◌<◌, ◌≤◌, List, [], ◌∷◌, length, take, drop, Some, None, Option}
use Rattle.store.specs.declared.place.Place.{Place}
use Rattle.language.specs.Text.{each, fields_from}
use Rattle.language.specs.Meaning.{State, Went, stopped, wrong}

-- the bytes at a place
abbrev pub cut : List ℕ → Place → List ℕ
cut bs p = take p.len (drop p.start bs)

-- the first field that begins at `from` or behind it stands at p, and the fields behind it are those from its end on
pub record FieldAt (bs : List ℕ) (from : ℕ) (p : Place) : Type 0 where
  pub on : from ≤ p.start
  pub some : 0 < p.len
  pub inside : p.start + p.len ≤ length bs
  pub fields : fields_from [] (drop from bs) ≡ cut bs p ∷ fields_from [] (drop (p.start + p.len) bs)

-- the next field, or that there is none
abbrev pub NextField : List ℕ → ℕ → Option Place → Type 0
NextField bs from None = fields_from [] (drop from bs) ≡ []
NextField bs from (Some p) = FieldAt bs from p

-- the places that are told one after the other, each from the end of the one before, till there is none
abbrev pub PlacesTold : List ℕ → ℕ → List Place → Type 0
PlacesTold bs from [] = NextField bs from None
PlacesTold bs from (p ∷ ps) = NextField bs from (Some p) × PlacesTold bs (p.start + p.len) ps

-- the fields of a text are what stands at the places that are told from its beginning on
abbrev pub FieldsTold : Type 0
FieldsTold = (bs : List ℕ) (ps : List Place) → PlacesTold bs 0 ps → each (cut bs) ps ≡ fields_from [] bs

-- a number as a list of one
abbrev pub listed : Option ℕ → List ℕ
listed (Some k) = k ∷ []
listed None = []

-- a number with which a run stops; any other is wrong 9
abbrev pub exited : Option ℕ → State → Went
exited (Some k) s = stopped k s
exited None s = wrong 9 s
