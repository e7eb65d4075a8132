-- Places in words.
use Rattle.std.proofs.Common.{◌≡◌, ℕ, ◌<◌, arith}
use Rattle.store.specs.declared.place.Place.{Place}
use Rattle.regions.specs.Places.{place_word, place_of}

same_place : (a b c d : ℕ) → a ≡ c → b ≡ d → ◌≡◌ {A = Place} (record { start = a; len = b }) (record { start = c; len = d })
same_place a b c d p q = cc

pub come_back : (p : Place) → p.start < 4294967296 → p.len < 4294967296 → place_of (place_word p) ≡ p
unfolding place_word place_of
come_back p h l = same_place _ _ p.start p.len (omega arith) (omega arith)
