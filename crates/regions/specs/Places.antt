-- A place in a text as a word: where it begins in the lower half, how many bytes it has in the upper. Assumes nothing: these are definitions.
use Rattle.std.specs.Prelude.{◌≡◌, ℕ, ◌+◌, ◌*◌, ◌/◌, ◌%◌, ◌<◌}
use Rattle.store.specs.declared.place.Place.{Place}

unfoldable pub place_word : Place → ℕ
place_word p = p.start % 4294967296 + 4294967296 * (p.len % 4294967296)

unfoldable pub place_of : ℕ → Place
place_of w = record { start = w % 4294967296; len = w / 4294967296 }

unfoldable pub PlacesComeBack : Type 0
PlacesComeBack = (p : Place) → p.start < 4294967296 → p.len < 4294967296 → place_of (place_word p) ≡ p
