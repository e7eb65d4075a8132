-- Short texts from words and from bytes. Assumes nothing: these are definitions.
use Rattle.std.specs.Prelude.{◌≡◌, ℕ, zero, suc, ◌+◌, ◌*◌, ◌%◌, ◌^◌, ◌<◌, min, List, [], ◌∷◌, length, take, slice_index}
use Rattle.std.proofs.Common.{mod-lt, pow-suc, arith}
use Rattle.store.specs.declared.short.Short.{Short}

pub pow_above : (n : ℕ) → 0 < 256 ^ n
pow_above zero = omega arith
pow_above (suc n) = rw (pow-suc 256 n) (omega (arith, pow_above n))

-- the n lowest bytes of a word, at most eight
unfoldable pub low_short : ℕ → ℕ → Short
low_short w n = record { word = w % 256 ^ min n 8; len = min n 8; few = omega arith; clean = mod-lt w (pow_above (min n 8)) }

-- bytes as a number, the first lowest
unfoldable pub packed : List ℕ → ℕ
packed [] = 0
packed (b ∷ bs) = b + 256 * packed bs

-- a short text from its bytes
abbrev pub short_of : List ℕ → Short
short_of bs = low_short (packed (take 8 bs)) (length bs)

-- bytes that were read into a word
pub record Read (bs : List ℕ) (v : ℕ) : Type 0 where
  pub word : v ≡ packed bs
  pub below : (i : ℕ) → slice_index bs i < 256
