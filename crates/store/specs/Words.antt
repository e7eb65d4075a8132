-- Bytes in words: eight to a word, the lowest first. Assumes nothing: these are definitions.
use Rattle.std.specs.Prelude.{ℕ, zero, suc, ◌+◌, ◌-◌, ◌*◌, ◌/◌, ◌%◌, ◌^◌, min, List, [], ◌∷◌, ◌++◌, length, take, drop, slice_index, slice_set}
use Rattle.std.proofs.Math.Seq.{paste}

-- the k lowest bytes of w, the lowest first
unfoldable pub bytes_of : ℕ → ℕ → List ℕ
bytes_of zero w = []
bytes_of (suc k) w = (w % 256) ∷ bytes_of k (w / 256)

-- the bytes of words
unfoldable pub unpacked : List ℕ → List ℕ
unpacked [] = []
unpacked (w ∷ ws) = bytes_of 8 w ++ unpacked ws

-- the n bytes from byte `from` on; fewer where the words end
abbrev pub window : ℕ → ℕ → List ℕ → List ℕ
window from n ws = take n (drop from (unpacked ws))

-- a word with byte j changed to b
unfoldable pub with_byte : ℕ → ℕ → ℕ → ℕ
with_byte w j b = w - (w / 2 ^ (8 * j) % 256) * 2 ^ (8 * j) + b * 2 ^ (8 * j)

-- words with byte i changed to b; behind the last word nothing is changed
unfoldable pub put_byte : List ℕ → ℕ → ℕ → List ℕ
put_byte ws i b = slice_set ws (i / 8) (with_byte (slice_index ws (i / 8)) (i % 8) b)

-- words with these bytes from byte i on, as many of them as there is room for
unfoldable pub put_bytes : List ℕ → ℕ → List ℕ → List ℕ
put_bytes ws i [] = ws
put_bytes ws i (b ∷ bs) = put_bytes (put_byte ws i b) (i + 1) bs

-- d with s over it from `at` on, as much of it as there is room for
abbrev pub over : List ℕ → ℕ → List ℕ → List ℕ
over d at s = paste d at s (min (length s) (length d - at))
