-- What writing bytes into words does to the bytes. Assumes nothing: these are definitions; the laws are proved.
use Rattle.std.specs.Prelude.{◌≡◌, ℕ, ◌+◌, ◌*◌, ◌<◌, ◌≤◌, ◌⊎◌, List, ◌++◌, length, ℤ, slice_index}
use Rattle.language.specs.Text.{as_text}
use Rattle.store.specs.Words.{bytes_of, unpacked, window, put_bytes, over}
use Rattle.store.specs.Numbers.{number}

-- all are bytes
abbrev pub Bytely : List ℕ → Type 0
Bytely bs = (i : ℕ) → slice_index bs i < 256

pub record ByteLaws : Type 0 where
  pub puts : (ws : List ℕ) (to : ℕ) (bs : List ℕ) → Bytely bs → unpacked (put_bytes ws to bs) ≡ over (unpacked ws) to bs
  pub keeps : (ws : List ℕ) (to : ℕ) (bs : List ℕ) (from n : ℕ) → Bytely bs → (to + length bs ≤ from) ⊎ (from + n ≤ to) → window from n (put_bytes ws to bs) ≡ window from n ws
  pub appends : (ws : List ℕ) (from n : ℕ) (bs : List ℕ) → Bytely bs → from + n + length bs ≤ 8 * length ws → window from (n + length bs) (put_bytes ws (from + n) bs) ≡ window from n ws ++ bs
  pub wide : (ws : List ℕ) (to : ℕ) (bs : List ℕ) → length (put_bytes ws to bs) ≡ length ws
  pub packed_bytes : (from n : ℕ) (ws : List ℕ) → Bytely (window from n ws)
  pub short_bytes : (n w : ℕ) → Bytely (bytes_of n w)
  pub decimal_bytes : (z : ℤ) → Bytely (as_text (number z))
