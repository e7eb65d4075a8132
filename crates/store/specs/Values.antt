-- Values, and how cells hold them. Assumes nothing: these are definitions.
use Rattle.std.specs.Prelude.{ℕ, ◌+◌, ◌-◌, ◌*◌, List, [], ◌∷◌, length, Some, None, Option, ◌==◌, nat_le, slice_set}
use Rattle.std.proofs.Common.{to_z, of_z}
use Rattle.std.specs.Int.{w64}
use Rattle.language.specs.Text
use Rattle.language.specs.Text.{pick, text}
use Rattle.store.specs.declared.texts.Handle.{Handle}
use Rattle.store.specs.declared.cells.Value.{Value}
use Rattle.store.specs.declared.cells.Value.TheVariants.{Unset, Number, Text, Short as InShort}
use Rattle.store.specs.Words.{bytes_of}
use Rattle.store.specs.Numbers.{number}
use Rattle.store.specs.Short.{low_short, short_of}
use Rattle.store.specs.Space.{Space, handle_of, raised, lowered, allocated, text_of, written}

-- what a kind and what stands with it say: 0 unset, 1 a number, 2 a text, 3 to 11 a short text of 0 to 8 bytes
unfoldable pub decode : ℕ → ℕ → Value
decode k p =
    pick (k == 1) (Number (to_z w64 p))
    (pick (k == 2) (Text (handle_of p)) (pick (nat_le 3 k) (pick (nat_le k 11) (InShort (low_short p (k - 3))) Unset) Unset))

-- the values of cells, two words to a cell
unfoldable pub decoded : List ℕ → List Value
decoded [] = []
decoded (k ∷ []) = []
decoded (k ∷ p ∷ ws) = decode k p ∷ decoded ws

abbrev pub kind_of : Value → ℕ
kind_of Unset = 0
kind_of (Number n) = 1
kind_of (Text h) = 2
kind_of (InShort b) = 3 + b.len

abbrev pub payload_of : Value → ℕ
payload_of Unset = 0
payload_of (Number n) = of_z w64 n
payload_of (Text h) = h.index
payload_of (InShort b) = b.word

-- cells with v in cell i; behind the last nothing is changed
unfoldable pub saved : List ℕ → ℕ → Value → List ℕ
saved ws i v = pick (nat_le (2 * i + 2) (length ws)) (slice_set (slice_set ws (2 * i) (kind_of v)) (2 * i + 1) (payload_of v)) ws

-- WHAT VALUES STAND FOR

abbrev pub worth : ℕ → Space → Value → Text.Value
worth W s Unset = text []
worth W s (Number n) = number n
worth W s (InShort b) = text (bytes_of b.len b.word)
worth W s (Text h) = text (text_of W s h.index)

-- the handles that a value holds
abbrev pub held_by : Value → List ℕ
held_by Unset = []
held_by (Number n) = []
held_by (InShort b) = []
held_by (Text h) = h.index ∷ []

-- one holder more of a value, and one less
abbrev pub kept : ℕ → Space → Value → Space
kept W s Unset = s
kept W s (Number n) = s
kept W s (InShort b) = s
kept W s (Text h) = raised W s h.index

abbrev pub let_go : ℕ → ℕ → Space → Value → Space
let_go T W s Unset = s
let_go T W s (Number n) = s
let_go T W s (InShort b) = s
let_go T W s (Text h) = lowered T W s h.index

-- A NEW TEXT

pub record Made : Type 0 where
  pub space : Space
  pub value : Option Value

-- the bytes bs in the text that was given, if one was
abbrev pub filled : ℕ → Space → Option Handle → List ℕ → Made
filled W s None bs = record { space = s; value = None }
filled W s (Some h) bs = record { space = written W s h.index 0 bs; value = Some (Text h) }

unfoldable pub made : ℕ → ℕ → Space → List ℕ → Made
made T W s bs =
    pick (nat_le (length bs) 8) (record { space = s; value = Some (InShort (short_of bs)) })
    (filled W (allocated T W s (length bs)).space (allocated T W s (length bs)).handle bs)
