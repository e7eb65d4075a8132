-- How a quoted text goes on. Assumes nothing: these are definitions.
use Rattle.std.specs.Prelude.{◌≡◌, ℕ, ◌<◌, List, length, drop, Some, None, Option, slice_index}
use Rattle.language.specs.Program.{quote_ends, past_quote}
use Rattle.lexer.specs.declared.patterns.Meant.{Meant}

-- where a quoted text ends is the same from this place on and from that
pub record EndsAlike (bs : List ℕ) (i j : ℕ) : Type 0 where
  pub past : past_quote (drop i bs) ≡ past_quote (drop j bs)
  pub ends : quote_ends (drop i bs) ≡ quote_ends (drop j bs)

-- behind a byte that is meant it goes on; where none is meant there is a quote, or the end of the text
abbrev pub QuoteGoes : List ℕ → ℕ → Option Meant → Type 0
QuoteGoes bs i (Some m) = EndsAlike bs i m.next
QuoteGoes bs i None = i < length bs → slice_index bs i ≡ 34
