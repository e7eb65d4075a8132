-- Where the parts of a text end, and which sign two bytes are. Assumes nothing: these are definitions.
use Rattle.std.specs.Prelude.{◌≡◌, ℕ, ◌<◌, ◌≤◌, true, false, ◌&&◌, List, length, drop, Some, None, Option, ◌==◌, ◌≢◌}
use Rattle.language.specs.Text.{pick}
use Rattle.language.specs.Program.{a_sign, quote_ends, past_quote}

-- the number of a sign of two bytes, 0 if they make none
abbrev pub pair_of : ℕ → ℕ → ℕ
pair_of c d =
    pick (c == 61 && d == 61) 1 (pick (c == 33 && d == 61) 2 (pick (c == 60 && d == 61) 3 (pick (c == 62 && d == 61) 4
    (pick (c == 38 && d == 38) 5 (pick (c == 124 && d == 124) 6 (pick (c == 33 && d == 126) 7 0))))))

-- the sign that a byte begins with another behind it: 1 to 7 for two bytes, its byte for one, 0 for none
abbrev pub sign_of : ℕ → ℕ → ℕ
sign_of c d = pick (pair_of c d == 0) (pick (a_sign c) c 0) (pair_of c d)

-- the sign that two bytes begin with, if they make one
abbrev pub SignIs : ℕ → ℕ → Option ℕ → Type 0
SignIs c d (Some s) = (s ≡ sign_of c d) × (s ≢ 0)
SignIs c d None = sign_of c d ≡ 0

-- where a quoted text ends: behind its closing quote, if there is one
abbrev pub QuoteEnded : List ℕ → ℕ → Option ℕ → Type 0
QuoteEnded bs from None = quote_ends (drop from bs) ≡ false
QuoteEnded bs from (Some r) = (quote_ends (drop from bs) ≡ true) × (drop r bs ≡ past_quote (drop from bs)) × (from < r) × (r ≤ length bs)
