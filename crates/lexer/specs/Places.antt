-- Parts of a text by where they stand: names, quoted texts and patterns, and the tokens from a place on. Assumes nothing: these are definitions.
use Rattle.std.specs.Prelude.{◌≡◌, ℕ, ◌+◌, ◌*◌, ◌≤◌, List, [], ◌∷◌, length, drop}
use Rattle.language.specs.Text.{Pattern}
use Rattle.language.specs.Program.{Token, quote_part, pattern_of, cut_up}
use Rattle.lexer.specs.Marks.{bytes_of, TokensIn}
use Rattle.lexer.specs.declared.tokens.Name.{Name}

-- a name in the text
pub record Named (bs : List ℕ) (v : Name) (x : List ℕ) : Type 0 where
  pub inside : v.start + v.len ≤ length bs
  pub is : x ≡ bytes_of bs v

-- a quoted text, by where its bytes begin
pub record QuotedAt (bs : List ℕ) (q : ℕ) (b : List ℕ) : Type 0 where
  pub inside : q ≤ length bs
  pub is : b ≡ quote_part (drop q bs)

-- a pattern, by where its bytes begin
pub record PatternAt (bs : List ℕ) (q : ℕ) (p : Pattern) : Type 0 where
  pub inside : q ≤ length bs
  pub is : pattern_of (quote_part (drop q bs)) ≡ p ∷ []

-- the fuel for a text, which is always enough, and its tokens from a place on
abbrev pub fuel : List ℕ → ℕ
fuel bs = 16 * length (cut_up bs) + 16

abbrev pub toks : List ℕ → ℕ → List Token
toks bs p = drop p (cut_up bs)

-- a text of which the tokens are there
pub record Ready (bs m : List ℕ) (count : ℕ) : Type 0 where
  pub long : length m ≡ 179200
  pub short : length bs ≤ 4096
  pub tokens : TokensIn bs m count
