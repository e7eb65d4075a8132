-- Names and patterns at a place among the tokens. Assumes nothing: these are definitions.
use Rattle.std.specs.Prelude.{◌≡◌, ℕ, ◌+◌, ◌≤◌, true, false, List, ◌∷◌, length, Some, None, Option}
use Rattle.language.specs.Text.{Pattern}
use Rattle.language.specs.Program.{got, none, name_of, pattern_here, word, rest, sees, kept_word}
use Rattle.lexer.specs.Marks.{bytes_of}
use Rattle.lexer.specs.Places.{Named, PatternAt, toks}
use Rattle.lexer.specs.declared.tokens.Name.{Name}

abbrev pub NameRead : List ℕ → ℕ → Option Name → Type 0
NameRead bs place (Some v) = (x : List ℕ) × Named bs v x × (name_of (toks bs place) ≡ got x (toks bs (place + 1)))
NameRead bs place None = name_of (toks bs place) ≡ none

abbrev pub PatternRead : List ℕ → ℕ → Option ℕ → Type 0
PatternRead bs place (Some q) = (p : Pattern) × PatternAt bs q p × (pattern_here (toks bs place) ≡ got p (toks bs (place + 1)))
PatternRead bs place None = pattern_here (toks bs place) ≡ none

-- this name is there; and it is called
pub record NameHere (bs : List ℕ) (place : ℕ) (v : Name) : Type 0 where
  pub is : toks bs place ≡ word (bytes_of bs v) ∷ rest (toks bs place)
  pub fresh : kept_word (bytes_of bs v) ≡ false
  pub inside : v.start + v.len ≤ length bs

pub record CallHere (bs : List ℕ) (place : ℕ) (v : Name) : Type 0 where
  pub name : NameHere bs place v
  pub no_item : sees 91 (toks bs (place + 1)) ≡ false
  pub calls : sees 40 (toks bs (place + 1)) ≡ true
