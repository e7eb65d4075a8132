-- What a byte begins. Assumes nothing: these are definitions.
use Rattle.std.specs.Prelude.{ℕ, ◌==◌}
use Rattle.language.specs.Text.{pick, digit}
use Rattle.language.specs.Program.{letter, gap}
use Rattle.lexer.specs.declared.tokens.Class.{Class}
use Rattle.lexer.specs.declared.tokens.Class.TheVariants.{Gap, Comment, Letter, Digit, Quote, Other}

abbrev pub class_of : ℕ → Class
class_of c = pick (gap c) Gap (pick (c == 35) Comment (pick (letter c) Letter (pick (digit c) Digit (pick (c == 34) Quote Other))))
