use Rattle.std.proofs.Common.{refl, arith}
use Rattle.lexer.specs.Marks.{bytes_of}
use Rattle.lexer.proofs.tokens.word_token.Goals as goal

pub returns-in-None : goal.returns-in-None
unfolding bytes_of
returns-in-None c = (refl, c.in-None.ensures, omega arith)
