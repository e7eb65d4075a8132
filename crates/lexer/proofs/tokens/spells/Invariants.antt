use Rattle.std.proofs.Common.{◌≡◌, length, drop}
use Rattle.language.specs.Text.{same}
use Rattle.lexer.proofs.tokens.spells.Given as goal

abbrev pub invariant-loop-i : goal.invariant-loop-i
invariant-loop-i l = (length l.word ≡ length l.«with») × (same l.word l.«with» ≡ same (drop l.i l.word) (drop l.i l.«with»))
