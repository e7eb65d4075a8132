use Rattle.std.proofs.Common.{◌-◌, ◌≤◌, length}
use Rattle.lexer.specs.Quotes.{EndsAlike}
use Rattle.lexer.proofs.tokens.past_quote.Given as goal

abbrev pub invariant-loop-c : goal.invariant-loop-c
invariant-loop-c l = record { onward : l.from ≤ l.i; inside : l.i ≤ length l.text; alike : EndsAlike l.text l.from l.i }

abbrev pub decreases-loop-c : goal.decreases-loop-c
decreases-loop-c l = length l.text - l.i
