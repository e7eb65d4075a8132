use Rattle.std.proofs.Common.{◌-◌, ◌≤◌, length}
use Rattle.lexer.proofs.Cutting.{Far}
use Rattle.lexer.proofs.tokens.cut.Given as goal

abbrev pub invariant-loop-i : goal.invariant-loop-i
invariant-loop-i l = record { few : l.count ≤ l.i; inside : l.i ≤ length l.text; far : Far l.text l.work l.i l.count }

abbrev pub decreases-loop-i : goal.decreases-loop-i
decreases-loop-i l = length l.text - l.i
