use Rattle.std.proofs.Common.{◌-◌, ◌≤◌, length}
use Rattle.lexer.proofs.Sets.{Far}
use Rattle.lexer.proofs.patterns.past_set.Given as goal

abbrev pub invariant-loop-c : goal.invariant-loop-c
invariant-loop-c l = (l.i ≤ length l.text) × Far l.text l.from l.i

abbrev pub decreases-loop-c : goal.decreases-loop-c
decreases-loop-c l = length l.text - l.i
