use Rattle.std.proofs.Common.{◌-◌, ◌≤◌, length}
use Rattle.lexer.specs.Scanning.{Scans}
use Rattle.lexer.proofs.patterns.is_pattern.Given as goal

abbrev pub invariant-loop-c : goal.invariant-loop-c
invariant-loop-c l = (l.s.nested ≤ l.s.at) × Scans l.text l.from l.s

abbrev pub decreases-loop-c : goal.decreases-loop-c
decreases-loop-c l = length l.text - l.s.at
