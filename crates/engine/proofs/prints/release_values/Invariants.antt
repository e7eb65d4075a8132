use Rattle.std.proofs.Common.{◌≡◌, ◌-◌}
use Rattle.regions.specs.Parts.{parts}
use Rattle.engine.specs.Prints.{released}
use Rattle.engine.proofs.prints.release_values.Given as goal

-- what is left to let go
abbrev pub invariant-loop-i : goal.invariant-loop-i
invariant-loop-i l = released (parts l.initial.mem) l.depth l.n ≡ released (parts l.mem) (l.depth - l.i) (l.n - l.i)
