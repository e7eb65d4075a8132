use Rattle.std.proofs.Common.{◌≡◌, ◌-◌, drop}
use Rattle.store.specs.Words.{window}
use Rattle.regions.specs.Parts.{parts, with_fields}
use Rattle.lines.specs.Cutting.{cuts_of}
use Rattle.lines.specs.Scanning.{scan_on}
use Rattle.lines.proofs.input.scan_on.Given as goal

abbrev pub invariant-loop-c : goal.invariant-loop-c
invariant-loop-c l =
    (scan_on (drop l.initial.c.at (window l.from l.n (parts l.initial.mem).lines)) (cuts_of (parts l.initial.mem).fields l.initial.c)
    ≡ scan_on (drop l.c.at (window l.from l.n (parts l.initial.mem).lines)) (cuts_of (parts l.mem).fields l.c))
    × (parts l.mem ≡ with_fields (parts l.initial.mem) (parts l.mem).fields)

abbrev pub decreases-loop-c : goal.decreases-loop-c
decreases-loop-c l = l.n - l.c.at
