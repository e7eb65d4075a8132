use Rattle.std.proofs.Common.{◌≡◌, ◌+◌, ◌-◌, ◌≤◌}
use Rattle.regions.specs.Parts.{parts}
use Rattle.lines.specs.Building.{pieces, total}
use Rattle.lines.proofs.building.Change.total.Given as goal

abbrev pub invariant-loop-i : goal.invariant-loop-i
invariant-loop-i l =
    (l.sum ≤ 65536)
    × (total (pieces (parts l.mem).fields l.self.line l.self.n l.self.len l.self.fields 0) ≡ l.sum + total (pieces (parts l.mem).fields l.self.line l.self.n l.self.len (l.self.fields - l.i) l.i))
