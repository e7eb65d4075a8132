use Rattle.std.proofs.Common.{◌≡◌, ℕ, ◌+◌, ◌-◌, ◌≤◌, get_or}
use Rattle.regions.specs.Parts.{parts}
use Rattle.lines.specs.Building.{buffer_of, pieces, total, laid}
use Rattle.lines.proofs.building.Change.lay.Given as goal

abbrev pub invariant-loop-i : goal.invariant-loop-i
invariant-loop-i l =
    (laid (parts l.initial.mem) (buffer_of l.self.line) 0 0 (pieces (parts l.initial.mem).fields l.self.line l.self.n l.self.len l.self.fields 0)
    ≡ laid (parts l.mem) (buffer_of l.self.line) l.i l.at (pieces (parts l.initial.mem).fields l.self.line l.self.n l.self.len (l.self.fields - l.i) l.i))
    × (total (pieces (parts l.initial.mem).fields l.self.line l.self.n l.self.len l.self.fields 0) ≡ l.at + total (pieces (parts l.initial.mem).fields l.self.line l.self.n l.self.len (l.self.fields - l.i) l.i))
    × ((j : ℕ) → l.i ≤ j → get_or (parts l.mem).fields j 0 ≡ get_or (parts l.initial.mem).fields j 0)
