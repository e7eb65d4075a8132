use Rattle.std.proofs.Common.{◌≡◌, ◌+◌, ◌-◌, ◌≤◌, [], length, drop}
use Rattle.language.specs.Text.{fields_from}
use Rattle.engine.proofs.setting.count_fields.Given as goal

-- so many fields are behind, and the others are those from here on
abbrev pub invariant-loop-field : goal.invariant-loop-field
invariant-loop-field g l =
    (length (fields_from [] (g.T.Bytes.bytes l.t)) ≡ l.n + length (fields_from [] (drop l.from (g.T.Bytes.bytes l.t))))
    × (l.n ≤ l.from) × (l.from ≤ length (g.T.Bytes.bytes l.t))

abbrev pub decreases-loop-field : goal.decreases-loop-field
decreases-loop-field g l = length (g.T.Bytes.bytes l.t) - l.from
