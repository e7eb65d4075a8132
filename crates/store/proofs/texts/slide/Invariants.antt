use Rattle.std.proofs.Common.{◌≡◌, ◌-◌, ◌≤◌}
use Rattle.store.specs.Space.{space, slid}
use Rattle.store.proofs.texts.slide.Given as goal

abbrev pub invariant-loop-from : goal.invariant-loop-from
invariant-loop-from l =
    (slid 20480 77822 l.end (space 20480 l.initial.texts) 0 0 ≡ slid 20480 (l.end - l.from) l.end (space 20480 l.texts) l.from l.to)
    × (l.from ≤ l.end) × (l.to ≤ l.from)

abbrev pub decreases-loop-from : goal.decreases-loop-from
decreases-loop-from l = l.end - l.from
