use Rattle.std.proofs.Common.{◌≡◌, ◌-◌}
use Rattle.store.specs.Space.{space, with_table, chained}
use Rattle.store.proofs.texts.clear.Given as goal

abbrev pub invariant-loop-h : goal.invariant-loop-h
invariant-loop-h l = with_table (space 20480 l.initial.texts) (chained 20480 0 (space 20480 l.initial.texts).table) ≡ with_table (space 20480 l.texts) (chained (20480 - l.h) l.h (space 20480 l.texts).table)
