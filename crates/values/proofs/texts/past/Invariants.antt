use Rattle.std.proofs.Common.{◌≡◌, ◌+◌, drop}
use Rattle.values.specs.Texts.{run}
use Rattle.values.proofs.texts.past.Given as goal

abbrev pub invariant-loop-i : goal.invariant-loop-i
invariant-loop-i g l =
    l.from + run g.K.Kind.test (drop l.from (g.T.Bytes.bytes l.t))
    ≡ l.i + run g.K.Kind.test (drop l.i (g.T.Bytes.bytes l.t))
