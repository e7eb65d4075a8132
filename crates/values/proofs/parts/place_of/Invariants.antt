use Rattle.std.proofs.Common.{◌≡◌, ◌+◌, ◌-◌, drop}
use Rattle.language.specs.Meaning.{place_of, place_in}
use Rattle.values.proofs.parts.place_of.Given as goal

abbrev pub invariant-loop-i : goal.invariant-loop-i
invariant-loop-i g l =
    place_of (g.A.Bytes.bytes l.a) (g.B.Bytes.bytes l.b)
    ≡ place_in (l.m - l.n + 1 - l.i) (g.B.Bytes.bytes l.b) (drop l.i (g.A.Bytes.bytes l.a)) (l.i + 1)
