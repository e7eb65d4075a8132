use Rattle.std.proofs.Common.{◌≡◌, length, take, drop}
use Rattle.language.specs.Text.{same}
use Rattle.values.proofs.parts.stands_at.Given as goal

abbrev pub invariant-loop-k : goal.invariant-loop-k
invariant-loop-k g l =
    same (g.B.Bytes.bytes l.b) (take (length (g.B.Bytes.bytes l.b)) (drop l.from (g.A.Bytes.bytes l.a)))
    ≡ same (drop l.k (g.B.Bytes.bytes l.b)) (drop l.k (take (length (g.B.Bytes.bytes l.b)) (drop l.from (g.A.Bytes.bytes l.a))))
