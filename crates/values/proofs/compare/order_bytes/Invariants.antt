use Rattle.std.proofs.Common.{drop, Ordering}
use Rattle.language.specs.Text.{earlier}
use Rattle.values.specs.Compare.{Ordered}
use Rattle.values.proofs.compare.order_bytes.Given as goal

abbrev pub invariant-loop-i : goal.invariant-loop-i
invariant-loop-i g l =
    (o : Ordering) →
    Ordered earlier (drop l.i (g.A.Bytes.bytes l.a)) (drop l.i (g.B.Bytes.bytes l.b)) o → Ordered earlier (g.A.Bytes.bytes l.a) (g.B.Bytes.bytes l.b) o
