use Rattle.std.proofs.Common.{◌∙◌}
use Rattle.values.specs.Compare.{worth}
use Rattle.values.proofs.Comparing.{equal_is}
use Rattle.values.proofs.compare.alike.Goals as goal

pub returns : goal.returns
returns g c = c.is_eq.ensures ∙ equal_is (worth g.A.Bytes.bytes c.args.a) (worth g.B.Bytes.bytes c.args.b) c.order.result c.order.ensures
