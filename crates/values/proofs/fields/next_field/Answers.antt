use Rattle.std.proofs.Common.{arith}
use Rattle.values.proofs.Cutting.{field_there, no_field_there}
use Rattle.values.proofs.fields.next_field.Goals as goal

pub returns-then-end-start : goal.returns-then-end-start
returns-then-end-start g c =
    record {
      next = field_there (g.T.Bytes.bytes c.args.t.now) c.args.from c.past-start.result c.past-end.result c.past-start.ensures c.past-end.ensures c.if-end-start.true;
      ends = omega arith;
    }

pub returns-else-end-start : goal.returns-else-end-start
returns-else-end-start g c =
    record {
      next = no_field_there (g.T.Bytes.bytes c.args.t.now) c.args.from c.past-start.result c.past-end.result c.past-start.ensures c.past-end.ensures c.if-end-start.false;
      ends = tt;
    }
