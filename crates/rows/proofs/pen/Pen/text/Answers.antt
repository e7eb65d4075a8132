use Rattle.std.proofs.Common.{arith}
use Rattle.rows.proofs.Putting.{written}
use Rattle.rows.proofs.pen.Pen.text.Goals as goal

pub returns-clause-written : goal.returns-clause-written
returns-clause-written g c =
    let s = c.args.self.now in
    written s.row.now s.at s.skip _ _ (g.T.Bytes.bytes c.args.t.now) _ c.copy_out.ensures.count (omega arith) c.copy_out.ensures.copied
