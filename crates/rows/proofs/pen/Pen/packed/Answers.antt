use Rattle.std.proofs.Common.{arith}
use Rattle.store.proofs.Moving.{length_window}
use Rattle.store.specs.Words.{window}
use Rattle.rows.proofs.Putting.{written}
use Rattle.rows.proofs.pen.Pen.packed.Goals as goal

pub returns-else-t-lt-LONG-clause-written : goal.returns-else-t-lt-LONG-clause-written
returns-else-t-lt-LONG-clause-written c =
    let s = c.args.self.now in
    let t = c.args.t.now in
    let l = length_window t.from t.len t.words.now t.inside in
    written s.row.now s.at s.skip _ _ (window t.from t.len t.words.now) _ c.packed_out.ensures.count (omega arith) c.packed_out.ensures.copied
