use Rattle.std.proofs.Common.{◌∙◌, arith}
use Rattle.store.proofs.Moving.{length_window}
use Rattle.rows.proofs.Windows.{packed_copied}
use Rattle.rows.proofs.copying.packed_out.Goals as goal

pub returns-then-len-gt0 : goal.returns-then-len-gt0
returns-then-len-gt0 c =
    let t = c.args.t.now in
    let l = length_window t.from t.len t.words.now t.inside in
    record {
      count = omega arith;
      copied = c.copy_packed.ensures ∙ packed_copied c.args.row.now c.args.at t.words.now t.from t.len c.args.from _ t.inside (omega arith) (omega arith);
    }
