use Rattle.std.proofs.Common.{◌≡◌, ap, ◌∙◌, arith}
use Rattle.language.specs.Text.{as_text}
use Rattle.store.specs.Values.{worth}
use Rattle.regions.specs.Parts.{parts}
use Rattle.rows.specs.Pens.{writing, put}
use Rattle.rows.specs.Rows.{nth_text}
use Rattle.rows.proofs.Putting.{put_put}
use Rattle.rows.proofs.Joining.{nth_first, nth_later}
use Rattle.rows.proofs.write_nth.Goals as goal
use Rattle.rows.proofs.write_nth.Goals.{then-i-gt0, else-i-gt0}

pub returns-clause-written : goal.returns-clause-written
returns-clause-written c =
    let p = parts c.args.mem.now in
    let w = writing c.args.pen.now in
    let t = as_text (worth 77822 p.texts c.stacked.result) in
    let e : put (writing c.if-i-gt0.pen) t ≡ put w (nth_text p c.args.from c.args.i) =
    elim c.if-i-gt0.branch [
      | then-i-gt0 x ↦ rw (x.pen-is, x.byte.ensures.written, put_put, c.stacked.ensures) (ap (put w) (nth_later p c.args.from c.args.i (λ z. omega (arith, x.if-i-gt0.true))))
      | else-i-gt0 x ↦ rw (x.pen-is, c.stacked.ensures) (ap (put w) (nth_first p c.args.from c.args.i (omega (arith, x.if-i-gt0.false))))
    ] in
    c.write_value.ensures.written ∙ e
