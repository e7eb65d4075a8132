use Rattle.std.proofs.Common.{[], ◌∷◌, ap, arith}
use Rattle.rows.specs.Pens.{Writing, writing}
use Rattle.rows.proofs.Putting.{at_grows}
use Rattle.rows.proofs.end_print.Goals as goal

pub overflow_sub-result : goal.overflow_sub-result
overflow_sub-result c = omega (arith, ap (λ (w : Writing). w.at) c.byte.ensures.written, at_grows (writing c.args.pen.now) (10 ∷ []))
