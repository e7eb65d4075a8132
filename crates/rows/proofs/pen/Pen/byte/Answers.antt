use Rattle.std.proofs.Common.{◌≡◌, [], ◌∷◌, refl, arith}
use Rattle.rows.specs.Pens.{writing}
use Rattle.rows.proofs.Putting.{byte_passed, byte_written, put_full}
use Rattle.rows.proofs.pen.Pen.byte.Goals as goal

pub returns-then-self-gt0-clause-written : goal.returns-then-self-gt0-clause-written
returns-then-self-gt0-clause-written c = let s = c.args.self.now in byte_passed s.row.now s.at s.skip c.args.b (omega arith)

pub returns-then-self-clause-written : goal.returns-then-self-clause-written
returns-then-self-clause-written c =
    let s = c.args.self.now in
    let e : s.skip ≡ 0 = omega arith in
    rw e (byte_written s.row.now s.at 0 c.args.b refl (omega arith))

pub returns-else-self-clause-written : goal.returns-else-self-clause-written
returns-else-self-clause-written c = put_full (writing c.args.self.now) (c.args.b ∷ []) (omega arith) (omega arith)
