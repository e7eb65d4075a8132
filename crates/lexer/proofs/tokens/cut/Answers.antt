use Rattle.std.proofs.Common.{refl, arith}
use Rattle.lexer.proofs.Cutting.{far_start, far_skip, far_token, far_end}
use Rattle.lexer.proofs.tokens.cut.Goals as goal

pub loop-i-init : goal.loop-i-init
loop-i-init c = record { few = omega arith; inside = omega arith; far = far_start c.args.text.now c.args.work.now 0 0 refl refl }

pub loop-i-preserved-in-Some : goal.loop-i-preserved-in-Some
loop-i-preserved-in-Some c =
    let p = c.piece_at-piece.ensures in
    let g = rw c.in-Some.is at p.gives in
    record {
      few = omega arith;
      inside = p.inside;
      far = far_token c.args.text.now c.loop-i.work c.store.new.work c.loop-i.i c.loop-i.count c.piece_at-piece.result.end c.in-Some.token g.0 c.from.result c.loop-i-test.true p.onward g.2 g.1 c.from.ensures c.store.ensures c.loop-i.invariant.far;
    }

pub loop-i-preserved : goal.loop-i-preserved
loop-i-preserved c =
    let p = c.piece_at-piece.ensures in
    record { few = omega arith; inside = p.inside; far = far_skip c.args.text.now c.loop-i.work c.loop-i.i c.loop-i.count c.piece_at-piece.result.end c.loop-i-test.true p.onward (rw c.in_default.is at p.gives) c.loop-i.invariant.far }

pub returns : goal.returns
returns c = far_end c.args.text.now c.loop-i.work c.loop-i.i c.loop-i.count (omega arith) (omega arith) c.loop-i.invariant.far
