use Rattle.std.proofs.Common.{◌+◌, refl, arith}
use Rattle.parser.specs.Frames.{effort, Before, Behind}
use Rattle.parser.proofs.Turning.{far_start, turn_on}
use Rattle.parser.proofs.expressions.read_term.Goals as goal

pub loop-turn-init : goal.loop-turn-init
loop-turn-init c = record {
  same = record { text = refl; area = refl; count = refl };
  far = far_start c.args.text.now c.args.work.now c.args.count c.args.place c.args.nodes c.requires.ready c.requires.start;
}

pub loop-turn-preserved-in-Operand : goal.loop-turn-preserved-in-Operand
loop-turn-preserved-in-Operand c =
    let i = c.loop-turn.invariant in
    let s = c.in-Operand.s in
    let y = c.in_ok-turn-in-Operand.ensures in
    turn_on _ _ _ _ _ 0 (effort c.args.count s) s _ _ _ (Before c.args.text.now c.loop-turn.reader.work.now s) c.requires.start.few c.in-Operand.is i.same y.same
    (λ x. x) (λ x. omega (arith, x)) (λ g x. x) (rw (i.same.text, i.same.count) at y.pays) i.far

pub loop-turn-preserved : goal.loop-turn-preserved
loop-turn-preserved c =
    let i = c.loop-turn.invariant in
    let s = c.in-After.s in
    let y = c.in_ok-turn-in-After.ensures in
    turn_on _ _ _ _ _ 1 (effort c.args.count s + 3) s _ _ _ (Behind c.args.text.now c.loop-turn.reader.work.now s c.in-After.node c.in-After.high) c.requires.start.few c.in-After.is
    i.same y.same (λ x. x) (λ x. omega (arith, x)) (λ g x. x) (rw (i.same.text, i.same.count) at y.pays) i.far
