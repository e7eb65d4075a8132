use Rattle.std.proofs.Common.{◌+◌, ◌-◌, sym, ◌∙◌, arith}
use Rattle.values.proofs.Placing.{place_more, place_found, place_over, place_of_nothing, place_of_longer}
use Rattle.values.proofs.parts.place_of.Goals as goal

pub returns-then-n-eq0 : goal.returns-then-n-eq0
returns-then-n-eq0 g c = place_of_nothing (g.B.Bytes.bytes c.args.b.now) (g.A.Bytes.bytes c.args.a.now) (omega arith)

pub returns-then-n-m : goal.returns-then-n-m
returns-then-n-m g c = place_of_longer (g.B.Bytes.bytes c.args.b.now) (g.A.Bytes.bytes c.args.a.now) (omega arith)

pub returns-then-stands_at : goal.returns-then-stands_at
returns-then-stands_at g c = sym (c.loop-i.invariant ∙ place_found (g.B.Bytes.bytes c.args.b.now) (g.A.Bytes.bytes c.args.a.now) (c.len-m.result - c.len-n.result + 1) c.loop-i.i (omega arith) (sym c.if-stands_at.ensures))

pub loop-i-preserved : goal.loop-i-preserved
loop-i-preserved g c = c.loop-i.invariant ∙ place_more (g.B.Bytes.bytes c.args.b.now) (g.A.Bytes.bytes c.args.a.now) (c.len-m.result - c.len-n.result + 1) c.loop-i.i (omega arith) (sym c.if-stands_at.ensures)

pub returns-else-stands_at : goal.returns-else-stands_at
returns-else-stands_at g c =
    let n = c.len-m.result - c.len-n.result + 1 in
    sym (c.loop-i.invariant ∙ place_more (g.B.Bytes.bytes c.args.b.now) (g.A.Bytes.bytes c.args.a.now) n c.loop-i.i (omega arith) (sym c.if-stands_at.ensures) ∙ place_over (g.B.Bytes.bytes c.args.b.now) (g.A.Bytes.bytes c.args.a.now) n (c.loop-i.i + 1) (omega arith))
