use Rattle.std.proofs.Common.{sym, ◌∙◌, arith}
use Rattle.values.proofs.Placing.{stands_more, stands_not, stands_all}
use Rattle.values.proofs.parts.stands_at.Goals as goal

pub returns-then-at : goal.returns-then-at
returns-then-at g c =
    sym (c.loop-k.invariant ∙ stands_not (g.B.Bytes.bytes c.args.b.now) (g.A.Bytes.bytes c.args.a.now) c.args.from c.requires.0 c.loop-k.k (omega arith) (λ e. c.if-at.true (c.at.ensures ∙ e ∙ sym c.at-in-loop-k.ensures)))

pub loop-k-preserved : goal.loop-k-preserved
loop-k-preserved g c =
    c.loop-k.invariant ∙ stands_more (g.B.Bytes.bytes c.args.b.now) (g.A.Bytes.bytes c.args.a.now) c.args.from c.requires.0 c.loop-k.k (omega arith) (sym c.at.ensures ∙ c.if-at.false ∙ c.at-in-loop-k.ensures)

pub returns : goal.returns
returns g c = sym (c.loop-k.invariant ∙ stands_all (g.B.Bytes.bytes c.args.b.now) (g.A.Bytes.bytes c.args.a.now) c.args.from c.requires.0 c.loop-k.k (omega arith))
