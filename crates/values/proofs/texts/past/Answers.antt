use Rattle.std.proofs.Common.{◌≡◌, ap, sym, ◌∙◌, arith}
use Rattle.values.proofs.Reading.{run_more, run_stop, run_over}
use Rattle.values.proofs.texts.past.Goals as goal

pub loop-i-preserved : goal.loop-i-preserved
loop-i-preserved g c =
    c.loop-i.invariant
    ∙ run_more g.K.Kind.test (g.T.Bytes.bytes c.args.t.now) c.loop-i.i (omega arith)
    (ap g.K.Kind.test (sym c.at.ensures) ∙ sym c.has.ensures ∙ c.if-not-has.false)

pub returns-then-not-has : goal.returns-then-not-has
returns-then-not-has g c =
    run_stop g.K.Kind.test (g.T.Bytes.bytes c.args.t.now) c.loop-i.i (omega arith)
    (ap g.K.Kind.test (sym c.at.ensures) ∙ sym c.has.ensures ∙ c.if-not-has.true)
    ∙ sym c.loop-i.invariant

pub returns : goal.returns
returns g c =
    let e : c.max-end.result ≡ c.loop-i.i = omega arith in
    e ∙ run_over g.K.Kind.test (g.T.Bytes.bytes c.args.t.now) c.loop-i.i (omega arith) ∙ sym c.loop-i.invariant
