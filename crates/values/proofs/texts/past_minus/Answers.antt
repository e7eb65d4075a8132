use Rattle.std.proofs.Common.{sym, ◌∙◌, arith}
use Rattle.values.proofs.Reading.{dash_here, dash_not, dash_over}
use Rattle.values.proofs.texts.past_minus.Goals as goal
use Rattle.values.proofs.texts.past_minus.Goals.{else-from-len-via-then-from-len+else-at-eq45, else-from-len-via-else-from-len}

pub returns-then-at-eq45 : goal.returns-then-at-eq45
returns-then-at-eq45 g c = dash_here (g.T.Bytes.bytes c.args.t.now) c.args.from (omega arith) (sym c.at.ensures ∙ c.if-at-eq45.true)

pub returns-else-from-len : goal.returns-else-from-len
returns-else-from-len g c =
    elim c.else-from-len.branch [
      | else-from-len-via-then-from-len+else-at-eq45 w ↦ dash_not (g.T.Bytes.bytes c.args.t.now) c.args.from (omega arith) (λ e. w.if-at-eq45.false (w.at.ensures ∙ e))
      | else-from-len-via-else-from-len w ↦ dash_over (g.T.Bytes.bytes c.args.t.now) c.args.from (omega arith)
    ]
