use Rattle.std.proofs.Common.{leb, ap, ◌∙◌, inl, inr, ⊎_elim}
use Rattle.values.proofs.Reading.{looks_not, looks_so}
use Rattle.values.proofs.texts.looks.Goals as goal

pub returns-then-digits-eq0 : goal.returns-then-digits-eq0
returns-then-digits-eq0 g c =
    looks_not (g.T.Bytes.bytes c.args.t.now) c.past-start.result c.past_minus-first.result c.past-start.ensures c.past_minus-first.ensures
    c.past-end.result c.past-end.ensures (⊎_elim inl (λ h. inr h.1) c.then-digits-eq0.either)

pub returns : goal.returns
returns g c =
    ap (λ n. leb n c.past.result) c.len.ensures
    ∙ looks_so (g.T.Bytes.bytes c.args.t.now) c.past-start.result c.past_minus-first.result c.past-start.ensures c.past_minus-first.ensures
    c.past-end.result c.past.result c.past-end.ensures c.past.ensures c.if-digits-eq0.false c.if-digits-gt-DIGITS.false
