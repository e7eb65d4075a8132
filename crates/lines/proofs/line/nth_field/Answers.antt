use Rattle.std.proofs.Common.{sym, ap, ◌∙◌, inl, inr}
use Rattle.regions.specs.Parts.{parts}
use Rattle.lines.specs.Lines.{place, within}
use Rattle.lines.proofs.Places.{nth_none, nth_some}
use Rattle.lines.proofs.line.nth_field.Goals as goal

pub returns-then-n-eq0 : goal.returns-then-n-eq0
returns-then-n-eq0 c = sym (nth_none (parts c.args.mem.now).fields c.args.line c.args.n (elim c.then-n-eq0.either [ inl h ↦ inl h | inr h ↦ inr h.1 ]))

pub returns : goal.returns
returns c =
    let s = c.args.line.place.start in
    ap (λ n. place n c.field_at-field.result.len) c.saturating_add.ensures
    ∙ ap (within s) c.field_at-field.ensures
    ∙ sym (nth_some (parts c.args.mem.now).fields c.args.line c.args.n c.if-n-eq0.false c.if-line-n.false)
