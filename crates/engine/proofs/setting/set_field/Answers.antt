use Rattle.std.proofs.Common.{◌≡◌, [], ◌∷◌, refl, sym, ap, ◌∙◌, w64, to_z, of_z, rules}
use Rattle.values.specs.Fields.{listed}
use Rattle.regions.specs.Parts.{parts}
use Rattle.interp.specs.Turns.{says, under_of}
use Rattle.interp.specs.Texts.{text_in}
use Rattle.interp.proofs.Refusing.{refused_for}
use Rattle.engine.proofs.Laying.{field_known, set_zero, set_other}
use Rattle.engine.proofs.setting.set_field.Goals as goal

pub returns-in_err-k : goal.returns-in_err-k
returns-in_err-k c =
    let e : to_z w64 (of_z w64 c.number_in-n.result) ≡ c.number_in-n.result = search rules in
    ap (λ t. says t (parts c.args.mem.now) c.args.regs.now) (refused_for _ _ _ _ c.from_residual.ensures.1 c.in_err-k.ensures.value c.in_err-k.ensures.ok_part)
    ∙ field_known (parts c.args.mem.now) c.args.regs.now c.top-number.result (under_of (parts c.args.mem.now) c.args.regs.now) _ _ []
    c.top-number.ensures refl e c.number_in-n.ensures (ap listed (sym c.in_err-k.ensures.ok_part) ∙ c.field_number.ensures)

pub returns-then-k-eq0 : goal.returns-then-k-eq0
returns-then-k-eq0 c =
    let e : to_z w64 (of_z w64 c.number_in-n.result) ≡ c.number_in-n.result = search rules in
    c.set_line.ensures ∙ set_zero (parts c.args.mem.now) c.args.regs.now (text_in (parts c.args.mem.now) c.under-v.result) c.in_ok-k.k c.if-k-eq0.true
    ∙ field_known (parts c.args.mem.now) c.args.regs.now c.top-number.result c.under-v.result _ _ (c.in_ok-k.k ∷ [])
    c.top-number.ensures c.under-v.ensures e c.number_in-n.ensures (ap listed (sym c.in_ok-k.ensures.ok_part) ∙ c.field_number.ensures)

pub returns-else-k-eq0 : goal.returns-else-k-eq0
returns-else-k-eq0 c =
    let e : to_z w64 (of_z w64 c.number_in-n.result) ≡ c.number_in-n.result = search rules in
    c.set_nth.ensures ∙ set_other (parts c.args.mem.now) c.args.regs.now (text_in (parts c.args.mem.now) c.under-v.result) c.in_ok-k.k c.if-k-eq0.false
    ∙ field_known (parts c.args.mem.now) c.args.regs.now c.top-number.result c.under-v.result _ _ (c.in_ok-k.k ∷ [])
    c.top-number.ensures c.under-v.ensures e c.number_in-n.ensures (ap listed (sym c.in_ok-k.ensures.ok_part) ∙ c.field_number.ensures)
