use Rattle.std.proofs.Common.{◌≡◌, [], ◌∷◌, Some, None, sym, ap, ◌∙◌, w64, to_z, of_z, rules}
use Rattle.values.specs.Fields.{listed}
use Rattle.regions.specs.Parts.{parts}
use Rattle.interp.specs.Turns.{says}
use Rattle.interp.proofs.Refusing.{refused_for}
use Rattle.interp.proofs.Copying.{field_known, field_placed}
use Rattle.interp.proofs.fields.get_field.Goals as goal

pub returns-in_err-k : goal.returns-in_err-k
returns-in_err-k c =
    let e : to_z w64 (of_z w64 c.number_in-n.result) ≡ c.number_in-n.result = search rules in
    ap (λ t. says t (parts c.args.mem.now) c.args.regs.now) (refused_for _ _ _ _ c.from_residual.ensures.1 c.in_err-k.ensures.value c.in_err-k.ensures.ok_part)
    ∙ field_known (parts c.args.mem.now) c.args.regs.now c.top-v.result _ _ [] c.top-v.ensures e c.number_in-n.ensures
    (ap listed (sym c.in_err-k.ensures.ok_part) ∙ c.field_number.ensures)

pub returns : goal.returns
returns c =
    let e : to_z w64 (of_z w64 c.number_in-n.result) ≡ c.number_in-n.result = search rules in
    c.replace_top.ensures
    ∙ field_placed (parts c.args.mem.now) (parts c.line_value.new.mem) c.args.regs.now c.in_ok-k.k c.place_of-place.result (Some c.in_ok-field.field)
    c.place_of-place.ensures c.line_value.ensures.memory (sym c.in_ok-field.ensures.ok_part ∙ c.line_value.ensures.value)
    ∙ field_known (parts c.args.mem.now) c.args.regs.now c.top-v.result _ _ (c.in_ok-k.k ∷ []) c.top-v.ensures e c.number_in-n.ensures
    (ap listed (sym c.in_ok-k.ensures.ok_part) ∙ c.field_number.ensures)

pub returns-in_err-field : goal.returns-in_err-field
returns-in_err-field c =
    let e : to_z w64 (of_z w64 c.number_in-n.result) ≡ c.number_in-n.result = search rules in
    ap (λ t. says t (parts c.line_value.new.mem) c.args.regs.now) (refused_for _ _ _ _ c.from_residual-in_err-field.ensures.1 c.in_err-field.ensures.value c.in_err-field.ensures.ok_part)
    ∙ field_placed (parts c.args.mem.now) (parts c.line_value.new.mem) c.args.regs.now c.in_ok-k.k c.place_of-place.result None
    c.place_of-place.ensures c.line_value.ensures.memory (sym c.in_err-field.ensures.ok_part ∙ c.line_value.ensures.value)
    ∙ field_known (parts c.args.mem.now) c.args.regs.now c.top-v.result _ _ (c.in_ok-k.k ∷ []) c.top-v.ensures e c.number_in-n.ensures
    (ap listed (sym c.in_ok-k.ensures.ok_part) ∙ c.field_number.ensures)
