use Rattle.std.proofs.Common.{◌≡◌, sym, ap, ◌∙◌, w64, to_z, of_z, rules}
use Rattle.values.specs.Numbers.{judged}
use Rattle.store.specs.Numbers.{number}
use Rattle.store.specs.declared.cells.Value.TheVariants.{Number}
use Rattle.regions.specs.Parts.{parts}
use Rattle.interp.specs.Turns.{says, replaced}
use Rattle.interp.proofs.Figures.{opposed_some, opposed_none}
use Rattle.interp.proofs.Refusing.{refused_for}
use Rattle.interp.proofs.numbers.oppose.Goals as goal

pub returns : goal.returns
returns c =
    let a : to_z w64 (of_z w64 c.number_in-a.result) ≡ c.number_in-a.result = search rules in
    let e : to_z w64 (of_z w64 c.in_ok-n.n) ≡ c.in_ok-n.n = search rules in
    c.replace_top.ensures
    ∙ ap (λ x. replaced (parts c.args.mem.now) c.args.regs.now (Number x)) e
    ∙ opposed_some (parts c.args.mem.now) c.args.regs.now c.top-v.result _ c.in_ok-n.n c.top-v.ensures (ap number a ∙ c.number_in-a.ensures)
    (ap judged (sym c.in_ok-n.ensures.ok_part) ∙ c.negate.ensures)

pub returns-in_err-n : goal.returns-in_err-n
returns-in_err-n c =
    let a : to_z w64 (of_z w64 c.number_in-a.result) ≡ c.number_in-a.result = search rules in
    ap (λ t. says t (parts c.args.mem.now) c.args.regs.now) (refused_for _ _ _ _ c.from_residual.ensures.1 c.in_err-n.ensures.value c.in_err-n.ensures.ok_part)
    ∙ opposed_none (parts c.args.mem.now) c.args.regs.now c.top-v.result _ c.top-v.ensures (ap number a ∙ c.number_in-a.ensures)
    (ap judged (sym c.in_err-n.ensures.ok_part) ∙ c.negate.ensures)
