use Rattle.std.proofs.Common.{◌≡◌, ap, ◌∙◌, w64, to_z, of_z, rules}
use Rattle.store.specs.Numbers.{number}
use Rattle.store.specs.declared.cells.Value.TheVariants.{Number}
use Rattle.regions.specs.Parts.{parts}
use Rattle.interp.specs.Turns.{says, replaced_two}
use Rattle.interp.proofs.Figures.{refused_so, reckoned_ok, reckoned_err}
use Rattle.interp.proofs.Loose.{released}
use Rattle.interp.proofs.numbers.reckon.Goals as goal

pub returns : goal.returns
returns c =
    let a : to_z w64 (of_z w64 c.number_in-a.result) ≡ c.number_in-a.result = search rules in
    let b : to_z w64 (of_z w64 c.number_in-b.result) ≡ c.number_in-b.result = search rules in
    let e : to_z w64 (of_z w64 c.in_ok-n.n) ≡ c.in_ok-n.n = search rules in
    c.cover_two.ensures
    ∙ released (parts c.args.mem.now) (parts c.release_value.new.mem) (parts c.release_value-2.new.mem) c.args.regs.now c.under-first.result c.top-second.result _ c.under-first.ensures c.top-second.ensures c.release_value.ensures c.release_value-2.ensures
    ∙ ap (λ x. replaced_two (parts c.args.mem.now) c.args.regs.now (Number x)) e
    ∙ reckoned_ok c.args.c (parts c.args.mem.now) c.args.regs.now c.under-first.result c.top-second.result _ _ c.in_ok-n.n
    (record {
      first = c.under-first.ensures;
      second = c.top-second.ensures;
      left = ap number a ∙ c.number_in-a.ensures;
      right = ap number b ∙ c.number_in-b.ensures;
      answer = c.in_ok-n.ensures;
    })

pub returns-in_err-n : goal.returns-in_err-n
returns-in_err-n c =
    let a : to_z w64 (of_z w64 c.number_in-a.result) ≡ c.number_in-a.result = search rules in
    let b : to_z w64 (of_z w64 c.number_in-b.result) ≡ c.number_in-b.result = search rules in
    ap (λ t. says t (parts c.args.mem.now) c.args.regs.now) (refused_so c.from_residual.result _ c.from_residual.ensures.1)
    ∙ reckoned_err c.args.c (parts c.args.mem.now) c.args.regs.now c.under-first.result c.top-second.result _ _ _
    (record {
      first = c.under-first.ensures;
      second = c.top-second.ensures;
      left = ap number a ∙ c.number_in-a.ensures;
      right = ap number b ∙ c.number_in-b.ensures;
      answer = c.in_err-n.ensures;
    })
