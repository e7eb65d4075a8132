use Rattle.std.proofs.Common.{sym, ap, ◌∙◌}
use Rattle.regions.specs.Parts.{parts}
use Rattle.interp.specs.Turns.{says}
use Rattle.interp.specs.Texts.{text_in}
use Rattle.interp.proofs.Refusing.{refused_for}
use Rattle.engine.proofs.Laying.{nth_some, nth_none, gap_near}
use Rattle.engine.proofs.setting.set_nth.Goals as goal

pub lay_value-requires : goal.lay_value-requires
lay_value-requires c =
    gap_near (parts c.args.mem.now) (parts c.build.new.mem).fields c.args.regs.now.line c.in_ok-line.line c.args.k c.text_len-len.result
    c.nth_field-gap.result (sym c.in_ok-line.ensures.ok_part ∙ c.build.ensures.line) c.nth_field-gap.ensures

pub returns : goal.returns
returns c =
    c.take_line.ensures
    ∙ nth_some (parts c.args.mem.now) (parts c.build.new.mem) (parts c.lay_value.new.mem) c.args.regs.now c.args.k c.text_len-len.result c.args.v c.in_ok-line.line
    c.nth_field-gap.result c.text_len-len.ensures c.build.ensures.laid (sym c.in_ok-line.ensures.ok_part ∙ c.build.ensures.line) c.nth_field-gap.ensures c.lay_value.ensures

pub returns-in_err-line : goal.returns-in_err-line
returns-in_err-line c =
    ap (λ t. says t (parts c.build.new.mem) c.args.regs.now) (refused_for _ _ _ _ c.from_residual.ensures.1 c.in_err-line.ensures.value c.in_err-line.ensures.ok_part)
    ∙ nth_none (parts c.args.mem.now) (parts c.build.new.mem) c.args.regs.now c.args.k c.text_len-len.result (text_in (parts c.args.mem.now) c.args.v)
    c.text_len-len.ensures c.build.ensures.laid (sym c.in_err-line.ensures.ok_part ∙ c.build.ensures.line)
