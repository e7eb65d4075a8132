use Rattle.std.proofs.Common.{sym, ap, ◌∙◌}
use Rattle.regions.specs.Parts.{parts, with_fields}
use Rattle.lines.proofs.Passing.{words_ended, count_ended, words_kept, count_kept}
use Rattle.lines.proofs.cutting.close.Goals as goal

pub returns-then-cut : goal.returns-then-cut
returns-then-cut c =
    let p = parts c.args.mem.now in
    record {
      noted = c.set_field.ensures ∙ ap (with_fields p) (sym (words_ended p.fields c.args.cut c.if-cut.true));
      count = c.saturating_add.ensures ∙ sym (count_ended c.args.cut c.if-cut.true);
    }

pub returns-else-cut : goal.returns-else-cut
returns-else-cut c =
    let p = parts c.args.mem.now in
    record { noted = ap (with_fields p) (sym (words_kept p.fields c.args.cut c.if-cut.false)); count = sym (count_kept c.args.cut c.if-cut.false) }
