use Rattle.std.proofs.Common.{ap, ◌∙◌, rules, arith}
use Rattle.rows.specs.Pens.{put}
use Rattle.rows.proofs.Widths.{line_width}
use Rattle.rows.proofs.Ending.{begins, ended_fits, ended_row, ended}
use Rattle.rows.proofs.print_line.Goals as goal

pub end_print-requires : goal.end_print-requires
end_print-requires c =
    let e = c.packed.ensures.written ∙ ap (put _) c.line_window.ensures in (
      begins _ _ _ _ _ e,
      ended_fits _ _ _ _ _ e 18446744073709551616 (omega arith) (omega (arith, line_width c.args.mem.now c.args.place.start c.args.place.len)),
    )

pub returns : goal.returns
returns c =
    let e = c.packed.ensures.written ∙ ap (put _) c.line_window.ensures in
    record {
      row = ended_row _ _ _ _ _ e c.args.out.now _ _ _ c.end_print.ensures.written c.split_at_mut-row.ensures.front c.split_at_mut-row.ensures.back (search rules);
      came = ended _ _ _ _ _ e (omega arith) _ _ c.end_print.ensures.written c.end_print.ensures.done c.end_print.ensures.used c.end_print.ensures.finished;
    }
