use Rattle.std.proofs.Common.{rules, arith}
use Rattle.rows.proofs.Widths.{texts_width}
use Rattle.rows.proofs.Ending.{begins, ended_fits, ended_row, ended}
use Rattle.rows.proofs.print_values.Goals as goal

pub end_print-requires : goal.end_print-requires
end_print-requires c =
    let e = c.write_values.ensures.written in (
      begins _ _ _ _ _ e,
      ended_fits _ _ _ _ _ e 18446744073709551616 (omega arith) (omega (arith, texts_width c.args.mem.now c.saturating_sub.result c.args.n)),
    )

pub returns : goal.returns
returns c =
    let e = rw c.saturating_sub.ensures at c.write_values.ensures.written in
    record {
      row = ended_row _ _ _ _ _ e c.args.out.now _ _ _ c.end_print.ensures.written c.split_at_mut-row.ensures.front c.split_at_mut-row.ensures.back (search rules);
      came = ended _ _ _ _ _ e (omega arith) _ _ c.end_print.ensures.written c.end_print.ensures.done c.end_print.ensures.used c.end_print.ensures.finished;
    }
