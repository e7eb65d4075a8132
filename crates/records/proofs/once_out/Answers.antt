use Rattle.records.proofs.Printing.{out_print, out_none, out_left, out_rests, out_texts}
use Rattle.records.proofs.once_out.Goals as goal

pub returns : goal.returns
returns c = record { print = out_print; none = out_none; some = out_left; rests = out_rests; texts = out_texts }
