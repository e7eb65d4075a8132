use Rattle.std.proofs.Common.{[], ◌∷◌, ◌++◌, ap}
use Rattle.records.proofs.Printing.{line_prints, values_print, printed_sound, print_rests, print_resumes, print_begins, print_kept, row_ripe, row_unripe, row_is, row_empty}
use Rattle.records.proofs.prints_right.Goals as goal

pub returns : goal.returns
returns c =
    record {
      line_is = λ m r l fs h. ap (λ x. x ++ 10 ∷ []) h.holds.bytes;
      line = line_prints;
      values = values_print;
      sound = printed_sound;
      rests = print_rests;
      resumes = print_resumes;
      begins = print_begins;
      kept = print_kept;
      ripe = row_ripe;
      unripe = row_unripe;
      is_row = row_is;
      empty = row_empty;
    }
