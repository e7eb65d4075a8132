use Rattle.store.proofs.Packing.{bytes_below}
use Rattle.store.proofs.Putting.{puts_over, length_puts}
use Rattle.store.proofs.Moving.{window_kept, window_append, window_below}
use Rattle.store.proofs.Digits.{number_below}
use Rattle.store.proofs.writing.byte_laws_stand.Goals as goal

pub returns : goal.returns
returns c = record {
  puts = puts_over;
  keeps = window_kept;
  appends = window_append;
  wide = length_puts;
  packed_bytes = window_below;
  short_bytes = bytes_below;
  decimal_bytes = number_below;
}
