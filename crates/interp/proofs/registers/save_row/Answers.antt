use Rattle.std.proofs.Common.{◌++◌, drop, ap}
use Rattle.interp.specs.Registers.{saved_row}
use Rattle.interp.proofs.registers.save_row.Goals as goal

pub returns : goal.returns
unfolding saved_row
returns c = record { saved = ap (λ x. x ++ drop 18 c.args.words.now) c.copy_from_slice.ensures.after; small = λ i. (c.type_inv.words i).fits }
