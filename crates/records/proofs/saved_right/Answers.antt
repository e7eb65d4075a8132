use Rattle.records.proofs.Saving.{saved_regions, saved_registers, away_sized, away_small, lines_small}
use Rattle.records.proofs.saved_right.Goals as goal

pub returns : goal.returns
returns c = record { regions = saved_regions; registers = saved_registers; sized = away_sized; small = away_small; lines = lines_small }
