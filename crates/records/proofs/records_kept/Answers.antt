use Rattle.records.proofs.Keeping.{within_kept, between_kept, within_done}
use Rattle.records.proofs.records_kept.Goals as goal

pub returns : goal.returns
returns c = record { within = within_kept; between = between_kept; done = within_done }
