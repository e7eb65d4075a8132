use Rattle.machine.proofs.Driving.{shown_is_written}
use Rattle.machine.proofs.drive.calls_stand.Goals as goal

pub returns : goal.returns
returns c = shown_is_written
