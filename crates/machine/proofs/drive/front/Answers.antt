use Rattle.machine.proofs.Driving.{row_fits}
use Rattle.machine.proofs.drive.front.Goals as goal

pub returns-clause-fits : goal.returns-clause-fits
returns-clause-fits c = row_fits _ _ c.requires.few (λ i. (c.type_inv.row i).fits)
