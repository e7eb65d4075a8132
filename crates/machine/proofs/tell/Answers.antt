use Rattle.machine.proofs.Says.{tell_refuses, unknown}
use Rattle.machine.proofs.tell.Goals as goal

pub returns-then-not-fits : goal.returns-then-not-fits
returns-then-not-fits c = tell_refuses _ _ _ _ _ _ c.came_with.ensures c.fits.ensures c.if-not-fits.true

pub returns : goal.returns
returns c = unknown _ _ _ _ _ _ c.came_with.ensures c.fits.ensures c.if-not-fits.false
