use Rattle.std.proofs.Common.{arith}
use Rattle.machine.proofs.Driving.{writes_row}
use Rattle.machine.proofs.drive.Driver.put.Goals as goal

pub returns-clause-goes_on : goal.returns-clause-goes_on
returns-clause-goes_on g c =
    let f = c.front.ensures in
    writes_row g.W.World.account _ _ _ _ _ _ _ _ (omega arith) (omega arith) (rw f.bytes at f.fits) (rw f.bytes at c.in_ok-show.ensures) c.tell.ensures _
