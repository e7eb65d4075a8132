use Rattle.std.proofs.Common.{refl, arith}
use Rattle.machine.proofs.Driving.{starts, goes_on, broke, done_with, refused_with, write_within}
use Rattle.machine.proofs.drive.Driver.run.Goals as goal

pub loop-init : goal.loop-init
loop-init g c = record {
  same = (refl, refl);
  going = rw c.requires.fresh (starts g.W.World.account _ _ _ _ _ _ _ c.requires.start (omega arith) c.requires.short c.tell-told.ensures);
}

pub put-requires : goal.put-requires
put-requires g c = (c.type_bounds.send-W-Error, (c.type_bounds.sync-W-Error, write_within c.loop.invariant.going c.in-Write.n c.in-Write.is))

pub returns-in-Done-clause-ended : goal.returns-in-Done-clause-ended
returns-in-Done-clause-ended g c = done_with c.loop.invariant.going _ _ c.in-Done.is

pub returns-in-No-clause-ended : goal.returns-in-No-clause-ended
returns-in-No-clause-ended g c = refused_with c.loop.invariant.going _ _ c.in-No.is

pub returns-in_err-told-in-More-clause-ended : goal.returns-in_err-told-in-More-clause-ended
returns-in_err-told-in-More-clause-ended g c = broke c.loop.invariant.going _ _ _ c.from_residual.ensures.1

pub returns-in_err-told-in-Write-clause-ended : goal.returns-in_err-told-in-Write-clause-ended
returns-in_err-told-in-Write-clause-ended g c = broke c.loop.invariant.going _ _ _ c.from_residual-in_err-told-in-Write.ensures.1

pub returns-clause-ended : goal.returns-clause-ended
returns-clause-ended g c = goes_on c.loop.invariant.going _
