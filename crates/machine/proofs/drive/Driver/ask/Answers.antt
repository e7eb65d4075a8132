use Rattle.std.proofs.Common.{◌≡◌, ℕ, None, arith, length-take}
use Rattle.machine.proofs.Driving.{asks_again, asks_none, asks_piece}
use Rattle.machine.proofs.drive.Driver.ask.Goals as goal
use Rattle.machine.proofs.drive.Driver.ask.Goals.{else-not-over-via-else-not-over, else-not-over-via-then-not-over+in_ok-n+in-None-1}

pub returns-clause-goes_on : goal.returns-clause-goes_on
returns-clause-goes_on g c =
    let h = rw c.in-Some.is at c.in_ok-n.ensures in
    asks_piece g.W.World.account _ _ _ _ _ _ (omega arith) (omega arith) _ (omega (arith, length-take {A = ℕ})) _ h.1 c.tell.ensures _ c.if-not-over.true

pub returns-2-clause-goes_on : goal.returns-2-clause-goes_on
returns-2-clause-goes_on g c =
    elim c.else-not-over.branch [
      | else-not-over-via-else-not-over w ↦
          rw w.self-is (asks_again g.W.World.account _ _ _ _ _ _ (omega arith) (omega arith) c.tell-2.ensures _ w.if-not-over.false)
      | else-not-over-via-then-not-over+in_ok-n+in-None-1 w ↦
          let e : w.in_ok-n.field-0 ≡ None = cc in
          rw w.self-is (asks_none g.W.World.account _ _ _ _ _ _ (omega arith) (omega arith) _ (rw e at w.in_ok-n.ensures) c.tell-2.ensures _ w.if-not-over.true)
    ]
