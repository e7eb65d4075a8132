use Rattle.machine.proofs.Says.{steady, step_refuses, step_tells}
use Rattle.machine.proofs.step.Goals as goal

pub returns-in-Some : goal.returns-in-Some
returns-in-Some c =
    let h = c.in-Some.ensures in
    record { steady = steady; says = step_tells _ _ _ _ _ _ _ _ _ h.0 h.2 h.1 c.tell.ensures }

pub returns-in-None : goal.returns-in-None
returns-in-None c = record { steady = steady; says = step_refuses _ _ _ _ c.in-None.ensures }
