use Rattle.machine.specs.Drive.{Drives, SameLoans}
use Rattle.machine.proofs.drive.Driver.run.Given as goal

abbrev pub invariant-loop : goal.invariant-loop
invariant-loop g l = record {
  same : SameLoans l.initial.self l.self;
  going : Drives g.W.World.account l.program l.initial.self.world.now l.told l.self;
}
