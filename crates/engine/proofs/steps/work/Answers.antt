use Rattle.std.proofs.Common.{sym, subst}
use Rattle.semantics.specs.Engine.{goes_by}
use Rattle.engine.specs.Scenes.{machine_parts}
use Rattle.engine.specs.Steps.{told_of, Answers}
use Rattle.engine.proofs.Finishing.{Worked, worked_memory, worked_act}
use Rattle.interp.specs.Outcomes.{came}
use Rattle.engine.proofs.steps.work.Goals as goal

pub returns : goal.returns
returns c =
    let h : Worked c.args.mem.now (told_of c.args.event) c.args.out.now c.begin-regs.new.mem c.begin-regs.result c.begin-regs.new.out c.turns-last.new.mem
    c.turns-last.new.regs c.turns-last.new.out c.save_registers.new.mem (came c.turns-last.result) =
    record {
      long = c.told-mem;
      wide = c.requires;
      taken = c.begin-regs.ensures.scene;
      first = c.begin-regs.ensures.row;
      turns = c.turns-last.ensures.halt;
      then = c.turns-last.ensures.row;
      still = c.turns-last.array_long;
      last = c.save_registers.array_long;
      put = c.save_registers.ensures.saved;
      fits = c.save_registers.ensures.small;
    } in
    let act = subst (λ a. Answers (goes_by machine_parts c.args.mem.now (told_of c.args.event)).act a c.args.out.now c.turns-last.new.out) (sym c.answer.ensures)
    (worked_act _ _ _ _ _ _ _ _ _ _ _ h) in
    record { memory = worked_memory _ _ _ _ _ _ _ _ _ _ _ h; act = act }
