use Rattle.std.proofs.Common.{sym, ◌∙◌, arith, Ok, ap}
use native.Mathlib.Nat.{sub-zero}
use Rattle.interp.specs.Outcomes.{Refuse, refusal_number, came}
use Rattle.interp.proofs.Refusing.{came_err}
use Rattle.engine.specs.Scenes.{halt_of}
use Rattle.engine.specs.Steps.{scene_in}
use Rattle.engine.proofs.Stepping.{round_as, none_behind, all_behind, Round, round_behind, round_loop, round_stops, full_loop, spent_loop, turn_more}
use Rattle.engine.proofs.steps.turns.Goals as goal

pub loop-i-init : goal.loop-i-init
loop-i-init c = (simp sub-zero, none_behind _ _ c.requires.1, c.told-mem)

pub loop-i-preserved : goal.loop-i-preserved
loop-i-preserved c =
    let h : Round c.loop-i.mem c.loop-i.regs c.loop-i.out c.turn.new.mem c.turn.new.regs c.turn.new.out (came (Ok c.in_ok-stop.stop)) =
    record {
      wide = omega (arith, c.loop-i.auto.out, c.requires);
      room = c.if-regs-ge-ROW.false;
      size = c.turn.array_long ∙ sym c.loop-i.invariant.2;
      did = c.in_ok-stop.ensures.did;
      row = c.in_ok-stop.ensures.row;
    } in
    let on = round_as _ _ _ _ _ _ (ap (λ t. came (Ok t)) c.in-On.is) h in (
      turn_more _ c.args.budget c.loop-i._i _ _ _ _ _ _ (omega arith) c.loop-i.invariant.0 on,
      all_behind _ _ _ _ _ _ c.loop-i.invariant.1 (round_behind _ _ _ _ _ _ _ h),
      c.turn.array_long,
    )

pub returns-then-regs-ge-ROW : goal.returns-then-regs-ge-ROW
returns-then-regs-ge-ROW c = record { halt = sym (c.loop-i.invariant.0 ∙ full_loop _ _ c.if-regs-ge-ROW.true); row = c.loop-i.invariant.1 }

pub returns-in_default : goal.returns-in_default
returns-in_default c =
    let h : Round c.loop-i.mem c.loop-i.regs c.loop-i.out c.turn.new.mem c.turn.new.regs c.turn.new.out (came (Ok c.in_ok-stop.stop)) =
    record {
      wide = omega (arith, c.loop-i.auto.out, c.requires);
      room = c.if-regs-ge-ROW.false;
      size = c.turn.array_long ∙ sym c.loop-i.invariant.2;
      did = c.in_ok-stop.ensures.did;
      row = c.in_ok-stop.ensures.row;
    } in
    record {
      halt = sym (c.loop-i.invariant.0 ∙ round_stops _ _ _ _ _ _ _ _ (omega arith) c.in_default.not-On h);
      row = all_behind _ _ _ _ _ _ c.loop-i.invariant.1 (round_behind _ _ _ _ _ _ _ h);
    }

pub returns-in_err-stop : goal.returns-in_err-stop
returns-in_err-stop c =
    let h : Round c.loop-i.mem c.loop-i.regs c.loop-i.out c.turn.new.mem c.turn.new.regs c.turn.new.out (Refuse (refusal_number c.in_err-stop.field-0.0)) =
    record {
      wide = omega (arith, c.loop-i.auto.out, c.requires);
      room = c.if-regs-ge-ROW.false;
      size = c.turn.array_long ∙ sym c.loop-i.invariant.2;
      did = c.in_err-stop.ensures.did;
      row = c.in_err-stop.ensures.row;
    } in
    record {
      halt =
          ap (λ t. halt_of t (scene_in c.turn.new.mem c.turn.new.regs c.turn.new.out)) (came_err _ _ c.from_residual.ensures.1)
          ∙ sym (c.loop-i.invariant.0 ∙ round_loop _ _ _ _ _ _ _ _ (omega arith) h);
      row = all_behind _ _ _ _ _ _ c.loop-i.invariant.1 (round_behind _ _ _ _ _ _ _ h);
    }

pub returns : goal.returns
returns c = record { halt = sym (c.loop-i.invariant.0 ∙ spent_loop _ _ (omega arith)); row = c.loop-i.invariant.1 }
