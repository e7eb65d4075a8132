use Rattle.std.proofs.Common.{◌≡◌, ◌+◌, ◌-◌, sym, ap, ◌∙◌, arith}
use Rattle.store.specs.Space.{space, slid, step_of, put_entry}
use Rattle.store.proofs.Sliding.{slid_end, slid_fuel, turn_live, turn_dead}
use Rattle.store.proofs.texts.slide.Goals as goal
use Rattle.store.proofs.texts.slide.Goals.{then-h-lt-HANDLES, else-h-lt-HANDLES}

pub loop-from-init : goal.loop-from-init
loop-from-init c = (slid_fuel 20480 77822 (c.args.end - 0) c.args.end (space 20480 c.args.texts.now) 0 0 (omega arith) (omega arith), omega arith, omega arith)

pub loop-from-preserved : goal.loop-from-preserved
loop-from-preserved c =
    let n : step_of c.args.end (space 20480 c.loop-from.texts) c.loop-from.from ≡ c.min-n.result
    = omega (arith, c.word.ensures, c.min-n.ensures) in
    elim c.if-h-lt-HANDLES.branch [
      | then-h-lt-HANDLES w ↦
          let m = ap (space 20480) w.texts-is ∙ w.set_entry.ensures ∙ ap (λ x. put_entry x c.word-h.result c.loop-from.to) w.shift.ensures in (
            c.loop-from.invariant.0
                ∙ turn_live 20480 c.args.end (space 20480 c.loop-from.texts) (space 20480 c.if-h-lt-HANDLES.texts) c.loop-from.from c.loop-from.to c.min-n.result c.word-h.result
                (omega arith) n (sym c.word-h.ensures) (omega arith) m
                ∙ ap (slid 20480 (c.args.end - (c.loop-from.from + c.min-n.result)) c.args.end (space 20480 c.if-h-lt-HANDLES.texts) (c.loop-from.from + c.min-n.result)) (sym w.to-is),
            omega (arith, n),
            omega (arith, w.to-is),
          )
      | else-h-lt-HANDLES w ↦ (
        c.loop-from.invariant.0
            ∙ turn_dead 20480 c.args.end (space 20480 c.loop-from.texts) c.loop-from.from c.loop-from.to c.min-n.result c.word-h.result
            (omega arith) n (sym c.word-h.ensures) (omega arith)
            ∙ ap (λ x. slid 20480 (c.args.end - (c.loop-from.from + c.min-n.result)) c.args.end (space 20480 x) (c.loop-from.from + c.min-n.result) c.loop-from.to) (sym w.texts-is)
            ∙ ap (slid 20480 (c.args.end - (c.loop-from.from + c.min-n.result)) c.args.end (space 20480 c.if-h-lt-HANDLES.texts) (c.loop-from.from + c.min-n.result)) (sym w.to-is),
        omega (arith, n),
        omega (arith, w.to-is),
      )
    ]

pub returns : goal.returns
returns c = sym (c.loop-from.invariant.0 ∙ slid_end 20480 (c.args.end - c.loop-from.from) c.args.end (space 20480 c.loop-from.texts) c.loop-from.from c.loop-from.to (omega arith))
