use Rattle.std.proofs.Common.{◌≡◌, ◌-◌, length}
use Rattle.semantics.specs.Engine.{loop}
use Rattle.engine.specs.Scenes.{machine_parts}
use Rattle.engine.specs.Steps.{scene_in, PutBehind}
use Rattle.engine.proofs.steps.turns.Given as goal

-- the turns that are left, from here
abbrev pub invariant-loop-i : goal.invariant-loop-i
invariant-loop-i l =
    (loop machine_parts l.budget (scene_in l.initial.mem l.initial.regs l.initial.out) ≡ loop machine_parts (l.budget - l._i) (scene_in l.mem l.regs l.out))
    × PutBehind l.initial.out l.initial.regs.used l.out l.regs.used
    × (length l.mem ≡ 262144)
