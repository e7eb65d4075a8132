-- What is owed of a turn of the machine that writes nothing. Assumes nothing: these are definitions.
use Rattle.std.specs.Prelude.{◌≡◌, ℕ, suc, ◌+◌, ◌<◌, Bool, false, ◌⊎◌, List, []}
use Rattle.language.specs.Text
use Rattle.language.specs.Text.{each}
use Rattle.language.specs.Program.{Program}
use Rattle.language.specs.Meaning.{State, weight, stopped, wrong}
use Rattle.language.specs.Run.{done, refused}
use Rattle.semantics.specs.Stack.{Cell, val, held, below_top, Config, at, off, config_state}
use Rattle.semantics.specs.Lines.{Stage, Live, live, waits, follow, live_out, Goes}
use Rattle.semantics.specs.Code.{code, program_code}
use Rattle.semantics.specs.Engine.{Comes, Stopping}
use Rattle.assembly.specs.Assembly.{Op, op_load, op_save, op_line_count, op_field_count, op_get_field, op_set_field, op_one, op_two, op_truth, op_fail, op_jump, op_jump_if, op_jump_unless, op_drop, op_print_line, op_print_values, op_leave_line, op_exit, op_end, is_note, lean_place, op_at}
use Rattle.regions.specs.Parts.{Parts}
use Rattle.interp.specs.Outcomes.{Turn, On, Ask, Done, Refuse}
use Rattle.interp.specs.declared.registers.Registers.{Registers}
use Rattle.interp.specs.Turns.{Did}
use Rattle.representation.specs.Relation.{Stands, Rep}

-- what is being printed, and the row, are left alone
pub record RowKept (r r₁ : Registers) : Type 0 where
  pub print : r₁.print ≡ r.print
  pub used : r₁.used ≡ r.used

-- For a run at x: a turn that goes on makes a step or more of it; one that asks finds it waiting; one that stops finds it at its end, or that there is no room,
-- or that a line is too long. Registers r and, afterwards, m₁ and r₁.
abbrev pub Outcome : Program → Live → Registers → Parts → Registers → Turn → Type 0
Outcome p x r m₁ r₁ On = (k : ℕ) × (y : Live) × Goes p (suc k) x y × (live_out y ≡ live_out x) × Rep p m₁ r₁ y × RowKept r r₁
Outcome p x r m₁ r₁ Ask = Rep p m₁ r₁ x × RowKept r r₁ × ((s : State) × (follow p x ≡ waits s))
Outcome p x r m₁ r₁ (Done j) = Rep p m₁ r₁ x × RowKept r r₁ × Stopping p x (live_out x) (done j)
Outcome p x r m₁ r₁ (Refuse j) = Rep p m₁ r₁ x × RowKept r r₁ × Stopping p x (live_out x) (refused j)

abbrev pub Follows : Program → Live → Registers → Did → Type 0
Follows p x r d = Outcome p x r d.mem d.regs d.turn

-- THE SAME FOR AN OPERATION of the assembled code, which stands at pc with the stack st in the state s, and of which c comes.

-- those behind which what is held is noted, without the top
abbrev pub Pushes : Op → Type 0
Pushes (op_load k) = Unit {0}
Pushes (op_save k) = ⊥
Pushes op_line_count = Unit {0}
Pushes op_field_count = Unit {0}
Pushes op_get_field = Unit {0}
Pushes op_set_field = Unit {0}
Pushes (op_one k) = ⊥
Pushes (op_two k) = Unit {0}
Pushes op_truth = ⊥
Pushes (op_fail k) = ⊥
Pushes (op_jump q) = ⊥
Pushes (op_jump_if q) = ⊥
Pushes (op_jump_unless q) = ⊥
Pushes op_drop = ⊥
Pushes op_print_line = ⊥
Pushes (op_print_values n) = ⊥
Pushes op_leave_line = ⊥
Pushes op_exit = ⊥
Pushes op_end = ⊥

-- those that leave the code
abbrev pub Leaves : Op → Type 0
Leaves (op_load k) = ⊥
Leaves (op_save k) = ⊥
Leaves op_line_count = ⊥
Leaves op_field_count = ⊥
Leaves op_get_field = ⊥
Leaves op_set_field = ⊥
Leaves (op_one k) = ⊥
Leaves (op_two k) = ⊥
Leaves op_truth = ⊥
Leaves (op_fail k) = ⊥
Leaves (op_jump q) = ⊥
Leaves (op_jump_if q) = ⊥
Leaves (op_jump_unless q) = ⊥
Leaves op_drop = ⊥
Leaves op_print_line = ⊥
Leaves (op_print_values n) = ⊥
Leaves op_leave_line = Unit {0}
Leaves op_exit = ⊥
Leaves op_end = Unit {0}

-- where a run leaves the code, nothing is on its stack
abbrev pub EmptyAtEnds : Program → Type 0
EmptyAtEnds p =
    (g : Stage) (q : ℕ) (st : List Cell) (s : State) (b : List ℕ) (z : Bool) → Comes p (live g (at q st s) b z) → is_note (code p q) ≡ false →
    Leaves (op_at p (lean_place (program_code p) q)) → st ≡ []

-- more is held than may be, the top left out
abbrev pub Heavy : State → Config → Type 0
Heavy s (at q st s₁) = (262144 < weight s₁ + held (below_top st)) × (s₁.out ≡ s.out)
Heavy s (off w) = ⊥

abbrev pub OpOutcome : Program → Op → Registers → Stage → ℕ → List Text.Value → State → List ℕ → Bool → Config → Parts → Registers → Turn → Type 0
OpOutcome p o r g pc us s b z c m₁ r₁ On = Stands p m₁ r₁ g b z c × ((config_state c).out ≡ s.out) × RowKept r r₁
OpOutcome p o r g pc us s b z c m₁ r₁ Ask = ⊥
OpOutcome p o r g pc us s b z c m₁ r₁ (Done j) = Stands p m₁ r₁ g b z (at pc (each val us) s) × RowKept r r₁ × (c ≡ off (stopped j s))
OpOutcome p o r g pc us s b z c m₁ r₁ (Refuse j) =
    Stands p m₁ r₁ g b z (at pc (each val us) s) × RowKept r r₁ × ((c ≡ off (wrong j s)) ⊎ ((j ≡ 8) × Pushes o × Heavy s c))

abbrev pub Performs : Program → Op → Registers → Stage → ℕ → List Text.Value → State → List ℕ → Bool → Config → Did → Type 0
Performs p o r g pc us s b z c d = OpOutcome p o r g pc us s b z c d.mem d.regs d.turn
