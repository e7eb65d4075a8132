use Rattle.std.proofs.Common.{◌≡◌, ℕ, Bool, true, false, List, refl}
use Rattle.interp.specs.declared.registers.Stage.{Stage}
use Rattle.interp.specs.declared.registers.Stage.TheVariants.{Begin, Lines, End}
use Rattle.interp.specs.declared.registers.Registers.{Registers}
use Rattle.interp.specs.Registers.{flag, flag_of, stage_number, stage_of, registers_in, line_in, input_in, print_in, row_of, saved_row, rested, RegistersComeBack}
use Rattle.interp.proofs.registers.registers_come_back.Goals as goal

flags : (b : Bool) → flag_of (flag b) ≡ b
flags true = refl
flags false = refl

stages : (s : Stage) → stage_of (stage_number s) ≡ s
unfolding stage_of
stages Begin = refl
stages Lines = refl
stages End = refl

back : (r : Registers) (ws : List ℕ) → registers_in (saved_row (row_of r) ws) ≡ rested r
unfolding registers_in line_in input_in print_in row_of saved_row
back r ws = simp (flags, stages)

pub returns : goal.returns
unfolding RegistersComeBack
returns c = back
