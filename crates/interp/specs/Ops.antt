-- What the operations of an assembled program are to this machine. Assumes nothing: these are definitions.
use Rattle.std.specs.Prelude.{ℕ, ◌==◌}
use Rattle.language.specs.Text.{pick}
use Rattle.assembly.specs.Assembly
use Rattle.assembly.specs.Assembly.{op_load, op_save, op_line_count, op_field_count, op_get_field, op_set_field, op_one, op_two, op_truth, op_fail, op_jump, op_jump_if, op_jump_unless, op_drop, op_print_line, op_print_values, op_leave_line, op_exit, op_end}
use Rattle.values.specs.declared.numbers.Arithmetic.TheVariants.{Add, Subtract, Multiply, Divide, Remainder}
use Rattle.values.specs.declared.compare.Comparison.TheVariants.{Equal, Unequal, Less, AtMost, Above, AtLeast}
use Rattle.interp.specs.declared.ops.Op.{Op}
use Rattle.interp.specs.declared.ops.Op.TheVariants.{Load, Save, LineCount, FieldCount, GetField, SetField, Not, Opposite, Calculate, Compare, Join, Unknown, Truth, Fail, Jump, JumpIf, JumpUnless, Drop, PrintLine, PrintValues, LeaveLine, Exit, End}

-- operators on one value and on two, by their numbers in the language

unfoldable pub one_of : ℕ → Op
one_of k = pick (k == 0) Not (pick (k == 1) Opposite Unknown)

unfoldable pub two_of : ℕ → Op
two_of k =
    pick (k == 2) (Compare Equal) (pick (k == 3) (Compare Unequal) (pick (k == 4) (Compare Less) (pick (k == 5) (Compare AtMost)
    (pick (k == 6) (Calculate Add) (pick (k == 7) (Calculate Subtract) (pick (k == 8) (Calculate Multiply) (pick (k == 9) (Calculate Divide)
    (pick (k == 10) (Calculate Remainder) (pick (k == 11) Join (pick (k == 13) (Compare Above) (pick (k == 14) (Compare AtLeast) Unknown)))))))))))

abbrev pub op_in : Assembly.Op → Op
op_in (op_load n) = Load n
op_in (op_save n) = Save n
op_in op_line_count = LineCount
op_in op_field_count = FieldCount
op_in op_get_field = GetField
op_in op_set_field = SetField
op_in (op_one k) = one_of k
op_in (op_two k) = two_of k
op_in op_truth = Truth
op_in (op_fail k) = Fail k
op_in (op_jump n) = Jump n
op_in (op_jump_if n) = JumpIf n
op_in (op_jump_unless n) = JumpUnless n
op_in op_drop = Drop
op_in op_print_line = PrintLine
op_in (op_print_values n) = PrintValues n
op_in op_leave_line = LeaveLine
op_in op_exit = Exit
op_in op_end = End
