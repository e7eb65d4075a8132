-- What a turn does. Assumes nothing: these are definitions.
use Rattle.std.specs.Prelude.{slice_index}
use Rattle.language.specs.Text.{pick}
use Rattle.assembly.specs.Assembly.{op_of}
use Rattle.values.specs.Numbers.{operation}
use Rattle.values.specs.Compare.{operator}
use Rattle.regions.specs.Parts.{Parts}
use Rattle.interp.specs.Outcomes.{On, Refuse}
use Rattle.interp.specs.declared.ops.Op.{Op}
use Rattle.interp.specs.declared.ops.Op.TheVariants.{Load, Save, LineCount, FieldCount, GetField, SetField, Not, Opposite, Calculate, Compare, Join, Unknown, Truth, Fail, Jump, JumpIf, JumpUnless, Drop, PrintLine, PrintValues, LeaveLine, Exit, End}
use Rattle.interp.specs.declared.registers.Registers.{Registers}
use Rattle.interp.specs.Between.{line_next}
use Rattle.interp.specs.Fields.{field_got}
use Rattle.interp.specs.Jumps.{judged, negated, jumped, jumped_if, jumped_unless, between, exited}
use Rattle.interp.specs.Numbers.{figured, figured_one}
use Rattle.interp.specs.Ops.{op_in}
use Rattle.interp.specs.Slots.{loaded, kept_in, line_counted, fields_counted}
use Rattle.interp.specs.Texts.{joined}
use Rattle.interp.specs.Turns.{Did, says, dropped}

-- the next operation of the code
unfoldable pub fetched : Parts → Registers → Op
fetched p r = op_in (op_of (slice_index p.code r.pc))

abbrev pub performed : Op → Parts → Registers → Did
performed (Load i) p r = loaded p r i
performed (Save i) p r = kept_in p r i
performed LineCount p r = line_counted p r
performed FieldCount p r = fields_counted p r
performed GetField p r = field_got p r
performed SetField p r = says (Refuse 2) p r
performed Not p r = negated p r
performed Opposite p r = figured_one 1 p r
performed (Calculate c) p r = figured (operation c) p r
performed (Compare c) p r = figured (operator c) p r
performed Join p r = joined p r
performed Unknown p r = says (Refuse 2) p r
performed Truth p r = judged p r
performed (Fail k) p r = says (Refuse k) p r
performed (Jump q) p r = says On p (jumped r q)
performed (JumpIf q) p r = jumped_if p r q
performed (JumpUnless q) p r = jumped_unless p r q
performed Drop p r = dropped p r
performed PrintLine p r = says (Refuse 2) p r
performed (PrintValues n) p r = says (Refuse 2) p r
performed LeaveLine p r = says On p (between r)
performed Exit p r = says (exited p r) p r
performed End p r = says On p (between r)

unfoldable pub turned : Parts → Registers → Did
turned p r = pick r.running (performed (fetched p r) p r) (line_next p r)
