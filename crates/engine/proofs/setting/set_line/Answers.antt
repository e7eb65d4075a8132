use Rattle.std.proofs.Common.{arith, rules}
use Rattle.lines.specs.Building.{with_text, after_line, line_of}
use Rattle.engine.specs.Setting.{line_set}
use Rattle.engine.proofs.Laying.{buffer_near}
use Rattle.engine.proofs.setting.set_line.Goals as goal

pub returns-then-len-gt-LONGEST : goal.returns-then-len-gt-LONGEST
unfolding line_set
returns-then-len-gt-LONGEST c = search rules

pub returns-then-fields_in-gt-FIELDS : goal.returns-then-fields_in-gt-FIELDS
unfolding line_set
returns-then-fields_in-gt-FIELDS c = search rules

pub lay_value-requires : goal.lay_value-requires
lay_value-requires c = omega (arith, buffer_near c.args.regs.now.line, c.free_buffer.ensures)

pub returns : goal.returns
unfolding line_set with_text after_line line_of
returns c = search rules
