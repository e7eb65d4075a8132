use Rattle.std.proofs.Common.{sym}
use Rattle.lines.proofs.Pieces.{buffer_second, buffer_first}
use Rattle.lines.proofs.building.free_buffer.Goals as goal

pub returns-then-line-lt-SECOND : goal.returns-then-line-lt-SECOND
returns-then-line-lt-SECOND c = sym (buffer_second c.args.line c.if-line-lt-SECOND.true)

pub returns-else-line-lt-SECOND : goal.returns-else-line-lt-SECOND
returns-else-line-lt-SECOND c = sym (buffer_first c.args.line c.if-line-lt-SECOND.false)
