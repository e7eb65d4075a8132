use Rattle.std.proofs.Common.{arith}
use Rattle.lexer.proofs.Whole.{stored}
use Rattle.lexer.proofs.cells.store.Goals as goal

pub returns : goal.returns
returns c = stored c.args.work.now c.args.i c.args.cell (omega arith)
