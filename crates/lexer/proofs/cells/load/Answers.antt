use Rattle.std.proofs.Common.{refl}
use Rattle.lexer.specs.Memory.{cell}
use Rattle.lexer.proofs.Whole.{cell_out}
use Rattle.lexer.proofs.cells.load.Goals as goal

pub returns-then-i-ge-CELLS : goal.returns-then-i-ge-CELLS
returns-then-i-ge-CELLS c =
    let d = c.default.ensures in
    cell_out c.args.work.now c.args.i c.default.result c.told-work c.if-i-ge-CELLS.true d.0 d.1.0 d.1.1.0 d.1.1.1.0 d.1.1.1.1.0 d.1.1.1.1.1.0 d.1.1.1.1.1.1

pub returns : goal.returns
unfolding cell
returns c = refl
