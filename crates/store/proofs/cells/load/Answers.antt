use Rattle.std.proofs.Common.{sym, ◌∙◌, arith}
use Rattle.std.proofs.lemmas.List.{get_or_past}
use Rattle.store.specs.declared.cells.Value.TheVariants.{Unset}
use Rattle.store.specs.Values.{decoded}
use Rattle.store.proofs.Coding.{decoded_read, length_decoded}
use Rattle.store.proofs.cells.load.Goals as goal

pub returns-then-i-cells : goal.returns-then-i-cells
returns-then-i-cells c = c.value_of.ensures ∙ decoded_read c.args.cells.now c.args.i (omega arith)

pub returns-else-i-cells : goal.returns-else-i-cells
returns-else-i-cells c = sym (get_or_past (decoded c.args.cells.now) c.args.i Unset (omega (arith, length_decoded c.args.cells.now)))
