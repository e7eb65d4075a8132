use Rattle.std.proofs.Common.{ap, ◌∙◌}
use Rattle.lexer.specs.declared.cells.Cell.{Cell}
use Rattle.parser.specs.Nodes.{list_of}
use Rattle.parser.proofs.nodes.put_list.Goals as goal

pub returns-clause-listed : goal.returns-clause-listed
unfolding list_of
returns-clause-listed c = let w = c.put.ensures in record { here = ap list_of w.here ∙ c.from.ensures; plain = ap (λ (x : Cell). x.flag) w.here; others = w.others }
