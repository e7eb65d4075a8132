use Rattle.std.proofs.Common.{ap, ◌∙◌}
use Rattle.lexer.specs.declared.cells.Cell.{Cell}
use Rattle.parser.specs.Nodes.{term_of}
use Rattle.parser.proofs.nodes.put_term.Goals as goal

pub returns-clause-made : goal.returns-clause-made
unfolding term_of
returns-clause-made c = let w = c.put.ensures in record { here = ap term_of w.here ∙ c.from.ensures; plain = ap (λ (x : Cell). x.flag) w.here; others = w.others }
