use Rattle.std.proofs.Common.{◌∙◌}
use Rattle.parser.proofs.Moves.{bit_byte}
use Rattle.parser.proofs.nodes.put.Goals as goal

pub returns : goal.returns
returns c = rw (c.from.ensures ∙ bit_byte c.args.plain) at c.store.ensures
