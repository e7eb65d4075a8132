use Rattle.std.proofs.Common.{◌∙◌}
use Rattle.std.proofs.lemmas.Nat.{and_mask}
use Rattle.store.proofs.Packing.{byte_is}
use Rattle.store.proofs.packed.byte.Goals as goal

pub returns : goal.returns
returns c = and_mask _ 8 ∙ byte_is c.args.words.now c.args.i c.requires
