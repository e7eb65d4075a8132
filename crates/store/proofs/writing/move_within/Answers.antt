use Rattle.std.proofs.Common.{◌∙◌}
use Rattle.store.proofs.Moving.{moved_within}
use Rattle.store.proofs.writing.move_within.Goals as goal

pub returns : goal.returns
returns c =
    c.move_bytes.ensures
    ∙ moved_within c.args.words.now c.args.from c.args.to c.args.n c.min-from.result c.min-n.result c.min-to.result c.min.result c.min-from.ensures c.min-n.ensures c.min-to.ensures c.min.ensures
