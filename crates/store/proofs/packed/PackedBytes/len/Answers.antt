use Rattle.std.proofs.Common.{sym}
use Rattle.store.proofs.Moving.{length_window}
use Rattle.store.proofs.packed.PackedBytes.len.Goals as goal

pub returns : goal.returns
returns c = let p = c.args.self.now in sym (length_window p.from p.len p.words.now p.inside)
