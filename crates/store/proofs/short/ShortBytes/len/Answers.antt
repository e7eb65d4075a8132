use Rattle.std.proofs.Common.{sym}
use Rattle.store.proofs.Packing.{length_bytes}
use Rattle.store.proofs.short.ShortBytes.len.Goals as goal

pub returns : goal.returns
returns c = sym (length_bytes c.args.self.now.len c.args.self.now.word)
