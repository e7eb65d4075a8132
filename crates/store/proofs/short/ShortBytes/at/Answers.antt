use Rattle.std.proofs.Common.{sym, ◌∙◌, arith}
use Rattle.std.proofs.lemmas.Nat.{and_mask}
use Rattle.std.proofs.lemmas.List.{get_or_past}
use Rattle.store.specs.Words.{bytes_of}
use Rattle.store.proofs.Packing.{clean_byte, length_bytes}
use Rattle.store.proofs.short.ShortBytes.at.Goals as goal

pub returns-then-i-lt8 : goal.returns-then-i-lt8
returns-then-i-lt8 c = let s = c.args.self.now in and_mask _ 8 ∙ clean_byte s.len c.args.i s.word s.clean

pub returns-else-i-lt8 : goal.returns-else-i-lt8
returns-else-i-lt8 c =
    let s = c.args.self.now in
    sym (get_or_past (bytes_of s.len s.word) c.args.i 0 (omega (arith, s.few, length_bytes s.len s.word)))
