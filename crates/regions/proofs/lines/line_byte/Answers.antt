use Rattle.std.proofs.Common.{sym, arith}
use Rattle.std.proofs.lemmas.List.{get_or_past}
use Rattle.store.specs.Words.{unpacked}
use Rattle.store.proofs.Packing.{length_unpacked}
use Rattle.regions.specs.Parts.{part, parts}
use Rattle.regions.proofs.Regions.{part_length}
use Rattle.regions.proofs.lines.line_byte.Goals as goal

pub returns-else-i-lt-BYTES : goal.returns-else-i-lt-BYTES
unfolding parts
returns-else-i-lt-BYTES c =
    let m = c.args.mem.now in
    sym (get_or_past (unpacked (part 69888 25088 m)) c.args.i 0 (omega (arith, length_unpacked (part 69888 25088 m), part_length 69888 25088 m (omega arith))))
