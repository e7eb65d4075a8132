use Rattle.std.proofs.Common.{◌≡◌}
use lib.Seq.{paste}
use Rattle.store.specs.Words.{window}
use Rattle.rows.proofs.copying.copy_bytes.Given as goal

abbrev pub invariant-loop-i : goal.invariant-loop-i
invariant-loop-i l = l.row ≡ paste l.initial.row l.at (window l.t.from l.t.len l.t.words.now) l.i
