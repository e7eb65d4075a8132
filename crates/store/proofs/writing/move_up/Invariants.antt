use Rattle.std.proofs.Common.{◌≡◌, ◌+◌, drop}
use Rattle.store.specs.Words.{put_bytes, window}
use Rattle.store.proofs.Putting.{Words}
use Rattle.store.proofs.writing.move_up.Given as goal

abbrev pub invariant-loop-i : goal.invariant-loop-i
invariant-loop-i l = (l.words ≡ put_bytes l.initial.words (l.to + l.i) (drop l.i (window l.from l.n l.initial.words))) × Words l.initial.words
