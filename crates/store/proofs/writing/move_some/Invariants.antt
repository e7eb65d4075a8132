use Rattle.std.proofs.Common.{◌≡◌, take}
use Rattle.store.specs.Words.{put_bytes, window}
use Rattle.store.proofs.writing.move_some.Given as goal

abbrev pub invariant-loop-i : goal.invariant-loop-i
invariant-loop-i l = l.words ≡ put_bytes l.initial.words l.to (take l.i (window l.from l.n l.initial.words))
