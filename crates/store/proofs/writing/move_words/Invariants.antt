use Rattle.std.proofs.Common.{◌≡◌, ◌*◌, take}
use Rattle.store.specs.Words.{put_bytes, window}
use Rattle.store.proofs.Putting.{Words}
use Rattle.store.proofs.writing.move_words.Given as goal

abbrev pub invariant-loop-i : goal.invariant-loop-i
invariant-loop-i l = (l.words ≡ put_bytes l.initial.words (8 * l.q) (take (8 * l.i) (window l.from (8 * l.n) l.initial.words))) × Words l.words
