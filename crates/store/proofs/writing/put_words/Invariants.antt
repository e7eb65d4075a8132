use Rattle.std.proofs.Common.{◌≡◌, ◌*◌, take, drop}
use Rattle.store.specs.Words.{put_bytes}
use Rattle.store.proofs.Putting.{Words}
use Rattle.store.proofs.writing.put_words.Given as goal

abbrev pub invariant-loop-i : goal.invariant-loop-i
invariant-loop-i g l = (l.words ≡ put_bytes l.initial.words (8 * l.q) (take (8 * l.i) (drop l.from (g.T.Bytes.bytes l.t)))) × Words l.words
