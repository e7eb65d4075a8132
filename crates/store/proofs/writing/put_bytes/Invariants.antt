use Rattle.std.proofs.Common.{◌≡◌, take, drop}
use Rattle.store.specs.Words.{put_bytes}
use Rattle.store.proofs.writing.put_bytes.Given as goal

abbrev pub invariant-loop-i : goal.invariant-loop-i
invariant-loop-i g l = l.words ≡ put_bytes l.initial.words l.to (take l.i (drop l.from (g.T.Bytes.bytes l.t)))
