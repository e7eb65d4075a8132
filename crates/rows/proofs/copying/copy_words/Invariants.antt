use Rattle.std.proofs.Common.{◌≡◌, ◌*◌}
use Rattle.store.specs.Words.{window, over}
use Rattle.rows.proofs.copying.copy_words.Given as goal

abbrev pub invariant-loop-i : goal.invariant-loop-i
invariant-loop-i l = l.row ≡ over l.initial.row l.at (window (8 * l.q) (8 * l.i) l.words)
