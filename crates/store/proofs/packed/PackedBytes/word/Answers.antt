use Rattle.std.proofs.Common.{sym, ◌∙◌, arith}
use Rattle.store.proofs.Moving.{length_window, window_part}
use Rattle.store.proofs.packed.PackedBytes.word.Goals as goal

pub returns : goal.returns
returns c =
    let p = c.args.self.now in
    let l = length_window p.from p.len p.words.now p.inside in
    c.word_at.ensures ∙ sym (window_part p.words.now p.from p.len c.args.i 8 (omega arith))
