use Rattle.std.proofs.Common.{ℕ, ◌+◌, ◌-◌, ◌*◌, ◌/◌, refl, arith}
use Rattle.store.proofs.Moving.{moved_parts, moved_words}
use Rattle.store.proofs.writing.move_down.Goals as goal

pub returns : goal.returns
returns c =
    let h : ℕ = c.min-head.result in
    let w : ℕ = (c.args.n - h) / 8 in
    moved_parts c.args.words.now c.move_some.new.words c.move_words.new.words c.move_some-2.new.words c.args.from c.args.to h (8 * w) (h + 8 * w) c.args.n refl (omega arith) (omega arith) c.requires.apart
    c.move_some.ensures
    (moved_words c.move_some.new.words c.move_words.new.words (c.args.to + h) ((c.args.to + h) / 8) w (c.args.from + h) c.move_words.ensures (λ x. omega arith))
    c.move_some-2.ensures
