use Rattle.std.proofs.Common.{◌≡◌, ℕ, ◌+◌, ◌*◌, List, take, drop, sym, ap, ◌∙◌, arith}
use Rattle.store.specs.Words.{bytes_of, window}
use Rattle.store.proofs.Putting.{puts_none, words_more, set_fits}
use Rattle.store.proofs.Moving.{length_window, word_ahead}
use Rattle.store.proofs.writing.move_words.Goals as goal

pub loop-i-init : goal.loop-i-init
loop-i-init c = (sym (puts_none c.args.words.now (8 * c.args.q)), λ i. (c.type_inv.words i).fits)

pub loop-i-preserved : goal.loop-i-preserved
loop-i-preserved c =
    let ws : List ℕ = c.args.words.now in
    let m : ℕ = 8 * c.args.n in
    let bs : List ℕ = window c.args.from m ws in
    let i : ℕ = c.loop-i.i in
    let v : ℕ = c.word_at.result in
    let l = length_window c.args.from m ws (omega arith) in
    let e : bytes_of 8 v ≡ take 8 (drop (8 * i) bs) = c.word_at.ensures ∙ ap (window (c.args.from + 8 * i) 8) c.loop-i.invariant.0 ∙ word_ahead ws c.args.from (8 * c.args.q) m (8 * i) (omega arith) (omega arith) c.requires.apart in (
      words_more ws c.args.q bs i v c.loop-i.words c.loop-i.invariant.0 c.loop-i.invariant.1 (omega arith) (omega arith) c.word_at.type_inv e,
      set_fits c.loop-i.words (c.args.q + i) v c.loop-i.invariant.1 c.word_at.type_inv,
    )
