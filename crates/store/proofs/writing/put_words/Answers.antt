use Rattle.std.proofs.Common.{◌≡◌, ℕ, ◌+◌, ◌*◌, List, take, drop, sym, ap, ◌∙◌, arith, length-drop, drop-drop}
use Rattle.store.specs.Words.{bytes_of}
use Rattle.store.proofs.Putting.{puts_none, words_more, set_fits}
use Rattle.store.proofs.writing.put_words.Goals as goal

pub loop-i-init : goal.loop-i-init
loop-i-init g c = (sym (puts_none c.args.words.now (8 * c.args.q)), λ i. (c.type_inv.words i).fits)

pub loop-i-preserved : goal.loop-i-preserved
loop-i-preserved g c =
    let b : List ℕ = g.T.Bytes.bytes c.args.t.now in
    let v : ℕ = c.word.result in
    let l = length-drop c.args.from b in
    let e : bytes_of 8 v ≡ take 8 (drop (8 * c.loop-i.i) (drop c.args.from b)) = c.word.ensures
    ∙ ap (take 8) (sym (drop-drop (8 * c.loop-i.i) c.args.from b)) in (
      words_more c.args.words.now c.args.q (drop c.args.from b) c.loop-i.i v c.loop-i.words c.loop-i.invariant.0 c.loop-i.invariant.1 (omega arith) (omega arith) c.word.type_inv e,
      set_fits c.loop-i.words (c.args.q + c.loop-i.i) v c.loop-i.invariant.1 c.word.type_inv,
    )
