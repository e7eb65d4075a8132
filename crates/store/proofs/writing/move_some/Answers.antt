use Rattle.std.proofs.Common.{◌≡◌, ℕ, ◌+◌, List, get_or, take, sym, ap, ◌∙◌, arith}
use Rattle.store.specs.Words.{unpacked, put_byte, put_bytes, window}
use Rattle.store.proofs.Putting.{puts_none, puts_more}
use Rattle.store.proofs.Moving.{length_window, byte_ahead}
use Rattle.store.proofs.writing.move_some.Goals as goal

pub loop-i-init : goal.loop-i-init
loop-i-init c = sym (puts_none c.args.words.now c.args.to)

pub loop-i-preserved : goal.loop-i-preserved
loop-i-preserved c =
    let ws : List ℕ = c.args.words.now in
    let bs : List ℕ = window c.args.from c.args.n ws in
    let i : ℕ = c.loop-i.i in
    let l = length_window c.args.from c.args.n ws (omega arith) in
    let e : c.byte-b.result ≡ get_or bs i 0 = c.byte-b.ensures ∙ ap (λ x. get_or (unpacked x) (c.args.from + i) 0) c.loop-i.invariant ∙ byte_ahead ws c.args.from c.args.to c.args.n i (omega arith) (omega arith) c.requires.apart in
    c.set_byte.ensures ∙ ap (λ x. put_byte x (c.args.to + i) c.byte-b.result) c.loop-i.invariant
    ∙ ap (put_byte (put_bytes ws c.args.to (take i bs)) (c.args.to + i)) e ∙ sym (puts_more ws c.args.to bs i (omega arith))
