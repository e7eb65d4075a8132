use Rattle.std.proofs.Common.{◌+◌, drop, sym, ap, ◌∙◌, arith, length-drop, get_or-drop}
use Rattle.store.specs.Words.{put_byte}
use Rattle.store.proofs.Putting.{puts_none, puts_more}
use Rattle.store.proofs.writing.put_bytes.Goals as goal

pub loop-i-init : goal.loop-i-init
loop-i-init g c = sym (puts_none c.args.words.now c.args.to)

pub loop-i-preserved : goal.loop-i-preserved
loop-i-preserved g c =
    let b = drop c.args.from (g.T.Bytes.bytes c.args.t.now) in
    let l = length-drop c.args.from (g.T.Bytes.bytes c.args.t.now) in
    c.set_byte.ensures
    ∙ ap (put_byte c.loop-i.words (c.args.to + c.loop-i.i)) (c.at.ensures ∙ sym (get_or-drop c.args.from (g.T.Bytes.bytes c.args.t.now) c.loop-i.i 0))
    ∙ sym (puts_more c.args.words.now c.args.to b c.loop-i.i (omega arith) ∙ (rw (← c.loop-i.invariant)))
