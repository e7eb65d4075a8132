use Rattle.std.proofs.Common.{ℕ, ◌+◌, List, get_or, drop, set, sym, ap, ◌∙◌, arith, length-drop, get_or-drop}
use Rattle.std.proofs.lemmas.List.Edits.{paste_more}
use Rattle.store.proofs.copying.bytes_out.Goals as goal

pub loop-i-preserved : goal.loop-i-preserved
loop-i-preserved g c =
    let b : List ℕ = g.T.Bytes.bytes c.args.t.now in
    let l = length-drop c.args.from b in
    ap (set c.loop-i.out (c.args.at + c.loop-i.i)) (c.at.ensures ∙ sym (get_or-drop c.args.from b c.loop-i.i 0))
    ∙ ap (λ t. set t (c.args.at + c.loop-i.i) (get_or (drop c.args.from b) c.loop-i.i 0)) c.loop-i.invariant
    ∙ paste_more c.args.out.now c.args.at (drop c.args.from b) c.loop-i.i 0 (omega arith) (omega arith)
