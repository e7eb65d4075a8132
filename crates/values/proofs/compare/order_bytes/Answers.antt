use Rattle.std.proofs.Common.{length, get_or, Equal, sym, ◌∙◌, arith}
use Rattle.std.proofs.lemmas.Cmp.{ranked}
use Rattle.values.proofs.Comparing.{bytes_found, bytes_same, bytes_over}
use Rattle.values.proofs.compare.order_bytes.Goals as goal

pub returns-in_default : goal.returns-in_default
returns-in_default g c =
    let xs = g.A.Bytes.bytes c.args.a.now in
    let ys = g.B.Bytes.bytes c.args.b.now in
    let r = ranked (get_or xs c.loop-i.i 0) (get_or ys c.loop-i.i 0) c.cmp.result (simp (c.at.ensures, c.at-in-loop-i.ensures) at c.cmp.ensures) in
    c.loop-i.invariant c.cmp.result (bytes_found xs ys c.loop-i.i (omega arith) (omega arith) c.cmp.result r c.in_default.not-Equal)

pub loop-i-preserved : goal.loop-i-preserved
loop-i-preserved g c =
    let xs = g.A.Bytes.bytes c.args.a.now in
    let ys = g.B.Bytes.bytes c.args.b.now in
    let e = ranked (get_or xs c.loop-i.i 0) (get_or ys c.loop-i.i 0) Equal (sym c.in-Equal.is ∙ simp (c.at.ensures, c.at-in-loop-i.ensures) at c.cmp.ensures) in
    λ o r. c.loop-i.invariant o (bytes_same xs ys c.loop-i.i (omega arith) (omega arith) o e r)

pub returns : goal.returns
returns g c = c.loop-i.invariant c.cmp-2.result (bytes_over (g.A.Bytes.bytes c.args.a.now) (g.B.Bytes.bytes c.args.b.now) c.loop-i.i (omega arith) c.cmp-2.result (ranked (length (g.A.Bytes.bytes c.args.a.now)) (length (g.B.Bytes.bytes c.args.b.now)) c.cmp-2.result (simp (c.len-m.ensures, c.len-n.ensures) at c.cmp-2.ensures)))
