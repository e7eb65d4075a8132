use Rattle.std.proofs.Common.{◌≡◌, ◌+◌, ◌-◌, min, length, get_or, set, ap, ◌∙◌, arith}
use lib.Seq.{paste}
use Rattle.std.proofs.lemmas.List.Edits.{paste_more}
use Rattle.store.specs.Words.{window}
use Rattle.store.proofs.Moving.{length_window}
use Rattle.rows.proofs.copying.copy_bytes.Goals as goal

pub loop-i-preserved : goal.loop-i-preserved
loop-i-preserved c =
    let t = c.args.t.now in
    let b = window t.from t.len t.words.now in
    let l = length_window t.from t.len t.words.now t.inside in
    ap (set c.loop-i.row (c.args.at + c.loop-i.i)) c.at.ensures
    ∙ ap (λ d. set d (c.args.at + c.loop-i.i) (get_or b c.loop-i.i 0)) c.loop-i.invariant
    ∙ paste_more c.args.row.now c.args.at b c.loop-i.i 0 (omega arith) (omega arith)

pub returns : goal.returns
returns c =
    let t = c.args.t.now in
    let b = window t.from t.len t.words.now in
    let l = length_window t.from t.len t.words.now t.inside in
    let e : c.loop-i.i ≡ min (length b) (length c.args.row.now - c.args.at) = omega arith in
    c.loop-i.invariant ∙ ap (paste c.args.row.now c.args.at b) e
