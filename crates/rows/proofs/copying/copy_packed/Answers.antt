use Rattle.std.proofs.Common.{ℕ, ◌+◌, ◌-◌, ◌/◌, ap, ◌∙◌, arith}
use Rattle.store.specs.Words.{over}
use Rattle.rows.proofs.Windows.{words_there, three}
use Rattle.rows.proofs.copying.copy_packed.Goals as goal

pub returns : goal.returns
returns c =
    let t = c.args.t.now in
    let ws = t.words.now in
    let h : ℕ = c.min-head.result in
    let m : ℕ = (t.len - h) / 8 in
    three c.args.row.now c.args.at ws t.from t.len h m c.copy_bytes.new.row c.copy_words.new.row c.copy_bytes-2.new.row
    (omega (arith, t.inside)) (omega arith) (omega arith)
    c.copy_bytes.ensures
    (c.copy_words.ensures ∙ ap (over c.copy_bytes.new.row (c.args.at + h)) (words_there ws t.from h t.len m (omega arith) (omega arith)))
    c.copy_bytes-2.ensures
