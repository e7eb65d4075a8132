use Rattle.std.proofs.Common.{◌≡◌, ◌+◌, ◌-◌, ◌*◌, min, length, get_or, take, drop, sym, ap, ◌∙◌, arith, get_or-drop, get_or-take}
use lib.Seq.{paste}
use Rattle.std.proofs.lemmas.Slice.{put_mid-paste}
use Rattle.store.specs.Words.{bytes_of, over}
use Rattle.store.proofs.Packing.{length_bytes}
use Rattle.store.proofs.Pasting.{eight_bytes}
use Rattle.store.proofs.Putting.{over_nothing}
use Rattle.rows.proofs.Windows.{word_more}
use Rattle.rows.proofs.copying.copy_words.Goals as goal

pub loop-i-init : goal.loop-i-init
loop-i-init c = sym (over_nothing c.args.row.now c.args.at)

pub loop-i-preserved : goal.loop-i-preserved
loop-i-preserved c =
    let ws = c.args.words.now in
    let d = c.loop-i.row in
    let i = c.loop-i.i in
    let k = c.args.at + 8 * i in
    let w = get_or (take (c.args.q + c.args.n - c.args.q) (drop c.args.q ws)) i 0 in
    let l = length_bytes 8 w in
    let e : 8 ≡ min (length (bytes_of 8 w)) (length d - k) = omega arith in
    put_mid-paste k _ d c.copy_from_slice.new.self (bytes_of 8 w) 8 (c.copy_from_slice.ensures.after ∙ c.to_le_bytes.ensures ∙ eight_bytes w) (omega arith) (omega arith)
    ∙ ap (paste d k (bytes_of 8 w)) e
    ∙ ap (λ x. over x k (bytes_of 8 w)) c.loop-i.invariant
    ∙ (rw (get_or-take (c.args.q + c.args.n - c.args.q) (drop c.args.q ws) i 0 (omega arith), get_or-drop c.args.q ws i 0) (word_more c.args.row.now c.args.at ws c.args.q i (omega arith) (omega arith)))
