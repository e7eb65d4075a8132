use Rattle.std.proofs.Common.{◌≡◌, ℕ, ◌+◌, ◌*◌, List, take, drop, sym, ap, ◌∙◌, arith, length-drop, drop-drop}
use lib.Seq.{paste}
use Rattle.std.proofs.lemmas.Slice.{put_mid-paste}
use Rattle.store.specs.Words.{bytes_of}
use Rattle.store.proofs.Packing.{length_bytes}
use Rattle.store.proofs.Pasting.{paste_on, eight_bytes}
use Rattle.store.proofs.copying.words_out.Goals as goal

pub loop-i-preserved : goal.loop-i-preserved
loop-i-preserved g c =
    let d : List ℕ = c.args.out.now in
    let bs : List ℕ = g.T.Bytes.bytes c.args.t.now in
    let p : List ℕ = drop c.args.from bs in
    let i : ℕ = c.loop-i.i in
    let l = length-drop c.args.from bs in
    let n : 8 * i + 8 ≡ 8 * (i + 1) = omega arith in
    let b = length_bytes 8 c.word.result in
    put_mid-paste (c.args.at + 8 * i) _ c.loop-i.out c.copy_from_slice.new.self (bytes_of 8 c.word.result) 8 (c.copy_from_slice.ensures.after ∙ c.to_le_bytes.ensures ∙ eight_bytes c.word.result) (omega arith) (omega arith)
    ∙ ap (λ x. paste c.loop-i.out (c.args.at + 8 * i) x 8) (c.word.ensures ∙ ap (λ x. take 8 x) (sym (drop-drop (8 * i) c.args.from bs)))
    ∙ ap (λ x. paste x (c.args.at + 8 * i) (take 8 (drop (8 * i) p)) 8) c.loop-i.invariant
    ∙ paste_on d p c.args.at (8 * i) 8 (omega arith) (omega arith)
    ∙ ap (paste d c.args.at p) n
