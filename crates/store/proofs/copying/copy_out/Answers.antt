use Rattle.std.proofs.Common.{◌≡◌, ℕ, ◌+◌, ◌-◌, ◌*◌, ◌/◌, min, List, length, drop, sym, ap, ◌∙◌, arith, length-drop, drop-drop}
use lib.Seq.{paste}
use Rattle.std.proofs.lemmas.List.Edits.{paste_none}
use Rattle.store.proofs.Pasting.{paste_behind}
use Rattle.store.proofs.copying.copy_out.Goals as goal

pub returns-then-n-gt0-clause-copied : goal.returns-then-n-gt0-clause-copied
returns-then-n-gt0-clause-copied g c =
    let d : List ℕ = c.args.out.now in
    let bs : List ℕ = g.T.Bytes.bytes c.args.t.now in
    let p : List ℕ = drop c.args.from bs in
    let l = length-drop c.args.from bs in
    let n : ℕ = c.min-n.result in
    let w : ℕ = 8 * (n / 8) in
    let e : w + (n - w) ≡ min (length p) (length d - c.args.at) = omega arith in
    c.bytes_out.ensures
    ∙ ap (λ x. paste x (c.args.at + w) (drop (c.args.from + w) bs) (n - w)) c.words_out.ensures
    ∙ ap (λ x. paste (paste d c.args.at p w) (c.args.at + w) x (n - w)) (sym (drop-drop w c.args.from bs))
    ∙ paste_behind d p c.args.at w (n - w) (omega arith) (omega arith) ∙ ap (paste d c.args.at p) e

pub returns-else-n-gt0-clause-copied : goal.returns-else-n-gt0-clause-copied
returns-else-n-gt0-clause-copied g c =
    let d : List ℕ = c.args.out.now in
    let bs : List ℕ = g.T.Bytes.bytes c.args.t.now in
    let p : List ℕ = drop c.args.from bs in
    let l = length-drop c.args.from bs in
    let e : 0 ≡ min (length p) (length d - c.args.at) = omega arith in
    paste_none d c.args.at p ∙ ap (paste d c.args.at p) e
