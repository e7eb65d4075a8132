use Rattle.std.proofs.Common.{◌≡◌, ℕ, ◌+◌, ◌-◌, ◌*◌, ◌/◌, min, List, length, drop, sym, refl, ◌∙◌, arith}
use Rattle.store.proofs.Putting.{puts_none, puts_all, three_parts, words_placed}
use Rattle.store.proofs.writing.copy_in.Goals as goal

pub returns-then-n-gt0 : goal.returns-then-n-gt0
returns-then-n-gt0 g c =
    let b : List ℕ = g.T.Bytes.bytes c.args.t.now in
    let ws : List ℕ = c.args.words.now in
    let n : ℕ = c.min-n.result in
    let e : n ≡ min (length b) (8 * length ws - c.args.to) = omega arith in
    let head : ℕ = c.min-head.result in
    let whole : ℕ = (n - head) / 8 in
    three_parts ws c.put_bytes.new.words c.put_words.new.words c.put_bytes-then-n-gt0.new.words c.args.to b head (8 * whole) (head + 8 * whole) n refl (omega arith) (omega arith)
    c.put_bytes.ensures
    (words_placed c.put_bytes.new.words c.put_words.new.words (c.args.to + head) ((c.args.to + head) / 8) whole (drop head b) c.put_words.ensures (λ h. omega arith))
    c.put_bytes-then-n-gt0.ensures
    ∙ puts_all ws c.args.to b n e

pub returns-else-n-gt0 : goal.returns-else-n-gt0
returns-else-n-gt0 g c =
    let b : List ℕ = g.T.Bytes.bytes c.args.t.now in
    let ws : List ℕ = c.args.words.now in
    sym (sym (puts_all ws c.args.to b 0 (omega arith)) ∙ puts_none ws c.args.to)
