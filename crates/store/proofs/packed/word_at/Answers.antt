use Rattle.std.proofs.Common.{◌≡◌, ℕ, ◌+◌, ◌*◌, ◌/◌, ◌%◌, ◌^◌, ◌<◌, List, get_or, ap, ◌∙◌, arith, rules}
use Rattle.store.specs.Words.{window}
use Rattle.store.proofs.Merging.{merge_is}
use Rattle.store.proofs.Moving.{whole_word, two_words}
use Rattle.store.proofs.packed.word_at.Goals as goal

pub returns-then-r-eq0 : goal.returns-then-r-eq0
returns-then-r-eq0 c =
    let e : 8 * (c.args.from / 8) ≡ c.args.from = omega arith in
    whole_word c.args.words.now (c.args.from / 8) (omega arith) ∙ ap (λ k. window k 8 c.args.words.now) e

pub returns-else-r-eq0 : goal.returns-else-r-eq0
returns-else-r-eq0 c =
    let ws : List ℕ = c.args.words.now in
    let q : ℕ = c.args.from / 8 in
    let r : ℕ = c.args.from % 8 in
    let e : 8 * q + r ≡ c.args.from = omega arith in
    let f : get_or ws q 0 < 2 ^ 64 = search rules in
    merge_is (get_or ws q 0) (get_or ws (q + 1) 0) r (omega arith) (omega arith) f ∙ two_words ws q r (omega arith) (omega arith) ∙ ap (λ k. window k 8 ws) e
