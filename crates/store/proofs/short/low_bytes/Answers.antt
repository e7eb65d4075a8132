use Rattle.std.proofs.Common.{◌-◌, ◌*◌, ◌%◌, ap, ◌∙◌, arith}
use lib.Bits.{bit_and}
use Rattle.std.proofs.lemmas.Nat.{and_mask, one_shl}
use Rattle.store.proofs.Merging.{pow_256}
use Rattle.store.proofs.short.low_bytes.Goals as goal

pub returns-then-n-lt8 : goal.returns-then-n-lt8
returns-then-n-lt8 c =
    ap (λ x. bit_and c.args.word (x - 1)) (one_shl (8 * c.args.n) 64 (omega arith)) ∙ and_mask c.args.word (8 * c.args.n)
    ∙ ap (λ x. c.args.word % x) (pow_256 c.args.n)
