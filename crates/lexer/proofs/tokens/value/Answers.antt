use Rattle.std.proofs.Common.{◌≡◌, suc, ◌+◌, ◌-◌, get_or, sym, ◌∙◌, arith}
use Rattle.lexer.proofs.Numbers.{digit_on, digits_done, digit_byte, small, grows}
use Rattle.lexer.proofs.tokens.value.Goals as goal

pub overflow_mul-n : goal.overflow_mul-n
overflow_mul-n c = omega (arith, small c.loop-c.n c.loop-c.c-index (omega arith) c.loop-c.invariant.small)

pub overflow_add-n : goal.overflow_add-n
overflow_add-n c =
    let d = digit_byte (get_or c.args.digits.now c.loop-c.c-index 0) (c.requires.digits c.loop-c.c-index c.loop-c-test.true) in
    omega (arith, small c.loop-c.n c.loop-c.c-index (omega arith) c.loop-c.invariant.small, d.1)

pub loop-c-preserved : goal.loop-c-preserved
loop-c-preserved c =
    let i = c.loop-c.c-index in
    let t = c.requires.digits i c.loop-c-test.true in
    let b = get_or c.args.digits.now i 0 in
    let e : suc i ≡ i + 1 = omega arith in
    record {
      worth = rw c.from.ensures (sym (digit_on c.args.digits.now i c.loop-c.n c.loop-c-test.true t) ∙ c.loop-c.invariant.worth);
      small = rw (c.from.ensures, ← e) (grows c.loop-c.n i (b - 48) c.loop-c.invariant.small (omega (arith, (digit_byte b t).1)));
    }

pub returns : goal.returns
returns c = sym (digits_done c.args.digits.now c.loop-c.c-index c.loop-c.n (omega arith)) ∙ c.loop-c.invariant.worth
