use Rattle.std.proofs.Common.{arith, w64, to_z, of_z}
use Rattle.std.proofs.lemmas.Int.{ints}
use Rattle.language.specs.Text.{sum, opposite, product}
use Rattle.language.specs.Meaning.{reckon, quotient_got, left_over_got}
use Rattle.values.proofs.Reckoning.{taken, reckoned}
use Rattle.values.proofs.numbers.calculate.Goals as goal

pub returns-in-Add : goal.returns-in-Add
unfolding reckon
returns-in-Add c = rw c.in-Add.is (reckoned c.args.a c.args.b _ _ (omega (arith, ints)) (omega (arith, ints)) _ sum _ c.add.ensures c.ok_or.ensures.value)

pub returns-in-Subtract : goal.returns-in-Subtract
unfolding reckon
returns-in-Subtract c = rw c.in-Subtract.is (reckoned c.args.a c.args.b _ _ (omega (arith, ints)) (omega (arith, ints)) _ (λ m n. sum m (opposite n)) _ c.subtract.ensures c.ok_or-in-Subtract.ensures.value)

pub returns-in-Multiply : goal.returns-in-Multiply
unfolding reckon
returns-in-Multiply c = rw c.in-Multiply.is (reckoned c.args.a c.args.b _ _ (omega (arith, ints)) (omega (arith, ints)) _ product _ c.multiply.ensures c.ok_or-in-Multiply.ensures.value)

pub returns-in-Divide : goal.returns-in-Divide
unfolding reckon
returns-in-Divide c = rw c.in-Divide.is (taken c.args.a c.args.b (to_z w64 (of_z w64 c.args.a)) (to_z w64 (of_z w64 c.args.b)) (omega (arith, ints)) (omega (arith, ints)) _ quotient_got c.divide.ensures)

pub returns-in-Remainder : goal.returns-in-Remainder
unfolding reckon
returns-in-Remainder c = rw c.in-Remainder.is (taken c.args.a c.args.b (to_z w64 (of_z w64 c.args.a)) (to_z w64 (of_z w64 c.args.b)) (omega (arith, ints)) (omega (arith, ints)) _ left_over_got c.remainder.ensures)
