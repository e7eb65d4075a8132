use Rattle.std.proofs.Common.{◌≡◌, pos, Some, sym, ap, ◌∙◌, arith, w64, to_z}
use Rattle.std.proofs.lemmas.Int.{ints}
use Rattle.store.specs.Words.{bytes_of}
use Rattle.values.specs.Compare.{upwards, plain_number}
use Rattle.values.proofs.Reading.{plainly}
use Rattle.values.proofs.compare.plain_number.Goals as goal

pub overflow_cast-result : goal.overflow_cast-result
overflow_cast-result c =
    let k = c.in_ok-plain_digits-in-Short in
    record { sfits = omega (arith, (plainly (bytes_of c.in-Short.short.len c.in-Short.short.word) _ (sym k.was ∙ c.plain_digits.ensures)).small) }

pub returns-in_ok-plain_digits-in-Short : goal.returns-in_ok-plain_digits-in-Short
returns-in_ok-plain_digits-in-Short c =
    let k = c.in_ok-plain_digits-in-Short in
    let d = sym k.was ∙ c.plain_digits.ensures in
    let e : to_z w64 k.field-0 ≡ pos k.field-0 = omega (arith, ints, (plainly (bytes_of c.in-Short.short.len c.in-Short.short.word) k.field-0 d).small) in
    ap Some e ∙ ap upwards d ∙ sym (ap plain_number c.in-Short.is)
