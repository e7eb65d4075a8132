use Rattle.std.proofs.Common.{◌≡◌, pos, sym, ap, ◌∙◌, arith, w64, to_z}
use Rattle.std.proofs.lemmas.Int.{ints}
use Rattle.store.specs.Numbers.{number}
use Rattle.values.proofs.Reckoning.{negative_is}
use Rattle.values.proofs.Reading.{number_above, number_below, plainly}
use Rattle.values.proofs.texts.number_of.Goals as goal

pub overflow_cast-result : goal.overflow_cast-result
overflow_cast-result g c = record { sfits = omega (arith, (plainly (g.T.Bytes.bytes c.args.t.now) c.in-Some.n c.in-Some.ensures).small) }

pub returns-in-Some : goal.returns-in-Some
returns-in-Some g c =
    let p = plainly (g.T.Bytes.bytes c.args.t.now) c.in-Some.n c.in-Some.ensures in
    let e : to_z w64 c.in-Some.n ≡ pos c.in-Some.n = omega (arith, ints, p.small) in
    ap number e ∙ sym p.taken

pub returns-then-first-start : goal.returns-then-first-start
returns-then-first-start g c =
    ap number (omega (arith, ints, c.digits_from-worth.ensures.small)) ∙ sym (negative_is c.digits_from-worth.result.0)
    ∙ sym (number_below (g.T.Bytes.bytes c.args.t.now) c.past-start.result c.past_minus-first.result c.past-start.ensures c.past_minus-first.ensures
    c.digits_from-worth.result.0 c.digits_from-worth.ensures.worth c.if-first-start.true)

pub returns-else-first-start : goal.returns-else-first-start
returns-else-first-start g c =
    let e : to_z w64 c.digits_from-worth.result.0 ≡ pos c.digits_from-worth.result.0 = omega (arith, ints, c.digits_from-worth.ensures.small) in
    ap number e
    ∙ sym (number_above (g.T.Bytes.bytes c.args.t.now) c.past-start.result c.past_minus-first.result c.past-start.ensures c.past_minus-first.ensures
    c.digits_from-worth.result.0 c.digits_from-worth.ensures.worth c.if-first-start.false)
