use Rattle.std.proofs.Common.{◌≡◌, ap, ◌∙◌, arith, w64, to_z, of_z}
use lib.Signed.{quot_z}
use mir.Syntax.{w128}
use Rattle.std.proofs.lemmas.Int.{ints}
use Rattle.values.proofs.Reckoning.{quotient_answered}
use Rattle.values.proofs.numbers.divide.Goals as goal

pub returns : goal.returns
returns c =
    let e : to_z w64 (of_z w64 c.args.a) ≡ c.args.a = omega (arith, ints) in
    let g : to_z w64 (of_z w64 c.args.b) ≡ c.args.b = omega (arith, ints) in
    let z : to_z w128 (of_z w128 c.quotient_of.result) ≡ c.quotient_of.result = omega (arith, ints) in
    quotient_answered c.args.a c.args.b _ c.in_bounds.result c.ok_or.result (λ z. c.if-b-eq0.false (ap (of_z w64) z)) c.in_bounds.ensures c.ok_or.ensures.value
    (z ∙ c.quotient_of.ensures ∙ ap (λ x. quot_z x (to_z w64 (of_z w64 c.args.b))) e ∙ ap (quot_z c.args.a) g)
