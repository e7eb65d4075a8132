use Rattle.std.proofs.Common.{◌≡◌, ap, ◌∙◌, inl, inr, arith, w64, to_z, of_z}
use mir.Syntax.{w128}
use Rattle.std.proofs.lemmas.Int.{ints}
use Rattle.language.specs.Text.{fine}
use Rattle.store.specs.Numbers.{number}
use Rattle.values.proofs.Reckoning.{fine_is, large_is}
use Rattle.values.proofs.numbers.in_bounds.Goals as goal

pub returns-in_default : goal.returns-in_default
returns-in_default c = large_is c.args.z (inl (omega (arith, ints)))

pub returns-in_default-2 : goal.returns-in_default-2
returns-in_default-2 c = large_is c.args.z (inr (omega (arith, ints)))

pub returns-in-minus4611686018427387904-to-4611686018427387903 : goal.returns-in-minus4611686018427387904-to-4611686018427387903
returns-in-minus4611686018427387904-to-4611686018427387903 c =
    let e : to_z w64 (of_z w64 (to_z w128 (of_z w128 c.args.z))) ≡ c.args.z = omega (arith, ints) in
    ap (λ z. fine (number z)) e ∙ fine_is c.args.z (omega (arith, ints)) (omega (arith, ints))
