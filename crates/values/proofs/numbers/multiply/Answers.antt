use Rattle.std.proofs.Common.{◌≡◌, ◌*ℤ◌, ap, ◌∙◌, arith, w64, SFits, to_z, of_z, rules}
use mir.Syntax.{w128}
use Rattle.std.proofs.lemmas.Int.{ints, to_z-of_z}
use Rattle.language.specs.Text.{within}
use Rattle.store.specs.Numbers.{number}
use Rattle.values.proofs.Reckoning.{product_is}
use Rattle.values.proofs.numbers.multiply.Goals as goal

pub returns : goal.returns
returns c =
    let e : to_z w128 (of_z w128 (to_z w64 (of_z w64 c.args.a))) ≡ c.args.a = omega (arith, ints) in
    let g : to_z w128 (of_z w128 (to_z w64 (of_z w64 c.args.b))) ≡ c.args.b = omega (arith, ints) in
    let f : SFits w128 (c.args.a *ℤ c.args.b) = search rules in
    rw (product_is c.args.a c.args.b) (c.in_bounds.ensures ∙ ap (λ z. within (number z)) (simp (e, g) (to_z-of_z w128 (c.args.a *ℤ c.args.b) f)))
