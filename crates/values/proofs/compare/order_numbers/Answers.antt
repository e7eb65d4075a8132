use Rattle.std.proofs.Common.{◌≡◌, arith, w64, to_z, of_z}
use Rattle.std.proofs.lemmas.Int.{ints}
use Rattle.std.proofs.lemmas.Cmp.{int_ranked}
use Rattle.values.proofs.Comparing.{numbers_ordered}
use Rattle.values.proofs.compare.order_numbers.Goals as goal

pub returns : goal.returns
returns c =
    let e : to_z w64 (of_z w64 c.args.a) ≡ c.args.a = omega (arith, ints) in
    let f : to_z w64 (of_z w64 c.args.b) ≡ c.args.b = omega (arith, ints) in
    numbers_ordered c.args.a c.args.b c.cmp.result (int_ranked c.args.a c.args.b c.cmp.result (simp (e, f) at c.cmp.ensures))
