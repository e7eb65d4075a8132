use Rattle.std.proofs.Common.{w64, SFits, rules}
use Rattle.std.proofs.lemmas.Int.{to_z-of_z}
use Rattle.values.proofs.Comparing.{both_numbers}
use Rattle.values.proofs.compare.order.Goals as goal

pub returns-in-Number-Number : goal.returns-in-Number-Number
returns-in-Number-Number g c =
    let f : SFits w64 c.in-Number-Number.m = search rules in
    let h : SFits w64 c.in-Number-Number.n = search rules in
    let r = both_numbers _ _ c.order_numbers.result c.order_numbers.ensures in
    let e = to_z-of_z w64 c.in-Number-Number.m f in
    let k = to_z-of_z w64 c.in-Number-Number.n h in
    simp (c.in-Number-Number.is-0, c.in-Number-Number.is-1) (simp (e, k) at r)
