use Rattle.std.proofs.Common.{◌≡◌, refl, ap, w64, to_z, of_z, rules}
use Rattle.store.specs.Numbers.{number}
use Rattle.interp.proofs.Figures.{compares}
use Rattle.interp.proofs.comparing.compare_with_number.Goals as goal

pub returns : goal.returns
returns g c =
    let e : to_z w64 (of_z w64 c.args.n) ≡ c.args.n = search rules in
    compares c.args.c c.compare.result _ _ _ _ c.compare.ensures refl (ap number e)
