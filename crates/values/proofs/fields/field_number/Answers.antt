use Rattle.std.proofs.Common.{◌≡◌, inl, inr, arith, w64, to_z, of_z}
use Rattle.std.proofs.lemmas.Int.{ints}
use Rattle.values.proofs.Cutting.{field_number_not, field_number_so}
use Rattle.values.proofs.fields.field_number.Goals as goal

pub returns-in_default : goal.returns-in_default
returns-in_default c = field_number_not c.args.n (inl (omega (arith, ints)))

pub returns-in_default-2 : goal.returns-in_default-2
returns-in_default-2 c = field_number_not c.args.n (inr (omega (arith, ints)))

pub returns-in-0-to-1000 : goal.returns-in-0-to-1000
returns-in-0-to-1000 c =
    let e : to_z w64 (of_z w64 c.args.n) ≡ c.args.n = omega (arith, ints) in
    simp e (field_number_so c.args.n (omega (arith, ints)) (omega (arith, ints)))
