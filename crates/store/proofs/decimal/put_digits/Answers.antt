use Rattle.std.proofs.Common.{◌≡◌, ◌+◌, ◌-◌, ◌/◌, ◌%◌, ◌≤◌, [], length, drop, set, sym, ap, ◌∙◌, arith, length-set}
use Rattle.std.proofs.lemmas.List.{drop_all}
use Rattle.language.specs.Text.{digits}
use Rattle.store.proofs.Digits.{digit_step, digit_put, digits_bound, digits_last, places_left}
use Rattle.store.proofs.decimal.put_digits.Goals as goal

pub loop-m-init : goal.loop-m-init
loop-m-init c =
    let row = set c.args.row.now 19 (48 + c.args.n % 10) in
    let l : length row ≡ 20 = simp length-set c.told-row in (
      omega arith,
      omega arith,
      l,
      c.requires,
      ap (digits 20 c.args.n) (sym (drop_all 20 row (omega arith))),
      digit_put c.args.row.now 19 (48 + c.args.n % 10) (omega arith),
    )

pub loop-m-preserved : goal.loop-m-preserved
loop-m-preserved c =
    let i = c.loop-m.invariant in
    let two : 2 ≤ c.loop-m.k = places_left c.loop-m.m c.loop-m.k (omega arith) i.3 in (
      omega arith,
      omega arith,
      simp length-set i.2,
      digits_bound c.loop-m.m c.loop-m.k i.0 i.3,
      digit_step (digits 20 c.args.n []) c.loop-m.row c.loop-m.m c.loop-m.k (48 + c.loop-m.m / 10 % 10) (omega arith) (omega arith) i.4 i.5,
      digit_put c.loop-m.row (c.loop-m.k - 1) (48 + c.loop-m.m / 10 % 10) (omega arith),
    )

pub returns-clause-digits : goal.returns-clause-digits
returns-clause-digits c =
    let i = c.loop-m.invariant in
    i.5 ∙ sym (i.4 ∙ digits_last c.loop-m.k c.loop-m.m (drop (c.loop-m.k + 1) c.loop-m.row) (omega arith))
