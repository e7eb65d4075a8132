use Rattle.std.proofs.Common.{◌≡◌, ℕ, ◌+◌, ◌-◌, [], ◌∷◌, drop, pos, nat_abs, ◌≤ℤ◌, ◌<ℤ◌, ap, ◌∙◌, arith, rules}
use Rattle.std.proofs.lemmas.List.{drop-set}
use Rattle.std.proofs.lemmas.Int.{ints}
use Rattle.language.specs.Text.{digits}
use Rattle.store.proofs.Digits.{text_at_least_0, text_below_0}
use Rattle.store.proofs.decimal.decimal_of.Goals as goal

pub returns-then-n-ge0 : goal.returns-then-n-ge0
returns-then-n-ge0 c =
    let h : pos 0 ≤ℤ c.args.n = omega (arith, ints) in
    let v : c.unsigned_abs.result ≡ nat_abs c.args.n = search rules in
    c.put_digits-from.ensures.digits ∙ ap (λ x. digits 20 x []) v ∙ text_at_least_0 c.args.n h

pub returns : goal.returns
returns c =
    let h : c.args.n <ℤ pos 0 = omega (arith, ints) in
    let v : c.unsigned_abs.result ≡ nat_abs c.args.n = search rules in
    let f : ℕ = c.put_digits-from.result in
    let e : f - 1 + 1 ≡ f = omega arith in
    drop-set c.put_digits-from.new.row (f - 1) 45 (omega arith)
    ∙ ap (λ x. 45 ∷ x) (ap (λ x. drop x c.put_digits-from.new.row) e ∙ c.put_digits-from.ensures.digits ∙ ap (λ x. digits 20 x []) v)
    ∙ text_below_0 c.args.n h
