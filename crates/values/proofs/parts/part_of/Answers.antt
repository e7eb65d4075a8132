use Rattle.std.proofs.Common.{◌≡◌, ◌+◌, ◌-◌, min, nat_abs, sym, ap, ◌∙◌, arith, w64, to_z, of_z}
use Rattle.std.proofs.lemmas.Int.{ints}
use Rattle.values.proofs.Placing.{cut_none, cut_before, cut_inside}
use Rattle.values.proofs.parts.part_of.Goals as goal

pub returns-then-count-le0-clause-part : goal.returns-then-count-le0-clause-part
returns-then-count-le0-clause-part c =
    let e : to_z w64 (of_z w64 c.args.count) ≡ c.args.count = omega (arith, ints) in
    λ b h. rw c.default.ensures.1 (cut_none c.args.from c.args.count b (simp e at c.if-count-le0.true))

pub returns-then-from-le0-clause-part : goal.returns-then-from-le0-clause-part
returns-then-from-le0-clause-part c =
    let e : to_z w64 (of_z w64 c.args.count) ≡ c.args.count = omega (arith, ints) in
    let f : to_z w64 (of_z w64 c.args.from) ≡ c.args.from = omega (arith, ints) in
    λ b h.
    cut_before c.args.from c.args.count b c.min.result (simp e at c.if-count-le0.false) (simp f at c.if-from-le0.true)
    (c.min.ensures ∙ ap (λ n. min n c.args.len) (c.saturating_sub.ensures ∙ ap (λ z. nat_abs z - (c.unsigned_abs.result + 1)) e ∙ ap (λ n. nat_abs c.args.count - (n + 1)) (c.unsigned_abs.ensures.value ∙ ap nat_abs f))
    ∙ ap (min _) (sym h))

pub returns-clause-part : goal.returns-clause-part
returns-clause-part c =
    let e : to_z w64 (of_z w64 c.args.count) ≡ c.args.count = omega (arith, ints) in
    let f : to_z w64 (of_z w64 c.args.from) ≡ c.args.from = omega (arith, ints) in
    λ b h.
    cut_inside c.args.from c.args.count b c.min-start.result c.min-2.result (simp e at c.if-count-le0.false) (simp f at c.if-from-le0.false)
    (c.min-start.ensures ∙ ap (λ z. min (nat_abs z - 1) c.args.len) f ∙ ap (min _) (sym h))
    (c.min-2.ensures ∙ ap (λ z. min (nat_abs z) (c.args.len - c.min-start.result)) e ∙ ap (λ n. min (nat_abs c.args.count) (n - c.min-start.result)) (sym h))
