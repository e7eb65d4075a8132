use Rattle.std.proofs.Common.{◌≡◌, ap, ◌∙◌, subst, w64, to_z, of_z, rules}
use Rattle.store.specs.Numbers.{number}
use Rattle.regions.specs.Parts.{parts}
use Rattle.interp.specs.Turns.{replaced_two}
use Rattle.interp.specs.Numbers.{Compares}
use Rattle.interp.proofs.Figures.{compared}
use Rattle.interp.proofs.Loose.{covered, released, seen, compares_seen}
use Rattle.interp.proofs.comparing.compare_two.Goals as goal

pub returns-in-Some-Some : goal.returns-in-Some-Some
returns-in-Some-Some c =
    let h = seen (parts c.args.mem.now) c.under-first.result c.in-Some-Some.m c.in-Some-Some.ensures in
    let k = seen (parts c.args.mem.now) c.top-second.result c.in-Some-Some.n c.in-Some-Some.ensures' in
    let e : to_z w64 (of_z w64 c.in-Some-Some.m) ≡ c.in-Some-Some.m = search rules in
    let f : to_z w64 (of_z w64 c.in-Some-Some.n) ≡ c.in-Some-Some.n = search rules in
    let b : Compares c.args.c c.compare_with_number-b.result (number c.in-Some-Some.m) (number c.in-Some-Some.n) =
    subst (λ x. Compares c.args.c c.compare_with_number-b.result (number c.in-Some-Some.m) (number x)) f
    (subst (λ x. Compares c.args.c c.compare_with_number-b.result (number x) (number (to_z w64 (of_z w64 c.in-Some-Some.n)))) e c.compare_with_number-b.ensures) in
    c.cover_two.ensures
    ∙ covered (parts c.args.mem.now) c.args.regs.now c.under-first.result c.top-second.result c.truth.result c.under-first.ensures c.top-second.ensures h.loose k.loose
    ∙ ap (replaced_two (parts c.args.mem.now) c.args.regs.now) c.truth.ensures
    ∙ compared c.args.c (parts c.args.mem.now) c.args.regs.now c.under-first.result c.top-second.result c.compare_with_number-b.result
    c.under-first.ensures c.top-second.ensures
    (compares_seen c.args.c c.compare_with_number-b.result (parts c.args.mem.now) c.under-first.result c.top-second.result c.in-Some-Some.m c.in-Some-Some.n h k b)

pub returns-in_default : goal.returns-in_default
returns-in_default c =
    c.cover_two-in_default.ensures
    ∙ released (parts c.args.mem.now) (parts c.release_value.new.mem) (parts c.release_value-in_default.new.mem) c.args.regs.now c.under-first.result c.top-second.result _ c.under-first.ensures c.top-second.ensures c.release_value.ensures c.release_value-in_default.ensures
    ∙ ap (replaced_two (parts c.args.mem.now) c.args.regs.now) c.truth-in_default.ensures
    ∙ compared c.args.c (parts c.args.mem.now) c.args.regs.now c.under-first.result c.top-second.result c.compare_values-b.result
    c.under-first.ensures c.top-second.ensures c.compare_values-b.ensures
