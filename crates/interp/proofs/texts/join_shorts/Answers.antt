use Rattle.std.proofs.Common.{◌+◌, ◌*◌, ◌%◌, ◌^◌, ◌<◌, ◌≤◌, ◌++◌, sym, ap, ◌∙◌, subst, append-nil, lt_of_lt_of_le, arith, pow_mono}
use Rattle.store.specs.declared.short.Short.{Short}
use Rattle.store.specs.Words.{bytes_of}
use Rattle.store.proofs.Merging.{two_parts}
use Rattle.interp.proofs.Pieces.{pow_bytes, shifted, both_below}
use Rattle.interp.proofs.texts.join_shorts.Goals as goal

pub returns-then-b-eq0 : goal.returns-then-b-eq0
unfolding bytes_of
returns-then-b-eq0 c = sym (ap (λ n. bytes_of c.args.a.len c.args.a.word ++ bytes_of n c.args.b.word) c.if-b-eq0.true ∙ append-nil (bytes_of c.args.a.len c.args.a.word))

-- the sum, as a number below that of so many bytes
below : (a b : Short) → a.len + b.len ≤ 8 → a.word + b.word * 2 ^ (8 * a.len) % 18446744073709551616 < 256 ^ (a.len + b.len)
below a b h =
    subst (λ x. a.word + x < 256 ^ (a.len + b.len)) (sym (shifted a.len b.len b.word b.clean h))
    (both_below a.len b.len a.word b.word a.clean b.clean)

pub overflow_add-result : goal.overflow_add-result
overflow_add-result c =
    let e : 8 * (c.args.a.len + c.args.b.len) ≤ 64 = omega arith in
    let l : 256 ^ (c.args.a.len + c.args.b.len) ≤ 2 ^ 64 = subst (λ x. x ≤ 2 ^ 64) (pow_bytes (c.args.a.len + c.args.b.len)) (pow_mono e) in
    record { fits = lt_of_lt_of_le (below c.args.a c.args.b c.requires) l }

pub invariant_of-result : goal.invariant_of-result
invariant_of-result c = record { few = c.requires; clean = below c.args.a c.args.b c.requires }

pub returns : goal.returns
returns c =
    ap (λ x. bytes_of (c.args.a.len + c.args.b.len) (c.args.a.word + x)) (shifted c.args.a.len c.args.b.len c.args.b.word c.args.b.clean c.requires)
    ∙ two_parts c.args.a.len c.args.b.len c.args.a.word c.args.b.word c.args.a.clean
