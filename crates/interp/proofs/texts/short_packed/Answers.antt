use Rattle.std.proofs.Common.{ℕ, ◌^◌, ◌<◌, ◌≤◌, sym, ap, ◌∙◌, subst, mod-lt, arith}
use Rattle.store.specs.Words.{bytes_of}
use Rattle.store.specs.Short.{pow_above}
use Rattle.store.proofs.Moving.{length_window}
use Rattle.interp.proofs.Loose.{read_at}
use Rattle.interp.proofs.texts.short_packed.Goals as goal

pub low_bytes-requires : goal.low_bytes-requires
low_bytes-requires c = omega (arith, length_window c.args.t.from c.args.t.len c.args.t.words.now c.args.t.inside, c.requires)

pub invariant_of-result : goal.invariant_of-result
invariant_of-result c =
    let n : ℕ = c.args.t.len in
    let l : n ≤ 8 = omega (arith, length_window c.args.t.from c.args.t.len c.args.t.words.now c.args.t.inside, c.requires) in
    record { few = l; clean = subst (λ w. w < 256 ^ n) (sym c.low_bytes.ensures) (mod-lt c.word_at.result (pow_above n)) }

pub returns : goal.returns
returns c =
    let l : c.args.t.len ≤ 8 = omega (arith, length_window c.args.t.from c.args.t.len c.args.t.words.now c.args.t.inside, c.requires) in
    ap (bytes_of c.args.t.len) c.low_bytes.ensures ∙ read_at c.args.t.len c.word_at.result c.args.t.from c.args.t.words.now l c.word_at.ensures
