use Rattle.std.proofs.Common.{ℕ, ◌-◌, sym, ap, ◌∙◌, inl, inr, mod-lt, arith}
use Rattle.std.proofs.lemmas.Int.{ints}
use Rattle.store.specs.declared.cells.Value.TheVariants.{Number, Short as InShort}
use Rattle.store.specs.Short.{low_short, pow_above}
use Rattle.store.proofs.Shorts.{short_same, low_len, low_word}
use Rattle.store.proofs.Coding.{decode_number, decode_text, decode_short, decode_none}
use Rattle.store.proofs.cells.value_of.Goals as goal

pub invariant_of-result : goal.invariant_of-result
invariant_of-result c = let n : ℕ = c.args.kind - 3 in record { few = omega arith; clean = omega (arith, c.low_bytes.ensures, mod-lt c.args.payload (pow_above n)) }

pub returns-in-1 : goal.returns-in-1
returns-in-1 c = sym (decode_number c.args.kind c.args.payload c.in-1.is ∙ ap Number (omega (arith, ints)))

pub returns-in-2 : goal.returns-in-2
returns-in-2 c = sym (decode_text c.args.kind c.args.payload c.in-2.is)

pub returns-in-3-to-11 : goal.returns-in-3-to-11
returns-in-3-to-11 c =
    let n : ℕ = c.args.kind - 3 in
    sym (decode_short c.args.kind c.args.payload (omega arith) (omega arith)
    ∙ ap InShort (short_same (low_short c.args.payload n) _ (low_word c.args.payload n (omega arith) ∙ sym c.low_bytes.ensures) (low_len c.args.payload n (omega arith))))

pub returns-in_default : goal.returns-in_default
returns-in_default c = sym (decode_none c.args.kind c.args.payload (inl (omega arith)))

pub returns-in_default-2 : goal.returns-in_default-2
returns-in_default-2 c = sym (decode_none c.args.kind c.args.payload (inr (omega arith)))
