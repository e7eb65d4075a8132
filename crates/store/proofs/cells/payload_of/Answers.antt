use Rattle.std.proofs.Common.{◌≡◌, refl, inl, arith, w64, SFits, of_z, rules}
use Rattle.store.specs.declared.cells.Value.TheVariants.{Unset, Number, Text, Short as InShort}
use Rattle.store.proofs.Coding.{decode_none, decode_text, number_back, short_back, told_back}
use Rattle.store.proofs.cells.payload_of.Goals as goal

pub returns-in-Unset-clause-back : goal.returns-in-Unset-clause-back
returns-in-Unset-clause-back c = told_back c.args.v Unset 0 c.in-Unset.is refl (decode_none 0 0 (inl (omega arith)))

pub returns-in-Number-clause-back : goal.returns-in-Number-clause-back
returns-in-Number-clause-back c =
    let n = c.in-Number.n in
    let f : SFits w64 n = search rules in
    let e : c.cast_unsigned.result ≡ of_z w64 n = search rules in
    told_back c.args.v (Number n) c.cast_unsigned.result c.in-Number.is e (number_back n f)

pub returns-in-Text-clause-back : goal.returns-in-Text-clause-back
returns-in-Text-clause-back c =
    let h = c.in-Text.handle in
    told_back c.args.v (Text h) h.index c.in-Text.is refl (decode_text 2 h.index refl)

pub returns-in-Short-clause-back : goal.returns-in-Short-clause-back
returns-in-Short-clause-back c =
    let b = c.in-Short.short in
    told_back c.args.v (InShort b) b.word c.in-Short.is refl (short_back b)
