use Rattle.std.proofs.Common.{◌≡◌, sym, refl, ap, ◌∙◌, inl, arith, w64, to_z, of_z}
use Rattle.std.proofs.lemmas.Int.{ints}
use Rattle.language.specs.Text.{text, as_text}
use Rattle.store.specs.Numbers.{number}
use Rattle.values.proofs.Comparing.{by_numbers, by_texts, number_looks, number_itself}
use Rattle.values.proofs.compare.order_text_number.Goals as goal

pub returns-then-looks : goal.returns-then-looks
returns-then-looks g c =
    let e : to_z w64 (of_z w64 c.number_of.result) ≡ c.number_of.result = omega (arith, ints) in
    let f : to_z w64 (of_z w64 c.args.n) ≡ c.args.n = omega (arith, ints) in
    by_numbers (text (g.T.Bytes.bytes c.args.t.now)) (number c.args.n) c.order_numbers.result _ _ (sym c.if-looks.ensures) (number_looks c.args.n)
    (ap number e ∙ c.number_of.ensures) (ap number f ∙ number_itself c.args.n) c.order_numbers.ensures

pub returns-else-looks : goal.returns-else-looks
unfolding as_text
returns-else-looks g c =
    let f : to_z w64 (of_z w64 c.args.n) ≡ c.args.n = omega (arith, ints) in
    by_texts (text (g.T.Bytes.bytes c.args.t.now)) (number c.args.n) c.order_bytes.result _ _ (inl (sym c.if-looks.ensures))
    refl (c.decimal_of.ensures ∙ ap (λ z. as_text (number z)) f) c.order_bytes.ensures
