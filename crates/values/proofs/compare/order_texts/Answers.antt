use Rattle.std.proofs.Common.{◌≡◌, sym, refl, ap, ◌∙◌, inl, inr, arith, w64, to_z, of_z}
use Rattle.std.proofs.lemmas.Int.{ints}
use Rattle.language.specs.Text.{text, as_text}
use Rattle.store.specs.Numbers.{number}
use Rattle.values.proofs.Comparing.{by_numbers, by_texts}
use Rattle.values.proofs.compare.order_texts.Goals as goal
use Rattle.values.proofs.compare.order_texts.Goals.{else-looks-via-then-looks+else-looks-2, else-looks-via-else-looks}

pub returns-then-looks-2 : goal.returns-then-looks-2
returns-then-looks-2 g c =
    let e : to_z w64 (of_z w64 c.number_of.result) ≡ c.number_of.result = omega (arith, ints) in
    let f : to_z w64 (of_z w64 c.number_of-then-looks-2.result) ≡ c.number_of-then-looks-2.result = omega (arith, ints) in
    by_numbers (text (g.A.Bytes.bytes c.args.a.now)) (text (g.B.Bytes.bytes c.args.b.now)) c.order_numbers.result _ _ (sym c.if-looks.ensures) (sym c.if-looks-2.ensures)
    (ap number e ∙ c.number_of.ensures) (ap number f ∙ c.number_of-then-looks-2.ensures) c.order_numbers.ensures

pub returns-else-looks : goal.returns-else-looks
unfolding as_text
returns-else-looks g c =
    by_texts (text (g.A.Bytes.bytes c.args.a.now)) (text (g.B.Bytes.bytes c.args.b.now)) c.order_bytes.result _ _
    (elim c.else-looks.branch [
      | else-looks-via-then-looks+else-looks-2 w ↦ inr (sym w.if-looks-2.ensures)
      | else-looks-via-else-looks w ↦ inl (sym w.if-looks.ensures)
    ])
    refl refl c.order_bytes.ensures
