use Rattle.std.proofs.Common.{◌+◌, ◌-◌, ◌*◌, length, take, drop, sym, ap, ◌∙◌, pow-suc, add-one, arith, inl, inr, length-drop, get_or-drop}
use Rattle.language.specs.Text.{digit, leading}
use Rattle.values.proofs.Reading.{under, lead_more, lead_stop, lead_end, ended, digit_low, run_more, run_stop, run_over}
use Rattle.values.proofs.texts.digits_from.Goals as goal

pub returns-then-not-is_digit : goal.returns-then-not-is_digit
returns-then-not-is_digit g c =
    record {
      worth = lead_stop (g.T.Bytes.bytes c.args.t.now) c.args.from c.loop-k.k c.loop-k.n (omega arith) (omega arith) (ap digit (sym c.at-b.ensures) ∙ sym c.if-not-is_digit.ensures) ∙ sym c.loop-k.invariant.1;
      small = omega (arith, under c.loop-k.k c.loop-k.n (omega arith) c.loop-k.invariant.0);
      count =
          let l = length-drop c.args.from (g.T.Bytes.bytes c.args.t.now) in
          let d = ap digit (get_or-drop c.args.from (g.T.Bytes.bytes c.args.t.now) c.loop-k.k 0 ∙ sym c.at-b.ensures) ∙ sym c.if-not-is_digit.ensures in
          omega (arith, c.loop-k.invariant.2, run_stop digit (drop c.args.from (g.T.Bytes.bytes c.args.t.now)) c.loop-k.k (omega arith) d);
    }

pub overflow_mul-n : goal.overflow_mul-n
overflow_mul-n g c = omega (arith, under c.loop-k.k c.loop-k.n (omega arith) c.loop-k.invariant.0)

pub overflow_add-n : goal.overflow_add-n
overflow_add-n g c = rw c.from.ensures (omega (arith, digit_low c.at-b.result (sym c.if-not-is_digit.ensures), under c.loop-k.k c.loop-k.n (omega arith) c.loop-k.invariant.0))

pub loop-k-preserved : goal.loop-k-preserved
loop-k-preserved g c = rw c.from.ensures (
  rw (add-one, pow-suc) (omega (arith, c.loop-k.invariant.0, digit_low c.at-b.result (sym c.if-not-is_digit.ensures))),
  c.loop-k.invariant.1
      ∙ lead_more (g.T.Bytes.bytes c.args.t.now) c.args.from c.loop-k.k c.loop-k.n (omega arith) (omega arith) (ap digit (sym c.at-b.ensures) ∙ sym c.if-not-is_digit.ensures)
      ∙ ap (λ b. leading (10 * c.loop-k.n + (b - 48)) (take (18 - (c.loop-k.k + 1)) (drop (c.loop-k.k + 1) (drop c.args.from (g.T.Bytes.bytes c.args.t.now))))) (sym c.at-b.ensures),
  let l = length-drop c.args.from (g.T.Bytes.bytes c.args.t.now) in
      c.loop-k.invariant.2
      ∙ run_more digit (drop c.args.from (g.T.Bytes.bytes c.args.t.now)) c.loop-k.k (omega arith) (ap digit (get_or-drop c.args.from (g.T.Bytes.bytes c.args.t.now) c.loop-k.k 0 ∙ sym c.at-b.ensures) ∙ sym c.if-not-is_digit.ensures),
)

pub returns-clause-count : goal.returns-clause-count
returns-clause-count g c =
    let s = drop c.args.from (g.T.Bytes.bytes c.args.t.now) in
    elim (ended (length (g.T.Bytes.bytes c.args.t.now)) c.args.from c.loop-k.k (omega arith)) [
      | inl h ↦ omega (arith, c.loop-k.invariant.2)
      | inr h ↦ let l = length-drop c.args.from (g.T.Bytes.bytes c.args.t.now) in omega (arith, c.loop-k.invariant.2, run_over digit s c.loop-k.k (omega arith))
    ]

pub returns-clause-worth : goal.returns-clause-worth
returns-clause-worth g c =
    lead_end (g.T.Bytes.bytes c.args.t.now) c.args.from c.loop-k.k c.loop-k.n (ended (length (g.T.Bytes.bytes c.args.t.now)) c.args.from c.loop-k.k (omega arith)) ∙ sym c.loop-k.invariant.1
