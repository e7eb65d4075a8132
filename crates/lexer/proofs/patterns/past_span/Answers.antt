use Rattle.std.proofs.Common.{◌≡◌, ℕ, List, [], false, length, ap, arith, rules}
use Rattle.language.specs.Text.{Span}
use Rattle.language.specs.Program.{spans}
use Rattle.lexer.specs.Scanning.{from_on, span_on, SpanSays}
use Rattle.lexer.proofs.Sets.{span_end, span_no_dash, span_dash_end, span_dash_last, span_whole}
use Rattle.lexer.proofs.patterns.past_span.Goals as goal
use Rattle.lexer.proofs.patterns.past_span.Goals.{in_default-via-in-None-1, in_default-via-in-Some+else-dash-eq45, in_default-via-in-Some+then-dash-eq45+in-None-1, in_default-via-in-Some+then-dash-eq45+in-Some-byte_at+else-high-ne93}

-- no byte is read
stays : {bs : List ℕ} {i : ℕ} → ((n : ℕ) (ss : List Span) (x : ℕ) → (ts : List Span) × (span_on n ss x (from_on bs i) ≡ spans n ts false (from_on bs i))) → SpanSays bs i i
stays g = record { onward = omega arith; inside = λ h. h; goes = g; shorter = omega arith }

pub returns-then-high-ne93 : goal.returns-then-high-ne93
returns-then-high-ne93 c =
    let d = c.in-Some.ensures.meant in
    let h = c.in-Some-byte_at.ensures.meant in
    let k : length (from_on c.args.text.now c.args.i) ≡ _ = ap length d.0 in
    let l : length (from_on c.args.text.now c.in-Some.dash.next) ≡ _ = ap length h.0 in
    record { onward = omega (arith, d, h); inside = λ _. h.2; goes = λ n ss x. span_whole n ss x _ _ _ _ _ d.0 c.if-dash-eq45.true h.0 c.if-high-ne93.true; shorter = omega (arith, k, l) }

pub returns-in_default : goal.returns-in_default
returns-in_default c =
    elim c.in_default.branch [
      | in_default-via-in-None-1 w ↦
          let e : from_on c.args.text.now c.args.i ≡ [] = search rules in
          stays (λ n ss x. span_end n ss x _ e)
      | in_default-via-in-Some+else-dash-eq45 w ↦ stays (λ n ss x. span_no_dash n ss x _ _ _ w.in-Some.ensures.meant.0 w.if-dash-eq45.false)
      | in_default-via-in-Some+then-dash-eq45+in-None-1 w ↦
          let e : from_on c.args.text.now w.in-Some.dash.next ≡ [] = search rules in
          stays (λ n ss x. span_dash_end n ss x _ _ _ w.in-Some.ensures.meant.0 e)
      | in_default-via-in-Some+then-dash-eq45+in-Some-byte_at+else-high-ne93 w ↦
          stays (λ n ss x. span_dash_last n ss x _ _ _ _ _ w.in-Some.ensures.meant.0 w.in-Some-byte_at.ensures.meant.0 w.if-high-ne93.false)
    ]
