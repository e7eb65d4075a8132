use Rattle.std.proofs.Common.{◌≡◌, true, [], length, ap, ◌∙◌, arith}
use Rattle.lexer.specs.Scanning.{from_on}
use Rattle.lexer.proofs.Sets.{far_first, far_on, far_closed, far_open, set_none}
use Rattle.language.specs.Program.{spans}
use Rattle.lexer.proofs.patterns.past_set.Goals as goal

pub returns-in_err-first : goal.returns-in_err-first
returns-in_err-first c = rw c.from_residual.ensures (λ n h. ap (λ l. spans n [] true l) c.in_err-first.ensures.meant ∙ set_none n [] true)

pub loop-c-init : goal.loop-c-init
loop-c-init c =
    let m = c.in_ok-first.ensures.meant in
    (c.past_span-i.ensures.inside m.2, far_first c.args.text.now c.args.from c.in_ok-first.first.byte c.in_ok-first.first.next c.past_span-i.result m.0 m.1 c.past_span-i.ensures)

pub loop-c-preserved : goal.loop-c-preserved
loop-c-preserved c =
    let m = c.in-Some.ensures.meant in
    let s = c.past_span-i-in-Some.ensures in
    (s.inside m.2, far_on c.args.text.now c.args.from c.loop-c.i c.in-Some.c.byte c.in-Some.c.next c.past_span-i-in-Some.result m.0 m.1 c.if-c-eq93.false s c.loop-c.invariant.1)

pub returns-then-c-eq93 : goal.returns-then-c-eq93
returns-then-c-eq93 c =
    let m = c.in-Some.ensures.meant in
    let f = c.loop-c.invariant.1 in
    let l : length (from_on c.args.text.now c.loop-c.i) ≡ _ = ap length m.0 in
    (omega (arith, f.onward, m.1), m.2, far_closed c.args.text.now c.args.from c.loop-c.i c.in-Some.c.byte c.in-Some.c.next m.0 c.if-c-eq93.true f, omega (arith, f.shorter, l))

pub returns : goal.returns
returns c = far_open c.args.text.now c.args.from c.loop-c.i c.in_default.ensures.meant c.loop-c.invariant.1
