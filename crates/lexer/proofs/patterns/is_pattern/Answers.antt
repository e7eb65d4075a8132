use Rattle.std.proofs.Common.{arith}
use Rattle.lexer.proofs.Advance.{scan_start, scan_end}
use Rattle.lexer.proofs.patterns.is_pattern.Goals as goal

pub loop-c-init : goal.loop-c-init
loop-c-init c = (omega arith, scan_start c.args.text.now c.args.from c.requires)

pub loop-c-smaller : goal.loop-c-smaller
loop-c-smaller c =
    let m = c.in-Some.ensures.meant in
    omega (arith, m.1, m.2, (c.in-Some-scan_on.ensures.scanned c.args.from c.loop-c.invariant.1).1)

pub loop-c-preserved : goal.loop-c-preserved
loop-c-preserved c =
    let m = c.in-Some.ensures.meant in
    let t = c.in-Some-scan_on.ensures in
    let x = t.scanned c.args.from c.loop-c.invariant.1 in
    (omega (arith, m.1, x.1, t.opened, c.loop-c.invariant.0), x.0)

pub returns : goal.returns
returns c = scan_end c.args.text.now c.args.from c.loop-c.s c.in_default.ensures.meant c.loop-c.invariant.1
