use Rattle.std.proofs.Common.{◌≡◌, sym, arith}
use Rattle.lexer.proofs.Advance.{scan_open, scan_bar, scan_close, scan_too_far, scan_mark, scan_no_mark, scan_atom, scan_no_atom, no_mark, is_inside}
use Rattle.lexer.proofs.patterns.scan_on.Goals as goal

pub returns-then-s-clause-scanned : goal.returns-then-s-clause-scanned
returns-then-s-clause-scanned c = λ from x. (scan_mark c.args.text.now from c.args.s c.args.c c.requires.meant x (sym c.if-is_mark.ensures) c.if-s.true, omega arith)

pub returns-else-s-clause-scanned : goal.returns-else-s-clause-scanned
returns-else-s-clause-scanned c = λ from x. scan_no_mark c.args.text.now from c.args.s c.args.c c.requires.meant x (sym c.if-is_mark.ensures) (no_mark c.args.c.byte (sym c.if-is_mark.ensures)) c.if-s.false

pub returns-in-40-clause-scanned : goal.returns-in-40-clause-scanned
returns-in-40-clause-scanned c = λ from x. (scan_open c.args.text.now from c.args.s c.args.c c.requires.meant x c.in-40.is, omega arith)

pub returns-in-124-clause-scanned : goal.returns-in-124-clause-scanned
returns-in-124-clause-scanned c = λ from x. (scan_bar c.args.text.now from c.args.s c.args.c c.requires.meant x c.in-124.is, omega arith)

pub returns-in_err-checked_sub-in-41-clause-scanned : goal.returns-in_err-checked_sub-in-41-clause-scanned
returns-in_err-checked_sub-in-41-clause-scanned c =
    let z : c.args.s.nested ≡ 0 = omega (arith, c.in_err-checked_sub-in-41.ensures) in
    rw c.from_residual.ensures (λ from x. scan_too_far c.args.text.now from c.args.s c.args.c c.requires.meant x c.in-41.is z)

pub returns-in_ok-checked_sub-in-41-clause-scanned : goal.returns-in_ok-checked_sub-in-41-clause-scanned
returns-in_ok-checked_sub-in-41-clause-scanned c =
    let h = c.in_ok-checked_sub-in-41.ensures in
    rw h.1 (λ from x. (scan_close c.args.text.now from c.args.s c.args.c c.requires.meant x c.in-41.is (λ z. omega (arith, h.0)), omega arith))

pub returns-in_err-past_atom-in_default-clause-scanned : goal.returns-in_err-past_atom-in_default-clause-scanned
returns-in_err-past_atom-in_default-clause-scanned c =
    rw c.from_residual-in_err-past_atom-in_default.ensures
    (λ from x. scan_no_atom c.args.text.now from c.args.s c.args.c c.requires.meant x (sym c.if-is_mark.ensures) (is_inside c.args.c.byte (λ e. omega arith) (λ e. omega arith)) c.in_err-past_atom-in_default.ensures)

pub returns-in_ok-past_atom-in_default-clause-scanned : goal.returns-in_ok-past_atom-in_default-clause-scanned
returns-in_ok-past_atom-in_default-clause-scanned c =
    let a = c.in_ok-past_atom-in_default.ensures in
    λ from x. (scan_atom c.args.text.now from c.args.s c.args.c c.requires.meant x c.in_ok-past_atom-in_default.field-0 (sym c.if-is_mark.ensures) (is_inside c.args.c.byte (λ e. omega arith) (λ e. omega arith)) a, a.0)
