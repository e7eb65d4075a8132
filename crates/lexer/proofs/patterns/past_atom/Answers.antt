use Rattle.std.proofs.Common.{◌≡◌, length, ap, arith}
use Rattle.language.specs.Program.{one_of}
use Rattle.lexer.specs.Scanning.{from_on}
use Rattle.lexer.proofs.Sets.{atom_escaped, atom_at_end, atom_other}
use Rattle.lexer.proofs.patterns.past_atom.Goals as goal

pub returns-in_err-byte_at-in-92 : goal.returns-in_err-byte_at-in-92
returns-in_err-byte_at-in-92 c = rw c.from_residual.ensures (λ n h. atom_at_end n c.args.c.byte _ c.requires.plain c.in-92.is c.in_err-byte_at-in-92.ensures.meant)

pub returns-in_ok-byte_at-in-92 : goal.returns-in_ok-byte_at-in-92
returns-in_ok-byte_at-in-92 c =
    let m = c.in_ok-byte_at-in-92.ensures.meant in
    let l : length (from_on c.args.text.now c.args.c.next) ≡ _ = ap length m.0 in
    let d = c.in_ok-byte_at-in-92.field-0 in
    (omega (arith, m.1), m.2, omega (arith, l), λ n h. (one_of d.byte, atom_escaped n c.args.c.byte d.byte _ _ c.requires.plain c.in-92.is m.0))

pub returns-in_default : goal.returns-in_default
returns-in_default c = (omega arith, omega arith, omega arith, λ n h. atom_other n c.args.c.byte _ c.requires.plain (λ e. omega arith) (λ e. omega arith))
