use Rattle.std.proofs.Common.{◌+◌, drop, refl, arith}
use Rattle.language.specs.Program.{bad, quoted, quote_part}
use Rattle.lexer.proofs.Bytes.{open_piece, quote_piece, bad_piece}
use Rattle.lexer.proofs.tokens.quote_piece.Goals as goal

pub returns-in-Some : goal.returns-in-Some
returns-in-Some c =
    let q = c.in-Some.ensures in
    record { onward = omega (arith, q.2); inside = q.3; gives = (quoted (quote_part (drop (c.args.i + 1) c.args.text.now)), (refl, omega arith), λ m. quote_piece c.args.text.now c.args.i m c.in-Some.end c.requires.inside c.requires.class q) }

pub returns-in-None : goal.returns-in-None
returns-in-None c =
    rw c.bad_piece.ensures
    (record { onward = c.requires.inside; inside = omega arith; gives = (bad, refl, λ m. bad_piece c.args.text.now c.args.i m (open_piece c.args.text.now c.args.i m c.requires.inside c.requires.class c.in-None.ensures)) })
