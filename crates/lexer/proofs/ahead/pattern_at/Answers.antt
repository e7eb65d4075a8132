use Rattle.std.proofs.Common.{sym}
use Rattle.lexer.proofs.Places.{pattern_found}
use Rattle.lexer.proofs.ahead.pattern_at.Goals as goal

pub returns-in-Quoted : goal.returns-in-Quoted
returns-in-Quoted c =
    let x = rw c.in-Quoted.is at (c.in_ok-start.ensures c.args.text.now c.requires.tokens) in
    pattern_found c.args.text.now c.args.place c.in-Quoted.start x.0 x.1 (sym c.if-is_pattern.ensures)
