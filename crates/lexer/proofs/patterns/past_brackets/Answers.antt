use Rattle.lexer.proofs.Sets.{set_atom, set_atom_not, atom_set_none, bracket_plain}
use Rattle.lexer.proofs.patterns.past_brackets.Goals as goal

pub returns-in_err-first : goal.returns-in_err-first
returns-in_err-first c = rw c.from_residual.ensures (λ n h. atom_set_none n c.args.c.byte _ (bracket_plain c.args.c.byte c.requires) c.requires c.in_err-first.ensures.meant)

pub returns-then-first-eq94 : goal.returns-then-first-eq94
returns-then-first-eq94 c =
    let m = c.in_ok-first.ensures.meant in
    set_atom_not c.args.text.now c.args.c c.in_ok-first.first c.past_set.result c.requires m.0 m.1 c.if-first-eq94.true c.past_set.ensures

pub returns-else-first-eq94 : goal.returns-else-first-eq94
returns-else-first-eq94 c =
    let m = c.in_ok-first.ensures.meant in
    set_atom c.args.text.now c.args.c c.in_ok-first.first c.past_set-else-first-eq94.result c.requires m.0 c.if-first-eq94.false c.past_set-else-first-eq94.ensures
