use Rattle.std.proofs.Common.{refl}
use Rattle.lexer.specs.Marks.{bytes_of}
use Rattle.lexer.proofs.Places.{name_here, no_name_here}
use Rattle.lexer.proofs.ahead.name_at.Goals as goal

pub returns-in-Name : goal.returns-in-Name
returns-in-Name c = λ bs k.
    let x = rw c.in-Name.is at (c.in_ok-x.ensures bs k) in
    (bytes_of bs c.in-Name.x, record { inside = x.2; is = refl }, name_here bs c.args.place c.in-Name.x x.0 x.1)

pub returns-in_default : goal.returns-in_default
returns-in_default c = λ bs k. no_name_here bs c.args.place c.in_ok-x.field-0 (c.in_ok-x.ensures bs k) c.in_default.not-Name
