use Rattle.std.proofs.Common.{Some, ap, ◌∙◌, arith}
use Rattle.language.specs.Text.{digit}
use Rattle.values.proofs.Reading.{plain_empty, plain_long, plain_other, plain_is, runs}
use Rattle.values.proofs.texts.plain_digits.Goals as goal

pub returns-then-count-eq0 : goal.returns-then-count-eq0
returns-then-count-eq0 g c = plain_empty (g.T.Bytes.bytes c.args.t.now) (omega arith)

pub returns-then-count-gt-DIGITS : goal.returns-then-count-gt-DIGITS
returns-then-count-gt-DIGITS g c = plain_long (g.T.Bytes.bytes c.args.t.now) (omega arith)

pub returns-then-digits-count : goal.returns-then-digits-count
returns-then-digits-count g c =
    ap Some c.digits_from-n.ensures.worth ∙ plain_is (g.T.Bytes.bytes c.args.t.now) (omega arith) (omega arith) (omega (arith, c.digits_from-n.ensures.count, (runs digit (g.T.Bytes.bytes c.args.t.now)).0))

pub returns-else-digits-count : goal.returns-else-digits-count
returns-else-digits-count g c = plain_other (g.T.Bytes.bytes c.args.t.now) (λ e. omega (arith, c.digits_from-n.ensures.count, e))
