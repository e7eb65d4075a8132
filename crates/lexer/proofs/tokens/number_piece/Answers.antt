use Rattle.std.proofs.Common.{◌≡◌, ◌+◌, ◌-◌, take, drop, refl, ap, rules, tests, ◌∙◌, arith}
use Rattle.std.specs.List.{prefix_len}
use Rattle.std.proofs.lemmas.List.{take_rest, length-drop}
use Rattle.std.proofs.lemmas.Iterator.{YieldsList-from_slice}
use Rattle.std.proofs.lemmas.Iterator.Consumers.{count_from_yields_List}
use Rattle.std.proofs.lemmas.Iterator.Search.{YieldsList-from_take_while}
use Rattle.std.proofs.lemmas.List.Folds.{length-prefix_len}
use Rattle.std.proofs.lemmas.List.Sums.{prefix_len-le-length}
use Rattle.language.specs.Text.{digit, leading}
use Rattle.language.specs.Program.{bad, number}
use Rattle.lexer.proofs.Bytes.{number_piece, short_number, long_number, bad_piece}
use Rattle.lexer.proofs.tokens.number_piece.Goals as goal
use Rattle.lexer.proofs.tokens.number_piece.Goals.{After-count-digits}

-- so many digits are there
so_many : (c : After-count-digits) → c.count-digits.result ≡ prefix_len digit (drop c.args.i c.args.text.now)
so_many c =
    let rest = drop c.args.i c.args.text.now in
    count_from_yields_List c.take_while.result c.count-digits.result c.count-digits.ensures.ran (YieldsList-from_take_while _ digit (YieldsList-from_slice rest (cc (take_rest c.args.text.now c.args.i))) c.take_while.ensures.closure c.take_while.ensures.done (λ x b q k. search (rules, tests)))
    ∙ length-prefix_len digit rest

pub returns-then-digits-le18 : goal.returns-then-digits-le18
returns-then-digits-le18 c =
    let e = so_many (goal.at.returns-then-digits-le18 c).After-count-digits in
    let n = c.count-digits.result in
    let z : c.args.i + n - c.args.i ≡ n = omega arith in
    record {
      onward = omega (arith, (number_piece c.args.text.now c.args.i 0 n c.requires.inside c.requires.class e).0);
      inside = omega (arith, e, prefix_len-le-length digit (drop c.args.i c.args.text.now), length-drop c.args.i c.args.text.now);
      gives = (number c.value.result, refl, λ m. short_number c.args.text.now c.args.i m n c.value.result c.requires.inside c.requires.class e c.if-digits-le18.true (c.value.ensures ∙ ap (λ k. leading 0 (take k (drop c.args.i c.args.text.now))) z));
    }

pub returns-else-digits-le18 : goal.returns-else-digits-le18
returns-else-digits-le18 c =
    let e = so_many (goal.at.returns-else-digits-le18 c).After-count-digits in
    rw c.bad_piece.ensures
    (record {
      onward = c.requires.inside;
      inside = omega arith;
      gives = (bad, refl, λ m. bad_piece c.args.text.now c.args.i m (long_number c.args.text.now c.args.i m c.count-digits.result c.requires.inside c.requires.class e c.if-digits-le18.false));
    })
