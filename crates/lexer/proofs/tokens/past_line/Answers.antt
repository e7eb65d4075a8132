use Rattle.std.proofs.Common.{drop, eqb, rules, tests, sym, ◌∙◌}
use Rattle.std.proofs.lemmas.List.{take_rest}
use Rattle.std.proofs.lemmas.Iterator.{YieldsList-from_slice}
use Rattle.std.proofs.lemmas.Iterator.Search.{position_from_yields_List}
use Rattle.lexer.proofs.Words.{line_found, line_missing}
use Rattle.lexer.proofs.tokens.past_line.Goals as goal

pub returns-in-Some-clause-is : goal.returns-in-Some-clause-is
returns-in-Some-clause-is c =
    let e = position_from_yields_List (λ b. eqb b 10) _ _ c.position.result c.position.ensures.ran (YieldsList-from_slice (drop c.args.from c.args.text.now) (cc (take_rest c.args.text.now c.args.from))) (λ x b q k. search (rules, tests)) in
    line_found c.args.text.now c.args.from c.in-Some.before (sym e ∙ c.in-Some.is)

pub returns-in-None-clause-is : goal.returns-in-None-clause-is
returns-in-None-clause-is c =
    let e = position_from_yields_List (λ b. eqb b 10) _ _ c.position.result c.position.ensures.ran (YieldsList-from_slice (drop c.args.from c.args.text.now) (cc (take_rest c.args.text.now c.args.from))) (λ x b q k. search (rules, tests)) in
    line_missing c.args.text.now c.args.from (sym e ∙ c.in-None.is)
