use Rattle.std.proofs.Common.{◌+◌, drop, rules, tests, sym, ap, ◌∙◌}
use Rattle.std.proofs.lemmas.List.{take_rest}
use Rattle.std.proofs.lemmas.Iterator.{YieldsList-from_slice}
use Rattle.std.proofs.lemmas.Iterator.Consumers.{count_from_yields_List}
use Rattle.std.proofs.lemmas.Iterator.Search.{YieldsList-from_take_while}
use Rattle.std.proofs.lemmas.List.Folds.{length-prefix_len}
use Rattle.language.specs.Text.{or, digit}
use Rattle.language.specs.Program.{letter}
use Rattle.lexer.proofs.Words.{word_length}
use Rattle.lexer.proofs.tokens.past_word.Goals as goal

pub returns-clause-is : goal.returns-clause-is
returns-clause-is c =
    let rest = drop c.args.from c.args.text.now in
    let e = count_from_yields_List c.take_while.result c.count.result c.count.ensures.ran (YieldsList-from_take_while _ (λ b. or (letter b) (digit b)) (YieldsList-from_slice rest (cc (take_rest c.args.text.now c.args.from))) c.take_while.ensures.closure c.take_while.ensures.done (λ x b q k. search (rules, tests))) in
    ap (λ k. c.args.from + k) (e ∙ length-prefix_len (λ b. or (letter b) (digit b)) rest ∙ sym (word_length rest))
