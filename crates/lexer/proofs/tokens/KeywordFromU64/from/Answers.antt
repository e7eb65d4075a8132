use Rattle.std.proofs.Common.{◌<◌, sym, ◌∙◌, ltb-true}
use Rattle.std.proofs.lemmas.List.{get_or_past, get_or_read}
use Rattle.lexer.specs.declared.tokens.Keyword.TheVariants.{Swap}
use Rattle.lexer.proofs.Spelling.{all, keyword_numbered}
use Rattle.lexer.proofs.tokens.KeywordFromU64.from.Goals as goal

pub returns-in-Some : goal.returns-in-Some
returns-in-Some c =
    let h = c.in-Some.ensures.lookup in
    let l : c.args.n < 19 = ltb-true c.args.n 19 (sym h.0) in
    get_or_read all c.args.n c.in-Some.k.now l h.1 Swap ∙ keyword_numbered c.args.n

pub returns-in-None : goal.returns-in-None
returns-in-None c = let h = c.in-None.ensures.lookup in sym (get_or_past all c.args.n Swap h.3) ∙ keyword_numbered c.args.n
