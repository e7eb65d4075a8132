use Rattle.lexer.proofs.Words.{quote_found, quote_missing}
use Rattle.lexer.proofs.tokens.past_quote.Goals as goal

pub returns-then-i-text : goal.returns-then-i-text
returns-then-i-text c = quote_found c.args.text.now c.args.from c.loop-c.i c.if-i-text.true (c.in_default.ensures.on c.if-i-text.true) c.loop-c.invariant.onward c.loop-c.invariant.alike

pub returns-else-i-text : goal.returns-else-i-text
returns-else-i-text c = quote_missing c.args.text.now c.args.from c.loop-c.i c.if-i-text.false c.loop-c.invariant.alike
