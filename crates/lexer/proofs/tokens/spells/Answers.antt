use Rattle.std.proofs.Common.{sym, ◌∙◌, arith}
use Rattle.lexer.proofs.Spelling.{differ_in_length, differ_here, same_here, same_done}
use Rattle.lexer.proofs.tokens.spells.Goals as goal

pub returns-then-word-with : goal.returns-then-word-with
returns-then-word-with c = differ_in_length c.args.word.now c.args.«with».now c.if-word-with.true

pub returns-then-word-i : goal.returns-then-word-i
returns-then-word-i c = sym (c.loop-i.invariant.1 ∙ differ_here c.args.word.now c.args.«with».now c.loop-i.i (omega arith) (omega arith) c.if-word-i.true)

pub loop-i-preserved : goal.loop-i-preserved
loop-i-preserved c = (c.loop-i.invariant.0, c.loop-i.invariant.1 ∙ same_here c.args.word.now c.args.«with».now c.loop-i.i (omega arith) (omega arith) c.if-word-i.false)

pub returns : goal.returns
returns c = sym (c.loop-i.invariant.1 ∙ same_done c.args.word.now c.args.«with».now c.loop-i.i (omega arith) (omega arith))
