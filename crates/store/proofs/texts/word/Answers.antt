use Rattle.std.proofs.Common.{arith}
use Rattle.store.proofs.Parts.{heap_read, heap_past}
use Rattle.store.proofs.texts.word.Goals as goal

pub returns-then-a-lt-WORDS : goal.returns-then-a-lt-WORDS
returns-then-a-lt-WORDS c = heap_read 20480 c.args.texts.now c.args.a

pub returns-else-a-lt-WORDS : goal.returns-else-a-lt-WORDS
returns-else-a-lt-WORDS c = heap_past 20480 c.args.texts.now c.args.a (omega arith)
