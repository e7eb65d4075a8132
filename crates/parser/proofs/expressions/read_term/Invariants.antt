use Rattle.parser.specs.Parsing.{left}
use Rattle.parser.specs.Readers.{Same}
use Rattle.parser.proofs.Turning.{Far}
use Rattle.parser.proofs.expressions.read_term.Given as goal

abbrev pub invariant-loop-turn : goal.invariant-loop-turn
invariant-loop-turn l = record { same : Same l.initial.reader l.reader; far : Far l.initial.reader.text.now l.initial.reader.work.now l.reader.work.now l.initial.reader.count l.place l.nodes l.turn }

abbrev pub decreases-loop-turn : goal.decreases-loop-turn
decreases-loop-turn l = left l.initial.reader.count l.turn
