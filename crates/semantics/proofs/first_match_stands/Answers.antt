use Rattle.semantics.proofs.Patterns.{first_longest}
use Rattle.semantics.proofs.first_match_stands.Goals as goal

pub returns : goal.returns
returns c = first_longest
