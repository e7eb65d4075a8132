use Rattle.semantics.proofs.Example.{small_example}
use Rattle.semantics.proofs.example_stands.Goals as goal

pub returns : goal.returns
returns c = small_example
