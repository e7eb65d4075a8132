use Rattle.assembly.proofs.Sizes.{words_small}
use Rattle.assembly.proofs.words_small.Goals as goal

pub returns : goal.returns
returns c = words_small
