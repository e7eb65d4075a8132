use Rattle.assembly.proofs.Correspondence.{words_read}
use Rattle.assembly.proofs.words_read.Goals as goal

pub returns : goal.returns
returns c = words_read
