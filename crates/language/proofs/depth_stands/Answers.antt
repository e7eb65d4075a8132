use Rattle.language.proofs.Runs.{deeper_same}
use Rattle.language.proofs.depth_stands.Goals as goal

pub returns : goal.returns
returns c = deeper_same
