use Rattle.language.proofs.Runs.{in_parts}
use Rattle.language.proofs.parts_stand.Goals as goal

pub returns : goal.returns
returns c = in_parts
