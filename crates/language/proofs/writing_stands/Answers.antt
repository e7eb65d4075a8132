use Rattle.language.proofs.Runs.{only_more}
use Rattle.language.proofs.writing_stands.Goals as goal

pub returns : goal.returns
returns c = only_more
