use Rattle.semantics.proofs.Tables.{items_right}
use Rattle.semantics.proofs.tables_stand.Goals as goal

pub returns : goal.returns
returns c = items_right
