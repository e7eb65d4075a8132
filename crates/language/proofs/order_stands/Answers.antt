use Rattle.language.proofs.Numbers.{order}
use Rattle.language.proofs.order_stands.Goals as goal

pub returns : goal.returns
returns c = order
