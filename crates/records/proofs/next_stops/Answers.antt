use Rattle.records.proofs.Memory.{next_refuses, next_ends}
use Rattle.records.proofs.next_stops.Goals as goal

pub returns : goal.returns
returns c =
    record {
      refuses = λ p x m r s z d j n o t. next_refuses p x m r s z d j o n t;
      ends = λ p x m r s z d j n o t. next_ends p x m r s z d j o n t;
    }
