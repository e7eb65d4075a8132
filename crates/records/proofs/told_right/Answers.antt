use Rattle.records.proofs.Taking.{waits_none, piece_comes, end_comes}
use Rattle.records.proofs.told_right.Goals as goal

pub returns : goal.returns
returns c =
    record {
      piece = λ m r l fs n b q z e g s t h w row. piece_comes m r l fs n b q z h (waits_none e g z s t b w) row;
      end = end_comes;
    }
