use Rattle.store.proofs.Sliding.{compacted_store}
use Rattle.store.proofs.Taking.{allocated_is}
use Rattle.store.proofs.Emptying.{emptied_is}
use Rattle.store.proofs.Holders.{always_room, raised_is, lowered_is, length_is}
use Rattle.store.proofs.Reading.{text_is, written_is, filled}
use Rattle.store.proofs.Faces.{faces}
use Rattle.store.proofs.texts.laws_stand.Goals as goal

pub returns : goal.returns
returns c = record {
  cells = λ T W. record {
    empties = emptied_is T W;
    moves = compacted_store T W;
    allocates = allocated_is T W;
    has_room = always_room T W;
    raises = raised_is T W;
    lowers = lowered_is T W;
    measures = length_is T W;
    reads = text_is T W;
    writes = written_is T W;
  };
  texts = faces;
  filled = filled;
}
