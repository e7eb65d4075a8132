use Rattle.records.proofs.Memory.{values_of, values_stay, next_stays, field_stays, print_stays, piece_stays, end_stays, saved_stays, saved_records}
use Rattle.records.proofs.memory_stays.Goals as goal

pub returns : goal.returns
returns c =
    record {
      values_so = values_of;
      values = values_stay;
      next = next_stays;
      field = field_stays;
      print = print_stays;
      piece = piece_stays;
      end = end_stays;
      saves = saved_stays;
      records = saved_records;
    }
