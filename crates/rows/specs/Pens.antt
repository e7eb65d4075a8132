-- Writing into a row. Assumes nothing: these are definitions.
use Rattle.std.specs.Prelude.{ℕ, ◌+◌, ◌-◌, min, List, length, drop}
use Rattle.store.specs.Words.{over}
use Rattle.rows.specs.declared.pen.Pen.{Pen}

-- a row, where its next byte goes, and how many bytes are passed over before one is written
pub record Writing : Type 0 where
  pub row : List ℕ
  pub at : ℕ
  pub skip : ℕ

abbrev pub writing : Pen → Writing
writing pen = record { row = pen.row.now; at = pen.at; skip = pen.skip }

-- bytes written into a row, as many as there is room for, without those that are passed over
unfoldable pub put : Writing → List ℕ → Writing
put w bs =
    record {
      row = over w.row w.at (drop w.skip bs);
      at = w.at + min (length bs - w.skip) (length w.row - w.at);
      skip = w.skip - length bs;
    }
