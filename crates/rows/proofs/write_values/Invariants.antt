use Rattle.std.proofs.Common.{◌≡◌}
use Rattle.language.specs.Text.{joined, each, as_text}
use Rattle.regions.specs.Parts.{parts}
use Rattle.rows.specs.Pens.{writing, put}
use Rattle.rows.specs.Rows.{worths}
use Rattle.rows.proofs.write_values.Given as goal

abbrev pub invariant-loop-i : goal.invariant-loop-i
invariant-loop-i l =
    record {
      same_row : l.pen.row.ghost_name ≡ l.initial.pen.row.ghost_name;
      written : writing l.pen ≡ put (writing l.initial.pen) (joined (each as_text (worths (parts l.mem) l.from l.i)));
    }
