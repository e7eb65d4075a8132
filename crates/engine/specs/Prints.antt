-- What prints do. A print makes its step when it begins: the code goes on at once. What has no room in this step's row goes into the next ones, and
-- until then the values stay on the stack. Assumes nothing: these are definitions.
use Rattle.std.specs.Prelude.{ℕ, zero, suc, ◌-◌, min, List, drop, Some, None, Option, ◌==◌, nat_lt, slice_index_or}
use Rattle.language.specs.Text.{pick}
use Rattle.language.specs.Meaning.{printed}
use Rattle.store.specs.declared.cells.Value.TheVariants.{Unset}
use Rattle.store.specs.Values.{decoded}
use Rattle.regions.specs.Parts.{Parts}
use Rattle.rows.specs.declared.Printed.{Printed}
use Rattle.rows.specs.Rows.{topmost, printed_line, went}
use Rattle.interp.specs.Outcomes.{On}
use Rattle.interp.specs.declared.registers.Print.{Print}
use Rattle.interp.specs.declared.registers.Registers.{Registers}
use Rattle.interp.specs.Turns.{Did, says, placed, after, releasing}

-- a print takes at most as many values as fit on the stack
abbrev pub few : ℕ → ℕ
few n = min n 16416

-- a print that isn't finished: how many values it has, 0 for the line, and how many of its bytes are out
abbrev pub print_of : ℕ → ℕ → Print
print_of n out = record { values = n; out = out }

-- registers with so many values on the stack, such a print, and so many bytes in the row
abbrev pub with_print : Registers → ℕ → Print → ℕ → Registers
with_print r depth print used =
    record {
      pc = r.pc;
      depth = depth;
      running = r.running;
      stage = r.stage;
      count = r.count;
      line = r.line;
      input = r.input;
      at_line = r.at_line;
      at_end = r.at_end;
      print = print;
      used = used;
    }

-- on behind the operation
abbrev pub advanced : Registers → Registers
advanced r = placed r (after r.pc) r.depth

-- n values are let go, from the top of a stack of this depth down
unfoldable pub released : Parts → ℕ → ℕ → Parts
released p depth zero = p
released p depth (suc n) = released (releasing p (slice_index_or (decoded p.stack) (depth - 1) Unset)) (depth - 1) n

-- A print of n values has come so far. When it is finished its values are let go; otherwise the rest waits for the next row.

unfoldable pub print_parts : Parts → Registers → ℕ → Printed → Parts
print_parts p r n w = pick w.finished (released p r.depth n) p

unfoldable pub print_regs : Registers → ℕ → Printed → Registers
print_regs r n w = pick w.finished (with_print r (r.depth - n) (print_of 0 0) w.used) (with_print r r.depth (print_of n w.done) w.used)

abbrev pub printed_so : Parts → Registers → ℕ → Printed → Did
printed_so p r n w = says On (print_parts p r n w) (print_regs r n w)

-- all that a print of the line writes, and one of the n topmost values

abbrev pub line_text : Parts → Registers → List ℕ
line_text p r = printed_line p r.line.place

abbrev pub values_text : Parts → Registers → ℕ → List ℕ
values_text p r n = printed (topmost p r.depth n)

-- a print begins

unfoldable pub line_printed : Parts → Registers → Did
line_printed p r = printed_so p (advanced r) 0 (went (line_text p r) 0 r.used)

unfoldable pub values_printed : Parts → Registers → ℕ → Did
values_printed p r n = printed_so p (advanced r) n (went (values_text p r n) 0 r.used)

-- a print that isn't finished goes on, if there is one: all that it writes, what is left of that, and what comes of it

unfoldable pub pending_text : Parts → Registers → List ℕ
pending_text p r = pick (few r.print.values == 0) (line_text p r) (values_text p r (few r.print.values))

unfoldable pub pending_left : Parts → Registers → Option (List ℕ)
pending_left p r = pick (nat_lt 0 r.print.out) (Some (drop r.print.out (pending_text p r))) None

unfoldable pub resumed : Parts → Registers → Did
resumed p r = pick (nat_lt 0 r.print.out) (printed_so p r (few r.print.values) (went (pending_text p r) r.print.out r.used)) (says On p r)
