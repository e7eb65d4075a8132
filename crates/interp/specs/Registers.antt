-- The machine's registers as words of memory. Assumes nothing: these are definitions; the law is proved.
use Rattle.std.specs.Prelude.{◌≡◌, ℕ, Bool, true, false, not, List, [], ◌∷◌, ◌++◌, drop, ◌==◌, slice_index}
use Rattle.language.specs.Text.{pick}
use Rattle.lines.specs.declared.line.Line.{Line}
use Rattle.lines.specs.declared.input.Input.{Input}
use Rattle.interp.specs.declared.registers.Stage.{Stage}
use Rattle.interp.specs.declared.registers.Stage.TheVariants.{Begin, Lines, End}
use Rattle.interp.specs.declared.registers.Print.{Print}
use Rattle.interp.specs.declared.registers.Registers.{Registers}

-- a condition as a number, and back

abbrev pub flag : Bool → ℕ
flag true = 1
flag false = 0

abbrev pub flag_of : ℕ → Bool
flag_of n = not (n == 0)

abbrev pub stage_number : Stage → ℕ
stage_number Begin = 0
stage_number Lines = 1
stage_number End = 2

unfoldable pub stage_of : ℕ → Stage
stage_of n = pick (n == 0) Begin (pick (n == 1) Lines End)

-- what words say, by their places

unfoldable pub line_in : List ℕ → Line
line_in ws = record { place = record { start = slice_index ws 5; len = slice_index ws 6 }; fields = slice_index ws 7 }

unfoldable pub input_in : List ℕ → Input
input_in ws =
    record {
      from = slice_index ws 8;
      to = slice_index ws 9;
      cut = record { at = slice_index ws 10; since = slice_index ws 11; fields = slice_index ws 12 };
      ended = flag_of (slice_index ws 13);
    }

unfoldable pub print_in : List ℕ → Print
print_in ws = record { values = slice_index ws 16; out = slice_index ws 17 }

unfoldable pub registers_in : List ℕ → Registers
registers_in ws =
    record {
      pc = slice_index ws 0;
      depth = slice_index ws 1;
      running = flag_of (slice_index ws 2);
      stage = stage_of (slice_index ws 3);
      count = slice_index ws 4;
      line = line_in ws;
      input = input_in ws;
      at_line = slice_index ws 14;
      at_end = slice_index ws 15;
      print = print_in ws;
      used = 0;
    }

-- the words of registers
unfoldable pub row_of : Registers → List ℕ
row_of r =
    r.pc ∷ r.depth ∷ flag r.running ∷ stage_number r.stage ∷ r.count ∷ r.line.place.start ∷ r.line.place.len ∷ r.line.fields
    ∷ r.input.from ∷ r.input.to ∷ r.input.cut.at ∷ r.input.cut.since ∷ r.input.cut.fields ∷ flag r.input.ended
    ∷ r.at_line ∷ r.at_end ∷ r.print.values ∷ r.print.out ∷ []

-- a row before what follows it
unfoldable pub saved_row : List ℕ → List ℕ → List ℕ
saved_row row ws = row ++ drop 18 ws

-- registers with nothing in the row
abbrev pub rested : Registers → Registers
rested r =
    record {
      pc = r.pc;
      depth = r.depth;
      running = r.running;
      stage = r.stage;
      count = r.count;
      line = r.line;
      input = r.input;
      at_line = r.at_line;
      at_end = r.at_end;
      print = r.print;
      used = 0;
    }

-- registers that were saved are loaded as they were
unfoldable pub RegistersComeBack : Type 0
RegistersComeBack = (r : Registers) (ws : List ℕ) → registers_in (saved_row (row_of r) ws) ≡ rested r
