-- What a turn does to the regions and the registers, and what comes of it: what all operations share. Assumes nothing: these are definitions.
use Rattle.std.specs.Prelude.{ℕ, ◌+◌, ◌-◌, ◌%◌, Bool, pos, nat_lt, slice_index_or}
use Rattle.language.specs.Text.{pick}
use Rattle.language.specs.Text
use Rattle.store.specs.declared.cells.Value.{Value}
use Rattle.store.specs.declared.cells.Value.TheVariants.{Unset, Number}
use Rattle.store.specs.Values.{decoded, saved, worth, kept, let_go}
use Rattle.regions.specs.Parts.{Parts, with_stack, with_texts}
use Rattle.interp.specs.Outcomes.{Turn, On, Refuse}
use Rattle.interp.specs.declared.registers.Registers.{Registers}

-- where a turn leaves the regions and the registers, and what comes of it
pub record Did : Type 0 where
  pub mem : Parts
  pub regs : Registers
  pub turn : Turn

abbrev pub says : Turn → Parts → Registers → Did
says t p r = record { mem = p; regs = r; turn = t }

-- registers at another place of the code, with so many values on the stack
abbrev pub placed : Registers → ℕ → ℕ → Registers
placed r pc depth =
    record {
      pc = pc;
      depth = depth;
      running = r.running;
      stage = r.stage;
      count = r.count;
      line = r.line;
      input = r.input;
      at_line = r.at_line;
      at_end = r.at_end;
      print = r.print;
      used = r.used;
    }

-- the next place of the code
abbrev pub after : ℕ → ℕ
after n = (n + 1) % 18446744073709551616

-- the value on top of the stack, and the one under it

abbrev pub top_of : Parts → Registers → Value
top_of p r = slice_index_or (decoded p.stack) (r.depth - 1) Unset

abbrev pub under_of : Parts → Registers → Value
under_of p r = slice_index_or (decoded p.stack) (r.depth - 2) Unset

-- what a value stands for
abbrev pub worth_in : Parts → Value → Text.Value
worth_in p v = worth 77822 p.texts v

-- one holder more of a value, and one less; a value in place i of the stack

abbrev pub holding : Parts → Value → Parts
holding p v = with_texts p (kept 77822 p.texts v)

abbrev pub releasing : Parts → Value → Parts
releasing p v = with_texts p (let_go 20480 77822 p.texts v)

abbrev pub stacking : Parts → ℕ → Value → Parts
stacking p i v = with_stack p (saved p.stack i v)

-- a value comes onto the stack, in place of the top, in place of the two on top; the top is gone

unfoldable pub pushed : Parts → Registers → Value → Did
pushed p r v = pick (nat_lt r.depth 16416) (says On (stacking (holding p v) r.depth v) (placed r (after r.pc) (r.depth + 1))) (says (Refuse 8) p r)

unfoldable pub replaced : Parts → Registers → Value → Did
replaced p r v = says On (stacking (releasing p (top_of p r)) (r.depth - 1) v) (placed r (after r.pc) r.depth)

unfoldable pub replaced_two : Parts → Registers → Value → Did
replaced_two p r v =
    says On (stacking (releasing (releasing p (top_of p r)) (under_of p r)) (r.depth - 2) v) (placed r (after r.pc) (r.depth - 2 + 1))

unfoldable pub dropped : Parts → Registers → Did
dropped p r = says On (releasing p (top_of p r)) (placed r (after r.pc) (r.depth - 1))

-- a condition as a value
unfoldable pub truth_of : Bool → Value
truth_of b = pick b (Number (pos 1)) (Number (pos 0))
