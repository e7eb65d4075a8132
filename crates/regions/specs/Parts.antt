-- The regions of the machine's memory. Contracts speak of this record and never of the memory as one list, so that what a function leaves alone needs
-- no word. Assumes nothing: these are definitions.
use Rattle.std.specs.Prelude.{ℕ, List, ◌∷◌, ◌++◌, take, drop}
use Rattle.store.specs.Space.{Space, region}

pub record Parts : Type 0 where
  pub registers : List ℕ  -- the machine's registers, between steps
  pub code : List ℕ  -- the program's code, an operation in a word
  pub slots : List ℕ  -- variables and constants, two words a cell
  pub stack : List ℕ  -- values that are worked out, two words a cell
  pub fields : List ℕ  -- the place of each field, a word each
  pub lines : List ℕ  -- bytes of lines, packed
  pub texts : Space  -- texts with their counts of holders
  pub rest : List ℕ  -- not in use yet

-- k words from word a on
abbrev pub part : ℕ → ℕ → List ℕ → List ℕ
part a k m = take k (drop a m)

-- the regions of a memory
unfoldable pub parts : List ℕ → Parts
parts m =
    record {
      registers = part 0 64 m;
      code = part 64 12352 m;
      slots = part 12416 8192 m;
      stack = part 20608 32832 m;
      fields = part 53440 16448 m;
      lines = part 69888 25088 m;
      texts = region (part 94976 98304 m);
      rest = part 193280 68864 m;
    }

-- the words of a region of texts
abbrev pub words_of : Space → List ℕ
words_of s = s.top ∷ s.free ∷ (s.table ++ s.heap)

-- a memory from its regions
unfoldable pub joined : Parts → List ℕ
joined p = p.registers ++ (p.code ++ (p.slots ++ (p.stack ++ (p.fields ++ (p.lines ++ (words_of p.texts ++ p.rest))))))

abbrev pub with_registers : Parts → List ℕ → Parts
with_registers p x =
    record { registers = x; code = p.code; slots = p.slots; stack = p.stack; fields = p.fields; lines = p.lines; texts = p.texts; rest = p.rest }

abbrev pub with_code : Parts → List ℕ → Parts
with_code p x =
    record { registers = p.registers; code = x; slots = p.slots; stack = p.stack; fields = p.fields; lines = p.lines; texts = p.texts; rest = p.rest }

abbrev pub with_slots : Parts → List ℕ → Parts
with_slots p x =
    record { registers = p.registers; code = p.code; slots = x; stack = p.stack; fields = p.fields; lines = p.lines; texts = p.texts; rest = p.rest }

abbrev pub with_stack : Parts → List ℕ → Parts
with_stack p x =
    record { registers = p.registers; code = p.code; slots = p.slots; stack = x; fields = p.fields; lines = p.lines; texts = p.texts; rest = p.rest }

abbrev pub with_fields : Parts → List ℕ → Parts
with_fields p x =
    record { registers = p.registers; code = p.code; slots = p.slots; stack = p.stack; fields = x; lines = p.lines; texts = p.texts; rest = p.rest }

abbrev pub with_lines : Parts → List ℕ → Parts
with_lines p x =
    record { registers = p.registers; code = p.code; slots = p.slots; stack = p.stack; fields = p.fields; lines = x; texts = p.texts; rest = p.rest }

abbrev pub with_texts : Parts → Space → Parts
with_texts p x =
    record { registers = p.registers; code = p.code; slots = p.slots; stack = p.stack; fields = p.fields; lines = p.lines; texts = x; rest = p.rest }
