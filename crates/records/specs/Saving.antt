-- Memory between steps: what a step leaves is what the next one finds. Assumes nothing: these are definitions and statements, and the function that carries them
-- is proved.
use Rattle.std.specs.Prelude.{◌≡◌, ℕ, ◌<◌, Bool, List, length}
use Rattle.store.specs.declared.cells.Value.{Value}
use Rattle.store.specs.Space.{Space}
use Rattle.store.specs.Values.{kind_of, payload_of}
use Rattle.regions.specs.Parts.{Parts, parts, with_stack, with_slots, with_texts}
use Rattle.interp.specs.declared.registers.Registers.{Registers}
use Rattle.interp.specs.Registers.{rested}
use Rattle.interp.specs.declared.ops.Op.{Op}
use Rattle.interp.specs.declared.ops.Op.TheVariants.{Load, Save, LineCount, FieldCount, GetField, SetField, Not, Opposite, Calculate, Compare, Join, Unknown, Truth, Fail, Jump, JumpIf, JumpUnless, Drop, PrintLine, PrintValues, LeaveLine, Exit, End}
use Rattle.interp.specs.Turns.{Did, dropped}
use Rattle.engine.specs.Prints.{released}
use Rattle.interp.specs.Dispatch.{fetched}
use Rattle.engine.specs.Dispatch.{performed}
use Rattle.engine.specs.Scenes.{Scene, regs_of, put_away, saved}
use Rattle.records.specs.Records.{InWords, BetweenLines, SameRecords}
use Rattle.records.specs.Prints.{Pending}

-- each region has its size
pub record Sized (p : Parts) : Type 0 where
  pub registers : length p.registers ≡ 64
  pub code : length p.code ≡ 12352
  pub slots : length p.slots ≡ 8192
  pub stack : length p.stack ≡ 32832
  pub fields : length p.fields ≡ 16448
  pub lines : length p.lines ≡ 25088
  pub table : length p.texts.table ≡ 20480
  pub heap : length p.texts.heap ≡ 77822
  pub rest : length p.rest ≡ 68864

-- a number that is a word
abbrev pub Word : ℕ → Type 0
Word n = n < 18446744073709551616

-- and consists of words
pub record Small (p : Parts) : Type 0 where
  pub registers : InWords p.registers
  pub code : InWords p.code
  pub slots : InWords p.slots
  pub stack : InWords p.stack
  pub fields : InWords p.fields
  pub lines : InWords p.lines
  pub top : Word p.texts.top
  pub free : Word p.texts.free
  pub table : InWords p.texts.table
  pub heap : InWords p.texts.heap
  pub rest : InWords p.rest

-- the region of texts has its sizes, and consists of words
pub record TextsSo (s : Space) : Type 0 where
  pub table_size : length s.table ≡ 20480
  pub heap_size : length s.heap ≡ 77822
  pub top : Word s.top
  pub free : Word s.free
  pub in_table : InWords s.table
  pub in_heap : InWords s.heap

-- a value that is saved as words
abbrev pub SmallValue : Value → Type 0
SmallValue v = Word (kind_of v) × Word (payload_of v)

-- registers for the code and the stack
pub record SmallCode (r : Registers) : Type 0 where
  pub pc : Word r.pc
  pub depth : Word r.depth
  pub at_line : Word r.at_line
  pub at_end : Word r.at_end

-- registers for the line, the input and prints
pub record SmallLines (r : Registers) : Type 0 where
  pub count : Word r.count
  pub start : Word r.line.place.start
  pub len : Word r.line.place.len
  pub fields : Word r.line.fields
  pub from : Word r.input.from
  pub to : Word r.input.to
  pub at : Word r.input.cut.at
  pub since : Word r.input.cut.since
  pub cut_fields : Word r.input.cut.fields
  pub values : Word r.print.values
  pub out : Word r.print.out

-- 8. What is saved comes back, the registers with nothing in the row.
pub record SavedRight : Type 0 where
  pub regions : (s : Scene) → s.size ≡ 262144 → Sized s.mem → Small s.mem → SmallCode s.regs → SmallLines s.regs → parts (saved s) ≡ put_away s.mem s.regs
  pub registers : (s : Scene) → s.size ≡ 262144 → Sized s.mem → Small s.mem → SmallCode s.regs → SmallLines s.regs → regs_of (saved s) ≡ rested s.regs
  pub sized : (p : Parts) (r : Registers) → Sized p → Sized (put_away p r)
  pub small : (p : Parts) (r : Registers) → Small p → SmallCode r → SmallLines r → Small (put_away p r)
  -- the registers for lines and prints are words
  pub lines : (m : Parts) (r : Registers) (l : List ℕ) (fs : List (List ℕ)) (n : ℕ) (b : List ℕ) (z : Bool) (u : List ℕ) → Sized m → BetweenLines m r l fs n b z → Pending m r u →
      Word n → SmallLines r

-- WHAT OPERATIONS CHANGE. Slots, stack and texts have their sizes, and consist of words.
pub record ValuesSo (m : Parts) : Type 0 where
  pub slots_size : length m.slots ≡ 8192
  pub stack_size : length m.stack ≡ 32832
  pub in_slots : InWords m.slots
  pub in_stack : InWords m.stack
  pub texts : TextsSo m.texts

-- registers at another place, with so many values, in the code or not
abbrev pub at_place : Registers → ℕ → ℕ → Bool → Registers
at_place r pc depth running =
    record {
      pc = pc;
      depth = depth;
      running = running;
      stage = r.stage;
      count = r.count;
      line = r.line;
      input = r.input;
      at_line = r.at_line;
      at_end = r.at_end;
      print = r.print;
      used = r.used;
    }

abbrev pub with_values : Parts → List ℕ → List ℕ → Space → Parts
with_values m stack slots texts = with_texts (with_slots (with_stack m stack) slots) texts

-- nothing but these is changed, and what they were stays true
pub record OnlyValues (m : Parts) (r : Registers) (d : Did) : Type 0 where
  pub stack : List ℕ
  pub slots : List ℕ
  pub texts : Space
  pub pc : ℕ
  pub depth : ℕ
  pub running : Bool
  pub mem : d.mem ≡ with_values m stack slots texts
  pub regs : d.regs ≡ at_place r pc depth running
  pub values : ValuesSo (with_values m stack slots texts)
  pub small_pc : Word pc
  pub small_depth : Word depth

-- an operation that sets no field and prints nothing
abbrev pub PlainOp : Op → Type 0
PlainOp (Load i) = Unit {0}
PlainOp (Save i) = Unit {0}
PlainOp LineCount = Unit {0}
PlainOp FieldCount = Unit {0}
PlainOp GetField = Unit {0}
PlainOp SetField = ⊥
PlainOp Not = Unit {0}
PlainOp Opposite = Unit {0}
PlainOp (Calculate c) = Unit {0}
PlainOp (Compare c) = Unit {0}
PlainOp Join = Unit {0}
PlainOp Unknown = Unit {0}
PlainOp Truth = Unit {0}
PlainOp (Fail k) = Unit {0}
PlainOp (Jump q) = Unit {0}
PlainOp (JumpIf q) = Unit {0}
PlainOp (JumpUnless q) = Unit {0}
PlainOp Drop = Unit {0}
PlainOp PrintLine = ⊥
PlainOp (PrintValues n) = ⊥
PlainOp LeaveLine = Unit {0}
PlainOp Exit = Unit {0}
PlainOp End = Unit {0}

-- 9. Whatever memory holds, an operation changes only the stack, the slots and the texts, and leaves words. A field that was set leaves the stack as a drop
-- does, and a print that is out lets its values go.
pub record ValuesKept : Type 0 where
  pub operations : (m : Parts) (r : Registers) → ValuesSo m → InWords m.code → SmallCode r → Word r.count → Word r.line.fields → PlainOp (fetched m r) →
      OnlyValues m r (performed (fetched m r) m r)
  pub drops : (m : Parts) (r : Registers) → ValuesSo m → SmallCode r → OnlyValues m r (dropped m r)
  pub releases : (m : Parts) (depth n : ℕ) → ValuesSo m → ValuesSo (released m depth n) × (released m depth n ≡ with_texts m (released m depth n).texts)
  -- and so lines and prints are left alone
  pub records : (m : Parts) (r : Registers) (d : Did) → OnlyValues m r d → SameRecords m r d.mem d.regs
  pub prints : (m : Parts) (r : Registers) (d : Did) → OnlyValues m r d → (d.regs.print ≡ r.print) × (d.regs.used ≡ r.used)
