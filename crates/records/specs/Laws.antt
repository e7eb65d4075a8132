-- What turns do with lines, beside what the abstract machine does. Assumes nothing: these are statements, and the functions that carry them are proved.
use Rattle.std.specs.Prelude.{◌≡◌, ℕ, suc, ◌<◌, ◌≤◌, Bool, true, false, List, [], ◌∷◌, ◌++◌, length}
use Rattle.language.specs.Text.{Value, text, as_text, fields_from}
use Rattle.language.specs.Meaning.{State, went, wrong, Got, got, left, weight, with_line, field_number, field_got, store_field}
use Rattle.language.specs.Run.{a_row}
use Rattle.semantics.specs.Stack.{at}
use Rattle.semantics.specs.Code.{Entries}
use Rattle.semantics.specs.Lines.{line_stage, last_stage, fresh, Now, steps, waits, live, over, live_after}
use Rattle.semantics.specs.Lines as runs
use Rattle.semantics.specs.Invariants as invariants
use Rattle.regions.specs.Parts.{Parts, with_fields, with_lines}
use Rattle.lines.specs.declared.line.Line.{Line}
use Rattle.lines.specs.declared.input.Input.{Input}
use Rattle.interp.specs.Outcomes.{On, Ask, Done, Refuse}
use Rattle.interp.specs.declared.registers.Stage.{Stage}
use Rattle.interp.specs.declared.registers.Stage.TheVariants.{Begin, Lines, End}
use Rattle.interp.specs.declared.registers.Registers.{Registers}
use Rattle.interp.specs.Turns.{Did, says}
use Rattle.interp.specs.Between.{opening, closing, with_input, line_next}
use Rattle.interp.specs.Fields.{field_place, bytes_in}
use Rattle.engine.specs.Setting.{relined, field_set_by}
use Rattle.engine.specs.Setting as setting
use Rattle.engine.specs.Scenes.{piece_taken, end_told}
use Rattle.records.specs.Records.{Current, WithinLine, BetweenLines, SameRecords}

-- the stage that a register names
abbrev pub stage_meant : Stage → runs.Stage
stage_meant Begin = runs.first_stage
stage_meant Lines = runs.line_stage
stage_meant End = runs.last_stage

-- What comes of looking for the next line in state s, where b waits: d in memory, and `now` in the abstract machine. Only the region of fields changes.
-- Where it asks or refuses, memory stands for the same as before, so the same would come again.
pub data NextLine (m : Parts) (r : Registers) (e : Entries) (s : State) (b : List ℕ) (z : Bool) (now : Now) (d : Did) : Type 0 where
  -- there is a line, and its rules begin
  line_begins : (ws : List ℕ) (i : Input) (line : Line) (l rest : List ℕ) → d ≡ says On (with_fields m ws) (opening r i line) →
      now ≡ steps (live line_stage (at e.at_line [] (fresh l s)) rest z) →
      WithinLine (with_fields m ws) (opening r i line) l (fields_from [] l) (suc s.lines) rest z → NextLine m r e s b z now d
  -- there is none left, and the rules for the end begin
  end_begins : (ws : List ℕ) (i : Input) → d ≡ says On (with_fields m ws) (closing r i) → now ≡ steps (live last_stage (at e.at_end [] s) [] true) →
      WithinLine (with_fields m ws) (closing r i) s.line s.parts s.lines [] true → NextLine m r e s b z now d
  -- there is none yet
  asks_more : (ws : List ℕ) (i : Input) → d ≡ says Ask (with_fields m ws) (with_input r i) → now ≡ waits s → z ≡ false → length b < 65536 →
      BetweenLines (with_fields m ws) (with_input r i) s.line s.parts s.lines b z → NextLine m r e s b z now d
  -- it is too long
  line_too_long : (ws : List ℕ) → d ≡ says (Refuse 7) (with_fields m ws) r → now ≡ steps (over (wrong 7 s) z) →
      BetweenLines (with_fields m ws) r s.line s.parts s.lines b z → NextLine m r e s b z now d
  -- it has not ended, and is too long already
  long_already : (ws : List ℕ) → d ≡ says (Refuse 7) (with_fields m ws) r → now ≡ waits s → 65536 ≤ length b →
      BetweenLines (with_fields m ws) r s.line s.parts s.lines b z → NextLine m r e s b z now d
  -- its fields have no room: they are more than may be held
  no_room : (ws l rest : List ℕ) → d ≡ says (Refuse 8) (with_fields m ws) r → now ≡ steps (live line_stage (at e.at_line [] (fresh l s)) rest z) →
      262144 < (fresh l s).heavy → BetweenLines (with_fields m ws) r s.line s.parts s.lines b z → NextLine m r e s b z now d
  -- the rules for the end are done
  all_done : d ≡ says (Done 0) m r → now ≡ steps (over (went s) z) → NextLine m r e s b z now d

-- 1. Between lines a turn does what the abstract machine does next.
unfoldable pub LinesFollow : Type 0
LinesFollow =
    (m : Parts) (r : Registers) (e : Entries) (s : State) (b : List ℕ) (z : Bool) → BetweenLines m r s.line s.parts s.lines b z → s.lines < 18446744073709551615 →
    NextLine m r e s b z (live_after e (stage_meant r.stage) b z s) (line_next m r)

-- 2. What else changes doesn't matter, and behind the rules for a line the next one is looked for.
pub record RecordsKept : Type 0 where
  pub within : (m : Parts) (r : Registers) (m₁ : Parts) (r₁ : Registers) (l : List ℕ) (fs : List (List ℕ)) (n : ℕ) (b : List ℕ) (z : Bool) → SameRecords m r m₁ r₁ →
      WithinLine m r l fs n b z → WithinLine m₁ r₁ l fs n b z
  pub between : (m : Parts) (r : Registers) (m₁ : Parts) (r₁ : Registers) (l : List ℕ) (fs : List (List ℕ)) (n : ℕ) (b : List ℕ) (z : Bool) → SameRecords m r m₁ r₁ →
      BetweenLines m r l fs n b z → BetweenLines m₁ r₁ l fs n b z
  pub done : (m : Parts) (r : Registers) (l : List ℕ) (fs : List (List ℕ)) (n : ℕ) (b : List ℕ) (z : Bool) → WithinLine m r l fs n b z → BetweenLines m r l fs n b z

-- 3. Where the abstract machine waits, a piece that comes waits behind the bytes before it; and being told that there is none changes nothing else.
pub record ToldRight : Type 0 where
  pub piece : (m : Parts) (r : Registers) (l : List ℕ) (fs : List (List ℕ)) (n : ℕ) (b q : List ℕ) (z : Bool) (e : Entries) (g : runs.Stage) (s t : State) → BetweenLines m r l fs n b z →
      live_after e g b z s ≡ waits t → a_row q ≡ true → BetweenLines (piece_taken q m r).mem (piece_taken q m r).regs l fs n (b ++ q) z
  pub end : (m : Parts) (r : Registers) (l : List ℕ) (fs : List (List ℕ)) (n : ℕ) (b : List ℕ) (z : Bool) → BetweenLines m r l fs n b z →
      BetweenLines (end_told m r).mem (end_told m r).regs l fs n b true

-- 4. A field is read where memory has it, and the fields are counted.
pub record FieldsRead : Type 0 where
  pub reads : (m : Parts) (r : Registers) (s : State) (k : ℕ) (ks : List ℕ) → Current m r s.line s.parts →
      field_got s (k ∷ ks) ≡ got (text (bytes_in m (field_place m.fields r.line k))) s
  pub counts : (m : Parts) (r : Registers) (l : List ℕ) (fs : List (List ℕ)) → Current m r l fs → r.line.fields ≡ length fs

-- What comes of setting the field whose number is x to the value v: d in memory, and `now` as it is meant. Only the regions of lines and fields change; where it
-- is refused, nothing does.
pub data FieldSet (m : Parts) (r : Registers) (s : State) (v : Value) (b : List ℕ) (z : Bool) (now : Got) (d : Did) : Type 0 where
  is_set : (us ls : List ℕ) (line : Line) (l : List ℕ) (fs : List (List ℕ)) → d ≡ relined (with_lines (with_fields m us) ls) r line → now ≡ got v (with_line s l fs) →
      WithinLine (with_lines (with_fields m us) ls) (setting.with_line r line) l fs s.lines b z → FieldSet m r s v b z now d
  no_such_field : d ≡ says (Refuse 9) m r → now ≡ left (wrong 9 s) → FieldSet m r s v b z now d
  line_is_long : d ≡ says (Refuse 7) m r → now ≡ left (wrong 7 s) → FieldSet m r s v b z now d
  -- its fields have no room: they are more than may be held
  fields_heavy : (s₁ : State) → d ≡ says (Refuse 8) m r → now ≡ got v s₁ → 262144 < weight s₁ → FieldSet m r s v b z now d

-- 5. A field is set as it is meant.
unfoldable pub FieldsSet : Type 0
FieldsSet =
    (m : Parts) (r : Registers) (s : State) (v x : Value) (b : List ℕ) (z : Bool) → WithinLine m r s.line s.parts s.lines b z → invariants.Sound v →
    FieldSet m r s v b z (store_field s v (field_number x)) (field_set_by m r (as_text v) (field_number x))
