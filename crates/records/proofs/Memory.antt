-- Memory keeps its sizes and consists of words, whatever a turn does; turns between lines stop only where the run does.
use Rattle.std.proofs.Common.{◌≡◌, ℕ, ◌+◌, ◌-◌, Bool, List, [], length, sym, refl, ap, ◌∙◌, subst, inl, inr, arith}
use Rattle.language.specs.Text.{Value}
use Rattle.language.specs.Program.{Program}
use Rattle.language.specs.Meaning.{State, Got, went, wrong}
use Rattle.language.specs.Run.{done, refused}
use Rattle.semantics.specs.Stack.{at}
use Rattle.semantics.specs.Code.{Entries, entries}
use Rattle.semantics.specs.Lines.{Now, Live, live, over, line_stage, fresh, buffer, live_out, follow}
use Rattle.semantics.specs.Engine.{Stopping}
use Rattle.store.specs.Space.{Space}
use Rattle.regions.specs.Parts.{Parts, parts, with_fields, with_lines}
use Rattle.interp.specs.Outcomes.{Turn, On, Ask, Done, Refuse}
use Rattle.interp.specs.declared.registers.Registers.{Registers}
use Rattle.interp.specs.Turns.{Did, dropped}
use Rattle.interp.specs.Between.{opening, closing, with_input}
use Rattle.engine.specs.Prints.{print_of, with_print, released}
use Rattle.engine.specs.Setting as setting
use Rattle.engine.specs.Scenes.{Scene, piece_taken, end_told, regs_of, saved, put_away}
use Rattle.records.specs.Records.{InWords, Waits, BetweenLines, SameRecords}
use Rattle.records.specs.Laws.{NextLine, line_begins, end_begins, asks_more, line_too_long, long_already, no_room, all_done, FieldSet, is_set, no_such_field, line_is_long, fields_heavy}
use Rattle.records.specs.Prints.{Prints, is_out, goes_on}
use Rattle.records.specs.Saving.{Sized, Small, SmallCode, SmallLines, ValuesSo, with_values, at_place, OnlyValues}
use Rattle.records.specs.Memory.{MemorySo}
use Rattle.records.proofs.Saving.{saved_regions, saved_registers, away_sized, away_small}
use Rattle.records.proofs.Values.{drops, releases}

pub values_of : (m : Parts) (r : Registers) → MemorySo m r → ValuesSo m
values_of m r h =
    record {
      slots_size = h.sized.slots;
      stack_size = h.sized.stack;
      in_slots = h.small.slots;
      in_stack = h.small.stack;
      texts =
          record {
            table_size = h.sized.table;
            heap_size = h.sized.heap;
            top = h.small.top;
            free = h.small.free;
            in_table = h.small.table;
            in_heap = h.small.heap;
          };
    }

-- other registers
moved : (m : Parts) (r r₁ : Registers) → MemorySo m r → SmallCode r₁ → MemorySo m r₁
moved m r r₁ h c = record { sized = h.sized; small = h.small; code = c }

-- other values
valued : (m : Parts) (r : Registers) (stack slots : List ℕ) (texts : Space) → MemorySo m r → ValuesSo (with_values m stack slots texts) → MemorySo (with_values m stack slots texts) r
valued m r stack slots texts h v =
    record {
      sized =
          record {
            registers = h.sized.registers;
            code = h.sized.code;
            slots = v.slots_size;
            stack = v.stack_size;
            fields = h.sized.fields;
            lines = h.sized.lines;
            table = v.texts.table_size;
            heap = v.texts.heap_size;
            rest = h.sized.rest;
          };
      small =
          record {
            registers = h.small.registers;
            code = h.small.code;
            slots = v.in_slots;
            stack = v.in_stack;
            fields = h.small.fields;
            lines = h.small.lines;
            top = v.texts.top;
            free = v.texts.free;
            table = v.texts.in_table;
            heap = v.texts.in_heap;
            rest = h.small.rest;
          };
      code = h.code;
    }

-- other fields and lines
lined : (m : Parts) (r : Registers) (us ls : List ℕ) → MemorySo m r → length us ≡ 16448 → length ls ≡ 25088 → InWords us → InWords ls → MemorySo (with_lines (with_fields m us) ls) r
lined m r us ls h a b c d =
    record {
      sized =
          record {
            registers = h.sized.registers;
            code = h.sized.code;
            slots = h.sized.slots;
            stack = h.sized.stack;
            fields = a;
            lines = b;
            table = h.sized.table;
            heap = h.sized.heap;
            rest = h.sized.rest;
          };
      small =
          record {
            registers = h.small.registers;
            code = h.small.code;
            slots = h.small.slots;
            stack = h.small.stack;
            fields = c;
            lines = d;
            top = h.small.top;
            free = h.small.free;
            table = h.small.table;
            heap = h.small.heap;
            rest = h.small.rest;
          };
      code = h.code;
    }

by_waits : (m : Parts) (r : Registers) (us ls : List ℕ) (r₁ : Registers) (b : List ℕ) (z : Bool) → MemorySo m r → Waits (with_lines (with_fields m us) ls) r₁ b z → MemorySo (with_lines (with_fields m us) ls) r
by_waits m r us ls r₁ b z h w = lined m r us ls h w.sound.fields_room w.sound.lines_room w.in_fields w.in_lines

to_did : (m : Parts) (r : Registers) (d : Did) → d.mem ≡ m → d.regs ≡ r → MemorySo m r → MemorySo d.mem d.regs
to_did m r d e f h = subst (λ q. MemorySo d.mem q) (sym f) (subst (λ q. MemorySo q r) (sym e) h)

pub values_stay : (m : Parts) (r : Registers) (d : Did) → OnlyValues m r d → MemorySo m r → MemorySo d.mem d.regs
values_stay m r d o h =
    to_did (with_values m o.stack o.slots o.texts) (at_place r o.pc o.depth o.running) d o.mem o.regs
    (moved (with_values m o.stack o.slots o.texts) r (at_place r o.pc o.depth o.running) (valued m r o.stack o.slots o.texts h o.values)
    (record { pc = o.small_pc; depth = o.small_depth; at_line = h.code.at_line; at_end = h.code.at_end }))

-- between lines

pub next_stays : (m : Parts) (r : Registers) (e : Entries) (s : State) (b : List ℕ) (z : Bool) (now : Now) (d : Did) → NextLine m r e s b z now d → MemorySo m r → MemorySo d.mem d.regs
next_stays m r e s b z now d (line_begins ws i line l rest q g w) h =
    to_did (with_fields m ws) (opening r i line) d (ap (λ x. x.mem) q) (ap (λ x. x.regs) q)
    (moved (with_fields m ws) r (opening r i line) (by_waits m r ws m.lines (opening r i line) rest z h w.waits)
    (record { pc = h.code.at_line; depth = h.code.depth; at_line = h.code.at_line; at_end = h.code.at_end }))
next_stays m r e s b z now d (end_begins ws i q g w) h =
    to_did (with_fields m ws) (closing r i) d (ap (λ x. x.mem) q) (ap (λ x. x.regs) q)
    (moved (with_fields m ws) r (closing r i) (by_waits m r ws m.lines (closing r i) [] _ h w.waits)
    (record { pc = h.code.at_end; depth = h.code.depth; at_line = h.code.at_line; at_end = h.code.at_end }))
next_stays m r e s b z now d (asks_more ws i q g f k w) h =
    to_did (with_fields m ws) (with_input r i) d (ap (λ x. x.mem) q) (ap (λ x. x.regs) q)
    (moved (with_fields m ws) r (with_input r i) (by_waits m r ws m.lines (with_input r i) b z h w.waits)
    (record { pc = h.code.pc; depth = h.code.depth; at_line = h.code.at_line; at_end = h.code.at_end }))
next_stays m r e s b z now d (line_too_long ws q g w) h = to_did (with_fields m ws) r d (ap (λ x. x.mem) q) (ap (λ x. x.regs) q) (by_waits m r ws m.lines r b z h w.waits)
next_stays m r e s b z now d (long_already ws q g k w) h = to_did (with_fields m ws) r d (ap (λ x. x.mem) q) (ap (λ x. x.regs) q) (by_waits m r ws m.lines r b z h w.waits)
next_stays m r e s b z now d (no_room ws l rest q g k w) h = to_did (with_fields m ws) r d (ap (λ x. x.mem) q) (ap (λ x. x.regs) q) (by_waits m r ws m.lines r b z h w.waits)
next_stays m r e s b z now d (all_done q g) h = to_did m r d (ap (λ x. x.mem) q) (ap (λ x. x.regs) q) h

-- fields

pub field_stays : (m : Parts) (r : Registers) (s : State) (v : Value) (b : List ℕ) (z : Bool) (now : Got) (d : Did) → FieldSet m r s v b z now d → MemorySo m r → MemorySo d.mem d.regs
field_stays m r s v b z now d (is_set us ls line l fs q g w) h =
    let m₁ : Parts = with_lines (with_fields m us) ls in
    let r₁ : Registers = setting.with_line r line in
    let c : SmallCode r₁ = record { pc = h.code.pc; depth = h.code.depth; at_line = h.code.at_line; at_end = h.code.at_end } in
    let h₁ : MemorySo m₁ r₁ = moved m₁ r r₁ (by_waits m r us ls r₁ b z h w.waits) c in
    to_did (dropped m₁ r₁).mem (dropped m₁ r₁).regs d (ap (λ x. x.mem) q) (ap (λ x. x.regs) q) (values_stay m₁ r₁ (dropped m₁ r₁) (drops r₁ c m₁ (values_of m₁ r₁ h₁)) h₁)
field_stays m r s v b z now d (no_such_field q g) h = to_did m r d (ap (λ x. x.mem) q) (ap (λ x. x.regs) q) h
field_stays m r s v b z now d (line_is_long q g) h = to_did m r d (ap (λ x. x.mem) q) (ap (λ x. x.regs) q) h
field_stays m r s v b z now d (fields_heavy s₁ q g k) h = to_did m r d (ap (λ x. x.mem) q) (ap (λ x. x.regs) q) h

-- prints

pub print_stays : (m : Parts) (r : Registers) (n : ℕ) (row t : List ℕ) (d : Did) → Prints m r n row t d → MemorySo m r → MemorySo d.mem d.regs
print_stays m r n row t d (is_out q e w) h =
    let m₁ : Parts = released m r.depth n in
    let r₁ : Registers = with_print r (r.depth - n) (print_of 0 0) (r.used + length t) in
    let g = releases m r.depth n (values_of m r h) in
    let h₁ : MemorySo m₁ r = subst (λ x. MemorySo x r) (sym g.1) (valued m r m.stack m.slots m₁.texts h (subst ValuesSo g.1 g.0)) in
    to_did m₁ r₁ d (ap (λ x. x.mem) q) (ap (λ x. x.regs) q)
    (moved m₁ r r₁ h₁ (record { pc = h.code.pc; depth = omega (arith, h.code.depth); at_line = h.code.at_line; at_end = h.code.at_end }))
print_stays m r n row t d (goes_on k u q f e o w) h =
    let r₁ : Registers = with_print r r.depth (print_of n k) 4096 in
    to_did m r₁ d (ap (λ x. x.mem) q) (ap (λ x. x.regs) q)
    (moved m r r₁ h (record { pc = h.code.pc; depth = h.code.depth; at_line = h.code.at_line; at_end = h.code.at_end }))

-- what is told

pub piece_stays : (m : Parts) (r : Registers) (l : List ℕ) (fs : List (List ℕ)) (n : ℕ) (b q : List ℕ) (z : Bool) → BetweenLines (piece_taken q m r).mem (piece_taken q m r).regs l fs n b z →
    MemorySo m r → MemorySo (piece_taken q m r).mem (piece_taken q m r).regs
piece_stays m r l fs n b q z w h =
    moved (piece_taken q m r).mem r (piece_taken q m r).regs (by_waits m r m.fields (piece_taken q m r).mem.lines (piece_taken q m r).regs b z h w.waits)
    (record { pc = h.code.pc; depth = h.code.depth; at_line = h.code.at_line; at_end = h.code.at_end })

pub end_stays : (m : Parts) (r : Registers) → MemorySo m r → MemorySo (end_told m r).mem (end_told m r).regs
end_stays m r h = moved m r (end_told m r).regs h (record { pc = h.code.pc; depth = h.code.depth; at_line = h.code.at_line; at_end = h.code.at_end })

-- between steps

module _ (s : Scene) (n : s.size ≡ 262144) (h : MemorySo s.mem s.regs) (k : SmallLines s.regs) where
  regions_back : parts (saved s) ≡ put_away s.mem s.regs
  regions_back = saved_regions s n h.sized h.small h.code k

  pub saved_stays : MemorySo (parts (saved s)) (regs_of (saved s))
  saved_stays =
      record {
        sized = subst Sized (sym regions_back) (away_sized s.mem s.regs h.sized);
        small = subst Small (sym regions_back) (away_small s.mem s.regs h.small h.code k);
        code =
            subst SmallCode (sym (saved_registers s n h.sized h.small h.code k))
            (record { pc = h.code.pc; depth = h.code.depth; at_line = h.code.at_line; at_end = h.code.at_end });
      }

  pub saved_records : SameRecords s.mem s.regs (parts (saved s)) (regs_of (saved s))
  saved_records =
      let e = saved_registers s n h.sized h.small h.code k in
      record {
        fields = ap (λ p. p.fields) regions_back;
        lines = ap (λ p. p.lines) regions_back;
        line = ap (λ r. r.line) e;
        input = ap (λ r. r.input) e;
        count = ap (λ r. r.count) e;
      }

-- HOW A TURN BETWEEN LINES STOPS

abbrev kind : Turn → ℕ
kind On = 0
kind Ask = 1
kind (Done k) = 2
kind (Refuse k) = 3

abbrev number : Turn → ℕ
number On = 0
number Ask = 0
number (Done k) = k
number (Refuse k) = k

other_turn : (a b : Turn) → a ≡ b → (kind a ≡ kind b → ⊥) → ⊥
other_turn a b e f = f (ap kind e)

module _ (p : Program) (x : Live) (m : Parts) (r : Registers) (s : State) (z : Bool) (d : Did) (j : ℕ) (o : live_out x ≡ s.out) where
  pub next_refuses : NextLine m r (entries p) s (buffer x) z (follow p x) d → d.turn ≡ Refuse j → Stopping p x (live_out x) (refused j)
  next_refuses (line_begins ws i line l rest q g w) t = absurd (other_turn On (Refuse j) (sym (ap (λ y. y.turn) q) ∙ t) (λ e. omega arith))
  next_refuses (end_begins ws i q g w) t = absurd (other_turn On (Refuse j) (sym (ap (λ y. y.turn) q) ∙ t) (λ e. omega arith))
  next_refuses (asks_more ws i q g f k w) t = absurd (other_turn Ask (Refuse j) (sym (ap (λ y. y.turn) q) ∙ t) (λ e. omega arith))
  next_refuses (line_too_long ws q g w) t =
      inl (record { k = 1; v = wrong 7 s; z = z; goes = (over (wrong 7 s) z, g, refl); all = o; fits = ap number (sym t ∙ ap (λ y. y.turn) q) })
  next_refuses (long_already ws q g l w) t =
      inr (inr (ap number (sym t ∙ ap (λ y. y.turn) q), record { k = 0; y = x; goes = refl; waiting = (s, g, refl); long = l }))
  next_refuses (no_room ws l rest q g k w) t =
      let y : Live = live line_stage (at (entries p).at_line [] (fresh l s)) rest z in
      inr (inl (ap number (sym t ∙ ap (λ a. a.turn) q), record { k = 1; y = y; goes = (y, g, refl); all = o; heavy = k }))
  next_refuses (all_done q g) t = absurd (other_turn (Done 0) (Refuse j) (sym (ap (λ y. y.turn) q) ∙ t) (λ e. omega arith))

  pub next_ends : NextLine m r (entries p) s (buffer x) z (follow p x) d → d.turn ≡ Done j → Stopping p x (live_out x) (done j)
  next_ends (line_begins ws i line l rest q g w) t = absurd (other_turn On (Done j) (sym (ap (λ y. y.turn) q) ∙ t) (λ e. omega arith))
  next_ends (end_begins ws i q g w) t = absurd (other_turn On (Done j) (sym (ap (λ y. y.turn) q) ∙ t) (λ e. omega arith))
  next_ends (asks_more ws i q g f k w) t = absurd (other_turn Ask (Done j) (sym (ap (λ y. y.turn) q) ∙ t) (λ e. omega arith))
  next_ends (line_too_long ws q g w) t = absurd (other_turn (Refuse 7) (Done j) (sym (ap (λ y. y.turn) q) ∙ t) (λ e. omega arith))
  next_ends (long_already ws q g l w) t = absurd (other_turn (Refuse 7) (Done j) (sym (ap (λ y. y.turn) q) ∙ t) (λ e. omega arith))
  next_ends (no_room ws l rest q g k w) t = absurd (other_turn (Refuse 8) (Done j) (sym (ap (λ y. y.turn) q) ∙ t) (λ e. omega arith))
  next_ends (all_done q g) t = record { k = 1; v = went s; z = z; goes = (over (went s) z, g, refl); all = o; fits = ap number (sym t ∙ ap (λ y. y.turn) q) }
