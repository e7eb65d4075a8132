-- How many bytes of the row are used after a turn: as many more as it printed.
use Rattle.std.proofs.Common.{◌≡◌, ℕ, ◌+◌, ◌-◌, min, Bool, true, false, eqb, ltb, leb, List, [], ◌∷◌, length, drop, Some, None, Option, sym, refl, ap, ◌∙◌, add-zero, arith, length-drop, length-take}
use Rattle.language.specs.Text.{pick, plus, minus, text, number_of, fields_from}
use Rattle.language.specs.Meaning.{Got, got, left, field_number, reckon, reckon_one}
use Rattle.store.specs.declared.cells.Value.{Value}
use Rattle.store.specs.declared.texts.Handle.{Handle}
use Rattle.values.specs.Numbers.{operation}
use Rattle.values.specs.Compare.{operator}
use Rattle.regions.specs.Parts.{Parts, with_fields}
use Rattle.lines.specs.declared.line.Line.{Line}
use Rattle.lines.specs.declared.input.Input.{Input}
use Rattle.lines.specs.Scanning.{scan_of, after_scan, found_of}
use Rattle.rows.specs.declared.Printed.{Printed}
use Rattle.rows.specs.Rows.{went}
use Rattle.interp.specs.Outcomes.{Turn, On}
use Rattle.interp.specs.declared.ops.Op.{Op}
use Rattle.interp.specs.declared.ops.Op.TheVariants.{Load, Save, LineCount, FieldCount, GetField, SetField, Not, Opposite, Calculate, Compare, Join, Unknown, Truth, Fail, Jump, JumpIf, JumpUnless, Drop, PrintLine, PrintValues, LeaveLine, Exit, End}
use Rattle.interp.specs.declared.registers.Stage.{Stage}
use Rattle.interp.specs.declared.registers.Stage.TheVariants.{Begin, Lines, End as AtEnd}
use Rattle.interp.specs.declared.registers.Registers.{Registers}
use Rattle.interp.specs.Between.{started_regs, waited_regs, waits, last_started, last_taken, sought, line_sought, next_by, line_next}
use Rattle.interp.specs.Fields.{put_new, field_by, field_got}
use Rattle.interp.specs.Jumps.{judged, negated, taking, jumped_if, jumped_unless, nothing_done}
use Rattle.interp.specs.Numbers.{settled, figured, figured_one}
use Rattle.interp.specs.Slots.{loaded, kept_in, line_counted, fields_counted}
use Rattle.interp.specs.Texts.{text_in, joined_in, joined_long, joined_as, joined}
use Rattle.interp.specs.Turns.{Did, says, top_of, under_of, worth_in, pushed, replaced, replaced_two, dropped}
use Rattle.engine.specs.Prints.{few, print_regs, printed_so, line_printed, values_printed, line_text, values_text, pending_text, pending_left, resumed}
use Rattle.engine.specs.Setting.{line_set, nth_set_by, nth_set, field_set_by, field_set}
use Rattle.interp.specs.Dispatch.{fetched}
use Rattle.engine.specs.Dispatch.{performed, text_printed, turned, turned_text}
use Rattle.engine.specs.Scenes.{with_room}

-- so many bytes are used
abbrev Uses : Did → ℕ → Type 0
Uses d n = d.regs.used ≡ n

-- OPERATIONS THAT PRINT NOTHING

regs_either : (b : Bool) (r s : Registers) (n : ℕ) → r.used ≡ n → s.used ≡ n → (pick b r s).used ≡ n
regs_either true r s n f g = f
regs_either false r s n f g = g

either_uses : (b : Bool) (d e : Did) (n : ℕ) → Uses d n → Uses e n → Uses (pick b d e) n
either_uses true d e n f g = f
either_uses false d e n f g = g

pushed_uses : (p : Parts) (r : Registers) (v : Value) → Uses (pushed p r v) r.used
unfolding pushed
pushed_uses p r v = either_uses (ltb r.depth 16416) _ _ _ refl refl

replaced_uses : (p : Parts) (r : Registers) (v : Value) → Uses (replaced p r v) r.used
unfolding replaced
replaced_uses p r v = refl

replaced_two_uses : (p : Parts) (r : Registers) (v : Value) → Uses (replaced_two p r v) r.used
unfolding replaced_two
replaced_two_uses p r v = refl

dropped_uses : (p : Parts) (r : Registers) → Uses (dropped p r) r.used
unfolding dropped
dropped_uses p r = refl

taking_uses : (p : Parts) (r : Registers) (b : Bool) (q : ℕ) → Uses (taking p r b q) r.used
unfolding taking
taking_uses p r b q = refl

put_uses : (p : Parts) (r : Registers) (o : Option Value) → Uses (put_new p r o) r.used
put_uses p r None = refl
put_uses p r (Some v) = replaced_uses p r v

got_uses : (p : Parts) (r : Registers) (ks : List ℕ) → Uses (field_by p r ks) r.used
got_uses p r [] = refl
got_uses p r (k ∷ ks) = put_uses _ r _

settled_uses : (put : Value → Did) (stop : Turn → Did) (g : Got) (n : ℕ) → ((v : Value) → Uses (put v) n) → ((t : Turn) → Uses (stop t) n) → Uses (settled put stop g) n
settled_uses put stop (got (plus k) s) n f h = f _
settled_uses put stop (got (minus k) s) n f h = f _
settled_uses put stop (got (text b) s) n f h = h _
settled_uses put stop (left w) n f h = h _

joined_in_uses : (p : Parts) (r : Registers) (m : ℕ) (v w : Value) (o : Option Handle) → Uses (joined_in p r m v w o) r.used
joined_in_uses p r m v w None = refl
joined_in_uses p r m v w (Some h) = replaced_two_uses _ r _

joined_long_uses : (p : Parts) (r : Registers) (m size : ℕ) → Uses (joined_long p r m size) r.used
unfolding joined_long
joined_long_uses p r m size = joined_in_uses _ r m (under_of p r) (top_of p r) _

joined_as_uses : (p : Parts) (r : Registers) (a b : List ℕ) → Uses (joined_as p r a b) r.used
joined_as_uses p r a b =
    either_uses (ltb (length a + length b) 65536) _ _ _
    (either_uses (leb (length a + length b) 8) _ _ _ (replaced_two_uses p r _) (joined_long_uses p r (length a) (length a + length b))) refl

line_set_uses : (p : Parts) (r : Registers) (t : List ℕ) → Uses (line_set p r t) r.used
unfolding line_set
line_set_uses p r t = either_uses (ltb 65535 (length t)) _ _ _ refl (either_uses (ltb 16448 (length (fields_from [] t))) _ _ _ refl (dropped_uses _ _))

nth_by_uses : (p : Parts) (r : Registers) (q : Parts) (o : Option Line) → Uses (nth_set_by p r q o) r.used
nth_by_uses p r q None = refl
nth_by_uses p r q (Some l) = dropped_uses _ _

nth_set_uses : (p : Parts) (r : Registers) (k : ℕ) (t : List ℕ) → Uses (nth_set p r k t) r.used
unfolding nth_set
nth_set_uses p r k t = nth_by_uses p r _ _

set_uses : (p : Parts) (r : Registers) (t ks : List ℕ) → Uses (field_set_by p r t ks) r.used
set_uses p r t [] = refl
set_uses p r t (k ∷ ks) = either_uses (eqb k 0) _ _ _ (line_set_uses p r t) (nth_set_uses p r k t)

-- PRINTS

room : (b : List ℕ) (done used : ℕ) → length (with_room used (Some (drop done b))) ≡ min (length b - done) (4096 - used)
room b done used = simp (length-take, length-drop) (omega arith)

print_uses : (r : Registers) (n : ℕ) (w : Printed) → (print_regs r n w).used ≡ w.used
unfolding print_regs
print_uses r n w = regs_either w.finished _ _ _ refl refl

went_uses : (b : List ℕ) (done used : ℕ) → (went b done used).used ≡ used + length (with_room used (Some (drop done b)))
unfolding went
went_uses b done used = ap (λ n. used + n) (sym (room b done used))

-- BETWEEN LINES

started_uses : (r : Registers) (i : Input) (l : Line) → (started_regs r i l).used ≡ r.used
unfolding started_regs
started_uses r i l = regs_either (ltb 65535 l.place.len) _ _ _ refl (regs_either (ltb 16448 l.fields) _ _ _ refl refl)

waited_uses : (r : Registers) (i : Input) → (waited_regs r i).used ≡ r.used
unfolding waited_regs
waited_uses r i = regs_either (ltb 65535 (waits i)) _ _ _ refl refl

last_started_uses : (p : Parts) (r : Registers) (i : Input) (o : Option Line) → Uses (last_started p r i o) r.used
last_started_uses p r i None = refl
last_started_uses p r i (Some l) = started_uses r i l

last_uses : (p : Parts) (r : Registers) (i : Input) → Uses (last_taken p r i) r.used
unfolding last_taken
last_uses p r i = last_started_uses _ r _ _

sought_uses : (p : Parts) (r : Registers) (i : Input) (f : Option Line) → Uses (sought p r i f) r.used
sought_uses p r i (Some l) = started_uses r i l
sought_uses p r i None = either_uses i.ended _ _ _ (last_uses p r i) (waited_uses r i)

line_sought_uses : (p : Parts) (r : Registers) → Uses (line_sought p r) r.used
unfolding line_sought
line_sought_uses p r =
    sought_uses (with_fields p (scan_of p r.input).cuts.words) r (after_scan r.input (scan_of p r.input)) (found_of r.input (scan_of p r.input))

next_uses : (g : Stage) (p : Parts) (r : Registers) → Uses (next_by g p r) r.used
next_uses Begin p r = line_sought_uses p r
next_uses Lines p r = line_sought_uses p r
next_uses AtEnd p r = refl

-- A TURN

-- as many more bytes are used as were printed
abbrev UsesMore : Did → ℕ → Option (List ℕ) → Type 0
UsesMore d used t = d.regs.used ≡ used + length (with_room used t)

none_more : {m n : ℕ} → m ≡ n → m ≡ n + 0
none_more {n = n} e = e ∙ sym (add-zero n)

performed_uses : (o : Op) (p : Parts) (r : Registers) → UsesMore (performed o p r) r.used (text_printed o p r)
unfolding loaded kept_in line_counted fields_counted field_got field_set negated judged figured figured_one joined jumped_if jumped_unless line_printed values_printed
performed_uses (Load i) p r = none_more (pushed_uses p r _)
performed_uses (Save i) p r = none_more refl
performed_uses LineCount p r = none_more (pushed_uses p r _)
performed_uses FieldCount p r = none_more (pushed_uses p r _)
performed_uses GetField p r = none_more (got_uses p r (field_number (number_of (worth_in p (top_of p r)))))
performed_uses SetField p r = none_more (set_uses p r (text_in p (under_of p r)) (field_number (number_of (worth_in p (top_of p r)))))
performed_uses Not p r = none_more (replaced_uses p r _)
performed_uses Opposite p r = none_more (settled_uses (replaced p r) (λ t. says t p r) (reckon_one 1 (worth_in p (top_of p r)) nothing_done) r.used (replaced_uses p r) (λ t. refl))
performed_uses (Calculate c) p r =
    none_more (settled_uses (replaced_two p r) (λ t. says t p r) (reckon (operation c) (worth_in p (under_of p r)) (worth_in p (top_of p r)) nothing_done) r.used (replaced_two_uses p r) (λ t. refl))
performed_uses (Compare c) p r =
    none_more (settled_uses (replaced_two p r) (λ t. says t p r) (reckon (operator c) (worth_in p (under_of p r)) (worth_in p (top_of p r)) nothing_done) r.used (replaced_two_uses p r) (λ t. refl))
performed_uses Join p r = none_more (joined_as_uses p r (text_in p (under_of p r)) (text_in p (top_of p r)))
performed_uses Unknown p r = none_more refl
performed_uses Truth p r = none_more (replaced_uses p r _)
performed_uses (Fail k) p r = none_more refl
performed_uses (Jump q) p r = none_more refl
performed_uses (JumpIf q) p r = none_more (taking_uses p r _ q)
performed_uses (JumpUnless q) p r = none_more (taking_uses p r _ q)
performed_uses Drop p r = none_more (dropped_uses p r)
performed_uses PrintLine p r = print_uses _ 0 _ ∙ went_uses (line_text p r) 0 r.used
performed_uses (PrintValues n) p r = print_uses _ (few n) _ ∙ went_uses (values_text p r (few n)) 0 r.used
performed_uses LeaveLine p r = none_more refl
performed_uses Exit p r = none_more refl
performed_uses End p r = none_more refl

pub turned_uses : (p : Parts) (r : Registers) → (turned p r).regs.used ≡ r.used + length (with_room r.used (turned_text p r))
unfolding turned turned_text line_next
turned_uses p r = by r.running
  where
    by : (b : Bool) → UsesMore (pick b (performed (fetched p r) p r) (line_next p r)) r.used (pick b (text_printed (fetched p r) p r) None)
    by true = performed_uses (fetched p r) p r
    by false = none_more (next_uses r.stage p r)

-- a print that goes on
pub resumed_uses : (p : Parts) (r : Registers) → (resumed p r).regs.used ≡ r.used + length (with_room r.used (pending_left p r))
unfolding resumed pending_left
resumed_uses p r = by (ltb 0 r.print.out)
  where
    by : (b : Bool) → UsesMore (pick b (printed_so p r (few r.print.values) (went (pending_text p r) r.print.out r.used)) (says On p r)) r.used (pick b (Some (drop r.print.out (pending_text p r))) None)
    by true = print_uses r (few r.print.values) _ ∙ went_uses (pending_text p r) r.print.out r.used
    by false = none_more refl
