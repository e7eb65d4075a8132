-- What an operation changes: the stack, the slots and the texts, which stay of words.
use Rattle.std.proofs.Common.{◌≡◌, ℕ, zero, suc, ◌+◌, ◌-◌, ◌/◌, ◌%◌, ◌<◌, Bool, true, false, not, eqb, ltb, leb, List, [], ◌∷◌, ◌++◌, length, get_or, pos, negsuc, Some, None, Option, refl, ap, ◌∙◌, subst, arith}
use Rattle.std.proofs.lemmas.Bool.{ltb-true}
use Rattle.language.specs.Text
use Rattle.language.specs.Text.{pick, plus, minus, text, as_text, truth, Num, too_large, fine, within, number_of, is_zero, limit}
use Rattle.language.specs.Meaning.{State, Got, got, left, as_got, reckon, reckon_one, field_number}
use Rattle.assembly.specs.Assembly
use Rattle.assembly.specs.Assembly.{op_of, op_load, op_save, op_line_count, op_field_count, op_get_field, op_set_field, op_one, op_two, op_truth, op_fail, op_jump, op_jump_if, op_jump_unless, op_drop, op_print_line, op_print_values, op_leave_line, op_exit, op_end}
use Rattle.values.specs.declared.numbers.Arithmetic.{Arithmetic}
use Rattle.values.specs.declared.numbers.Arithmetic.TheVariants.{Add, Subtract, Multiply, Divide, Remainder}
use Rattle.values.specs.Numbers.{operation}
use Rattle.values.specs.declared.compare.Comparison.{Comparison}
use Rattle.values.specs.declared.compare.Comparison.TheVariants.{Equal, Unequal, Less, AtMost, Above, AtLeast}
use Rattle.values.specs.Compare.{operator}
use Rattle.store.specs.declared.texts.Handle.{Handle}
use Rattle.store.specs.declared.cells.Value.{Value}
use Rattle.store.specs.declared.cells.Value.TheVariants.{Unset, Number, Text as InText, Short as InShort}
use Rattle.store.specs.Short.{short_of}
use Rattle.store.specs.Space.{Space, allocated, text_of, written, length_of, bytes_at}
use Rattle.store.specs.Values.{decoded, made}
use Rattle.store.proofs.Packing.{bytes_below}
use Rattle.store.proofs.Moving.{window_below}
use Rattle.store.proofs.Digits.{number_below}
use Rattle.regions.specs.Parts.{Parts, with_texts}
use Rattle.interp.specs.Outcomes.{Turn, On, Refuse}
use Rattle.interp.specs.declared.ops.Op.{Op}
use Rattle.interp.specs.declared.ops.Op.TheVariants.{Load, Save, LineCount, FieldCount, GetField, SetField, Not, Opposite, Calculate, Compare, Join, Unknown, Truth, Fail, Jump, JumpIf, JumpUnless, Drop, PrintLine, PrintValues, LeaveLine, Exit, End}
use Rattle.interp.specs.declared.registers.Registers.{Registers}
use Rattle.interp.specs.Fields.{bytes_in, field_place, put_new, field_by, field_got}
use Rattle.interp.specs.Jumps.{nothing_done, judged, negated, taking, jumped_if, jumped_unless, top_holds}
use Rattle.interp.specs.Numbers.{settled, figured, figured_one}
use Rattle.interp.specs.Ops.{op_in, one_of, two_of}
use Rattle.interp.specs.Slots.{slot_of, slotting, loaded, kept_in, line_counted, fields_counted}
use Rattle.interp.specs.Texts.{text_in, joined_in, joined_long, joined}
use Rattle.interp.specs.Turns.{Did, says, after, top_of, under_of, worth_in, holding, releasing, stacking, pushed, replaced, replaced_two, dropped, truth_of}
use Rattle.engine.specs.Prints.{released}
use Rattle.interp.specs.Dispatch.{fetched}
use Rattle.engine.specs.Dispatch.{performed}
use Rattle.records.specs.Records.{InWords, SameRecords}
use Rattle.records.specs.Saving.{Word, TextsSo, SmallValue, SmallCode, ValuesSo, at_place, with_values, OnlyValues, PlainOp}
use Rattle.records.proofs.Texts.{short_value, word_number, text_value, decoded_small, saved_size, saved_small, allocated_so, written_so, kept_so, let_go_so, ValueSo, MadeSo, made_so}

-- what follows from it

pub only_records : (m : Parts) (r : Registers) (d : Did) → OnlyValues m r d → SameRecords m r d.mem d.regs
only_records m r d o =
    record {
      fields = ap (λ p. p.fields) o.mem;
      lines = ap (λ p. p.lines) o.mem;
      line = ap (λ p. p.line) o.regs;
      input = ap (λ p. p.input) o.regs;
      count = ap (λ p. p.count) o.regs;
    }

pub only_prints : (m : Parts) (r : Registers) (d : Did) → OnlyValues m r d → (d.regs.print ≡ r.print) × (d.regs.used ≡ r.used)
only_prints m r d o = (ap (λ p. p.print) o.regs, ap (λ p. p.used) o.regs)

-- the changes, one by one

texts_changed : (m : Parts) (x : Space) → ValuesSo m → TextsSo x → ValuesSo (with_texts m x)
texts_changed m x v t = record { slots_size = v.slots_size; stack_size = v.stack_size; in_slots = v.in_slots; in_stack = v.in_stack; texts = t }

cell_stacked : (m : Parts) (i : ℕ) (w : Value) → ValuesSo m → SmallValue w → ValuesSo (stacking m i w)
cell_stacked m i w v s =
    record { slots_size = v.slots_size; stack_size = saved_size m.stack i w ∙ v.stack_size; in_slots = v.in_slots; in_stack = saved_small m.stack i w v.in_stack s; texts = v.texts }

cell_slotted : (m : Parts) (i : ℕ) (w : Value) → ValuesSo m → SmallValue w → ValuesSo (slotting m i w)
cell_slotted m i w v s =
    record { slots_size = saved_size m.slots i w ∙ v.slots_size; stack_size = v.stack_size; in_slots = saved_small m.slots i w v.in_slots s; in_stack = v.in_stack; texts = v.texts }

holds_more : (m : Parts) (w : Value) → ValuesSo m → ValuesSo (holding m w)
holds_more m w v = texts_changed m _ v (kept_so m.texts w v.texts)

holds_less : (m : Parts) (w : Value) → ValuesSo m → SmallValue w → ValuesSo (releasing m w)
holds_less m w v s = texts_changed m _ v (let_go_so m.texts w v.texts s)

stack_value : (m : Parts) (i : ℕ) → ValuesSo m → SmallValue (get_or (decoded m.stack) i Unset)
stack_value m i v = decoded_small m.stack i v.in_stack

slot_value : (m : Parts) (i : ℕ) → ValuesSo m → SmallValue (slot_of m i)
slot_value m i v = decoded_small m.slots i v.in_slots

after_small : (n : ℕ) → Word (after n)
after_small n = omega arith

truth_small : (b : Bool) → SmallValue (truth_of b)
unfolding truth_of
truth_small true = (omega arith, omega arith)
truth_small false = (omega arith, omega arith)

-- a handle, if there is one
abbrev HandleWord : Option Handle → Type 0
HandleWord None = Unit {0}
HandleWord (Some h) = Word h.index

-- a number that is worked out is within its bounds
abbrev NumberGot : Got → Type 0
NumberGot (got (plus n) s) = n < limit
NumberGot (got (minus n) s) = Unit {0}
NumberGot (got (text b) s) = Unit {0}
NumberGot (left w) = Unit {0}

number_within : (v : Text.Value) (s : State) → NumberGot (as_got (within v) s)
unfolding within as_got
number_within (plus n) s = by (ltb n limit) refl
  where
    by : (t : Bool) → ltb n limit ≡ t → NumberGot (as_got (pick t (fine (plus n)) too_large) s)
    by true e = ltb-true n limit e
    by false e = tt
number_within (minus n) s = by (ltb n limit)
  where
    by : (t : Bool) → NumberGot (as_got (pick t (fine (minus n)) too_large) s)
    by true = tt
    by false = tt
number_within (text b) s = tt

truth_within : (b : Bool) (s : State) → NumberGot (got (truth b) s)
truth_within true s = omega arith
truth_within false s = omega arith

got_pick : (t : Bool) (a b : Got) → NumberGot a → NumberGot b → NumberGot (pick t a b)
got_pick true a b x y = x
got_pick false a b x y = y

calculated : (c : Arithmetic) (a b : Text.Value) (s : State) → NumberGot (reckon (operation c) a b s)
unfolding reckon
calculated Add a b s = number_within _ s
calculated Subtract a b s = number_within _ s
calculated Multiply a b s = number_within _ s
calculated Divide a b s = got_pick (is_zero (number_of b)) _ _ tt (number_within _ s)
calculated Remainder a b s = got_pick (is_zero (number_of b)) _ _ tt (number_within _ s)

compared : (c : Comparison) (a b : Text.Value) (s : State) → NumberGot (reckon (operator c) a b s)
unfolding reckon
compared Equal a b s = truth_within _ s
compared Unequal a b s = truth_within _ s
compared Less a b s = truth_within _ s
compared AtMost a b s = truth_within _ s
compared Above a b s = truth_within _ s
compared AtLeast a b s = truth_within _ s

negated_within : (v : Text.Value) (s : State) → NumberGot (reckon_one 1 v s)
unfolding reckon_one
negated_within v s = number_within _ s

-- where an operation leads
abbrev OpWord : Op → Type 0
OpWord (Load i) = Unit {0}
OpWord (Save i) = Unit {0}
OpWord LineCount = Unit {0}
OpWord FieldCount = Unit {0}
OpWord GetField = Unit {0}
OpWord SetField = Unit {0}
OpWord Not = Unit {0}
OpWord Opposite = Unit {0}
OpWord (Calculate c) = Unit {0}
OpWord (Compare c) = Unit {0}
OpWord Join = Unit {0}
OpWord Unknown = Unit {0}
OpWord Truth = Unit {0}
OpWord (Fail k) = Unit {0}
OpWord (Jump q) = Word q
OpWord (JumpIf q) = Word q
OpWord (JumpUnless q) = Word q
OpWord Drop = Unit {0}
OpWord PrintLine = Unit {0}
OpWord (PrintValues n) = Unit {0}
OpWord LeaveLine = Unit {0}
OpWord Exit = Unit {0}
OpWord End = Unit {0}

op_pick : (t : Bool) (a b : Op) → OpWord a → OpWord b → OpWord (pick t a b)
op_pick true a b x y = x
op_pick false a b x y = y

in_pick : (t : Bool) (a b : Assembly.Op) → OpWord (op_in a) → OpWord (op_in b) → OpWord (op_in (pick t a b))
in_pick true a b x y = x
in_pick false a b x y = y

-- from a change of memory and a place

module _ (r : Registers) (k : SmallCode r) where
  goes : (m m₁ : Parts) (t : Turn) (pc depth : ℕ) (run : Bool) → m₁ ≡ with_values m m₁.stack m₁.slots m₁.texts → ValuesSo m₁ → Word pc → Word depth → OnlyValues m r (says t m₁ (at_place r pc depth run))
  goes m m₁ t pc depth run e v a b =
      record {
        stack = m₁.stack;
        slots = m₁.slots;
        texts = m₁.texts;
        pc = pc;
        depth = depth;
        running = run;
        mem = e;
        regs = refl;
        values = subst ValuesSo e v;
        small_pc = a;
        small_depth = b;
      }

  -- nothing is changed but texts
  stays : (m m₁ : Parts) (t : Turn) → m₁ ≡ with_values m m₁.stack m₁.slots m₁.texts → ValuesSo m₁ → OnlyValues m r (says t m₁ r)
  stays m m₁ t e v = goes m m₁ t r.pc r.depth r.running e v k.pc k.depth

  only_pick : (m : Parts) (t : Bool) (d d₁ : Did) → (t ≡ true → OnlyValues m r d) → OnlyValues m r d₁ → OnlyValues m r (pick t d d₁)
  only_pick m true d d₁ a b = a refl
  only_pick m false d d₁ a b = b

  -- texts were changed before
  before : (m : Parts) (x : Space) (d : Did) → OnlyValues (with_texts m x) r d → OnlyValues m r d
  before m x d o =
      record {
        stack = o.stack;
        slots = o.slots;
        texts = o.texts;
        pc = o.pc;
        depth = o.depth;
        running = o.running;
        mem = o.mem;
        regs = o.regs;
        values = o.values;
        small_pc = o.small_pc;
        small_depth = o.small_depth;
      }

  pushes : (m : Parts) (w : Value) → ValuesSo m → SmallValue w → OnlyValues m r (pushed m r w)
  unfolding pushed
  pushes m w v s =
      only_pick m (ltb r.depth 16416) _ _
      (λ e. goes m (stacking (holding m w) r.depth w) On (after r.pc) (r.depth + 1) r.running refl (cell_stacked (holding m w) r.depth w (holds_more m w v) s) (after_small r.pc) (omega (arith, ltb-true r.depth 16416 e)))
      (stays m m (Refuse 8) refl v)

  replaces : (m : Parts) (w : Value) → ValuesSo m → SmallValue w → OnlyValues m r (replaced m r w)
  unfolding replaced
  replaces m w v s =
      goes m (stacking (releasing m (top_of m r)) (r.depth - 1) w) On (after r.pc) r.depth r.running refl
      (cell_stacked (releasing m (top_of m r)) (r.depth - 1) w (holds_less m (top_of m r) v (stack_value m (r.depth - 1) v)) s) (after_small r.pc) k.depth

  replaces_two : (m : Parts) (w : Value) → ValuesSo m → SmallValue w → OnlyValues m r (replaced_two m r w)
  unfolding replaced_two
  replaces_two m w v s =
      let m₁ : Parts = releasing m (top_of m r) in
      let v₁ : ValuesSo m₁ = holds_less m (top_of m r) v (stack_value m (r.depth - 1) v) in
      goes m (stacking (releasing m₁ (under_of m r)) (r.depth - 2) w) On (after r.pc) (r.depth - 2 + 1) r.running refl
      (cell_stacked (releasing m₁ (under_of m r)) (r.depth - 2) w (holds_less m₁ (under_of m r) v₁ (stack_value m (r.depth - 2) v)) s) (after_small r.pc) (omega (arith, k.depth))

  pub drops : (m : Parts) → ValuesSo m → OnlyValues m r (dropped m r)
  unfolding dropped
  drops m v =
      goes m (releasing m (top_of m r)) On (after r.pc) (r.depth - 1) r.running refl (holds_less m (top_of m r) v (stack_value m (r.depth - 1) v)) (after_small r.pc) (omega (arith, k.depth))

  saves : (m : Parts) (i : ℕ) → ValuesSo m → OnlyValues m r (kept_in m r i)
  unfolding kept_in
  saves m i v =
      let w : Value = top_of m r in
      let s : SmallValue w = stack_value m (r.depth - 1) v in
      goes m (slotting (releasing (holding m w) (slot_of m i)) i w) On (after r.pc) r.depth r.running refl
      (cell_slotted (releasing (holding m w) (slot_of m i)) i w (holds_less (holding m w) (slot_of m i) (holds_more m w v) (slot_value m i v)) s) (after_small r.pc) k.depth

  -- fields

  puts_new : (m : Parts) (o : Option Value) → ValuesSo m → ValueSo o → OnlyValues m r (put_new m r o)
  puts_new m None v s = stays m m (Refuse 8) refl v
  puts_new m (Some w) v s = replaces m w v s

  gets_field : (m : Parts) (ks : List ℕ) → ValuesSo m → OnlyValues m r (field_by m r ks)
  gets_field m [] v = stays m m (Refuse 9) refl v
  gets_field m (j ∷ ks) v =
      let q = field_place m.fields r.line j in
      let g : MadeSo (made 20480 77822 m.texts (bytes_in m q)) = made_so m.texts (bytes_in m q) v.texts (window_below q.start q.len m.lines) in
      let x : Space = (made 20480 77822 m.texts (bytes_in m q)).space in
      before m x _ (puts_new (with_texts m x) (made 20480 77822 m.texts (bytes_in m q)).value (texts_changed m x v g.0) g.1)

  -- texts

  text_bytes : (m : Parts) (w : Value) (i : ℕ) → get_or (text_in m w) i 0 < 256
  unfolding as_text text_of
  text_bytes m Unset i = omega arith
  text_bytes m (Number n) i = number_below n i
  text_bytes m (InShort b) i = bytes_below b.len b.word i
  text_bytes m (InText h) i = window_below (bytes_at 77822 m.texts h.index) (length_of 77822 m.texts h.index) m.texts.heap i

  joins_in : (m : Parts) (n : ℕ) (a b : Value) (o : Option Handle) → ValuesSo m → HandleWord o → OnlyValues m r (joined_in m r n a b o)
  joins_in m n a b None v h = stays m m (Refuse 8) refl v
  joins_in m n a b (Some h) v w =
      let x₁ : Space = written 77822 m.texts h.index 0 (text_in m a) in
      let m₁ : Parts = with_texts m x₁ in
      let v₁ : ValuesSo m₁ = texts_changed m x₁ v (written_so m.texts h.index 0 (text_in m a) v.texts (text_bytes m a)) in
      let x₂ : Space = written 77822 x₁ h.index n (text_in m₁ b) in
      let v₂ : ValuesSo (with_texts m x₂) = texts_changed m₁ x₂ v₁ (written_so x₁ h.index n (text_in m₁ b) v₁.texts (text_bytes m₁ b)) in
      before m x₂ _ (replaces_two (with_texts m x₂) (InText h) v₂ (text_value h w))

  joins : (m : Parts) → ValuesSo m → OnlyValues m r (joined m r)
  unfolding joined joined_long
  joins m v =
      let a : List ℕ = text_in m (under_of m r) in
      let b : List ℕ = text_in m (top_of m r) in
      let n : ℕ = length a + length b in
      let g = allocated_so m.texts n v.texts in
      let x : Space = (allocated 20480 77822 m.texts n).space in
      only_pick m (ltb n 65536) _ _
      (λ e. only_pick m (leb n 8) _ _ (λ f. replaces_two m (InShort (short_of (a ++ b))) v (short_value (short_of (a ++ b))))
      (before m x _ (joins_in (with_texts m x) (length a) (under_of m r) (top_of m r) (allocated 20480 77822 m.texts n).handle (texts_changed m x v g.0) g.1)))
      (stays m m (Refuse 7) refl v)

  -- numbers

  figures : (m : Parts) (put : Value → Did) (g : Got) → ((w : Value) → SmallValue w → OnlyValues m r (put w)) → ValuesSo m → NumberGot g → OnlyValues m r (settled put (λ t. says t m r) g)
  figures m put (got (plus n) s) f v h = f (Number (pos n)) (omega arith, omega (arith, h))
  figures m put (got (minus n) s) f v h = f (Number (negsuc n)) (omega arith, omega arith)
  figures m put (got (text b) s) f v h = stays m m (Refuse 2) refl v
  figures m put (left w) f v h = stays m m _ refl v

  -- jumps

  takes : (m : Parts) (b : Bool) (q : ℕ) → ValuesSo m → Word q → OnlyValues m r (taking m r b q)
  unfolding taking
  takes m b q v h =
      goes m (releasing m (top_of m r)) On (pick b q (after r.pc)) (r.depth - 1) r.running refl (holds_less m (top_of m r) v (stack_value m (r.depth - 1) v)) (either b) (omega (arith, k.depth))
    where
      either : (t : Bool) → Word (pick t q (after r.pc))
      either true = h
      either false = after_small r.pc

  -- by the operation
  performs : (m : Parts) (o : Op) → ValuesSo m → OpWord o → Word r.count → Word r.line.fields → PlainOp o → OnlyValues m r (performed o m r)
  unfolding loaded line_counted fields_counted field_got negated judged figured figured_one jumped_if jumped_unless
  performs m (Load i) v h c f p = pushes m (slot_of m i) v (slot_value m i v)
  performs m (Save i) v h c f p = saves m i v
  performs m LineCount v h c f p = pushes m _ v (word_number r.count c)
  performs m FieldCount v h c f p = pushes m _ v (word_number r.line.fields f)
  performs m GetField v h c f p = gets_field m (field_number (number_of (worth_in m (top_of m r)))) v
  performs m SetField v h c f p = absurd p
  performs m Not v h c f p = replaces m _ v (truth_small (not (top_holds m r)))
  performs m Opposite v h c f p = figures m (replaced m r) (reckon_one 1 (worth_in m (top_of m r)) nothing_done) (λ w s. replaces m w v s) v (negated_within (worth_in m (top_of m r)) nothing_done)
  performs m (Calculate a) v h c f p =
      figures m (replaced_two m r) (reckon (operation a) (worth_in m (under_of m r)) (worth_in m (top_of m r)) nothing_done) (λ w s. replaces_two m w v s) v (calculated a (worth_in m (under_of m r)) (worth_in m (top_of m r)) nothing_done)
  performs m (Compare a) v h c f p =
      figures m (replaced_two m r) (reckon (operator a) (worth_in m (under_of m r)) (worth_in m (top_of m r)) nothing_done) (λ w s. replaces_two m w v s) v (compared a (worth_in m (under_of m r)) (worth_in m (top_of m r)) nothing_done)
  performs m Join v h c f p = joins m v
  performs m Unknown v h c f p = stays m m (Refuse 2) refl v
  performs m Truth v h c f p = replaces m _ v (truth_small (top_holds m r))
  performs m (Fail j) v h c f p = stays m m (Refuse j) refl v
  performs m (Jump q) v h c f p = goes m m On q r.depth r.running refl v h k.depth
  performs m (JumpIf q) v h c f p = takes m (top_holds m r) q v h
  performs m (JumpUnless q) v h c f p = takes m (not (top_holds m r)) q v h
  performs m Drop v h c f p = drops m v
  performs m PrintLine v h c f p = absurd p
  performs m (PrintValues n) v h c f p = absurd p
  performs m LeaveLine v h c f p = goes m m On r.pc 0 false refl v k.pc (omega arith)
  performs m Exit v h c f p = stays m m _ refl v
  performs m End v h c f p = goes m m On r.pc 0 false refl v k.pc (omega arith)

-- a word of the code leads to a place that is a word

one_word : (j : ℕ) → OpWord (one_of j)
unfolding one_of
one_word j = op_pick (eqb j 0) _ _ tt (op_pick (eqb j 1) _ _ tt tt)

two_word : (j : ℕ) → OpWord (two_of j)
unfolding two_of
two_word j =
    op_pick (eqb j 2) _ _ tt (op_pick (eqb j 3) _ _ tt (op_pick (eqb j 4) _ _ tt (op_pick (eqb j 5) _ _ tt (op_pick (eqb j 6) _ _ tt (op_pick (eqb j 7) _ _ tt (op_pick (eqb j 8) _ _ tt
    (op_pick (eqb j 9) _ _ tt (op_pick (eqb j 10) _ _ tt (op_pick (eqb j 11) _ _ tt (op_pick (eqb j 13) _ _ tt (op_pick (eqb j 14) _ _ tt tt)))))))))))

decoded_word : (k n : ℕ) → Word n → OpWord (op_in (Assembly.decoded k n))
unfolding Assembly.decoded
decoded_word k n h =
    in_pick (eqb k 0) _ _ tt (in_pick (eqb k 1) _ _ tt (in_pick (eqb k 2) _ _ tt (in_pick (eqb k 3) _ _ tt (in_pick (eqb k 4) _ _ tt (in_pick (eqb k 5) _ _ tt (in_pick (eqb k 6) _ _ (one_word n)
    (in_pick (eqb k 7) _ _ (two_word n) (in_pick (eqb k 8) _ _ tt (in_pick (eqb k 9) _ _ tt (in_pick (eqb k 10) _ _ h (in_pick (eqb k 11) _ _ h (in_pick (eqb k 12) _ _ h (in_pick (eqb k 13) _ _ tt
    (in_pick (eqb k 14) _ _ tt (in_pick (eqb k 15) _ _ tt (in_pick (eqb k 16) _ _ tt (in_pick (eqb k 17) _ _ tt tt)))))))))))))))))

fetched_word : (m : Parts) (r : Registers) → InWords m.code → OpWord (fetched m r)
unfolding fetched op_of
fetched_word m r h = decoded_word (get_or m.code r.pc 0 % 64) (get_or m.code r.pc 0 / 64) (omega (arith, h r.pc))

pub operations : (m : Parts) (r : Registers) → ValuesSo m → InWords m.code → SmallCode r → Word r.count → Word r.line.fields → PlainOp (fetched m r) →
    OnlyValues m r (performed (fetched m r) m r)
operations m r v w k c f p = performs r k m (fetched m r) v (fetched_word m r w) c f p

-- values that a print lets go

pub releases : (m : Parts) (depth n : ℕ) → ValuesSo m → ValuesSo (released m depth n) × (released m depth n ≡ with_texts m (released m depth n).texts)
unfolding released
releases m depth zero v = (v, refl)
releases m depth (suc n) v =
    let w : Value = get_or (decoded m.stack) (depth - 1) Unset in
    let g = releases (releasing m w) (depth - 1) n (holds_less m w v (stack_value m (depth - 1) v)) in
    (g.0, g.1)
