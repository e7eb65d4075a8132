-- A field is set: the line lies in another buffer then, with its fields; what waits, and all values, stay.
use Rattle.std.proofs.Common.{◌≡◌, ℕ, zero, suc, ◌+◌, ◌-◌, ◌*◌, ◌<◌, ◌≤◌, Bool, true, false, eqb, ltb, leb, List, [], ◌∷◌, length, get_or, set, sym, refl, ap, ◌∙◌, subst, inl, inr, arith, length-set, ne_eqb}
use Rattle.std.proofs.lemmas.Bool.{ltb-true, ltb-false, leb-true, cases_lt}
use Rattle.language.specs.Text
use Rattle.language.specs.Text.{pick, each, added_up, text, as_text, number_of, fields_from, joined, plus, minus}
use Rattle.language.specs.Program.{Program}
use Rattle.language.specs.Meaning.{State, got, left, wrong, weight, short, set_part, field_number, store_field, with_line}
use Rattle.semantics.specs.Stack.{val, at, land}
use Rattle.semantics.specs.Lines.{Stage}
use Rattle.assembly.specs.Assembly.{op_set_field, pool}
use Rattle.assembly.specs.Machine.{op_exec}
use Rattle.store.specs.Words.{window, put_byte, put_bytes}
use Rattle.store.specs.Bytewise.{Bytely}
use Rattle.store.proofs.Putting.{length_puts}
use Rattle.store.proofs.Moving.{window_kept, window_below}
use Rattle.regions.specs.Parts.{Parts, with_fields, with_lines}
use Rattle.regions.specs.Places.{place_word, place_of}
use Rattle.lines.specs.declared.line.Line.{Line}
use Rattle.lines.specs.Building.{buffer_of, laid_one, laid, all_pieces, total, after_built, built, filled, filled_if, after_set, with_text, after_line, line_of}
use Rattle.lines.specs.Cutting.{recut_of}
use Rattle.lines.specs.Fields.{LineHolds}
use Rattle.lines.specs.Laws.{InPlace, BuildSays}
use Rattle.lines.specs.Lines.{place, within, nth_place}
use Rattle.lines.specs.Scanning.{waiting, line_at}
use Rattle.lines.proofs.Cuts.{recut_words, length_noted}
use Rattle.lines.proofs.Passing.{window_length}
use Rattle.lines.proofs.Pieces.{buffer_below}
use Rattle.lines.proofs.Laying.{build_says, line_right}
use Rattle.interp.specs.Outcomes.{Refuse}
use Rattle.interp.specs.declared.registers.Registers.{Registers}
use Rattle.interp.specs.Turns.{Did, says, dropped}
use Rattle.representation.specs.Relation.{LineSo, Running}
use Rattle.representation.specs.Outcomes.{Performs}
use Rattle.representation.proofs.Stack.{top_worth, under_worth}
use Rattle.representation.proofs.Running.{kept_row, drops_so, fails_so}
use Rattle.engine.specs.Setting as setting
use Rattle.engine.specs.Setting.{relined, line_set, nth_set_by, nth_set, field_set_by, field_set}

-- ONLY LINES AND FIELDS are written, and of the lines only what lies behind the bytes that came
pub record LinesOnly (m q : Parts) : Type 0 where
  pub is : q ≡ with_lines (with_fields m q.fields) q.lines
  pub fields_wide : length q.fields ≡ length m.fields
  pub lines_wide : length q.lines ≡ length m.lines
  pub below : (from n : ℕ) → from + n ≤ 69632 → window from n q.lines ≡ window from n m.lines

only_same : (m : Parts) → LinesOnly m m
only_same m = record { is = refl; fields_wide = refl; lines_wide = refl; below = λ f n h. refl }

only_then : {m q o : Parts} → LinesOnly m q → LinesOnly q o → LinesOnly m o
only_then {m} {q} {o} A B =
    record {
      is = B.is ∙ ap (λ x. with_lines (with_fields x o.fields) o.lines) A.is;
      fields_wide = B.fields_wide ∙ A.fields_wide;
      lines_wide = B.lines_wide ∙ A.lines_wide;
      below = λ f n h. B.below f n h ∙ A.below f n h;
    }

-- bytes put behind what came
only_bytes : (m : Parts) (to : ℕ) (bs : List ℕ) → 69632 ≤ to → Bytely bs → LinesOnly m (with_lines m (put_bytes m.lines to bs))
only_bytes m to bs h f =
    record {
      is = refl;
      fields_wide = refl;
      lines_wide = length_puts m.lines to bs;
      below = λ from n l. window_kept m.lines to bs from n f (inr (omega (arith, h, l)));
    }

only_fields : (m : Parts) (ws : List ℕ) → length ws ≡ length m.fields → LinesOnly m (with_fields m ws)
only_fields m ws e = record { is = refl; fields_wide = e; lines_wide = refl; below = λ from n l. refl }

one_byte : (ws : List ℕ) (i b : ℕ) → put_byte ws i b ≡ put_bytes ws i (b ∷ [])
unfolding put_bytes
one_byte ws i b = refl

only_byte : (m : Parts) (to b : ℕ) → 69632 ≤ to → b < 256 → LinesOnly m (with_lines m (put_byte m.lines to b))
only_byte m to b h l = subst (λ x. LinesOnly m (with_lines m x)) (sym (one_byte m.lines to b)) (only_bytes m to (b ∷ []) h one)
  where
    one : (i : ℕ) → get_or (b ∷ []) i 0 < 256
    one zero = l
    one (suc i) = omega arith

only_laid_one : (m : Parts) (b i to : ℕ) (x : _) → 69632 ≤ b → LinesOnly m (laid_one m b i to x)
only_laid_one m b i to x h =
    let m₁ = with_fields m (set m.fields i (place_word (place to x.room))) in
    let m₂ = with_lines m₁ (put_bytes m.lines (b + to) (window x.from x.copy m.lines)) in
    only_then (only_fields m (set m.fields i (place_word (place to x.room))) (length-set m.fields i (place_word (place to x.room))))
    (only_then (only_bytes m₁ (b + to) (window x.from x.copy m.lines) (omega (arith, h)) (window_below x.from x.copy m.lines))
    (only_byte m₂ (b + to + x.room) 32 (omega (arith, h)) (omega arith)))

only_laid : (m : Parts) (b i to : ℕ) (xs : List _) → 69632 ≤ b → LinesOnly m (laid m b i to xs)
unfolding laid
only_laid m b i to [] h = only_same m
only_laid m b i to (x ∷ xs) h = only_then (only_laid_one m b i to x h) (only_laid (laid_one m b i to x) b (i + 1) (to + (x.room + 1)) xs h)

buffer_above : (l : Line) → 69632 ≤ buffer_of l
unfolding buffer_of
buffer_above l = by (ltb l.place.start 135168)
  where
    by : (t : Bool) → 69632 ≤ pick t 135168 69632
    by true = omega arith
    by false = omega arith

only_built : (m : Parts) (l : Line) (n k : ℕ) → LinesOnly m (after_built m l n k)
unfolding after_built
only_built m l n k = by (leb (total (all_pieces m.fields l n k)) 65536)
  where
    by : (t : Bool) → LinesOnly m (pick t (laid m (buffer_of l) 0 0 (all_pieces m.fields l n k)) m)
    by true = only_laid m (buffer_of l) 0 0 (all_pieces m.fields l n k) (buffer_above l)
    by false = only_same m

nth_start : (ws : List ℕ) (l : Line) (n : ℕ) → l.place.start ≤ 200704 → l.place.start ≤ (nth_place ws l n).start
unfolding nth_place
nth_start ws l n h = by (Text.or (eqb n 0) (ltb l.fields n))
  where
    by : (t : Bool) → l.place.start ≤ (pick t (place l.place.start 0) (within l.place.start (place_of (get_or ws (n - 1) 0)))).start
    by true = omega arith
    by false = omega (arith, h)

only_filled : (m : Parts) (from len k n : ℕ) (v : List ℕ) → 69632 ≤ from → from ≤ 200704 → Bytely v → LinesOnly m (filled m (line_at from len k) n v)
only_filled m from len k n v h l f = only_bytes m (nth_place m.fields (line_at from len k) n).start v (omega (arith, h, nth_start m.fields (line_at from len k) n l)) f

only_line : (m : Parts) (l : Line) (v : List ℕ) → length m.fields ≡ 16448 → length m.lines ≡ 25088 → Bytely v → LinesOnly m (after_line m l v)
unfolding after_line with_text
only_line m l v wide lines_wide f =
    let m₁ = with_lines m (put_bytes m.lines (buffer_of l) v) in
    let t = window (buffer_of l) (length v) m₁.lines in
    let few : length t < 18446744073709551615 = omega (arith, window_length (buffer_of l) (length v) m₁.lines (length_puts m.lines (buffer_of l) v ∙ lines_wide)) in
    only_then (only_bytes m (buffer_of l) v (buffer_above l) f)
    (only_fields m₁ (recut_of m.fields t).words (ap length (recut_words m.fields t few) ∙ length_noted _ m.fields 0))

-- THE OPERATION
many_fields : (ps : List (List ℕ)) → 16 * length ps ≤ added_up (λ p. 16 + length p) ps
many_fields [] = omega arith
many_fields (p ∷ ps) = omega (arith, many_fields ps)

line_heavy : (s : State) (l : List ℕ) (fs : List (List ℕ)) → 16448 < length fs → 262144 < weight (with_line s l fs)
unfolding weight
line_heavy s l fs h = omega (arith, many_fields fs)

-- a line in a buffer lies where lines may
in_buffer : (l : Line) (n k : ℕ) → n < 65536 → InPlace (line_at (buffer_of l) n k)
unfolding buffer_of
in_buffer l n k h = by (ltb l.place.start 135168)
  where
    by : (t : Bool) → InPlace (line_at (pick t 135168 69632) n k)
    by true = record { before = λ x. absurd (omega (arith, x)); within = omega (arith, h) }
    by false = record { before = λ x. omega (arith, h); within = omega (arith, h) }

-- the number of a field is at most 1,000
field_most : (v : Text.Value) (k : ℕ) (ks : List ℕ) → field_number v ≡ k ∷ ks → k ≤ 1000
unfolding field_number
field_most (plus n) k ks e = by (leb n 1000) refl e
  where
    by : (t : Bool) → leb n 1000 ≡ t → pick t (n ∷ []) [] ≡ k ∷ ks → k ≤ 1000
    by true f e = let q : n ≡ k = cc in omega (arith, leb-true n 1000 f, q)
    by false f e = let o : ◌≡◌ {A = ℕ} 0 1 = cc in absurd (omega arith)
field_most (minus n) k ks e = let o : ◌≡◌ {A = ℕ} 0 1 = cc in absurd (omega arith)
field_most (text b) k ks e = let o : ◌≡◌ {A = ℕ} 0 1 = cc in absurd (omega arith)

module _ (p : Program) (m : Parts) (r : Registers) (g : Stage) (pc : ℕ) (s : State) (b : List ℕ) (z : Bool) (small : pc ≤ 12291) where
  abbrev Runs : List Text.Value → Type 0
  Runs us = Running p m r g pc us s.vars s.line s.parts s.lines b z

  -- what waits lies below the buffers
  waits_below : {us : List Text.Value} {q : Parts} → Runs us → LinesOnly m q → waiting r.input q.lines ≡ b
  waits_below {us} {q} R O =
      elim (cases_lt r.input.from r.input.to) [
        | inl l ↦ O.below r.input.from (r.input.to - r.input.from) (omega (arith, R.inside)) ∙ R.waits
        | inr l ↦
            let e : r.input.to - r.input.from ≡ 0 = omega (arith, l) in
            ap (λ n. window r.input.from n q.lines) e ∙ sym (ap (λ n. window r.input.from n m.lines) e) ∙ R.waits
      ]

  -- with another line
  re_line : {us : List Text.Value} {F L : List ℕ} (ln : Line) (l : List ℕ) (fs : List (List ℕ)) → Runs us → length F ≡ 16448 → length L ≡ 25088 → waiting r.input L ≡ b →
      LineSo (with_lines (with_fields m F) L) ln l fs → Running p (with_lines (with_fields m F) L) (setting.with_line r ln) g pc us s.vars l fs s.lines b z
  re_line ln l fs R wide lines_wide w N =
      record {
        loaded = record { code = R.loaded.code; line_at = R.loaded.line_at; end_at = R.loaded.end_at };
        sound = record { fields_room = wide; lines_room = lines_wide };
        running = R.running;
        at_pc = R.at_pc;
        stage = R.stage;
        count = R.count;
        holds = record {
          said = R.holds.said;
          texts = R.holds.texts;
          long = R.holds.long;
          in_hand = R.holds.in_hand;
          on_stack = R.holds.on_stack;
          in_slots = R.holds.in_slots;
          stack_wide = R.holds.stack_wide;
          slots_wide = R.holds.slots_wide;
          deep = R.holds.deep;
          few = R.holds.few;
        };
        line = N;
        waits = w;
        inside = R.inside;
        unscanned = R.unscanned;
        ended = R.ended;
      }

  module _ {u v : Text.Value} {rest : List Text.Value} (R : Runs (u ∷ v ∷ rest)) where
    abbrev Sets : List ℕ → List (List ℕ) → Did → Type 0
    Sets l fs d = Performs p op_set_field r g pc (u ∷ v ∷ rest) s b z (at (suc pc) (val v ∷ each val rest) (with_line s l fs)) d

    lines_anew : (q : Parts) (ln : Line) (l : List ℕ) (fs : List (List ℕ)) → LinesOnly m q → LineHolds q ln l fs → InPlace ln → Sets l fs (relined q r ln)
    unfolding dropped
    lines_anew q ln l fs O N P =
        subst (λ x. Sets l fs (relined x r ln)) (sym O.is)
        (let Q : Running p (with_lines (with_fields m q.fields) q.lines) (setting.with_line r ln) g pc (u ∷ v ∷ rest) s.vars l fs s.lines b z
        = re_line ln l fs R (O.fields_wide ∙ R.sound.fields_room) (O.lines_wide ∙ R.sound.lines_room) (waits_below R O) (record { holds = subst (λ x. LineHolds x ln l fs) O.is N; placed = P }) in
        let D = drops_so (with_line s l fs) op_set_field Q small in
        (D.0, D.1, record { print = D.2.print; used = D.2.used }))

    -- the whole line
    line_does : length (as_text v) < 65536 → Bytely (as_text v) → Sets (as_text v) (fields_from [] (as_text v)) (line_set m r (as_text v))
    unfolding line_set line_of
    line_does short f = by (ltb 65535 (length (as_text v))) (ltb 16448 (length (fields_from [] (as_text v)))) refl refl
      where
        t : List ℕ
        t = as_text v

        by : (a k : Bool) → ltb 65535 (length (as_text v)) ≡ a → ltb 16448 (length (fields_from [] (as_text v))) ≡ k →
            Sets (as_text v) (fields_from [] (as_text v)) (pick a (says (Refuse 7) m r) (pick k (says (Refuse 8) m r) (relined (after_line m r.line (as_text v)) r (line_of m r.line (as_text v)))))
        by true k e h = absurd (omega (arith, ltb-true 65535 _ e, short))
        by false true e h =
            ((u ∷ v ∷ rest, refl, R), kept_row r, inr (refl, tt, (omega (arith, line_heavy s (as_text v) (fields_from [] (as_text v)) (ltb-true 16448 _ h)), refl)))
        by false false e h =
            lines_anew (after_line m r.line (as_text v)) (line_of m r.line (as_text v)) (as_text v) (fields_from [] (as_text v)) (only_line m r.line (as_text v) R.sound.fields_room R.sound.lines_room f)
            (line_right m r.line (as_text v) R.sound f short (ltb-false 16448 _ h)) (in_buffer r.line (length (as_text v)) _ short)

    -- one field
    nth_does : (k : ℕ) → 1 ≤ k → k ≤ 1000 → Bytely (as_text v) →
        Performs p op_set_field r g pc (u ∷ v ∷ rest) s b z
        (land (suc pc) (each val rest) (pick (short (joined (set_part 1001 s.parts k (as_text v))))
        (got v (with_line s (joined (set_part 1001 s.parts k (as_text v))) (set_part 1001 s.parts k (as_text v)))) (left (wrong 7 s))))
        (nth_set m r k (as_text v))
    unfolding nth_set after_set
    nth_does k l h f = by (short gs_line) refl (build_says m r.line s.line s.parts k (as_text v) R.sound R.line.holds R.line.placed l h f)
      where
        gs : List (List ℕ)
        gs = set_part 1001 s.parts k (as_text v)

        gs_line : List ℕ
        gs_line = joined (set_part 1001 s.parts k (as_text v))

        by : (t : Bool) → short (joined (set_part 1001 s.parts k (as_text v))) ≡ t → BuildSays m r.line k (as_text v) (set_part 1001 s.parts k (as_text v)) t →
            Performs p op_set_field r g pc (u ∷ v ∷ rest) s b z
            (land (suc pc) (each val rest) (pick t (got v (with_line s (joined (set_part 1001 s.parts k (as_text v))) (set_part 1001 s.parts k (as_text v)))) (left (wrong 7 s))))
            (nth_set_by m r (filled_if (built m r.line k (length (as_text v))) (after_built m r.line k (length (as_text v))) k (as_text v)) (built m r.line k (length (as_text v))))
        by false e N = rw N.told (fails_so s op_set_field R 7)
        by true e N =
            rw N.told
            (lines_anew _ (line_at (buffer_of r.line) (length (joined (set_part 1001 s.parts k (as_text v)))) (length (set_part 1001 s.parts k (as_text v))))
            (joined (set_part 1001 s.parts k (as_text v))) (set_part 1001 s.parts k (as_text v))
            (only_then (only_built m r.line k (length (as_text v))) (only_filled (after_built m r.line k (length (as_text v))) (buffer_of r.line) _ _ k (as_text v) (buffer_above r.line) (omega (arith, buffer_below r.line)) f))
            N.holds (in_buffer r.line _ _ (ltb-true _ 65536 e)))

    -- by the number of the field
    pub set_does : length (as_text v) < 65536 → Bytely (as_text v) → Performs p op_set_field r g pc (u ∷ v ∷ rest) s b z (op_exec (pool p) op_set_field pc (each val (u ∷ v ∷ rest)) s) (field_set m r)
    unfolding field_set
    set_does short f = rw (top_worth r.depth R.holds, under_worth r.depth R.holds) (by (field_number (number_of u)) refl)
      where
        by : (ks : List ℕ) → field_number (number_of u) ≡ ks → Performs p op_set_field r g pc (u ∷ v ∷ rest) s b z (land (suc pc) (each val rest) (store_field s v ks)) (field_set_by m r (as_text v) ks)
        by [] e = unfold store_field in fails_so s op_set_field R 9
        by (zero ∷ ks) e = unfold store_field in line_does short f
        by (suc k ∷ ks) e = unfold store_field in (rw (ne_eqb (suc k) 0 (λ q. omega (arith, q))) (nth_does (suc k) (omega arith) (field_most (number_of u) (suc k) ks e) f))
