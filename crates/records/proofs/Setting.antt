-- A field is set: the new line lies in a buffer of its own, behind the bytes that wait.
use Rattle.std.proofs.Common.{◌≡◌, ℕ, zero, suc, ◌+◌, ◌-◌, ◌<◌, ◌≤◌, Bool, true, false, eqb, ltb, leb, List, [], ◌∷◌, length, get_or, drop, set, sym, refl, ap, ◌∙◌, subst, inl, inr, arith, length-set, length-take}
use Rattle.std.proofs.lemmas.Bool.{lt-ltb, le-ltb, ltb-true, leb-true, ne_eqb, cases_lt, cases_Bool}
use Rattle.language.specs.Text.{pick, or, Value, plus, minus, text, as_text, fields_from, joined}
use Rattle.language.specs.Meaning.{State, wrong, Got, got, left, with_line, short, field_number, store_field, set_part}
use Rattle.semantics.specs.Invariants as invariants
use Rattle.semantics.proofs.Sound.{sound_as_text}
use Rattle.store.specs.Words.{unpacked, window, put_bytes}
use Rattle.store.proofs.Putting.{length_puts, puts_one, puts_fits, set_fits}
use Rattle.store.proofs.Moving.{window_kept, window_below}
use Rattle.regions.specs.Parts.{Parts, with_fields, with_lines}
use Rattle.regions.specs.Places.{place_word, place_of}
use Rattle.lines.specs.declared.line.Line.{Line}
use Rattle.lines.specs.Cutting.{recut_of, fresh_cut}
use Rattle.lines.specs.Lines.{place, within, nth_place}
use Rattle.lines.specs.Scanning.{line_at, waiting}
use Rattle.lines.specs.Fields.{Sound, LineHolds, places_from}
use Rattle.lines.specs.Laws.{InPlace, ScannedSo, BuiltSo, RefusedSo, BuildSays}
use Rattle.lines.specs.Building.{buffer_of, all_pieces, total, laid, laid_one, filled, filled_if, built, after_built, after_set, with_text, after_line, line_of}
use Rattle.lines.proofs.Pieces.{buffer_second, buffer_first, buffer_below}
use Rattle.lines.proofs.Cuts.{recut_words, length_noted}
use Rattle.lines.proofs.Holding.{fresh_so}
use Rattle.lines.proofs.Laying.{build_says, line_right}
use Rattle.interp.specs.Outcomes.{Refuse}
use Rattle.interp.specs.declared.registers.Registers.{Registers}
use Rattle.interp.specs.Turns.{Did, says}
use Rattle.engine.specs.Setting.{relined, line_set, nth_set_by, nth_set, field_set_by}
use Rattle.engine.specs.Setting as setting
use Rattle.records.specs.Records.{InWords, Waits, WithinLine}
use Rattle.records.specs.Laws.{FieldSet, is_set, no_such_field, line_is_long, fields_heavy}
use Rattle.records.proofs.Taking.{row_bytes}
use Rattle.records.proofs.Later.{word_small, recut_fits}
use Rattle.records.proofs.Lines.{fields_weigh}

-- q came of p by writes to fields, and to lines behind the bytes that wait
record Behind (p q : Parts) : Type 0 where
  only : q ≡ with_lines (with_fields p q.fields) q.lines
  fields_size : length q.fields ≡ length p.fields
  lines_size : length q.lines ≡ length p.lines
  kept : (f n : ℕ) → f + n ≤ 69632 → window f n q.lines ≡ window f n p.lines
  in_fields : InWords p.fields → InWords q.fields
  in_lines : InWords p.lines → InWords q.lines

behind_trans : (p q u : Parts) → Behind p q → Behind q u → Behind p u
behind_trans p q u a b =
    record {
      only = b.only ∙ ap (λ x. with_lines (with_fields x u.fields) u.lines) a.only;
      fields_size = b.fields_size ∙ a.fields_size;
      lines_size = b.lines_size ∙ a.lines_size;
      kept = λ f n h. b.kept f n h ∙ a.kept f n h;
      in_fields = λ h. b.in_fields (a.in_fields h);
      in_lines = λ h. b.in_lines (a.in_lines h);
    }

behind_same : (p : Parts) → Behind p p
behind_same p = record { only = refl; fields_size = refl; lines_size = refl; kept = λ f n l. refl; in_fields = λ h. h; in_lines = λ h. h }

buffer_above : (l : Line) → 69632 ≤ buffer_of l
buffer_above l = elim (cases_lt l.place.start 135168) [ inl h ↦ omega (arith, buffer_second l h) | inr h ↦ omega (arith, buffer_first l h) ]

-- bytes are put
put_behind : (p : Parts) (us : List ℕ) (i : ℕ) (bs : List ℕ) → length us ≡ length p.fields → (InWords p.fields → InWords us) → 69632 ≤ i → ((k : ℕ) → get_or bs k 0 < 256) → Behind p (with_lines (with_fields p us) (put_bytes p.lines i bs))
put_behind p us i bs e w a b =
    record {
      only = refl;
      fields_size = e;
      lines_size = length_puts p.lines i bs;
      kept = λ f n h. window_kept p.lines i bs f n b (inr (omega arith));
      in_fields = w;
      in_lines = λ h. puts_fits p.lines i bs h b;
    }

-- one piece, and all
one_behind : (p : Parts) (b i at : ℕ) (x : _) → 69632 ≤ b → Behind p (laid_one p b i at x)
one_behind p b i at x h =
    let us : List ℕ = set p.fields i (place_word (place at x.room)) in
    let q : Parts = with_lines (with_fields p us) (put_bytes p.lines (b + at) (window x.from x.copy p.lines)) in
    let c : Behind q (with_lines (with_fields q us) (put_bytes q.lines (b + at + x.room) (32 ∷ []))) = put_behind q us (b + at + x.room) (32 ∷ []) refl (λ y. y) (omega arith) blank_byte in
    behind_trans p q (laid_one p b i at x)
    (put_behind p us (b + at) (window x.from x.copy p.lines) (length-set p.fields i _) (λ y. set_fits p.fields i (place_word (place at x.room)) y (word_small (place at x.room))) (omega arith) (window_below x.from x.copy p.lines))
    (subst (λ ls. Behind q (with_lines (with_fields q us) ls)) (puts_one q.lines (b + at + x.room) 32) c)
  where
    blank_byte : (k : ℕ) → get_or (32 ∷ []) k 0 < 256
    blank_byte zero = omega arith
    blank_byte (suc k) = omega arith

all_behind : (xs : List _) (p : Parts) (b i at : ℕ) → 69632 ≤ b → Behind p (laid p b i at xs)
unfolding laid
all_behind [] p b i at h = behind_same p
all_behind (x ∷ xs) p b i at h =
    behind_trans p (laid_one p b i at x) (laid (laid_one p b i at x) b (i + 1) (at + (x.room + 1)) xs) (one_behind p b i at x h) (all_behind xs (laid_one p b i at x) b (i + 1) (at + (x.room + 1)) h)

built_behind : (p : Parts) (l : Line) (n k : ℕ) → Behind p (after_built p l n k)
unfolding after_built
built_behind p l n k = by (leb (total (all_pieces p.fields l n k)) 65536)
  where
    by : (t : Bool) → Behind p (pick t (laid p (buffer_of l) 0 0 (all_pieces p.fields l n k)) p)
    by true = all_behind (all_pieces p.fields l n k) p (buffer_of l) 0 0 (buffer_above l)
    by false = behind_same p

-- a field lies behind the beginning of its line
nth_above : (ws : List ℕ) (l : Line) (n : ℕ) → l.place.start ≤ 18446744073709551615 → l.place.start ≤ (nth_place ws l n).start
unfolding nth_place
nth_above ws l n h = by (or (eqb n 0) (ltb l.fields n))
  where
    by : (t : Bool) → l.place.start ≤ (pick t (place l.place.start 0) (within l.place.start (place_of (get_or ws (n - 1) 0)))).start
    by true = omega arith
    by false = omega arith

filled_behind : (p : Parts) (l : Line) (n : ℕ) (v : List ℕ) → 69632 ≤ l.place.start → l.place.start ≤ 18446744073709551615 → ((k : ℕ) → get_or v k 0 < 256) → Behind p (filled p l n v)
filled_behind p l n v a b vb = put_behind p p.fields (nth_place p.fields l n).start v refl (λ y. y) (omega (arith, nth_above p.fields l n b)) vb

-- the bytes that wait are kept, since none is looked through yet
waits_behind : (m : Parts) (r : Registers) (q : Parts) (line : Line) (b : List ℕ) (z : Bool) → Behind m q → Waits m r b z → r.input.cut ≡ fresh_cut → Waits q (setting.with_line r line) b z
waits_behind m r q line b z x w u =
    let k : Sound q = record { fields_room = x.fields_size ∙ w.sound.fields_room; lines_room = x.lines_size ∙ w.sound.lines_room } in
    record {
      sound = k;
      held = w.held;
      are = x.kept r.input.from (r.input.to - r.input.from) (omega (arith, w.order, w.inside)) ∙ w.are;
      whole = w.whole;
      seen = subst (ScannedSo w.held q) (sym u) (fresh_so w.held q k);
      end = w.end;
      order = w.order;
      inside = w.inside;
      in_fields = x.in_fields w.in_fields;
      in_lines = x.in_lines w.in_lines;
    }

-- a line in one of the buffers
buffered : (line : Line) (n k : ℕ) → n < 65536 → InPlace (line_at (buffer_of line) n k)
buffered line n k h =
    elim (cases_lt line.place.start 135168) [
      | inl l ↦ let e = buffer_second line l in record { before = λ x. absurd (omega arith); within = omega arith }
      | inr l ↦ let e = buffer_first line l in record { before = λ x. omega arith; within = omega arith }
    ]

module _ (m : Parts) (r : Registers) (s : State) (v : Value) (b : List ℕ) (z : Bool) (h : WithinLine m r s.line s.parts s.lines b z) (sound : invariants.Sound v) where
  abbrev t : List ℕ
  t = as_text v

  tb : (k : ℕ) → get_or t k 0 < 256
  tb = row_bytes t (sound_as_text sound).in_bytes

  tl : length t < 65536
  tl = (sound_as_text sound).small

  waiting_kept : {q : Parts} → Behind m q → waiting r.input q.lines ≡ b
  waiting_kept x = x.kept r.input.from (r.input.to - r.input.from) (omega (arith, h.waits.order, h.waits.inside)) ∙ h.all

  -- where only those regions were changed
  set_by : (q : Parts) (line : Line) (l : List ℕ) (fs : List (List ℕ)) (now : Got) (d : Did) → Behind m q → d ≡ relined q r line → now ≡ got v (with_line s l fs) → LineHolds q line l fs → InPlace line →
      FieldSet m r s v b z now d
  set_by q line l fs now d x e g holds at =
      let w = waits_behind m r q line b z x h.waits h.unseen in
      let y : WithinLine q (setting.with_line r line) l fs s.lines b z =
      record { current = record { sound = w.sound; holds = holds; in_place = at }; count = h.count; waits = w; all = waiting_kept x; unseen = h.unseen } in
      is_set q.fields q.lines line l fs (e ∙ ap (λ p. relined p r line) x.only) g (subst (λ p. WithinLine p (setting.with_line r line) l fs s.lines b z) x.only y)

  -- $0

  line_behind : Behind m (after_line m r.line t)
  unfolding after_line with_text
  line_behind =
      let ls : List ℕ = put_bytes m.lines (buffer_of r.line) t in
      let bs : List ℕ = window (buffer_of r.line) (length t) ls in
      let small : length bs < 65536 = omega (arith, tl, length-take (length t) (drop (buffer_of r.line) (unpacked ls))) in
      let size : length (recut_of m.fields bs).words ≡ length m.fields =
      ap length (recut_words m.fields bs (omega arith)) ∙ length_noted (places_from 0 0 bs) m.fields 0 in
      put_behind m (recut_of m.fields bs).words (buffer_of r.line) t size (recut_fits m.fields bs small) (buffer_above r.line) tb

  line_at_place : InPlace (line_of m r.line t)
  unfolding line_of
  line_at_place = buffered r.line (length t) _ tl

  sets_line : (ks : List ℕ) → FieldSet m r s v b z (store_field s v (0 ∷ ks)) (line_set m r t)
  unfolding store_field line_set
  sets_line ks =
      let fs : List (List ℕ) = fields_from [] t in
      let on : Did = relined (after_line m r.line t) r (line_of m r.line t) in
      let d : line_set m r t ≡ pick (ltb 16448 (length fs)) (says (Refuse 8) m r) on =
      ap (λ x. pick x (says (Refuse 7) m r) (pick (ltb 16448 (length fs)) (says (Refuse 8) m r) on)) (le-ltb 65535 (length t) (omega (arith, tl))) in
      elim (cases_lt 16448 (length fs)) [
        | inl f ↦ fields_heavy (with_line s t fs) (d ∙ ap (λ x. pick x (says (Refuse 8) m r) on) (lt-ltb 16448 (length fs) f)) refl (fields_weigh (with_line s t fs) f)
        | inr f ↦
            set_by (after_line m r.line t) (line_of m r.line t) t fs (got v (with_line s t fs)) (line_set m r t) line_behind
            (d ∙ ap (λ x. pick x (says (Refuse 8) m r) on) (le-ltb 16448 (length fs) f)) refl (line_right m r.line t h.waits.sound tb tl f) line_at_place
      ]

  -- $n

  module _ (k : ℕ) (ks : List ℕ) (few : suc k ≤ 1000) where
    abbrev gs : List (List ℕ)
    gs = set_part 1001 s.parts (suc k) t

    abbrev l₁ : Line
    l₁ = line_at (buffer_of r.line) (length (joined gs)) (length gs)

    abbrev now : Got
    now = store_field s v (suc k ∷ ks)

    is_built : short (joined gs) ≡ true → BuiltSo m r.line (suc k) t gs → FieldSet m r s v b z now (nth_set m r (suc k) t)
    unfolding store_field nth_set after_set
    is_built e x =
        let q : Parts = after_built m r.line (suc k) (length t) in
        let a : after_set m r.line (suc k) t ≡ filled q l₁ (suc k) t = ap (λ o. filled_if o q (suc k) t) x.told in
        set_by (filled q l₁ (suc k) t) l₁ (joined gs) gs now (nth_set m r (suc k) t)
        (behind_trans m q (filled q l₁ (suc k) t) (built_behind m r.line (suc k) (length t)) (filled_behind q l₁ (suc k) t (buffer_above r.line) (omega (arith, buffer_below r.line)) tb))
        (ap (λ p. nth_set_by m r p (built m r.line (suc k) (length t))) a ∙ ap (nth_set_by m r (filled q l₁ (suc k) t)) x.told)
        (ap (λ y. pick y (got v (with_line s (joined gs) gs)) (left (wrong 7 s))) e)
        x.holds (buffered r.line (length (joined gs)) (length gs) (ltb-true (length (joined gs)) 65536 e))

    is_refused : short (joined gs) ≡ false → RefusedSo m r.line (suc k) t → FieldSet m r s v b z now (nth_set m r (suc k) t)
    unfolding store_field nth_set
    is_refused e x =
        line_is_long (ap (nth_set_by m r (after_set m r.line (suc k) t)) x.told) (ap (λ y. pick y (got v (with_line s (joined gs) gs)) (left (wrong 7 s))) e)

    sets_nth : FieldSet m r s v b z now (nth_set m r (suc k) t)
    sets_nth =
        let y = build_says m r.line s.line s.parts (suc k) t h.waits.sound h.current.holds h.current.in_place (omega arith) few tb in
        elim (cases_Bool (short (joined gs))) [
          | inl e ↦ is_built e (subst (BuildSays m r.line (suc k) t gs) e y)
          | inr e ↦ is_refused e (subst (BuildSays m r.line (suc k) t gs) e y)
        ]

  -- by its number

  sets_by : (ks : List ℕ) → ((k : ℕ) (js : List ℕ) → ks ≡ k ∷ js → k ≤ 1000) → FieldSet m r s v b z (store_field s v ks) (field_set_by m r t ks)
  unfolding store_field
  sets_by [] f = no_such_field refl refl
  sets_by (zero ∷ ks) f = sets_line ks
  sets_by (suc k ∷ ks) f =
      subst (FieldSet m r s v b z (store_field s v (suc k ∷ ks))) (sym (ap (λ y. pick y (line_set m r t) (nth_set m r (suc k) t)) (ne_eqb (suc k) 0 (λ e. omega arith)))) (sets_nth k ks (f (suc k) ks refl))

-- fields are numbered up to 1,000

abbrev first_of : List ℕ → ℕ
first_of [] = 0
first_of (k ∷ ks) = k

field_few : (x : Value) → first_of (field_number x) ≤ 1000
unfolding field_number
field_few (plus n) = elim (cases_Bool (leb n 1000)) [ inl e ↦ rw e (leb-true n 1000 e) | inr e ↦ rw e (omega arith) ]
field_few (minus n) = omega arith
field_few (text b) = omega arith

pub fields_set : (m : Parts) (r : Registers) (s : State) (v x : Value) (b : List ℕ) (z : Bool) → WithinLine m r s.line s.parts s.lines b z → invariants.Sound v →
    FieldSet m r s v b z (store_field s v (field_number x)) (field_set_by m r (as_text v) (field_number x))
fields_set m r s v x b z h a = sets_by m r s v b z h a (field_number x) (λ k ks e. omega (arith, field_few x, ap first_of e))
