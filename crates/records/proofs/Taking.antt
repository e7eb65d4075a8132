-- A piece is taken in behind what waits; the end is told.
use Rattle.std.proofs.Common.{◌≡◌, ℕ, zero, suc, ◌+◌, ◌-◌, ◌<◌, ◌≤◌, min, Bool, true, false, ltb, leb, ◌⊎◌, List, [], ◌∷◌, ◌++◌, length, get_or, take, drop, sym, refl, ap, ◌∙◌, subst, inl, inr, append_assoc, append-nil, arith, length-append, take-append-drop, length-take}
use Rattle.std.proofs.lemmas.List.{take_all, take-append-le, nil_from_length}
use Rattle.std.proofs.lemmas.Bool.{ltb-true, leb-true, cases_lt, and_parts}
use Rattle.language.specs.Text.{pick, has, every}
use Rattle.language.specs.Meaning.{State, short}
use Rattle.language.specs.Run.{a_row}
use Rattle.semantics.specs.Code.{Entries}
use Rattle.semantics.specs.Lines.{Now, steps, ends, waits, cut_line, live_take, live_after, first_stage, line_stage, last_stage}
use Rattle.semantics.specs.Lines as runs
use Rattle.store.specs.Words.{put_bytes}
use Rattle.store.proofs.Putting.{length_puts, puts_none, puts_fits}
use Rattle.store.proofs.Moving.{window_below}
use Rattle.regions.specs.Parts.{Parts, with_lines}
use Rattle.lines.specs.declared.input.Input.{Input}
use Rattle.lines.specs.Fields.{Sound}
use Rattle.lines.specs.Laws.{ScannedSo, TakenIn}
use Rattle.lines.specs.Scanning.{waiting, that_fits, taken_lines, after_taken, input_of}
use Rattle.lines.proofs.Passing.{window_length}
use Rattle.lines.proofs.Holding.{taken_in}
use Rattle.interp.specs.declared.registers.Registers.{Registers}
use Rattle.engine.specs.Scenes.{piece_taken, end_told}
use Rattle.records.specs.Records.{InWords, TooLong, BetweenLines}
use Rattle.records.proofs.Lines.{cut_whole, first_end, has_front}
use Rattle.records.proofs.Keeping.{current_kept}

-- where the abstract machine waits no line has ended

abbrev is_steps : Now → ℕ
is_steps (steps x) = 1
is_steps (waits s) = 0
is_steps (ends w) = 2

line_steps : (t : Bool) (x y : runs.Live) (s : State) → pick t (steps x) (steps y) ≡ waits s → ⊥
line_steps true x y s e = let q : ◌≡◌ {A = ℕ} 1 0 = ap is_steps e in omega arith
line_steps false x y s e = let q : ◌≡◌ {A = ℕ} 1 0 = ap is_steps e in omega arith

take_waits : (e : Entries) (z : Bool) (s t : State) (b : List ℕ) → live_take e z s (cut_line [] b) ≡ waits t → has b 10 ≡ false
take_waits e z s t b q =
    elim (first_end b) [
      | inl y ↦
          absurd (line_steps (short y.line) _ _ t
          (sym (ap (λ x. live_take e z s (cut_line [] x)) y.split ∙ ap (live_take e z s) (cut_whole y.line y.rest y.none)) ∙ q))
      | inr y ↦ y
    ]

pub waits_none : (e : Entries) (g : runs.Stage) (z : Bool) (s t : State) (b : List ℕ) → live_after e g b z s ≡ waits t → has b 10 ≡ false
waits_none e first_stage z s t b q = take_waits e z s t b q
waits_none e line_stage z s t b q = take_waits e z s t b q
waits_none e last_stage z s t b q = absurd (let c : ◌≡◌ {A = ℕ} 1 0 = ap is_steps q in omega arith)

-- bytes are below 256

pub row_bytes : (q : List ℕ) → every (λ b. ltb b 256) q ≡ true → (k : ℕ) → get_or q k 0 < 256
row_bytes [] h k = omega arith
row_bytes (x ∷ q) h zero = ltb-true x 256 (and_parts (ltb x 256) (every (λ b. ltb b 256) q) h).0
row_bytes (x ∷ q) h (suc k) = row_bytes q (and_parts (ltb x 256) (every (λ b. ltb b 256) q) h).1 k

front_bytes : (n : ℕ) (q : List ℕ) → ((k : ℕ) → get_or q k 0 < 256) → (k : ℕ) → get_or (take n q) k 0 < 256
front_bytes zero q h k = omega arith
front_bytes (suc n) [] h k = omega arith
front_bytes (suc n) (x ∷ q) h zero = h 0
front_bytes (suc n) (x ∷ q) h (suc k) = front_bytes n q (λ j. h (suc j)) k

module _ (m : Parts) (r : Registers) (l : List ℕ) (fs : List (List ℕ)) (n : ℕ) (b q : List ℕ) (z : Bool) (h : BetweenLines m r l fs n b z) (none : has b 10 ≡ false) (row : a_row q ≡ true) where
  abbrev i : Input
  i = r.input

  abbrev w : List ℕ
  w = waiting i m.lines

  -- what has room
  abbrev q₁ : List ℕ
  q₁ = that_fits w q

  k : Sound m
  k = h.waits.sound

  all_or : (w ≡ b) ⊎ TooLong w b
  all_or = subst (λ x. (x ≡ b) ⊎ TooLong x b) (sym h.waits.are) h.waits.whole

  small : length w ≤ 69632
  small = omega (arith, window_length i.from (i.to - i.from) m.lines k.lines_room, h.waits.order, h.waits.inside)

  q_small : length q ≤ 4096
  q_small = leb-true (length q) 4096 (and_parts (leb (length q) 4096) (every (λ x. ltb x 256) q) row).0

  room : length q₁ ≡ min (69632 - length w) (length q)
  room = length-take (69632 - length w) q

  again : that_fits w q₁ ≡ q₁
  again = take_all (69632 - length w) q₁ (omega (arith, room))

  lines_same : taken_lines m.lines w q₁ ≡ taken_lines m.lines w q
  unfolding taken_lines
  lines_same = ap (put_bytes (put_bytes m.lines 0 w) (length w)) again

  input_same : after_taken i w q₁ ≡ after_taken i w q
  unfolding after_taken
  input_same = ap (λ x. input_of 0 (length w + length x) i.cut i.ended) again

  input_is : after_taken i w q ≡ input_of 0 (length w + length q₁) i.cut i.ended
  unfolding after_taken
  input_is = refl

  lines_size : length (taken_lines m.lines w q) ≡ 25088
  unfolding taken_lines
  lines_size = length_puts (put_bytes m.lines 0 w) (length w) q₁ ∙ length_puts m.lines 0 w ∙ k.lines_room

  in_piece : (j : ℕ) → get_or q₁ j 0 < 256
  in_piece = front_bytes (69632 - length w) q (row_bytes q (and_parts (leb (length q) 4096) (every (λ x. ltb x 256) q) row).1)

  lines_words : InWords (taken_lines m.lines w q)
  unfolding taken_lines
  lines_words = puts_fits (put_bytes m.lines 0 w) (length w) q₁ (puts_fits m.lines 0 w h.waits.in_lines (window_below i.from (i.to - i.from) m.lines)) in_piece

  taken : TakenIn m i w q₁
  taken =
      taken_in m i q₁ k in_piece (omega (arith, room, small))
      (subst (λ x. ScannedSo x m i.cut) (sym h.waits.are) h.waits.seen)

  -- all of it, or a line that is too long
  whole : (w ++ q₁ ≡ b ++ q) ⊎ TooLong (w ++ q₁) (b ++ q)
  whole =
      elim all_or [
        | inl e ↦
            elim (cases_lt (length w + length q) 69633) [
              | inl s ↦ inl (ap (λ x. x ++ q₁) e ∙ ap (λ x. b ++ x) (take_all (69632 - length w) q (omega arith)))
              | inr s ↦
                  inr
                  (record {
                    more = drop (69632 - length w) q;
                    split = ap (λ x. x ++ q) (sym e) ∙ ap (λ x. w ++ x) (sym (take-append-drop (69632 - length w) q)) ∙ sym (append_assoc w q₁ (drop (69632 - length w) q));
                    full = omega (arith, length-append w q₁, room, small);
                    none = ap (λ x. has x 10) (take-append-le 65536 w q₁ (omega (arith, q_small))) ∙ has_front 65536 w (ap (λ x. has x 10) e ∙ none);
                  })
            ]
        | inr t ↦
            let e : w ++ q₁ ≡ w = ap (λ x. w ++ x) (nil_from_length q₁ (omega (arith, room, t.full))) ∙ append-nil w in
            subst (λ x. (x ≡ b ++ q) ⊎ TooLong x (b ++ q)) (sym e)
            (inr (record { more = t.more ++ q; split = ap (λ x. x ++ q) t.split ∙ append_assoc w t.more q; full = t.full; none = t.none }))
      ]

  -- where nothing waits and nothing comes, the lines are as they were
  lines_kept : b ++ q ≡ [] → taken_lines m.lines w q ≡ m.lines
  unfolding taken_lines
  lines_kept e =
      let a = length-append b q in
      let nb : length b ≡ 0 = omega (arith, ap length e) in
      let nq : length q ≡ 0 = omega (arith, ap length e) in
      let wn : w ≡ [] = elim all_or [ inl x ↦ nil_from_length w (ap length x ∙ nb) | inr t ↦ absurd (omega (arith, t.full, nb, ap length t.split, length-append w t.more)) ] in
      let qn : q₁ ≡ [] = nil_from_length q₁ (omega (arith, room, nq)) in
      ap (put_bytes (put_bytes m.lines 0 w) (length w)) qn ∙ puts_none (put_bytes m.lines 0 w) (length w) ∙ ap (put_bytes m.lines 0) wn ∙ puts_none m.lines 0

  pub piece_comes : BetweenLines (piece_taken q m r).mem (piece_taken q m r).regs l fs n (b ++ q) z
  piece_comes =
      record {
        current = λ e. current_kept m r (piece_taken q m r).mem (piece_taken q m r).regs l fs refl (lines_kept e) refl
            (h.current (nil_from_length b (omega (arith, length-append b q, ap length e))));
        in_place = h.in_place;
        few_fields = h.few_fields;
        count = h.count;
        waits =
            record {
              sound = record { fields_room = k.fields_room; lines_room = lines_size };
              held = w ++ q₁;
              are = ap (λ x. waiting x (taken_lines m.lines w q)) (sym input_same) ∙ ap (waiting (after_taken i w q₁)) (sym lines_same) ∙ taken.waits;
              whole = whole;
              seen =
                  subst (λ x. ScannedSo (w ++ q₁) (with_lines m (taken_lines m.lines w q)) x.cut) input_same
                  (subst (λ x. ScannedSo (w ++ q₁) (with_lines m x) (after_taken i w q₁).cut) lines_same taken.ready);
              end = ap (λ x. x.ended) input_is ∙ h.waits.end;
              order = subst (λ x. x.from ≤ x.to) (sym input_is) (omega arith);
              inside = subst (λ x. x.to ≤ 69632) (sym input_is) (omega (arith, room, small));
              in_fields = h.waits.in_fields;
              in_lines = lines_words;
            };
      }

pub end_comes : (m : Parts) (r : Registers) (l : List ℕ) (fs : List (List ℕ)) (n : ℕ) (b : List ℕ) (z : Bool) → BetweenLines m r l fs n b z →
    BetweenLines (end_told m r).mem (end_told m r).regs l fs n b true
end_comes m r l fs n b z h =
    record {
      current = λ e. current_kept m r m (end_told m r).regs l fs refl refl refl (h.current e);
      in_place = h.in_place;
      few_fields = h.few_fields;
      count = h.count;
      waits =
          record {
            sound = h.waits.sound;
            held = h.waits.held;
            are = h.waits.are;
            whole = h.waits.whole;
            seen = h.waits.seen;
            end = refl;
            order = h.waits.order;
            inside = h.waits.inside;
            in_fields = h.waits.in_fields;
            in_lines = h.waits.in_lines;
          };
    }
