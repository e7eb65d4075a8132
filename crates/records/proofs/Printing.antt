-- A print puts into the row what has room, and the rest goes into the next ones.
use Rattle.std.proofs.Common.{◌≡◌, ℕ, zero, suc, ◌+◌, ◌-◌, ◌<◌, ◌≤◌, min, Bool, true, false, eqb, ltb, leb, List, [], ◌∷◌, ◌++◌, length, get_or, take, drop, Some, None, Option, sym, refl, ap, ◌∙◌, subst, inl, inr, arith, length-append, length-drop, take-append-drop, length-take, drop-drop}
use Rattle.std.proofs.lemmas.List.{take_all}
use Rattle.std.proofs.lemmas.Bool.{lt-ltb, le-ltb, ne_eqb, le-leb, lt-leb, leb-true, leb-false, and_parts, and_from, cases_lt}
use Rattle.language.specs.Text.{pick, Value, every, each, as_text, joined}
use Rattle.language.specs.Meaning.{printed}
use Rattle.language.specs.Run.{a_row}
use Rattle.semantics.specs.Invariants.{All, all_none, all_more, Sound, SoundText}
use Rattle.semantics.proofs.Sound.{bytes_both, joined_bytes, sound_as_text}
use Rattle.store.specs.Words.{window}
use Rattle.store.proofs.Moving.{window_below}
use Rattle.regions.specs.Parts.{Parts, with_registers, with_texts}
use Rattle.store.specs.declared.cells.Value.TheVariants.{Unset}
use Rattle.store.specs.Values.{decoded}
use Rattle.rows.specs.Rows.{run, worths, fitting, went}
use Rattle.interp.specs.Outcomes.{On}
use Rattle.interp.specs.declared.registers.Registers.{Registers}
use Rattle.interp.specs.Registers.{rested}
use Rattle.interp.specs.Turns.{Did, says, releasing}
use Rattle.engine.specs.Prints.{few, print_of, with_print, advanced, released, print_parts, print_regs, printed_so, line_text, values_text, line_printed, values_printed, pending_text, pending_left, resumed}
use Rattle.engine.specs.Scenes.{with_room}
use Rattle.records.specs.Prints.{InBytes, left_of, Pending, RowSo, Prints, is_out, goes_on, Resumes, once_out, once_out_regs}

-- bytes of a part

bytes_front : (n : ℕ) (xs : List ℕ) → InBytes xs → InBytes (take n xs)
bytes_front zero xs h = refl
bytes_front (suc n) [] h = refl
bytes_front (suc n) (x ∷ xs) h =
    let p = and_parts (ltb x 256) (every (λ c. ltb c 256) xs) h in and_from (ltb x 256) (every (λ c. ltb c 256) (take n xs)) p.0 (bytes_front n xs p.1)

bytes_back : (n : ℕ) (xs : List ℕ) → InBytes xs → InBytes (drop n xs)
bytes_back zero xs h = h
bytes_back (suc n) [] h = refl
bytes_back (suc n) (x ∷ xs) h = bytes_back n xs (and_parts (ltb x 256) (every (λ c. ltb c 256) xs) h).1

all_bytes : (xs : List ℕ) → ((k : ℕ) → get_or xs k 0 < 256) → InBytes xs
all_bytes [] h = refl
all_bytes (x ∷ xs) h = and_from (ltb x 256) (every (λ c. ltb c 256) xs) (lt-ltb x 256 (h 0)) (all_bytes xs (λ k. h (suc k)))

-- a print goes on from byte `out` of its text: all of the rest has room, or it fills the row

module _ (m : Parts) (r : Registers) (n : ℕ) (text : List ℕ) (out : ℕ) (row : List ℕ) (used : r.used ≡ length row) (room : length row < 4096) (in_row : InBytes row) (in_text : InBytes (drop out text)) (few_n : n ≤ 16416) where
  abbrev t : List ℕ
  t = drop out text

  abbrev put : List ℕ
  put = with_room r.used (Some t)

  rest_size : length t ≡ length text - out
  rest_size = length-drop out text

  put_size : length put ≡ min (4096 - r.used) (length t)
  put_size = length-take (4096 - r.used) t

  in_put : InBytes (row ++ put)
  in_put = bytes_both row put in_row (bytes_front (4096 - r.used) t in_text)

  ends_here : length t ≤ 4096 - r.used → Prints m r n row t (printed_so m r n (went text out r.used))
  unfolding went print_parts print_regs pending_left
  ends_here h =
      let fin : leb (length text) (out + fitting text out r.used) ≡ true = le-leb (length text) (out + fitting text out r.used) (omega (arith, rest_size)) in
      let fit : r.used + fitting text out r.used ≡ r.used + length t = omega (arith, rest_size) in
      let r₁ : ℕ → Registers = λ k. with_print r (r.depth - n) (print_of 0 0) k in
      let same : put ≡ t = take_all (4096 - r.used) t h in
      is_out
      (ap (λ x. says On (pick x (released m r.depth n) m) (pick x (r₁ (r.used + fitting text out r.used)) (with_print r r.depth (print_of n (out + fitting text out r.used)) (r.used + fitting text out r.used)))) fin
      ∙ ap (λ x. says On (released m r.depth n) (r₁ x)) fit)
      same
      (record {
        pending = record { is = refl; none = λ e. refl; in_bytes = refl; few_values = omega arith; part = omega arith };
        used = omega (arith, used, length-append row put, ap length same);
        room = omega (arith, used, length-append row put, put_size);
        in_bytes = in_put;
        full = inl refl;
      })

  goes_further : 4096 - r.used < length t → ((k : ℕ) → pending_text m (with_print r r.depth (print_of n k) 4096) ≡ text) → Prints m r n row t (printed_so m r n (went text out r.used))
  unfolding went print_parts print_regs pending_left
  goes_further h is =
      let fin : leb (length text) (out + fitting text out r.used) ≡ false = lt-leb (length text) (out + fitting text out r.used) (omega (arith, rest_size)) in
      let fit : r.used + fitting text out r.used ≡ 4096 = omega (arith, rest_size, used) in
      let k : ℕ = out + fitting text out r.used in
      let r₁ : ℕ → Registers = λ x. with_print r r.depth (print_of n k) x in
      let u : List ℕ = drop (4096 - r.used) t in
      let ul : length u ≡ length t - (4096 - r.used) = length-drop (4096 - r.used) t in
      let more : u ≡ [] → ⊥ = λ e. omega (arith, ap length e) in
      let some : 0 < k = omega (arith, rest_size, used) in
      let at : out + (4096 - r.used) ≡ k = omega (arith, rest_size) in
      goes_on k u
      (ap (λ x. says On (pick x (released m r.depth n) m) (pick x (with_print r (r.depth - n) (print_of 0 0) (r.used + fitting text out r.used)) (r₁ (r.used + fitting text out r.used)))) fin
      ∙ ap (λ x. says On m (r₁ x)) fit)
      some (take-append-drop (4096 - r.used) t) more
      (record {
        pending =
            record {
              is =
                  ap (λ x. left_of (pick x (Some (drop k (pending_text m (r₁ 4096)))) None)) (lt-ltb 0 k some)
                  ∙ ap (drop k) (is k) ∙ ap (λ x. drop x text) (sym at) ∙ sym (drop-drop (4096 - r.used) out text);
              none = λ e. absurd (more e);
              in_bytes = bytes_back (4096 - r.used) t in_text;
              few_values = few_n;
              part = subst (λ x. k ≤ length x) (sym (is k)) (omega (arith, rest_size));
            };
        used = omega (arith, used, length-append row put, put_size);
        room = omega (arith, used, length-append row put, put_size);
        in_bytes = in_put;
        full = inr (omega (arith, used, length-append row put, put_size));
      })

  pub prints_so : (4096 - r.used < length t → (k : ℕ) → pending_text m (with_print r r.depth (print_of n k) 4096) ≡ text) → Prints m r n row t (printed_so m r n (went text out r.used))
  prints_so is = elim (cases_lt (4096 - r.used) (length t)) [ inl h ↦ goes_further h (is h) | inr h ↦ ends_here h ]

-- the line

pub line_prints : (m : Parts) (r : Registers) (row : List ℕ) → RowSo m r row [] → r.used < 4096 → Prints m (advanced r) 0 row (line_text m r) (line_printed m r)
unfolding line_printed pending_text
line_prints m r row h l =
    prints_so m (advanced r) 0 (line_text m r) 0 row h.used (omega (arith, h.used)) h.in_bytes
    (bytes_both (window r.line.place.start r.line.place.len m.lines) (10 ∷ []) (all_bytes (window r.line.place.start r.line.place.len m.lines) (window_below r.line.place.start r.line.place.len m.lines)) refl) (omega arith) (λ x k. refl)

-- values

few_same : (n : ℕ) → n ≤ 16416 → few n ≡ n
few_same n h = omega arith

-- of no values it is one byte
none_short : (m : Parts) (r : Registers) → length (values_text m r 0) ≡ 1
unfolding worths run joined
none_short m r = refl

values_pending : (m : Parts) (r : Registers) (n k : ℕ) → 1 ≤ n → n ≤ 16416 → pending_text m (with_print r r.depth (print_of n k) 4096) ≡ values_text m r n
unfolding pending_text
values_pending m r n k h l =
    ap (λ x. pick x (line_text m r) (values_text m r (few n))) (ne_eqb (few n) 0 (λ e. omega arith)) ∙ ap (values_text m r) (few_same n l)

pub values_print : (m : Parts) (r : Registers) (n : ℕ) (row : List ℕ) → n ≤ 16416 → InBytes (values_text m r n) → RowSo m r row [] → r.used < 4096 →
    Prints m (advanced r) n row (values_text m r n) (values_printed m r n)
unfolding values_printed
values_print m r zero row f b h l =
    prints_so m (advanced r) 0 (values_text m r 0) 0 row h.used (omega (arith, h.used)) h.in_bytes b f (λ x k. absurd (omega (arith, none_short m r)))
values_print m r (suc n) row f b h l =
    prints_so m (advanced r) (suc n) (values_text m r (suc n)) 0 row h.used (omega (arith, h.used)) h.in_bytes b f (λ x k. values_pending m (advanced r) (suc n) k (omega arith) f)

each_sound : (vs : List Value) → All Sound vs → All SoundText (each as_text vs)
each_sound [] all_none = all_none
each_sound (v ∷ vs) (all_more a rest) = all_more (sound_as_text a) (each_sound vs rest)

pub printed_sound : (vs : List Value) → All Sound vs → InBytes (printed vs)
printed_sound vs a = bytes_both (joined (each as_text vs)) (10 ∷ []) (joined_bytes (each as_text vs) (each_sound vs a)) refl

-- the next step

pub print_rests : (m : Parts) (r : Registers) (row u ws : List ℕ) → RowSo m r row u → Pending (with_registers m ws) (rested r) u
unfolding pending_left pending_text worths
print_rests m r row u ws h =
    record { is = h.pending.is; none = h.pending.none; in_bytes = h.pending.in_bytes; few_values = h.pending.few_values; part = h.pending.part }

left_none : (m : Parts) (r : Registers) → r.print.out ≡ 0 → pending_left m r ≡ None
unfolding pending_left
left_none m r e = ap (λ x. pick x (Some (drop r.print.out (pending_text m r))) None) (le-ltb 0 r.print.out (omega arith))

pub print_begins : (m : Parts) (r : Registers) → Pending m r [] → r.used ≡ 0 → RowSo m r [] []
print_begins m r h e = record { pending = h; used = e; room = omega arith; in_bytes = refl; full = inl refl }

-- a text that is left is the same for registers with the same print
text_same : (m : Parts) (r : Registers) (k : ℕ) → pending_text m (with_print r r.depth (print_of (few r.print.values) k) 4096) ≡ pending_text m r
unfolding pending_text
text_same m r k =
    let e : few (few r.print.values) ≡ few r.print.values = omega arith in
    ap (λ x. pick (eqb x 0) (line_text m r) (values_text m r x)) e

pub print_resumes : (m : Parts) (r : Registers) (u : List ℕ) → Pending m r u → r.used ≡ 0 → Resumes m r u
unfolding resumed pending_left
print_resumes m r u h e =
    elim (cases_lt 0 r.print.out) [
      | inl o ↦
          let text : List ℕ = pending_text m r in
          let t : List ℕ = drop r.print.out text in
          let f : ltb 0 r.print.out ≡ true = lt-ltb 0 r.print.out o in
          let is : pending_left m r ≡ Some t = ap (λ x. pick x (Some t) None) f in
          let q : t ≡ u = ap left_of (sym is) ∙ h.is in
          let d : resumed m r ≡ printed_so m r (few r.print.values) (went text r.print.out r.used) =
          ap (λ x. pick x (printed_so m r (few r.print.values) (went text r.print.out r.used)) (says On m r)) f in
          inr (
            is ∙ ap Some q,
            subst (Prints m r (few r.print.values) [] u) (sym d)
                (subst (λ x. Prints m r (few r.print.values) [] x (printed_so m r (few r.print.values) (went text r.print.out r.used))) q
                (prints_so m r (few r.print.values) text r.print.out [] e (omega arith) refl (subst InBytes (sym q) h.in_bytes) (omega arith) (λ x k. text_same m r k))),
          )
      | inr o ↦
          let z : r.print.out ≡ 0 = omega arith in
          let n : pending_left m r ≡ None = left_none m r z in
          let q : u ≡ [] = sym h.is ∙ ap left_of n in
          inl (
            q,
            n,
            ap (λ x. pick x (printed_so m r (few r.print.values) (went (pending_text m r) r.print.out r.used)) (says On m r)) (le-ltb 0 r.print.out o),
            print_begins m r (subst (Pending m r) q h) e,
          )
    ]

-- rows

pub print_kept : (m : Parts) (r : Registers) (m₁ : Parts) (r₁ : Registers) (row : List ℕ) → RowSo m r row [] → r₁.print ≡ r.print → r₁.used ≡ r.used → RowSo m₁ r₁ row []
print_kept m r m₁ r₁ row h p u =
    let z : r₁.print.out ≡ 0 = ap (λ x. x.out) p ∙ h.pending.none refl in
    record {
      pending =
          record {
            is = ap left_of (left_none m₁ r₁ z);
            none = λ e. z;
            in_bytes = refl;
            few_values = subst (λ x. x.values ≤ 16416) (sym p) h.pending.few_values;
            part = omega arith;
          };
      used = u ∙ h.used;
      room = h.room;
      in_bytes = h.in_bytes;
      full = inl refl;
    }

pub row_ripe : (m : Parts) (r : Registers) (row u : List ℕ) → RowSo m r row u → leb 4096 r.used ≡ true → row ≡ [] → ⊥
row_ripe m r row u h e q = omega (arith, leb-true 4096 r.used e, h.used, ap length q)

pub row_unripe : (m : Parts) (r : Registers) (row u : List ℕ) → RowSo m r row u → leb 4096 r.used ≡ false → (u ≡ []) × (r.used < 4096)
row_unripe m r row u h e =
    let l : r.used < 4096 = leb-false 4096 r.used e in
    (elim h.full [ inl q ↦ q | inr q ↦ absurd (omega (arith, h.used)) ], l)

pub row_is : (m : Parts) (r : Registers) (row u : List ℕ) → RowSo m r row u → a_row row ≡ true
row_is m r row u h = and_from (leb (length row) 4096) (every (λ c. ltb c 256) row) (le-leb (length row) 4096 h.room) h.in_bytes

pub row_empty : (m : Parts) (r : Registers) (row u : List ℕ) → RowSo m r row u → row ≡ [] → u ≡ []
row_empty m r row u h e = elim h.full [ inl q ↦ q | inr q ↦ absurd (omega (arith, ap length e)) ]

-- ONCE IT IS OUT

released_registers : (m : Parts) (depth n : ℕ) (ws : List ℕ) → released (with_registers m ws) depth n ≡ with_registers (released m depth n) ws
unfolding released
released_registers m depth zero ws = refl
released_registers m depth (suc n) ws = released_registers (releasing m (get_or (decoded m.stack) (depth - 1) Unset)) (depth - 1) n ws

released_texts : (m : Parts) (depth n : ℕ) → released m depth n ≡ with_texts m (released m depth n).texts
unfolding released
released_texts m depth zero = refl
released_texts m depth (suc n) = released_texts (releasing m (get_or (decoded m.stack) (depth - 1) Unset)) (depth - 1) n

out_some : (m : Parts) (r : Registers) → 0 < r.print.out →
    (once_out m r ≡ released m r.depth (few r.print.values)) × (once_out_regs r ≡ with_print r (r.depth - few r.print.values) (print_of 0 0) r.used)
out_some m r h =
    let e : ltb 0 r.print.out ≡ true = lt-ltb 0 r.print.out h in (
      ap (λ x. pick x (released m r.depth (few r.print.values)) m) e,
      ap (λ x. pick x (with_print r (r.depth - few r.print.values) (print_of 0 0) r.used) r) e,
    )

pub out_none : (m : Parts) (r : Registers) → r.print.out ≡ 0 → (once_out m r ≡ m) × (once_out_regs r ≡ r)
out_none m r z =
    let e : ltb 0 r.print.out ≡ false = le-ltb 0 r.print.out (omega arith) in (
      ap (λ x. pick x (released m r.depth (few r.print.values)) m) e,
      ap (λ x. pick x (with_print r (r.depth - few r.print.values) (print_of 0 0) r.used) r) e,
    )

pub out_print : (m : Parts) (r : Registers) (n : ℕ) (row t : List ℕ) (d : Did) → n ≤ 16416 → Prints m r n row t d →
    (once_out d.mem d.regs ≡ released m r.depth n) × (once_out_regs d.regs ≡ with_print r (r.depth - n) (print_of 0 0) d.regs.used)
out_print m r n row t d f (is_out q e w) =
    let r₁ : Registers = with_print r (r.depth - n) (print_of 0 0) (r.used + length t) in (
      ap (λ x. once_out x.mem x.regs) q,
      ap (λ x. once_out_regs x.regs) q ∙ ap (λ x. with_print r (r.depth - n) (print_of 0 0) x.regs.used) (sym q),
    )
out_print m r n row t d f (goes_on k u q o e w y) =
    let r₁ : Registers = with_print r r.depth (print_of n k) 4096 in
    let g = out_some m r₁ o in
    let s : few n ≡ n = few_same n f in (
      ap (λ x. once_out x.mem x.regs) q ∙ g.0 ∙ ap (released m r.depth) s,
      ap (λ x. once_out_regs x.regs) q ∙ g.1 ∙ ap (λ x. with_print r (r.depth - x) (print_of 0 0) 4096) s ∙ ap (λ x. with_print r (r.depth - n) (print_of 0 0) x.regs.used) (sym q),
    )

pub out_left : (m : Parts) (r : Registers) (u : List ℕ) → pending_left m r ≡ Some u →
    (once_out m r ≡ released m r.depth (few r.print.values)) × (once_out_regs r ≡ with_print r (r.depth - few r.print.values) (print_of 0 0) r.used)
out_left m r u e =
    elim (cases_lt 0 r.print.out) [
      | inl h ↦ out_some m r h
      | inr h ↦ absurd (let c : ◌≡◌ {A = ℕ} 0 1 = ap is_some (sym (left_none m r (omega arith)) ∙ e) in omega arith)
    ]
  where
    is_some : Option (List ℕ) → ℕ
    is_some None = 0
    is_some (Some b) = 1

pub out_rests : (m : Parts) (r : Registers) (ws : List ℕ) → (once_out (with_registers m ws) (rested r) ≡ with_registers (once_out m r) ws) × (once_out_regs (rested r) ≡ rested (once_out_regs r))
out_rests m r ws = (by (ltb 0 r.print.out), regs (ltb 0 r.print.out))
  where
    n : ℕ
    n = few r.print.values

    by : (t : Bool) → pick t (released (with_registers m ws) r.depth n) (with_registers m ws) ≡ with_registers (pick t (released m r.depth n) m) ws
    by true = released_registers m r.depth n ws
    by false = refl

    regs : (t : Bool) → pick t (with_print (rested r) (r.depth - n) (print_of 0 0) 0) (rested r) ≡ rested (pick t (with_print r (r.depth - n) (print_of 0 0) r.used) r)
    regs true = refl
    regs false = refl

pub out_texts : (m : Parts) (r : Registers) → once_out m r ≡ with_texts m (once_out m r).texts
out_texts m r = by (ltb 0 r.print.out)
  where
    by : (t : Bool) → pick t (released m r.depth (few r.print.values)) m ≡ with_texts m (pick t (released m r.depth (few r.print.values)) m).texts
    by true = released_texts m r.depth (few r.print.values)
    by false = refl
