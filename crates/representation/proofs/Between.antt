-- Between two runs through the code: the next line, the end, a line that is too long, or nothing to be done before more comes.
use Rattle.std.proofs.Common.{◌≡◌, ℕ, zero, suc, ◌+◌, ◌-◌, ◌*◌, ◌<◌, ◌≤◌, Bool, true, false, ltb, ◌⊎◌, List, [], ◌∷◌, ◌++◌, length, take, drop, sym, refl, ap, ◌∙◌, subst, inl, inr, append_assoc, append-nil, mod-eq_of_lt, arith, length-append, le-ltb, lt-ltb}
use Rattle.std.proofs.lemmas.Bool.{ltb-true, ltb-false, true≢false}
use Rattle.language.specs.Text
use Rattle.language.specs.Text.{pick, each, added_up, has, none_of, fields_from}
use Rattle.language.specs.Program.{Program}
use Rattle.language.specs.Meaning.{State, Bind, Went, went, nexted, stopped, given, wrong, unfinished, weight, larger, with_frames, state_of}
use Rattle.language.specs.Run.{refused}
use Rattle.semantics.specs.Stack.{at, off}
use Rattle.semantics.specs.Code.{program_code}
use Rattle.semantics.specs.Code as code
use Rattle.semantics.specs.Lines
use Rattle.semantics.specs.Lines.{first_stage, line_stage, last_stage, fresh, Cut, whole, part, cut_line, Live, live, over, Now, steps, waits, follow, live_out, live_line, live_take, live_after, Goes}
use Rattle.semantics.specs.Engine.{Over, RefusedWith, Stopping}
use Rattle.assembly.specs.Assembly.{Pool, lean_place, pool, entries}
use Rattle.store.specs.declared.cells.Value.{Value}
use Rattle.regions.specs.Parts.{Parts, with_fields}
use Rattle.lines.specs.declared.input.Input.{Input}
use Rattle.lines.specs.Cutting.{cuts_of, fresh_cut, closed_words, pass_all}
use Rattle.lines.specs.Fields.{Sound, LineHolds}
use Rattle.lines.specs.Laws.{ScannedSo, WholeFound, PartFound, ScanSays, LastFound, NoneLeft, LastSays}
use Rattle.lines.specs.Scanning.{Scanned, scan_on, scan_of, after_scan, found_of, waiting, input_of, line_at, last_words, after_last, last_of}
use Rattle.lines.proofs.Holding.{scan_says, last_holds, fresh_so}
use Rattle.lines.proofs.Passing.{window_length}
use Rattle.lines.proofs.Waiting.{after_found, after_part}
use Rattle.interp.specs.Outcomes.{On, Ask, Refuse}
use Rattle.interp.specs.declared.registers.Stage.{Stage}
use Rattle.interp.specs.declared.registers.Stage.TheVariants.{Begin, Lines as ForLines, End}
use Rattle.interp.specs.declared.registers.Registers.{Registers}
use Rattle.interp.specs.Turns.{says}
use Rattle.interp.specs.Jumps.{between}
use Rattle.interp.specs.Between as turns
use Rattle.interp.specs.Between.{opening, closing, with_input, started_regs, started_turn, started, waited_regs, waited_turn, last_started, last_taken, sought, line_sought, next_by, line_next}
use Rattle.representation.specs.Values.{Holds}
use Rattle.representation.specs.Relation.{stage_is, LineSo, Running, Between, Rests, Rep}
use Rattle.representation.specs.Outcomes.{Outcome, Follows}
use Rattle.representation.proofs.Stack.{depth_is}
use Rattle.representation.proofs.Running.{kept_row}
use Rattle.representation.proofs.Rescanning.{rescan, rescan_last}
use Rattle.representation.proofs.Breaks.{cut_past, cut_whole, cut_part, AtLeast, cut_least, has_at}

-- values don't see where fields are
pub refield : {π : Pool} {hand : List Value} {ws : List Text.Value} {m : Parts} {n : ℕ} {us : List Text.Value} {bs : List Bind} (x : List ℕ) → Holds π hand ws m n us bs → Holds π hand ws (with_fields m x) n us bs
refield x H =
    record {
      said = H.said;
      texts = H.texts;
      long = H.long;
      in_hand = H.in_hand;
      on_stack = H.on_stack;
      in_slots = H.in_slots;
      stack_wide = H.stack_wide;
      slots_wide = H.slots_wide;
      deep = H.deep;
      few = H.few;
    }

-- so many fields are more than may be held
many_fields : (ps : List (List ℕ)) → 16 * length ps ≤ added_up (λ p. 16 + length p) ps
many_fields [] = omega arith
many_fields (p ∷ ps) = omega (arith, many_fields ps)

larger_second : (a b : ℕ) → b ≤ larger a b
larger_second a b = by (ltb a b) refl
  where
    by : (t : Bool) → ltb a b ≡ t → b ≤ pick t b a
    by true e = omega arith
    by false e = ltb-false a b e

fresh_heavy : (l : List ℕ) (s : State) → 16448 < length (fields_from [] l) → 262144 < (fresh l s).heavy
unfolding weight
fresh_heavy l s h =
    let S : State = record { vars = s.vars; items = s.items; line = l; parts = fields_from [] l; lines = suc s.lines; frames = []; out = s.out; heavy = s.heavy } in
    omega (arith, larger_second s.heavy (weight S + 0), many_fields (fields_from [] l))

drop_none : {A : Type 0} (n : ℕ) → drop {A = A} n [] ≡ []
drop_none zero = refl
drop_none (suc n) = refl

both_none : {A : Type 0} (xs ys : List A) → xs ++ ys ≡ [] → xs ≡ []
both_none [] ys e = refl
both_none (x ∷ xs) ys e = let o : ◌≡◌ {A = ℕ} 0 1 = cc in absurd (omega arith)

take_none : {A : Type 0} (n : ℕ) → take {A = A} n [] ≡ []
take_none zero = refl
take_none (suc n) = refl

no_bytes : (xs : List ℕ) → none_of xs ≡ true → xs ≡ []
no_bytes [] e = refl
no_bytes (c ∷ xs) e = absurd (true≢false (sym e))

some_bytes : (xs : List ℕ) → none_of xs ≡ false → 0 < length xs
some_bytes [] e = absurd (true≢false e)
some_bytes (c ∷ xs) e = omega arith

some_of : (xs : List ℕ) → 0 < length xs → none_of xs ≡ false
some_of [] h = absurd (omega (arith, h))
some_of (c ∷ xs) h = refl

-- LEAVING THE CODE
module _ (p : Program) (m : Parts) (r : Registers) (g : Lines.Stage) (pc : ℕ) (s : State) (b : List ℕ) (z : Bool) where
  pub leaves_so : Running p m r g pc [] s.vars s.line s.parts s.lines b z → Between p m (between r) g s.vars s.line s.parts s.lines b z
  leaves_so R =
      record {
        loaded = record { code = R.loaded.code; line_at = R.loaded.line_at; end_at = R.loaded.end_at };
        sound = R.sound;
        running = refl;
        stage = R.stage;
        count = R.count;
        empty = refl;
        holds = subst (λ d. Holds (pool p) [] [] m d [] s.vars) (depth_is R.holds) R.holds;
        line = λ e. R.line;
        waits = record { lost = []; all = sym R.waits ∙ sym (append-nil (waiting r.input m.lines)); excuse = inl refl; inside = R.inside; ended = R.ended };
        scanned = subst (λ c. ScannedSo (waiting r.input m.lines) m c) (sym R.unscanned) (fresh_so (waiting r.input m.lines) m R.sound);
      }

-- A LINE IS TAKEN
module _ (p : Program) (m : Parts) (r : Registers) (g : Lines.Stage) (s : State) (b : List ℕ) (z : Bool) (B : Between p m r g s.vars s.line s.parts s.lines b z) (few_lines : s.lines < 18446744073709551615) where
  abbrev i : Input
  i = r.input

  abbrev w : List ℕ
  w = waiting r.input m.lines

  -- the rules for a line begin
  line_runs : (ws : List ℕ) (i₁ : Input) (from : ℕ) (l rest : List ℕ) → length ws ≡ 16448 →
      LineHolds (with_fields m ws) (line_at from (length l) (length (fields_from [] l))) l (fields_from [] l) → from + length l ≤ 69632 → waiting i₁ m.lines ≡ rest → i₁.to ≤ 69632 → i₁.cut ≡ fresh_cut →
      i₁.ended ≡ z →
      Running p (with_fields m ws) (opening r i₁ (line_at from (length l) (length (fields_from [] l)))) line_stage (entries p).at_line [] s.vars l (fields_from [] l) (suc s.lines) rest z
  line_runs ws i₁ from l rest wide L inside e t c d =
      record {
        loaded = record { code = B.loaded.code; line_at = B.loaded.line_at; end_at = B.loaded.end_at };
        sound = record { fields_room = wide; lines_room = B.sound.lines_room };
        running = refl;
        at_pc = B.loaded.line_at;
        stage = refl;
        count = mod-eq_of_lt (omega (arith, B.count)) ∙ omega (arith, B.count);
        holds = subst (λ n. Holds (pool p) [] [] (with_fields m ws) n [] s.vars) (sym B.empty) (refield ws B.holds);
        line = record { holds = L; placed = record { before = λ h. omega arith; within = omega arith } };
        waits = e;
        inside = t;
        unscanned = c;
        ended = d;
      }

  -- nothing waits only if there is nothing
  waits_none : b ≡ [] → w ≡ []
  waits_none e = both_none w B.waits.lost (sym B.waits.all ∙ e)

  -- a first line of at most 65,535 bytes is all there
  all_there : (l rest : List ℕ) → w ≡ l ++ 10 ∷ rest → length l ≤ 65535 → B.waits.lost ≡ []
  all_there l rest e h = by B.waits.excuse
    where
      by : (B.waits.lost ≡ []) ⊎ ((65536 ≤ length w) × (has (take 65536 w) 10 ≡ false)) → B.waits.lost ≡ []
      by (inl x) = x
      by (inr (x, y)) = absurd (true≢false (sym (has_at l rest 65536 (omega (arith, h))) ∙ ap (λ v. has (take 65536 v) 10) (sym e) ∙ y))

  few_there : length w ≤ 65535 → B.waits.lost ≡ []
  few_there h = by B.waits.excuse
    where
      by : (B.waits.lost ≡ []) ⊎ ((65536 ≤ length w) × (has (take 65536 w) 10 ≡ false)) → B.waits.lost ≡ []
      by (inl x) = x
      by (inr (x, y)) = absurd (omega (arith, x, h))

  w_inside : length w ≤ i.to - i.from
  w_inside = omega (arith, window_length i.from (i.to - i.from) m.lines B.sound.lines_room)

  -- memory with other words for the fields, and the scan where it was
  same_scan : (ws : List ℕ) → length ws ≡ 16448 → ScannedSo w (with_fields m ws) i.cut → (w ≡ [] → ws ≡ m.fields) → Between p (with_fields m ws) r g s.vars s.line s.parts s.lines b z
  same_scan ws wide S e =
      record {
        loaded = record { code = B.loaded.code; line_at = B.loaded.line_at; end_at = B.loaded.end_at };
        sound = record { fields_room = wide; lines_room = B.sound.lines_room };
        running = B.running;
        stage = B.stage;
        count = B.count;
        empty = B.empty;
        holds = refield ws B.holds;
        line = λ h. subst (λ v. LineSo (with_fields m v) r.line s.line s.parts) (sym (e (waits_none h))) (B.line h);
        waits = record { lost = B.waits.lost; all = B.waits.all; excuse = B.waits.excuse; inside = B.waits.inside; ended = B.waits.ended };
        scanned = S;
      }

  -- THE RUN, off the code with s, of which this comes next
  module _ (v : Went) (out : (state_of v).out ≡ s.out) (rep : (m₁ : Parts) (r₁ : Registers) → Between p m₁ r₁ g s.vars s.line s.parts s.lines b z → Rep p m₁ r₁ (live g (off v) b z))
      (next : follow p (live g (off v) b z) ≡ live_take (code.entries p) z (with_frames s []) (cut_line [] b)) where
    abbrev x : Live
    x = live g (off v) b z

    abbrev s₁ : State
    s₁ = with_frames s []

    too_long : follow p x ≡ steps (over (wrong 7 s₁) z) → Over p x (live_out x) (RefusedWith 7)
    too_long e = record { k = 1; v = wrong 7 s₁; z = z; goes = (over (wrong 7 s₁) z, e, refl); all = out; fits = refl }

    line_long : (l rest : List ℕ) → 65535 < length l → live_line (code.entries p) z s₁ l rest ≡ steps (over (wrong 7 s₁) z)
    line_long l rest h = ap (λ t. pick t (steps (live line_stage (at (code.entries p).at_line [] (fresh l s₁)) rest z)) (steps (over (wrong 7 s₁) z))) (le-ltb (length l) 65536 (omega (arith, h)))

    line_short : (l rest : List ℕ) → length l ≤ 65535 → live_line (code.entries p) z s₁ l rest ≡ steps (live line_stage (at (code.entries p).at_line [] (fresh l s₁)) rest z)
    line_short l rest h = ap (λ t. pick t (steps (live line_stage (at (code.entries p).at_line [] (fresh l s₁)) rest z)) (steps (over (wrong 7 s₁) z))) (lt-ltb (length l) 65536 (omega (arith, h)))

    -- what comes of a line that was found
    starts : (ws : List ℕ) (i₁ : Input) (from : ℕ) (l rest : List ℕ) → Between p (with_fields m ws) r g s.vars s.line s.parts s.lines b z →
        (65535 < length l → follow p x ≡ steps (over (wrong 7 s₁) z)) →
        (length l ≤ 65535 → follow p x ≡ steps (live line_stage (at (code.entries p).at_line [] (fresh l s₁)) rest z)) →
        (length l ≤ 65535 → length (fields_from [] l) ≤ 16448 →
        Running p (with_fields m ws) (opening r i₁ (line_at from (length l) (length (fields_from [] l)))) line_stage (entries p).at_line [] s.vars l (fields_from [] l) (suc s.lines) rest z) →
        Follows p x r (started (with_fields m ws) r i₁ (line_at from (length l) (length (fields_from [] l))))
    unfolding started_turn started_regs entries
    starts ws i₁ from l rest same long step runs = by (ltb 65535 (length l)) (ltb 16448 (length (fields_from [] l))) refl refl
      where
        by : (t k : Bool) → ltb 65535 (length l) ≡ t → ltb 16448 (length (fields_from [] l)) ≡ k →
            Outcome p x r (with_fields m ws) (pick t r (pick k r (opening r i₁ (line_at from (length l) (length (fields_from [] l)))))) (pick t (Refuse 7) (pick k (Refuse 8) On))
        by true k e f = (rep (with_fields m ws) r same, kept_row r, inl (too_long (long (ltb-true 65535 (length l) e))))
        by false true e f =
            let y = live line_stage (at (code.entries p).at_line [] (fresh l s₁)) rest z in (
              rep (with_fields m ws) r same,
              kept_row r,
              inr (inl (refl, record { k = 1; y = y; goes = (y, step (ltb-false 65535 (length l) e), refl); all = out; heavy = fresh_heavy l s₁ (ltb-true 16448 _ f) })),
            )
        by false false e f =
            let y = live line_stage (at (code.entries p).at_line [] (fresh l s₁)) rest z in
            (0, y, (y, step (ltb-false 65535 (length l) e), refl), sym out, ([], refl, runs (ltb-false 65535 (length l) e) (ltb-false 16448 _ f)), record { print = refl; used = refl })

    -- the scan, and that it may be made again
    abbrev sc : Scanned
    sc = scan_of m i

    words_again : (length sc.cuts.words ≡ 16448) × ScannedSo w (with_fields m sc.cuts.words) i.cut
    unfolding scan_of
    words_again = rescan w m i.cut B.sound.fields_room B.scanned (drop i.cut.at w)

    words_same : w ≡ [] → sc.cuts.words ≡ m.fields
    unfolding scan_of scan_on
    words_same e = ap (λ v. (scan_on (drop i.cut.at v) (cuts_of m.fields i.cut)).cuts.words) e ∙ ap (λ v. (scan_on v (cuts_of m.fields i.cut)).cuts.words) (drop_none i.cut.at)

    scan_kept : Between p (with_fields m sc.cuts.words) r g s.vars s.line s.parts s.lines b z
    scan_kept = same_scan sc.cuts.words words_again.0 words_again.1 words_same

    -- a whole line was found
    whole_found : sc.found ≡ true → WholeFound m i sc → Follows p x r (sought (with_fields m sc.cuts.words) r (after_scan i sc) (found_of i sc))
    whole_found t F =
        let l = F.line in
        let a = after_found i sc t in
        let here : b ≡ l ++ 10 ∷ (F.rest ++ B.waits.lost) = B.waits.all ∙ ap (λ v. v ++ B.waits.lost) F.split ∙ append_assoc l (10 ∷ F.rest) B.waits.lost in
        let cut : cut_line [] b ≡ whole l (F.rest ++ B.waits.lost) = ap (cut_line []) here ∙ cut_whole l (F.rest ++ B.waits.lost) F.none in
        let step : follow p x ≡ live_line (code.entries p) z s₁ l (F.rest ++ B.waits.lost) = next ∙ ap (live_take (code.entries p) z s₁) cut in
        let room : i.from + length l ≤ 69632 = omega (arith, w_inside, ap length F.split, length-append l (10 ∷ F.rest), B.waits.inside) in
        subst (λ f. Follows p x r (sought (with_fields m sc.cuts.words) r (after_scan i sc) f)) (sym F.told)
        (starts sc.cuts.words (after_scan i sc) i.from l (F.rest ++ B.waits.lost) scan_kept (λ h. step ∙ line_long l (F.rest ++ B.waits.lost) h) (λ h. step ∙ line_short l (F.rest ++ B.waits.lost) h)
        (λ h k. line_runs sc.cuts.words (after_scan i sc) i.from l (F.rest ++ B.waits.lost) words_again.0 (F.holds k) room
        (F.waits ∙ sym (ap (λ v. F.rest ++ v) (all_there l F.rest F.split h) ∙ append-nil F.rest))
        (rw a B.waits.inside) F.ready (rw a B.waits.ended)))

    -- THE LINE HAS NOT ENDED
    module _ (t : sc.found ≡ false) (F : PartFound m i sc) where
      abbrev i₁ : Input
      i₁ = after_scan i sc

      abbrev m₁ : Parts
      m₁ = with_fields m sc.cuts.words

      past : cut_line [] b ≡ cut_line w B.waits.lost
      past = ap (cut_line []) B.waits.all ∙ cut_past w B.waits.lost [] F.none

      only_part : B.waits.lost ≡ [] → cut_line [] b ≡ part w
      only_part e = ap (cut_line []) (B.waits.all ∙ ap (λ v. w ++ v) e ∙ append-nil w) ∙ cut_part w F.none

      -- more than 65,535 bytes of it: whatever comes, the line is too long
      part_long : 65535 < length w → (d : Cut) → cut_line w B.waits.lost ≡ d → AtLeast (length w) d → Stopping p x (live_out x) (refused 7)
      part_long h (whole l rest) e k = inl (too_long (next ∙ ap (live_take (code.entries p) z s₁) (past ∙ e) ∙ line_long l rest (omega (arith, h, k))))
      part_long h (part l) e k = by z refl l (omega (arith, h, k)) (past ∙ e) (omega (arith, h, ap length B.waits.all, length-append w B.waits.lost))
        where
          waits_so : (y : Bool) → z ≡ y → y ≡ false → (l : List ℕ) → live_take (code.entries p) z s₁ (part l) ≡ waits s₁
          waits_so y e f l = ap (λ q. live_take (code.entries p) q s₁ (part l)) (e ∙ f)

          last_so : z ≡ true → (l : List ℕ) → 65535 < length l → live_take (code.entries p) z s₁ (part l) ≡ live_line (code.entries p) z s₁ l []
          last_so e [] h = absurd (omega (arith, h))
          last_so e (c ∷ cs) h = subst (λ y. live_take (code.entries p) y s₁ (part (c ∷ cs)) ≡ live_line (code.entries p) y s₁ (c ∷ cs) []) (sym e) refl

          by : (y : Bool) → z ≡ y → (l : List ℕ) → 65535 < length l → cut_line [] b ≡ part l → 65536 ≤ length b → Stopping p x (live_out x) (refused 7)
          by false f l h c n =
              inr (inr (
                refl,
                record {
                  k = 0;
                  y = x;
                  goes = refl;
                  waiting = (s₁, next ∙ ap (live_take (code.entries p) z s₁) c ∙ waits_so false f refl l, refl);
                  long = n;
                },
              ))
          by true f l h c n = inl (too_long (next ∙ ap (live_take (code.entries p) z s₁) c ∙ last_so f l h ∙ line_long l [] h))

      take_last : z ≡ true → (l : List ℕ) → none_of l ≡ false → live_take (code.entries p) z s₁ (part l) ≡ live_line (code.entries p) z s₁ l []
      take_last e [] n = absurd (true≢false n)
      take_last e (c ∷ cs) n = subst (λ y. live_take (code.entries p) y s₁ (part (c ∷ cs)) ≡ live_line (code.entries p) y s₁ (c ∷ cs) []) (sym e) refl

      -- the same for a last line
      last_over : z ≡ true → 65535 < length w → follow p x ≡ steps (over (wrong 7 s₁) z)
      last_over f h = by (cut_line w B.waits.lost) refl (cut_least B.waits.lost w)
        where
          by : (d : Cut) → cut_line w B.waits.lost ≡ d → AtLeast (length w) d → follow p x ≡ steps (over (wrong 7 s₁) z)
          by (whole l rest) e k = next ∙ ap (live_take (code.entries p) z s₁) (past ∙ e) ∙ line_long l rest (omega (arith, h, k))
          by (part l) e k = next ∙ ap (live_take (code.entries p) z s₁) (past ∙ e) ∙ take_last f l (some_of l (omega (arith, h, k))) ∙ line_long l [] (omega (arith, h, k))

      is_long : 65535 < length w → Stopping p x (live_out x) (refused 7)
      is_long h = part_long h (cut_line w B.waits.lost) refl (cut_least B.waits.lost w)

      cut_so : i₁ ≡ input_of i.from i.to sc.cuts.cut i.ended → (scan_on (drop i.cut.at w) (cuts_of m.fields i.cut)).cuts.cut ≡ i₁.cut
      unfolding scan_of
      cut_so e = sym (ap (λ j. j.cut) e)

      words_last : i₁ ≡ input_of i.from i.to sc.cuts.cut i.ended →
          (length (closed_words sc.cuts.words i₁.cut) ≡ 16448) × ScannedSo w (with_fields m (closed_words sc.cuts.words i₁.cut)) i.cut
      unfolding scan_of
      words_last d = rescan_last w m i.cut B.sound.fields_room B.scanned (drop i.cut.at w) i₁.cut (cut_so d)

      how_many : turns.waits i₁ ≡ length w
      how_many = ap turns.waits (after_part i sc t) ∙ sym (window_length i.from (i.to - i.from) m.lines B.sound.lines_room)

      -- more is to come
      waited_so : z ≡ false → Follows p x r (says (waited_turn i₁) m₁ (waited_regs r i₁))
      unfolding waited_turn waited_regs
      waited_so f = rw how_many (by (ltb 65535 (length w)) refl)
        where
          by : (k : Bool) → ltb 65535 (length w) ≡ k → Outcome p x r m₁ (pick k r (with_input r i₁)) (pick k (Refuse 7) Ask)
          by true e = (rep m₁ r scan_kept, kept_row r, is_long (ltb-true 65535 (length w) e))
          by false e =
              let n = few_there (ltb-false 65535 (length w) e) in
              let d = after_part i sc t in (
                rep m₁ (with_input r i₁) (record {
                  loaded = record { code = B.loaded.code; line_at = B.loaded.line_at; end_at = B.loaded.end_at };
                  sound = record { fields_room = words_again.0; lines_room = B.sound.lines_room };
                  running = B.running;
                  stage = B.stage;
                  count = B.count;
                  empty = B.empty;
                  holds = refield sc.cuts.words B.holds;
                  line = scan_kept.line;
                  waits = record {
                    lost = B.waits.lost;
                    all = B.waits.all ∙ ap (λ v. v ++ B.waits.lost) (sym F.waits);
                    excuse = inl n;
                    inside = subst (λ j. j.to ≤ 69632) (sym d) B.waits.inside;
                    ended = ap (λ j. j.ended) d ∙ B.waits.ended;
                  };
                  scanned = subst (λ v. ScannedSo v m₁ i₁.cut) (sym F.waits) F.ready;
                }),
                record { print = refl; used = refl },
                (s₁, next ∙ ap (live_take (code.entries p) z s₁) (only_part n) ∙ ap (λ q. live_take (code.entries p) q s₁ (part w)) f),
              )

      -- THE END WAS TOLD
      sound₁ : Sound m₁
      sound₁ = record { fields_room = words_again.0; lines_room = B.sound.lines_room }

      scanned₁ : ScannedSo (waiting i₁ m₁.lines) m₁ i₁.cut
      scanned₁ = subst (λ v. ScannedSo v m₁ i₁.cut) (sym F.waits) F.ready

      after_none : none_of (waiting i₁ m₁.lines) ≡ true → after_last m₁ i₁ ≡ i₁
      unfolding after_last
      after_none e = rw e

      after_some : none_of (waiting i₁ m₁.lines) ≡ false → after_last m₁ i₁ ≡ input_of (i₁.from + length (waiting i₁ m₁.lines)) i₁.to fresh_cut i₁.ended
      unfolding after_last
      after_some e = rw e

      words_some : none_of (waiting i₁ m₁.lines) ≡ false → last_words m₁ i₁ ≡ closed_words sc.cuts.words i₁.cut
      unfolding last_words
      words_some e = rw e

      unscanned_none : w ≡ [] → i₁.cut ≡ fresh_cut
      unfolding pass_all
      unscanned_none e =
          ap (λ c. c.cut) F.ready.is ∙ ap (λ v. (pass_all (take i₁.cut.at v) (cuts_of F.ready.seed fresh_cut)).cut) e
          ∙ ap (λ v. (pass_all v (cuts_of F.ready.seed fresh_cut)).cut) (take_none i₁.cut.at)

      at_end_of : Running p m₁ (closing r i₁) last_stage (entries p).at_end [] s.vars s.line s.parts s.lines [] true →
          Running p m₁ (closing r i₁) last_stage (lean_place (program_code p) (code.entries p).at_end) [] s.vars s.line s.parts s.lines [] true
      unfolding entries
      at_end_of R = R

      -- nothing is left: the rules for the end
      none_left : z ≡ true → none_of w ≡ true → NoneLeft m₁ i₁ w → Follows p x r (last_started (with_fields m₁ (last_words m₁ i₁)) r (after_last m₁ i₁) (last_of m₁ i₁))
      none_left f n L =
          let e : w ≡ [] = no_bytes w n in
          let none : B.waits.lost ≡ [] = few_there (omega (arith, ap length e)) in
          let nothing : b ≡ [] = B.waits.all ∙ ap (λ v. v ++ B.waits.lost) e ∙ none in
          let y = live last_stage (at (code.entries p).at_end [] s₁) [] true in
          let step : follow p x ≡ steps y
          = next ∙ ap (live_take (code.entries p) z s₁) (only_part none ∙ ap part e) ∙ ap (λ q. live_take (code.entries p) q s₁ (part [])) f in
          let again : after_last m₁ i₁ ≡ i₁ = after_none (ap none_of F.waits ∙ n) in
          let R : Running p m₁ (closing r i₁) last_stage (entries p).at_end [] s.vars s.line s.parts s.lines [] true = record {
            loaded = record { code = B.loaded.code; line_at = B.loaded.line_at; end_at = B.loaded.end_at };
            sound = sound₁;
            running = refl;
            at_pc = B.loaded.end_at;
            stage = refl;
            count = B.count;
            holds = subst (λ k. Holds (pool p) [] [] m₁ k [] s.vars) (sym B.empty) (refield sc.cuts.words B.holds);
            line = scan_kept.line nothing;
            waits = F.waits ∙ e;
            inside = subst (λ j. j.to ≤ 69632) (sym (after_part i sc t)) B.waits.inside;
            unscanned = unscanned_none e;
            ended = ap (λ j. j.ended) (after_part i sc t) ∙ B.waits.ended ∙ f;
          } in
          subst (λ o. Follows p x r (last_started (with_fields m₁ (last_words m₁ i₁)) r (after_last m₁ i₁) o)) (sym L.told)
          (subst (λ ws. Follows p x r (says On (with_fields m₁ ws) (closing r (after_last m₁ i₁)))) (sym L.kept)
          (subst (λ j. Follows p x r (says On m₁ (closing r j))) (sym again) (0, y, (y, step, refl), sym out, ([], refl, at_end_of R), record { print = refl; used = refl })))

      -- a last line is left
      last_left : z ≡ true → none_of w ≡ false → LastFound m₁ i₁ w → Follows p x r (last_started (with_fields m₁ (last_words m₁ i₁)) r (after_last m₁ i₁) (last_of m₁ i₁))
      last_left f n L =
          let e : none_of (waiting i₁ m₁.lines) ≡ false = ap none_of F.waits ∙ n in
          let ws = last_words m₁ i₁ in
          let d = after_part i sc t in
          let A = after_some e in
          let again = words_last d in
          let wide : length ws ≡ 16448 = ap length (words_some e) ∙ again.0 in
          let S : ScannedSo w (with_fields m ws) i.cut = subst (λ v. ScannedSo w (with_fields m v) i.cut) (sym (words_some e)) again.1 in
          let some : 0 < length w = some_bytes w n in
          let room : i₁.from + length w ≤ 69632 = omega (arith, w_inside, B.waits.inside, ap (λ j. j.from) d, some) in
          subst (λ o. Follows p x r (last_started (with_fields m₁ ws) r (after_last m₁ i₁) o)) (sym L.told)
          (starts ws (after_last m₁ i₁) i₁.from w [] (same_scan ws wide S (λ q. absurd (omega (arith, some, ap length q)))) (λ h. last_over f h)
          (λ h. next ∙ ap (live_take (code.entries p) z s₁) (only_part (few_there h)) ∙ take_last f w n ∙ line_short w [] h)
          (λ h k. line_runs ws (after_last m₁ i₁) i₁.from w [] wide (L.holds k) room L.waits
          (subst (λ j. j.to ≤ 69632) (sym A) (subst (λ j. j.to ≤ 69632) (sym d) B.waits.inside)) (ap (λ j. j.cut) A) (ap (λ j. j.ended) A ∙ ap (λ j. j.ended) d ∙ B.waits.ended)))

      last_so : z ≡ true → Follows p x r (last_taken m₁ r i₁)
      unfolding last_taken
      last_so f = by (none_of w) refl (subst (λ v. LastSays m₁ i₁ v (none_of v)) F.waits (last_holds m₁ i₁ sound₁ scanned₁ (F.all ∙ sym (ap length F.waits))))
        where
          by : (k : Bool) → none_of w ≡ k → LastSays m₁ i₁ w k → Follows p x r (last_started (with_fields m₁ (last_words m₁ i₁)) r (after_last m₁ i₁) (last_of m₁ i₁))
          by true e L = none_left f e L
          by false e L = last_left f e L

      part_found : Follows p x r (sought m₁ r i₁ (found_of i sc))
      part_found = subst (λ y. Follows p x r (sought m₁ r i₁ y)) (sym F.told) (by z refl (ap (λ j. j.ended) (after_part i sc t) ∙ B.waits.ended))
        where
          by : (y : Bool) → z ≡ y → i₁.ended ≡ z → Follows p x r (pick i₁.ended (last_taken m₁ r i₁) (says (waited_turn i₁) m₁ (waited_regs r i₁)))
          by true e f = subst (λ q. Follows p x r (pick q (last_taken m₁ r i₁) (says (waited_turn i₁) m₁ (waited_regs r i₁)))) (sym (f ∙ e)) (last_so e)
          by false e f = subst (λ q. Follows p x r (pick q (last_taken m₁ r i₁) (says (waited_turn i₁) m₁ (waited_regs r i₁)))) (sym (f ∙ e)) (waited_so e)

    -- the next line is looked for
    pub seeks : Follows p x r (line_sought m r)
    unfolding line_sought
    seeks = by sc.found refl (scan_says m i B.sound B.scanned)
      where
        by : (t : Bool) → sc.found ≡ t → ScanSays m i sc t → Follows p x r (sought (with_fields m sc.cuts.words) r (after_scan i sc) (found_of i sc))
        by true e F = whole_found e F
        by false e F = part_found e F

-- by the stage: behind the end there is nothing
module _ (p : Program) (m : Parts) (r : Registers) (g : Lines.Stage) (s : State) (b : List ℕ) (z : Bool) (few_lines : s.lines < 18446744073709551615)
    (v : Went) (out : (state_of v).out ≡ s.out) (rep : (m₁ : Parts) (r₁ : Registers) → Between p m₁ r₁ g s.vars s.line s.parts s.lines b z → Rep p m₁ r₁ (live g (off v) b z))
    (next : follow p (live g (off v) b z) ≡ live_after (code.entries p) g b z (with_frames s [])) where
  next_follows : Between p m r g s.vars s.line s.parts s.lines b z → Follows p (live g (off v) b z) r (line_next m r)
  unfolding line_next
  next_follows B = by r.stage refl
    where
      by : (t : Stage) → r.stage ≡ t → Follows p (live g (off v) b z) r (next_by t m r)
      by Begin e =
          let f : g ≡ first_stage = sym B.stage ∙ ap stage_is e in
          seeks p m r g s b z B few_lines v out rep (next ∙ ap (λ k. live_after (code.entries p) k b z (with_frames s [])) f)
      by ForLines e =
          let f : g ≡ line_stage = sym B.stage ∙ ap stage_is e in
          seeks p m r g s b z B few_lines v out rep (next ∙ ap (λ k. live_after (code.entries p) k b z (with_frames s [])) f)
      by End e =
          let f : g ≡ last_stage = sym B.stage ∙ ap stage_is e in (
            rep m r B,
            kept_row r,
            record {
              k = 1;
              v = went (with_frames s []);
              z = z;
              goes = (over (went (with_frames s [])) z, next ∙ ap (λ k. live_after (code.entries p) k b z (with_frames s [])) f, refl);
              all = out;
              fits = refl;
            },
          )

pub rests_follow : (p : Program) (m : Parts) (r : Registers) (g : Lines.Stage) (v : Went) (b : List ℕ) (z : Bool) → (state_of v).lines < 18446744073709551615 → Rests p m r g b z v →
    Follows p (live g (off v) b z) r (line_next m r)
rests_follow p m r g (went s) b z l B = next_follows p m r g s b z l (went s) refl (λ m₁ r₁ x. x) refl B
rests_follow p m r g (nexted s) b z l B = next_follows p m r g s b z l (nexted s) refl (λ m₁ r₁ x. x) refl B
rests_follow p m r g (stopped k s) b z l B = absurd B
rests_follow p m r g (given u s) b z l B = absurd B
rests_follow p m r g (wrong k s) b z l B = absurd B
rests_follow p m r g (unfinished s) b z l B = absurd B
