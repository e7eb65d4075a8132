-- The next line is looked for: whatever comes of it, the abstract machine does the same.
use Rattle.std.proofs.Common.{◌≡◌, ℕ, suc, ◌+◌, ◌-◌, ◌<◌, ◌≤◌, Bool, true, false, ◌⊎◌, List, [], ◌∷◌, ◌++◌, length, take, drop, sym, refl, ap, ◌∙◌, subst, inl, inr, arith, length-append, length-drop, Some, None, Option}
use Rattle.std.proofs.lemmas.List.{drop_all, take-append-le}
use Rattle.std.proofs.lemmas.Bool.{lt-ltb, le-ltb, cases_lt, cases_Bool}
use Rattle.language.specs.Text.{pick, has, none_of, fields_from}
use Rattle.language.specs.Meaning.{State}
use Rattle.semantics.specs.Stack.{at}
use Rattle.semantics.specs.Code.{Entries}
use Rattle.semantics.specs.Lines.{part, cut_line, line_stage, last_stage, fresh, Now, steps, waits, live, live_line, live_take, live_after}
use Rattle.regions.specs.Parts.{Parts, with_fields}
use Rattle.lines.specs.declared.line.Line.{Line}
use Rattle.lines.specs.declared.input.Input.{Input}
use Rattle.lines.specs.Cutting.{Cuts, cuts_of, fresh_cut, closed, closed_words}
use Rattle.lines.specs.Fields.{Sound, LineHolds}
use Rattle.lines.specs.Laws.{ScannedSo, WholeFound, PartFound, ScanSays, LastFound, NoneLeft, LastSays}
use Rattle.lines.specs.Scanning.{Scanned, scan_on, scan_of, after_scan, waiting, line_at, input_of, last_of, last_words, after_last}
use Rattle.lines.proofs.Passing.{window_length}
use Rattle.lines.proofs.Waiting.{after_found, after_part, found_whole}
use Rattle.lines.proofs.Holding.{scan_says, last_holds, fresh_so}
use Rattle.interp.specs.Outcomes.{On, Ask, Refuse}
use Rattle.interp.specs.declared.registers.Stage.{Stage}
use Rattle.interp.specs.declared.registers.Stage.TheVariants.{Begin, Lines, End}
use Rattle.interp.specs.declared.registers.Registers.{Registers}
use Rattle.interp.specs.Turns.{Did, says, after}
use Rattle.interp.specs.Between.{opening, closing, with_input, started, started_regs, started_turn, waited_regs, waited_turn, last_started, last_taken, sought, sought_by, line_sought, line_next}
use Rattle.interp.specs.Between as between
use Rattle.records.specs.Records.{InWords, TooLong, Waits, BetweenLines}
use Rattle.records.specs.Laws.{NextLine, line_begins, end_begins, asks_more, line_too_long, long_already, no_room, all_done, stage_meant}
use Rattle.records.proofs.Later.{Later, Has, later_trans, has_later, closed_later, scan_later, still_so, so_few, so_none}
use Rattle.records.proofs.Lines.{cut_whole, cut_part, no_end_before, has_front, long_take, line_heavy}
use Rattle.records.proofs.Keeping.{current_kept}

-- a line that was found, by its size

start_on : (p : Parts) (r : Registers) (i : Input) (l : Line) → l.place.len < 65536 → l.fields ≤ 16448 → started p r i l ≡ says On p (opening r i l)
unfolding started_regs started_turn
start_on p r i l a b = rw (le-ltb 65535 l.place.len (omega arith), le-ltb 16448 l.fields b)

start_long : (p : Parts) (r : Registers) (i : Input) (l : Line) → 65536 ≤ l.place.len → started p r i l ≡ says (Refuse 7) p r
unfolding started_regs started_turn
start_long p r i l a = rw (lt-ltb 65535 l.place.len a)

start_full : (p : Parts) (r : Registers) (i : Input) (l : Line) → l.place.len < 65536 → 16448 < l.fields → started p r i l ≡ says (Refuse 8) p r
unfolding started_regs started_turn
start_full p r i l a b = rw (le-ltb 65535 l.place.len (omega arith), lt-ltb 16448 l.fields b)

-- a part of a line, by its size

wait_ask : (p : Parts) (r : Registers) (i : Input) → between.waits i < 65536 → says (waited_turn i) p (waited_regs r i) ≡ says Ask p (with_input r i)
unfolding waited_regs waited_turn
wait_ask p r i h = rw (le-ltb 65535 (between.waits i) (omega arith))

wait_long : (p : Parts) (r : Registers) (i : Input) → 65536 ≤ between.waits i → says (waited_turn i) p (waited_regs r i) ≡ says (Refuse 7) p r
unfolding waited_regs waited_turn
wait_long p r i h = rw (lt-ltb 65535 (between.waits i) h)

none_is : (xs : List ℕ) → none_of xs ≡ true → xs ≡ []
none_is [] e = refl
none_is (x ∷ xs) e = absurd (let z : ◌≡◌ {A = ℕ} 0 1 = sym (ap (λ y. pick y 1 0) (sym e)) in omega arith)

-- how long a line is that was found
abbrev found_len : Option Line → ℕ
found_len (Some l) = l.place.len
found_len None = 0

next_count : (c n : ℕ) → c ≡ n → n < 18446744073709551615 → after c ≡ suc n
next_count c n e h = omega arith

module _ (m : Parts) (r : Registers) (e : Entries) (s : State) (b : List ℕ) (z : Bool) (h : BetweenLines m r s.line s.parts s.lines b z) (few : s.lines < 18446744073709551615) where
  abbrev i : Input
  i = r.input

  abbrev w : List ℕ
  w = waiting i m.lines

  abbrev sc : Scanned
  sc = scan_of m i

  abbrev ws : List ℕ
  ws = sc.cuts.words

  abbrev Result : Now → Did → Type 0
  Result now d = NextLine m r e s b z now d

  abbrev now : Now
  now = live_take e z s (cut_line [] b)

  k : Sound m
  k = h.waits.sound

  so : ScannedSo w m i.cut
  so = subst (λ x. ScannedSo x m i.cut) (sym h.waits.are) h.waits.seen

  all_or : (w ≡ b) ⊎ TooLong w b
  all_or = subst (λ x. (x ≡ b) ⊎ TooLong x b) (sym h.waits.are) h.waits.whole

  size : length w ≡ i.to - i.from
  size = window_length i.from (i.to - i.from) m.lines k.lines_room ∙ omega (arith, h.waits.order, h.waits.inside)

  small : length w ≤ 69632
  small = omega (arith, size, h.waits.inside)

  -- too many bytes without an end: what the abstract machine does
  long_now : 65536 ≤ length w → has (take 65536 w) 10 ≡ false → (65536 ≤ length b) × (has (take 65536 b) 10 ≡ false)
  long_now l n =
      elim all_or [
        | inl q ↦ subst (λ x. (65536 ≤ length x) × (has (take 65536 x) 10 ≡ false)) q (l, n)
        | inr t ↦ (
          omega (arith, ap length t.split, length-append w t.more),
          ap (λ x. has (take 65536 x) 10) t.split ∙ ap (λ x. has x 10) (take-append-le 65536 w t.more l) ∙ n,
        )
      ]

  -- few bytes are all there are
  short_all : length w < 65536 → w ≡ b
  short_all l = elim all_or [ inl q ↦ q | inr t ↦ absurd (omega (arith, t.full)) ]

  -- what is noted
  scan_is : Later (cuts_of m.fields i.cut) sc.cuts
  unfolding scan_of
  scan_is =
      scan_later (drop i.cut.at w) (cuts_of m.fields i.cut) (omega (arith, so_few w m i.cut so, length-drop i.cut.at w, small))

  scan_size : length ws ≡ 16448
  scan_size = scan_is.size ∙ k.fields_room

  scan_words : InWords ws
  scan_words = scan_is.in_words h.waits.in_fields

  sound_with : (us : List ℕ) → length us ≡ 16448 → Sound (with_fields m us)
  sound_with us n = record { fields_room = n; lines_room = k.lines_room }

  -- memory stands for the same as before
  back : (us : List ℕ) → Has us (cuts_of m.fields i.cut) → length us ≡ 16448 → InWords us → (b ≡ [] → ⊥) → BetweenLines (with_fields m us) r s.line s.parts s.lines b z
  back us x n y o =
      record {
        current = λ q. absurd (o q);
        in_place = h.in_place;
        few_fields = h.few_fields;
        count = h.count;
        waits =
            record {
              sound = sound_with us n;
              held = w;
              are = refl;
              whole = all_or;
              seen = still_so w m i.cut us (omega (arith, small)) so x n;
              end = h.waits.end;
              order = h.waits.order;
              inside = h.waits.inside;
              in_fields = y;
              in_lines = h.waits.in_lines;
            };
      }

  -- a line of at most 65,535 bytes begins, unless it has too many fields
  begins : (us : List ℕ) (i₁ : Input) (st : ℕ) (l rest : List ℕ) → now ≡ live_line e z s l rest → length l < 65536 → st + length l ≤ 69632 → length us ≡ 16448 →
      (length (fields_from [] l) ≤ 16448 → LineHolds (with_fields m us) (line_at st (length l) (length (fields_from [] l))) l (fields_from [] l)) →
      Waits (with_fields m us) (opening r i₁ (line_at st (length l) (length (fields_from [] l)))) rest z → waiting i₁ m.lines ≡ rest → i₁.cut ≡ fresh_cut → BetweenLines (with_fields m us) r s.line s.parts s.lines b z →
      Result now (started (with_fields m us) r i₁ (line_at st (length l) (length (fields_from [] l))))
  begins us i₁ st l rest q a c n holds wt al u bk =
      let line : Line = line_at st (length l) (length (fields_from [] l)) in
      let g : live_line e z s l rest ≡ steps (live line_stage (at e.at_line [] (fresh l s)) rest z) = rw (lt-ltb (length l) 65536 a) in
      elim (cases_lt 16448 (length (fields_from [] l))) [
        | inl f ↦ no_room us l rest (start_full (with_fields m us) r i₁ line a f) (q ∙ g) (line_heavy l s f) bk
        | inr f ↦
            line_begins us i₁ line l rest (start_on (with_fields m us) r i₁ line a f) (q ∙ g)
            (record {
              current =
                  record {
                    sound = sound_with us n;
                    holds = holds f;
                    in_place = record { before = λ x. omega arith; within = omega arith };
                  };
              count = next_count r.count s.lines h.count few;
              waits = wt;
              all = al;
              unseen = u;
            })
      ]

  -- it is too long
  refuses : (us : List ℕ) (d : Did) → d ≡ says (Refuse 7) (with_fields m us) r → Has us (cuts_of m.fields i.cut) → length us ≡ 16448 → InWords us → 65536 ≤ length w → has (take 65536 w) 10 ≡ false → Result now d
  refuses us d q x n y l none =
      let t = long_now l none in
      let bk = back us x n y (λ v. omega (arith, t.0, ap length v)) in
      elim (long_take e z s b t.0 t.1) [ inl g ↦ line_too_long us q g bk | inr g ↦ long_already us q g.0 t.0 bk ]

  -- A LINE IS FOUND

  found_line : sc.found ≡ true → WholeFound m i sc → Result now (line_sought m r)
  unfolding line_sought
  found_line f x =
      let l : List ℕ = x.line in
      let i₁ : Input = after_scan i sc in
      let line : Line = line_at i.from (length l) (length (fields_from [] l)) in
      let ll = length-append l (10 ∷ x.rest) in
      let lw = ap length x.split in
      let d : line_sought m r ≡ started (with_fields m ws) r i₁ line = ap (sought (with_fields m ws) r i₁) x.told in
      let has_ws = has_later (cuts_of m.fields i.cut) sc.cuts scan_is in
      elim (cases_lt (length l) 65536) [
        | inl a ↦
            let exact : b ≡ l ++ 10 ∷ x.rest = elim all_or [
              | inl q ↦ sym q ∙ x.split
              | inr t ↦ absurd (omega (arith, a, no_end_before 65536 l x.rest (ap (λ v. has (take 65536 v) 10) (sym x.split) ∙ t.none)))
            ] in
            let af : i₁ ≡ input_of (i.from + sc.cuts.cut.at + 1) i.to fresh_cut i.ended = after_found i sc f in
            let len : sc.cuts.cut.at ≡ length l = ap found_len (sym (found_whole i sc f) ∙ x.told) in
            subst (Result now) (sym d)
            (begins ws i₁ i.from l x.rest (ap (λ v. live_take e z s (cut_line [] v)) exact ∙ ap (live_take e z s) (cut_whole l x.rest x.none)) a
            (omega (arith, ll, lw, size, h.waits.inside)) scan_size x.holds
            (record {
              sound = sound_with ws scan_size;
              held = x.rest;
              are = x.waits;
              whole = inl refl;
              seen = subst (ScannedSo x.rest (with_fields m ws)) (sym x.ready) (fresh_so x.rest (with_fields m ws) (sound_with ws scan_size));
              end = ap (λ v. v.ended) af ∙ h.waits.end;
              order = subst (λ v. v.from ≤ v.to) (sym af) (omega (arith, len, ll, lw, size));
              inside = subst (λ v. v.to ≤ 69632) (sym af) h.waits.inside;
              in_fields = scan_words;
              in_lines = h.waits.in_lines;
            })
            x.waits x.ready (back ws has_ws scan_size scan_words (λ v. omega (arith, ap length (sym exact ∙ v), ll))))
        | inr a ↦
            refuses ws (line_sought m r) (d ∙ start_long (with_fields m ws) r i₁ line a) has_ws scan_size scan_words (omega (arith, ll, lw))
            (ap (λ v. has (take 65536 v) 10) x.split ∙ ap (λ v. has v 10) (take-append-le 65536 l (10 ∷ x.rest) a) ∙ has_front 65536 l x.none)
      ]

  -- NONE IS FOUND

  -- where nothing waits the scan notes nothing
  scan_none : w ≡ [] → ws ≡ m.fields
  unfolding scan_of scan_on
  scan_none q = ap (λ v. (scan_on (drop i.cut.at v) (cuts_of m.fields i.cut)).cuts.words) q ∙ ap (λ v. (scan_on v (cuts_of m.fields i.cut)).cuts.words) (drop_all i.cut.at [] (omega arith))

  -- what waits, after a scan that found no line
  part_waits : (us : List ℕ) (i₁ : Input) (r₁ : Registers) → PartFound m i sc → r₁.input ≡ i₁ → i₁ ≡ after_scan i sc → after_scan i sc ≡ input_of i.from i.to sc.cuts.cut i.ended → us ≡ ws →
      Waits (with_fields m us) r₁ b z
  part_waits us i₁ r₁ x p q f g =
      let j : r₁.input ≡ after_scan i sc = p ∙ q in
      let t : r₁.input ≡ input_of i.from i.to sc.cuts.cut i.ended = j ∙ f in
      record {
        sound = sound_with us (ap length g ∙ scan_size);
        held = w;
        are = ap (λ v. waiting v m.lines) j ∙ x.waits;
        whole = all_or;
        seen = subst (λ v. ScannedSo w (with_fields m us) v.cut) (sym j) (subst (λ v. ScannedSo w (with_fields m v) (after_scan i sc).cut) (sym g) x.ready);
        end = ap (λ v. v.ended) t ∙ h.waits.end;
        order = subst (λ v. v.from ≤ v.to) (sym t) h.waits.order;
        inside = subst (λ v. v.to ≤ 69632) (sym t) h.waits.inside;
        in_fields = subst InWords (sym g) scan_words;
        in_lines = h.waits.in_lines;
      }

  -- more may come
  found_none : z ≡ false → sc.found ≡ false → PartFound m i sc → Result now (line_sought m r)
  unfolding line_sought
  found_none zf f x =
      let i₁ : Input = after_scan i sc in
      let p : Parts = with_fields m ws in
      let af = after_part i sc f in
      let ended : i₁.ended ≡ false = ap (λ v. v.ended) af ∙ h.waits.end ∙ zf in
      let d : line_sought m r ≡ says (waited_turn i₁) p (waited_regs r i₁) =
      ap (sought p r i₁) x.told ∙ ap (λ t. pick t (last_taken p r i₁) (says (waited_turn i₁) p (waited_regs r i₁))) ended in
      let n : between.waits i₁ ≡ length w = ap between.waits af ∙ omega (arith, size, h.waits.inside) in
      elim (cases_lt (length w) 65536) [
        | inl a ↦
            let q : w ≡ b = short_all a in
            let g : now ≡ waits s = ap (live_take e z s) (cut_part b (ap (λ v. has v 10) (sym q) ∙ x.none)) ∙ ap (λ t. live_take e t s (part b)) zf in
            asks_more ws i₁ (d ∙ wait_ask p r i₁ (omega arith)) g zf (omega (arith, ap length q))
            (record {
              current = λ v. current_kept m r p (with_input r i₁) s.line s.parts (scan_none (q ∙ v)) refl refl (h.current v);
              in_place = h.in_place;
              few_fields = h.few_fields;
              count = h.count;
              waits = part_waits ws i₁ (with_input r i₁) x refl refl af refl;
            })
        | inr a ↦
            refuses ws (line_sought m r) (d ∙ wait_long p r i₁ (omega arith)) (has_later (cuts_of m.fields i.cut) sc.cuts scan_is) scan_size scan_words a (has_front 65536 w x.none)
      ]

  -- the end was told: what waits is the last line, if it is anything

  module _ (zt : z ≡ true) (f : sc.found ≡ false) (x : PartFound m i sc) where
    abbrev i₁ : Input
    i₁ = after_scan i sc

    abbrev p : Parts
    p = with_fields m ws

    abbrev us : List ℕ
    us = last_words p i₁

    -- the cuts with the last field
    abbrev last_cuts : Cuts
    last_cuts = closed sc.cuts

    af : i₁ ≡ input_of i.from i.to sc.cuts.cut i.ended
    af = after_part i sc f

    looked : ScannedSo (waiting i₁ p.lines) p i₁.cut
    looked = subst (λ v. ScannedSo v p i₁.cut) (sym x.waits) x.ready

    last_is : line_sought m r ≡ last_started (with_fields p us) r (after_last p i₁) (last_of p i₁)
    unfolding line_sought last_taken
    last_is =
        ap (sought p r i₁) x.told ∙ ap (λ t. pick t (last_taken p r i₁) (says (waited_turn i₁) p (waited_regs r i₁))) (ap (λ v. v.ended) af ∙ h.waits.end ∙ zt)

    -- nothing waits: the rules for the end begin
    no_last : none_of (waiting i₁ p.lines) ≡ true → NoneLeft p i₁ (waiting i₁ p.lines) → Result now (line_sought m r)
    unfolding after_last part_waits
    no_last t y =
        let none : w ≡ [] = sym x.waits ∙ none_is (waiting i₁ p.lines) t in
        let q : b ≡ [] = sym (short_all (omega (arith, ap length none))) ∙ none in
        let g : now ≡ steps (live last_stage (at e.at_end [] s) [] true) =
        ap (λ v. live_take e z s (cut_line [] v)) q ∙ ap (live_take e z s) (cut_part [] refl) ∙ ap (λ v. live_take e v s (part [])) zt in
        let i₂ : after_last p i₁ ≡ i₁ = ap (λ v. pick v i₁ (input_of (i₁.from + length (waiting i₁ p.lines)) i₁.to fresh_cut i₁.ended)) t in
        let same : us ≡ m.fields = y.kept ∙ scan_none none in
        let r₁ : Registers = closing r (after_last p i₁) in
        let wt : Waits (with_fields m us) r₁ b z = part_waits us i₁ r₁ x i₂ refl af y.kept in
        end_begins us (after_last p i₁) (last_is ∙ ap (last_started (with_fields p us) r (after_last p i₁)) y.told) g
        (record {
          current = current_kept m r (with_fields m us) r₁ s.line s.parts same refl refl (h.current q);
          count = h.count;
          waits = subst (λ v. Waits (with_fields m us) r₁ [] v) zt (subst (λ v. Waits (with_fields m us) r₁ v z) q wt);
          all = wt.are ∙ none;
          unseen = so_none (with_fields m us) r₁.input.cut (subst (λ v. ScannedSo v (with_fields m us) r₁.input.cut) none wt.seen);
        })

    -- something does
    last_line : none_of (waiting i₁ p.lines) ≡ false → LastFound p i₁ (waiting i₁ p.lines) → Result now (line_sought m r)
    unfolding after_last last_words
    last_line t y =
        let v : List ℕ = waiting i₁ p.lines in
        let vw : v ≡ w = x.waits in
        let i₂ : Input = after_last p i₁ in
        let ai : i₂ ≡ input_of (i₁.from + length v) i₁.to fresh_cut i₁.ended = ap (λ u. pick u i₁ (input_of (i₁.from + length v) i₁.to fresh_cut i₁.ended)) t in
        let line : Line = line_at i₁.from (length v) (length (fields_from [] v)) in
        let d : line_sought m r ≡ started (with_fields m us) r i₂ line = last_is ∙ ap (last_started (with_fields p us) r i₂) y.told in
        let words : us ≡ last_cuts.words = ap (λ u. pick u ws (closed_words ws i₁.cut)) t ∙ ap (λ u. closed_words ws u.cut) af in
        let later : Later (cuts_of m.fields i.cut) last_cuts =
        later_trans (cuts_of m.fields i.cut) sc.cuts last_cuts scan_is (closed_later sc.cuts (omega (arith, count_small, ap (λ u. u.cut.fields) af))) in
        let has_us : Has us (cuts_of m.fields i.cut) = subst (λ u. Has u (cuts_of m.fields i.cut)) (sym words) (has_later (cuts_of m.fields i.cut) last_cuts later) in
        let n : length us ≡ 16448 = ap length words ∙ later.size ∙ k.fields_room in
        let iw : InWords us = subst InWords (sym words) (later.in_words h.waits.in_fields) in
        let from : i₁.from ≡ i.from = ap (λ u. u.from) af in
        let to : i₁.to ≡ i.to = ap (λ u. u.to) af in
        let lv = ap length vw in
        elim (cases_lt (length w) 65536) [
          | inl a ↦
              let q : v ≡ b = vw ∙ short_all a in
              let g : now ≡ live_line e z s v [] =
              ap (live_take e z s) (cut_part b (ap (λ u. has u 10) (sym (short_all a)) ∙ x.none) ∙ ap part (sym q)) ∙ last_take v t in
              subst (Result now) (sym d)
              (begins us i₂ i₁.from v [] g (omega (arith, lv, a)) (omega (arith, lv, size, from, h.waits.inside, h.waits.order)) n y.holds
              (record {
                sound = sound_with us n;
                held = [];
                are = y.waits;
                whole = inl refl;
                seen = subst (λ u. ScannedSo [] (with_fields m us) u.cut) (sym ai) (fresh_so [] (with_fields m us) (sound_with us n));
                end = ap (λ u. u.ended) ai ∙ ap (λ u. u.ended) af ∙ h.waits.end;
                order = subst (λ u. u.from ≤ u.to) (sym ai) (omega (arith, lv, size, from, to, h.waits.order));
                inside = subst (λ u. u.to ≤ 69632) (sym ai) (omega (arith, to, h.waits.inside));
                in_fields = iw;
                in_lines = h.waits.in_lines;
              })
              y.waits (ap (λ u. u.cut) ai) (back us has_us n iw (λ u. not_none v t (q ∙ u))))
          | inr a ↦
              refuses us (line_sought m r) (d ∙ start_long (with_fields m us) r i₂ line (omega (arith, lv))) has_us n iw a (has_front 65536 w x.none)
        ]
      where
        count_small : i₁.cut.fields ≤ 69632
        count_small = omega (arith, so_few (waiting i₁ p.lines) p i₁.cut looked, ap length x.waits, small)

        not_none : (v : List ℕ) → none_of v ≡ false → v ≡ [] → ⊥
        not_none v u q = let c : ◌≡◌ {A = ℕ} 0 1 = ap (λ y. pick y 1 0) (sym u ∙ ap none_of q) in omega arith

        last_take : (v : List ℕ) → none_of v ≡ false → live_take e z s (part v) ≡ live_line e z s v []
        last_take [] u = absurd (not_none [] u refl)
        last_take (c ∷ cs) u = ap (λ q. live_take e q s (part (c ∷ cs))) zt ∙ ap (λ q. live_line e q s (c ∷ cs) []) (sym zt)

    found_last : Result now (line_sought m r)
    found_last =
        let all : i₁.cut.at ≡ length (waiting i₁ p.lines) = x.all ∙ ap length (sym x.waits) in
        let y = last_holds p i₁ (sound_with ws scan_size) looked all in
        elim (cases_Bool (none_of (waiting i₁ p.lines))) [
          | inl t ↦ no_last t (subst (LastSays p i₁ (waiting i₁ p.lines)) t y)
          | inr t ↦ last_line t (subst (LastSays p i₁ (waiting i₁ p.lines)) t y)
        ]

  -- what was sought
  seeks : Result now (line_sought m r)
  seeks =
      let y = scan_says m i k so in
      elim (cases_Bool sc.found) [
        | inl f ↦ found_line f (subst (ScanSays m i sc) f y)
        | inr f ↦
            let x : PartFound m i sc = subst (ScanSays m i sc) f y in
            elim (cases_Bool z) [ inl t ↦ found_last t f x | inr t ↦ found_none t f x ]
      ]

  by_stage : (g : Stage) → r.stage ≡ g → Result (live_after e (stage_meant r.stage) b z s) (line_next m r)
  unfolding line_next
  by_stage Begin q = subst (λ u. Result (live_after e (stage_meant u) b z s) (between.next_by u m r)) (sym q) seeks
  by_stage Lines q = subst (λ u. Result (live_after e (stage_meant u) b z s) (between.next_by u m r)) (sym q) seeks
  by_stage End q = subst (λ u. Result (live_after e (stage_meant u) b z s) (between.next_by u m r)) (sym q) (all_done refl refl)

pub lines_follow : (m : Parts) (r : Registers) (e : Entries) (s : State) (b : List ℕ) (z : Bool) → BetweenLines m r s.line s.parts s.lines b z → s.lines < 18446744073709551615 →
    NextLine m r e s b z (live_after e (stage_meant r.stage) b z s) (line_next m r)
lines_follow m r e s b z h few = by_stage m r e s b z h few r.stage refl
