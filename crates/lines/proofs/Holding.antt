-- The laws of lines: a text that was cut is held with its fields, and a scan finds the first line.
use Rattle.std.proofs.Common.{◌≡◌, ℕ, zero, suc, ◌+◌, ◌-◌, ◌*◌, ◌<◌, ◌≤◌, min, Bool, true, false, eqb, ◌⊎◌, List, [], ◌∷◌, ◌++◌, length, get_or, take, drop, Some, None, sym, refl, ap, ◌∙◌, subst, inl, inr, append_assoc, append-nil, arith, length-append, take-append-drop}
use lib.Seq.{paste}
use Rattle.std.proofs.lemmas.List.{take_at, drop_at, take_all, take-append-le, length-take-le, nil_from_length, get_or_past}
use Rattle.std.proofs.lemmas.Bool.{eqb-true, eqb-false, ne_eqb, cases_lt}
use Rattle.language.specs.Text.{pick, or, each, has, none_of, fields_from}
use Rattle.language.specs.Meaning.{whole_lines, last_line, nth_part}
use Rattle.store.specs.Words.{unpacked, window, put_bytes}
use Rattle.store.proofs.Packing.{length_unpacked}
use Rattle.store.proofs.Putting.{puts_append, puts_over}
use Rattle.store.proofs.Moving.{window_part, window_front, window_below}
use Rattle.regions.specs.Parts.{Parts, with_fields}
use Rattle.store.specs.declared.place.Place.{Place}
use Rattle.regions.specs.Places.{place_of}
use Rattle.lines.specs.declared.line.Line.{Line}
use Rattle.lines.specs.declared.input.Input.{Input}
use Rattle.lines.specs.Cutting.{Cuts, cuts_of, fresh_cut, closed_words, closed_count, closed, pass_byte, pass_all, recut_of}
use Rattle.lines.specs.Scanning.{Scanned, scan_on, scan_of, after_scan, waiting, line_at, input_of, last_of, last_words, after_last, that_fits, taken_lines, after_taken}
use Rattle.lines.specs.Fields.{cut_out, places, noted, places_from, Sound, LineHolds}
use Rattle.lines.specs.Lines.{within, nth_place}
use Rattle.lines.specs.Laws.{ScannedSo, WholeFound, PartFound, ScanSays, LastFound, NoneLeft, LastSays, TakenIn, CutAnew}
use Rattle.lines.proofs.Passing.{window_length, pass_at}
use Rattle.lines.proofs.Places.{nth_none, nth_some}
use Rattle.lines.proofs.Waiting.{after_found, after_part, found_whole, found_part}
use Rattle.lines.proofs.Cuts.{length_each, getD_each, getD_of_each, length_noted, places_noted, each_inside, text_places, text_inside, text_count, recut_words, recut_count}

-- a text at st that was cut
pub text_holds : (p : Parts) (ws l : List ℕ) (st : ℕ) → length ws ≡ 16448 → window st (length l) p.lines ≡ l → length l < 4294967296 → length (fields_from [] l) ≤ 16448 →
    LineHolds (with_fields p (recut_of ws l).words) (line_at st (length l) (length (fields_from [] l))) l (fields_from [] l)
text_holds p ws l st e b h r =
    let ps : List Place = places_from 0 0 l in
    let us : List ℕ = (recut_of ws l).words in
    let w : us ≡ noted ws 0 ps = recut_words ws l (omega arith) in
    let k : length ps ≡ length (fields_from [] l) = text_count l in
    let n : length us ≡ 16448 = ap length w ∙ length_noted ps ws 0 ∙ e in
    let q : places (length ps) us ≡ ps = ap (places (length ps)) w ∙ places_noted ps ws (length l) h (text_inside l) (omega arith) in
    record {
      bytes = b;
      whole = refl;
      count = refl;
      room = r;
      inside = λ i lt. each_inside ps us (length l) i (text_inside l) q (omega arith) (omega arith);
      parts = ap (λ x. each (cut_out l) (places x us)) (sym k) ∙ ap (each (cut_out l)) q ∙ text_places l;
    }

-- a scan of a list: up to the first byte 10, or all of it

record Stops (bs : List ℕ) (s : Cuts) (r : Scanned) : Type 0 where
  front : List ℕ
  back : List ℕ
  split : bs ≡ front ++ 10 ∷ back
  none : has front 10 ≡ false
  is : r ≡ record { found = true; cuts = closed (pass_all front s) }

record Goes (bs : List ℕ) (s : Cuts) (r : Scanned) : Type 0 where
  none : has bs 10 ≡ false
  is : r ≡ record { found = false; cuts = pass_all bs s }

abbrev Comes : List ℕ → Cuts → Scanned → Type 0
Comes bs s r = Stops bs s r ⊎ Goes bs s r

not_here : (b : ℕ) (xs : List ℕ) → eqb b 10 ≡ false → has xs 10 ≡ false → has (b ∷ xs) 10 ≡ false
not_here b xs e h =
    let n : eqb 10 b ≡ false = ne_eqb 10 b (λ q. eqb-false b 10 e (sym q)) in
    ap (λ t. or t (has xs 10)) n ∙ h

one_comes : (b : ℕ) (bs : List ℕ) (s : Cuts) (r : Scanned) → eqb b 10 ≡ false → Comes bs (pass_byte b s) r → Comes (b ∷ bs) s r
unfolding pass_all
one_comes b bs s r e (inl x) = inl (record { front = b ∷ x.front; back = x.back; split = ap (λ t. b ∷ t) x.split; none = not_here b x.front e x.none; is = x.is })
one_comes b bs s r e (inr x) = inr (record { none = not_here b bs e x.none; is = x.is })

comes : (bs : List ℕ) (s : Cuts) → Comes bs s (scan_on bs s)
unfolding scan_on pass_all
comes [] s = inr (record { none = refl; is = refl })
comes (b ∷ bs) s = by (eqb b 10) refl (comes bs (pass_byte b s))
  where
    by : (t : Bool) → eqb b 10 ≡ t → Comes bs (pass_byte b s) (scan_on bs (pass_byte b s)) → Comes (b ∷ bs) s (pick t (record { found = true; cuts = closed s }) (scan_on bs (pass_byte b s)))
    by true e x = inl (record { front = []; back = bs; split = ap (λ c. c ∷ bs) (eqb-true b 10 e); none = refl; is = refl })
    by false e x = one_comes b bs s (scan_on bs (pass_byte b s)) e x

pass_append : (a b : List ℕ) (s : Cuts) → pass_all (a ++ b) s ≡ pass_all b (pass_all a s)
unfolding pass_all
pass_append [] b s = refl
pass_append (c ∷ a) b s = pass_append a b (pass_byte c s)

passed_at : (a : List ℕ) (s : Cuts) → (pass_all a s).cut.at ≡ s.cut.at + length a
unfolding pass_all
passed_at [] s = omega arith
passed_at (c ∷ a) s = passed_at a (pass_byte c s) ∙ omega (arith, pass_at c s)

has_append : (a b : List ℕ) → has a 10 ≡ false → has b 10 ≡ false → has (a ++ b) 10 ≡ false
has_append [] b h k = k
has_append (x ∷ a) b h k = by (eqb 10 x) h (λ e. has_append a b e k)
  where
    by : (t : Bool) → or t (has a 10) ≡ false → (has a 10 ≡ false → has (a ++ b) 10 ≡ false) → or t (has (a ++ b) 10) ≡ false
    by true e f = e
    by false e f = f e

-- the specification's lines

or_first : (t u : Bool) → or t u ≡ false → t ≡ false
or_first true u e = e
or_first false u e = refl

or_second : (t u : Bool) → or t u ≡ false → u ≡ false
or_second true u e = absurd (let z : ◌≡◌ {A = ℕ} 0 1 = ap (λ x. pick x 0 1) e in omega arith)
or_second false u e = e

head_not : (x : ℕ) (xs : List ℕ) → has (x ∷ xs) 10 ≡ false → eqb x 10 ≡ false
head_not x xs h = ne_eqb x 10 (λ q. eqb-false 10 x (or_first (eqb 10 x) (has xs 10) h) (sym q))

tail_not : (x : ℕ) (xs : List ℕ) → has (x ∷ xs) 10 ≡ false → has xs 10 ≡ false
tail_not x xs h = or_second (eqb 10 x) (has xs 10) h

pub first_line : (l r a : List ℕ) → has l 10 ≡ false → whole_lines a (l ++ 10 ∷ r) ≡ (a ++ l) ∷ whole_lines [] r
unfolding whole_lines
first_line [] r a h = ap (λ x. x ∷ whole_lines [] r) (sym (append-nil a))
first_line (x ∷ l) r a h =
    ap (λ t. pick t (a ∷ whole_lines [] (l ++ 10 ∷ r)) (whole_lines (a ++ x ∷ []) (l ++ 10 ∷ r))) (head_not x l h)
    ∙ first_line l r (a ++ x ∷ []) (tail_not x l h) ∙ ap (λ y. y ∷ whole_lines [] r) (append_assoc a (x ∷ []) l)

pub no_line : (w a : List ℕ) → has w 10 ≡ false → whole_lines a w ≡ []
unfolding whole_lines
no_line [] a h = refl
no_line (x ∷ w) a h = ap (λ t. pick t (a ∷ whole_lines [] w) (whole_lines (a ++ x ∷ []) w)) (head_not x w h) ∙ no_line w (a ++ x ∷ []) (tail_not x w h)

pub last_after : (l r a : List ℕ) → has l 10 ≡ false → last_line a (l ++ 10 ∷ r) ≡ last_line [] r
unfolding last_line
last_after [] r [] h = refl
last_after [] r (b ∷ a) h = refl
last_after (x ∷ l) r [] h =
    ap (λ t. pick t (last_line [] (l ++ 10 ∷ r)) (last_line (x ∷ []) (l ++ 10 ∷ r))) (head_not x l h) ∙ last_after l r (x ∷ []) (tail_not x l h)
last_after (x ∷ l) r (b ∷ a) h =
    ap (λ t. pick t (last_line [] (l ++ 10 ∷ r)) (last_line ((b ∷ a) ++ x ∷ []) (l ++ 10 ∷ r))) (head_not x l h) ∙ last_after l r ((b ∷ a) ++ x ∷ []) (tail_not x l h)

pub last_whole : (w : List ℕ) (b : ℕ) (a : List ℕ) → has w 10 ≡ false → last_line (b ∷ a) w ≡ ((b ∷ a) ++ w) ∷ []
unfolding last_line
last_whole [] b a h = ap (λ x. x ∷ []) (sym (append-nil (b ∷ a)))
last_whole (x ∷ w) b a h =
    ap (λ t. pick t (last_line [] w) (last_line ((b ∷ a) ++ x ∷ []) w)) (head_not x w h) ∙ last_whole w b (a ++ x ∷ []) (tail_not x w h) ∙ ap (λ y. y ∷ []) (append_assoc (b ∷ a) (x ∷ []) w)

pub last_all : (b : ℕ) (w : List ℕ) → has (b ∷ w) 10 ≡ false → last_line [] (b ∷ w) ≡ (b ∷ w) ∷ []
unfolding last_line
last_all b w h = ap (λ t. pick t (last_line [] w) (last_line (b ∷ []) w)) (head_not b w h) ∙ last_whole w b [] (tail_not b w h)

-- a scan from where it had come to

scanned_at : (seed l : List ℕ) → (recut_of seed l).cut.at ≡ length l
unfolding recut_of
scanned_at seed l = passed_at l (cuts_of seed fresh_cut) ∙ omega arith

whole_found : (p : Parts) (i : Input) (s : Scanned) (seed l r : List ℕ) → Sound p → length seed ≡ 16448 → waiting i p.lines ≡ l ++ 10 ∷ r → has l 10 ≡ false →
    s ≡ record { found = true; cuts = recut_of seed l } → WholeFound p i s
whole_found p i s seed l r k e w n is =
    let ls : List ℕ = p.lines in
    let m : ℕ = i.to - i.from in
    let ll = length-append l (10 ∷ r) in
    let t = ap length w in
    let wl = window_length i.from m ls k.lines_room in
    let at : s.cuts.cut.at ≡ length l = ap (λ x. x.cuts.cut.at) is ∙ scanned_at seed l in
    let count : s.cuts.cut.fields ≡ length (fields_from [] l) = ap (λ x. x.cuts.cut.fields) is ∙ recut_count seed l (omega arith) in
    let found : s.found ≡ true = ap (λ x. x.found) is in
    let bytes : window i.from (length l) ls ≡ l = sym (window_front ls i.from m (length l) (omega arith)) ∙ ap (take (length l)) w ∙ take_at l (10 ∷ r) (length l) refl in
    let d : ℕ = length l + 1 in
    let c : l ++ 10 ∷ r ≡ (l ++ 10 ∷ []) ++ r = sym (append_assoc l (10 ∷ []) r) in
    let lr = length-append l (10 ∷ []) in
    let b₁ : i.from + length l + 1 ≡ i.from + d = omega arith in
    let b₂ : i.to - (i.from + length l + 1) ≡ m - d = omega arith in
    let after = after_found i s found ∙ ap (λ x. input_of (i.from + x + 1) i.to fresh_cut i.ended) at in
    record {
      line = l;
      rest = r;
      split = w;
      none = n;
      first = ap (whole_lines []) w ∙ first_line l r [] n;
      last = ap (last_line []) w ∙ last_after l r [] n;
      told = found_whole i s found ∙ ap (λ x. Some (line_at i.from x s.cuts.cut.fields)) at ∙ ap (λ x. Some (line_at i.from (length l) x)) count;
      holds = λ room. subst (λ x. LineHolds (with_fields p x) (line_at i.from (length l) (length (fields_from [] l))) l (fields_from [] l)) (ap (λ x. x.cuts.words) (sym is)) (text_holds p seed l i.from e bytes (omega arith) room);
      waits =
          ap (λ x. waiting x ls) after ∙ ap (λ x. window x (i.to - (i.from + length l + 1)) ls) b₁ ∙ ap (λ x. window (i.from + d) x ls) b₂
          ∙ sym (window_part ls i.from m d (m - d) (omega arith)) ∙ ap (λ x. take (m - d) (drop d x)) (w ∙ c) ∙ ap (take (m - d)) (drop_at (l ++ 10 ∷ []) r d lr) ∙ take_all (m - d) r (omega arith);
      ready = ap (λ x. x.cut) after;
    }

part_found : (p : Parts) (i : Input) (s : Scanned) (seed : List ℕ) → Sound p → length seed ≡ 16448 → has (waiting i p.lines) 10 ≡ false →
    s ≡ record { found = false; cuts = pass_all (waiting i p.lines) (cuts_of seed fresh_cut) } → PartFound p i s
part_found p i s seed k e n is =
    let w : List ℕ = waiting i p.lines in
    let after = after_part i s (ap (λ x. x.found) is) in
    let at : s.cuts.cut.at ≡ length w = ap (λ x. x.cuts.cut.at) is ∙ passed_at w (cuts_of seed fresh_cut) ∙ omega arith in
    let cut : (after_scan i s).cut ≡ s.cuts.cut = ap (λ x. x.cut) after in
    let all : take s.cuts.cut.at w ≡ w = take_all s.cuts.cut.at w (omega arith) in
    record {
      none = n;
      first = no_line w [] n;
      told = found_part i s (ap (λ x. x.found) is);
      waits = ap (λ x. waiting x p.lines) after;
      all = ap (λ x. x.at) cut ∙ at;
      ready =
          subst (ScannedSo w (with_fields p s.cuts.words)) (sym cut)
          (record { seed = seed; room = e; inside = omega arith; none = ap (λ x. has x 10) all ∙ n; is = ap (λ x. x.cuts) is ∙ ap (λ x. pass_all x (cuts_of seed fresh_cut)) (sym all) });
    }

found_says : (p : Parts) (i : Input) (s : Scanned) (t : Bool) → s.found ≡ t → ScanSays p i s t → ScanSays p i s s.found
found_says p i s t e x = subst (ScanSays p i s) (sym e) x

stop_is : (seed f a : List ℕ) (s : Cuts) → s ≡ pass_all f (cuts_of seed fresh_cut) → closed (pass_all a s) ≡ recut_of seed (f ++ a)
unfolding recut_of
stop_is seed f a s e = ap (λ x. closed (pass_all a x)) e ∙ ap closed (sym (pass_append f a (cuts_of seed fresh_cut)))

come_says : (p : Parts) (i : Input) → Sound p → ScannedSo (waiting i p.lines) p i.cut → (s : Scanned) → Comes (drop i.cut.at (waiting i p.lines)) (cuts_of p.fields i.cut) s → ScanSays p i s s.found
come_says p i k so s (inl x) =
    let w : List ℕ = waiting i p.lines in
    let f : List ℕ = take i.cut.at w in
    let split : w ≡ (f ++ x.front) ++ 10 ∷ x.back = sym (take-append-drop i.cut.at w) ∙ ap (λ y. f ++ y) x.split ∙ sym (append_assoc f x.front (10 ∷ x.back)) in
    let is : s ≡ record { found = true; cuts = recut_of so.seed (f ++ x.front) } = x.is ∙ ap (λ y. record { found = true; cuts = y }) (stop_is so.seed f x.front (cuts_of p.fields i.cut) so.is) in
    found_says p i s true (ap (λ r. r.found) x.is) (whole_found p i s so.seed (f ++ x.front) x.back k so.room split (has_append f x.front so.none x.none) is)
come_says p i k so s (inr x) =
    let w : List ℕ = waiting i p.lines in
    let f : List ℕ = take i.cut.at w in
    let whole = take-append-drop i.cut.at w in
    let n : has w 10 ≡ false = ap (λ y. has y 10) (sym whole) ∙ has_append f (drop i.cut.at w) so.none x.none in
    let q = ap (pass_all (drop i.cut.at w)) so.is ∙ sym (pass_append f (drop i.cut.at w) (cuts_of so.seed fresh_cut)) ∙ ap (λ y. pass_all y (cuts_of so.seed fresh_cut)) whole in
    found_says p i s false (ap (λ r. r.found) x.is) (part_found p i s so.seed k so.room n (x.is ∙ ap (λ y. record { found = false; cuts = y }) q))

pub scan_says : (p : Parts) (i : Input) → Sound p → ScannedSo (waiting i p.lines) p i.cut → ScanSays p i (scan_of p i) (scan_of p i).found
unfolding scan_of
scan_says p i k so = come_says p i k so (scan_of p i) (comes (drop i.cut.at (waiting i p.lines)) (cuts_of p.fields i.cut))

-- the last line

closed_is : (seed w : List ℕ) (s : Cuts) → s ≡ pass_all w (cuts_of seed fresh_cut) → closed s ≡ recut_of seed w
unfolding recut_of
closed_is seed w s e = ap closed e

none_left : (p : Parts) (i : Input) → waiting i p.lines ≡ [] → NoneLeft p i (waiting i p.lines)
unfolding last_line last_of last_words
none_left p i e =
    let w : List ℕ = waiting i p.lines in
    let t : none_of w ≡ true = ap none_of e in
    record {
      last = ap (last_line []) e;
      told = ap (λ b. pick b None (Some (line_at i.from (length w) (closed_count i.cut)))) t;
      kept = ap (λ b. pick b p.fields (closed_words p.fields i.cut)) t;
    }

last_found : (p : Parts) (i : Input) → Sound p → ScannedSo (waiting i p.lines) p i.cut → i.cut.at ≡ length (waiting i p.lines) → (b : ℕ) (v : List ℕ) → waiting i p.lines ≡ b ∷ v → LastFound p i (waiting i p.lines)
unfolding last_of last_words after_last
last_found p i k so at b v e =
    let ls : List ℕ = p.lines in
    let m : ℕ = i.to - i.from in
    let w : List ℕ = waiting i ls in
    let t : none_of w ≡ false = ap none_of e in
    let wl = window_length i.from m ls k.lines_room in
    let all : take i.cut.at w ≡ w = take_all i.cut.at w (omega arith) in
    let h : has w 10 ≡ false = ap (λ y. has y 10) (sym all) ∙ so.none in
    let c : closed (cuts_of p.fields i.cut) ≡ recut_of so.seed w = closed_is so.seed w (cuts_of p.fields i.cut) (so.is ∙ ap (λ x. pass_all x (cuts_of so.seed fresh_cut)) all) in
    let count : closed_count i.cut ≡ length (fields_from [] w) = ap (λ x. x.cut.fields) c ∙ recut_count so.seed w (omega arith) in
    let words : (recut_of so.seed w).words ≡ last_words p i = ap (λ x. x.words) (sym c) ∙ ap (λ x. pick x p.fields (closed_words p.fields i.cut)) (sym t) in
    let bytes : window i.from (length w) ls ≡ w = sym (window_front ls i.from m (length w) (omega arith)) ∙ take_all (length w) w (omega arith) in
    let f : ℕ = i.from + length w in
    record {
      last = ap (last_line []) e ∙ last_all b v (ap (λ y. has y 10) (sym e) ∙ h) ∙ ap (λ x. x ∷ []) (sym e);
      told = ap (λ x. pick x None (Some (line_at i.from (length w) (closed_count i.cut)))) t ∙ ap (λ x. Some (line_at i.from (length w) x)) count;
      holds = λ room. subst (λ x. LineHolds (with_fields p x) (line_at i.from (length w) (length (fields_from [] w))) w (fields_from [] w)) words (text_holds p so.seed w i.from so.room bytes (omega arith) room);
      waits =
          ap (λ x. waiting (pick x i (input_of f i.to fresh_cut i.ended)) ls) t
          ∙ nil_from_length (window f (i.to - f) ls) (window_length f (i.to - f) ls k.lines_room ∙ omega arith);
    }

pub last_holds : (p : Parts) (i : Input) → Sound p → ScannedSo (waiting i p.lines) p i.cut → i.cut.at ≡ length (waiting i p.lines) →
    LastSays p i (waiting i p.lines) (none_of (waiting i p.lines))
last_holds p i k so at = by (waiting i p.lines) refl
  where
    by : (v : List ℕ) → waiting i p.lines ≡ v → LastSays p i (waiting i p.lines) (none_of (waiting i p.lines))
    by [] e = subst (LastSays p i (waiting i p.lines)) (ap none_of (sym e)) (none_left p i e)
    by (b ∷ v) e = subst (LastSays p i (waiting i p.lines)) (ap none_of (sym e)) (last_found p i k so at b v e)

-- a piece is taken in

bytes_append : (a b : List ℕ) → ((k : ℕ) → get_or a k 0 < 256) → ((k : ℕ) → get_or b k 0 < 256) → (k : ℕ) → get_or (a ++ b) k 0 < 256
bytes_append [] b f g k = g k
bytes_append (x ∷ a) b f g zero = f 0
bytes_append (x ∷ a) b f g (suc k) = bytes_append a b (λ j. f (suc j)) g k

-- what was put is there
pub window_put : (ws : List ℕ) (i : ℕ) (bs : List ℕ) → ((k : ℕ) → get_or bs k 0 < 256) → i + length bs ≤ 8 * length ws → window i (length bs) (put_bytes ws i bs) ≡ bs
window_put ws i bs f h =
    let d : List ℕ = unpacked ws in
    let n : ℕ = length bs in
    let l = length_unpacked ws in
    let e : min n (length d - i) ≡ n = omega arith in
    ap (λ x. take n (drop i x)) (puts_over ws i bs f ∙ ap (paste d i bs) e ∙ ap (λ x. take i d ++ x ++ drop (i + n) d) (take_all n bs (omega arith)) ∙ append_assoc (take i d) bs (drop (i + n) d))
    ∙ ap (take n) (drop_at (take i d) (bs ++ drop (i + n) d) i (length-take-le i d (omega arith))) ∙ take_at bs (drop (i + n) d) n refl

pub taken_in : (p : Parts) (i : Input) (piece : List ℕ) → Sound p → ((k : ℕ) → get_or piece k 0 < 256) → length (waiting i p.lines) + length piece ≤ 69632 →
    ScannedSo (waiting i p.lines) p i.cut → TakenIn p i (waiting i p.lines) piece
unfolding taken_lines after_taken
taken_in p i piece k f h so =
    let ls : List ℕ = p.lines in
    let w : List ℕ = waiting i ls in
    let a = length-append w piece in
    let fits : that_fits w piece ≡ piece = take_all (69632 - length w) piece (omega arith) in
    let n : length w + length (that_fits w piece) - 0 ≡ length (w ++ piece) = omega (arith, ap length fits) in
    let z : length w ≡ 0 + length w = omega arith in
    let front : take i.cut.at (w ++ piece) ≡ take i.cut.at w = take-append-le i.cut.at w piece so.inside in
    record {
      waits =
          ap (λ x. window 0 (length w + length (that_fits w piece) - 0) (put_bytes (put_bytes ls 0 w) (length w) x)) fits
          ∙ ap (λ x. window 0 (length w + length (that_fits w piece) - 0) (put_bytes (put_bytes ls 0 w) x piece)) z
          ∙ ap (window 0 (length w + length (that_fits w piece) - 0)) (sym (puts_append ls 0 w piece))
          ∙ ap (λ x. window 0 x (put_bytes ls 0 (w ++ piece))) n
          ∙ window_put ls 0 (w ++ piece) (bytes_append w piece (window_below i.from (i.to - i.from) ls) f) (omega (arith, k.lines_room));
      ready =
          record {
            seed = so.seed;
            room = so.room;
            inside = omega (arith, so.inside);
            none = ap (λ x. has x 10) front ∙ so.none;
            is = so.is ∙ ap (λ x. pass_all x (cuts_of so.seed fresh_cut)) (sym front);
          };
    }

pub fresh_so : (w : List ℕ) (p : Parts) → Sound p → ScannedSo w p fresh_cut
unfolding pass_all
fresh_so w p k = record { seed = p.fields; room = k.fields_room; inside = omega arith; none = refl; is = refl }

-- a text that is cut anew
pub cut_anew : (p : Parts) (q : Place) → Sound p → CutAnew p q (window q.start q.len p.lines)
cut_anew p q k =
    let l : List ℕ = window q.start q.len p.lines in
    let wl = window_length q.start q.len p.lines k.lines_room in
    record {
      count = recut_count p.fields l (omega arith);
      holds =
          λ e room. subst (λ n. LineHolds (with_fields p (recut_of p.fields l).words) (line_at q.start n (length (fields_from [] l))) l (fields_from [] l)) e
          (text_holds p p.fields l q.start k.fields_room (ap (λ n. window q.start n p.lines) e) (omega arith) room);
    }

-- a field of a line

part_is : (fs : List (List ℕ)) (i : ℕ) → nth_part fs (suc i) ≡ get_or fs i []
unfolding nth_part
part_is [] i = refl
part_is (f ∷ fs) zero = refl
part_is (f ∷ fs) (suc i) = part_is fs i

no_part : (fs : List (List ℕ)) → nth_part fs 0 ≡ []
unfolding nth_part
no_part [] = refl
no_part (f ∷ fs) = refl

-- the bytes of a field
pub field_bytes : (p : Parts) (line : Line) (l : List ℕ) (fs : List (List ℕ)) (i : ℕ) → Sound p → LineHolds p line l fs → i < length fs →
    cut_out l (place_of (get_or p.fields i 0)) ≡ get_or fs i []
field_bytes p line l fs i k h lt =
    let d : Place = record { start = 0; len = 0 } in
    let n : length (places (length fs) p.fields) ≡ length fs = length_each place_of (take (length fs) p.fields) ∙ length-take-le (length fs) p.fields (omega (arith, h.room, k.fields_room)) in
    ap (cut_out l) (sym (getD_each p.fields (length fs) i d lt (omega (arith, h.room, k.fields_room))))
    ∙ sym (getD_of_each (cut_out l) (places (length fs) p.fields) i d [] (omega arith))
    ∙ ap (λ x. get_or x i []) h.parts

nth_is : (p : Parts) (line : Line) (l : List ℕ) (fs : List (List ℕ)) (n : ℕ) → Sound p → line.place.start + length l < 18446744073709551616 → LineHolds p line l fs → n < length fs →
    window (nth_place p.fields line (suc n)).start (nth_place p.fields line (suc n)).len p.lines ≡ get_or fs n []
nth_is p line l fs n k b h lt =
    let q : Place = place_of (get_or p.fields n 0) in
    let s : ℕ = line.place.start in
    let i = h.inside n lt in
    let c : min (s + q.start) 18446744073709551615 ≡ s + q.start = omega arith in
    let z : suc n - 1 ≡ n = omega arith in
    ap (λ x. window x.start x.len p.lines) (nth_some p.fields line (suc n) (λ e. omega arith) (omega (arith, h.count)) ∙ ap (λ x. within s (place_of (get_or p.fields x 0))) z)
    ∙ ap (λ x. window x q.len p.lines) c
    ∙ sym (window_part p.lines s line.place.len q.start q.len (omega (arith, h.whole)))
    ∙ ap (λ x. take q.len (drop q.start x)) h.bytes
    ∙ field_bytes p line l fs n k h lt

pub nth_right : (p : Parts) (line : Line) (l : List ℕ) (fs : List (List ℕ)) (n : ℕ) → Sound p → line.place.start + length l < 18446744073709551616 → LineHolds p line l fs →
    window (nth_place p.fields line n).start (nth_place p.fields line n).len p.lines ≡ nth_part fs n
nth_right p line l fs zero k b h = ap (λ x. window x.start x.len p.lines) (nth_none p.fields line 0 (inl refl)) ∙ sym (no_part fs)
nth_right p line l fs (suc n) k b h =
    elim (cases_lt n (length fs)) [
      | inl lt ↦ nth_is p line l fs n k b h lt ∙ sym (part_is fs n)
      | inr ge ↦ ap (λ x. window x.start x.len p.lines) (nth_none p.fields line (suc n) (inr (omega (arith, h.count)))) ∙ sym (part_is fs n ∙ get_or_past fs n [] ge)
    ]
