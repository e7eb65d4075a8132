-- Everything that a run comes to is sound: each instruction keeps it so, and so does the taking of a line. That an instruction finds what it takes from the
-- stack needs no look at the code: a machine that did not would end with a number that the meaning never gives.
use Rattle.std.proofs.Common.{◌≡◌, ℕ, zero, suc, ◌+◌, ◌-◌, ◌*◌, ◌<◌, ◌≤◌, Bool, true, false, eqb, ltb, ◌⊎◌, List, [], ◌∷◌, ◌++◌, length, sym, refl, ap, ◌∙◌, subst, inl, inr, arith, length-append}
use borrow.Author.Tests.{clash}
use Rattle.std.proofs.lemmas.Bool.{and_parts, cases_lt}
use lib.ListN.{get_or-eq_default}
use Rattle.language.specs.Text.{pick, or, every, each, limit, Value, plus, text, Num, within, number_of, as_text, holds, none_of, same, joined, fields_from, Pattern, Swapped}
use Rattle.language.specs.Program.{Term, var, item, field, txt, Program}
use Rattle.language.specs.Meaning.{State, Bind, Item, Went, went, nexted, stopped, given, wrong, unfinished, Got, got, left, state_of, note, as_got, text_got, var_of, field_got, field_number, reckon, reckon_one, place_of, set_var, set_bound, bound, first_or, top, below, w_nr, w_nf, set_item, item_of, is_item, stands_before, store_field, set_part, short, with_vars, with_items, with_line, with_frames, with_out, then_got, in_place, put_place, swap_got, swapped, numbered, framed, settled, at_first}
use Rattle.language.proofs.Lists.{same_is}
use Rattle.semantics.specs.Stack.{Cell, val, ret, keys, Instr, note_all, note_below, push_number, push_text, push_value, load_variable, load_field, load_item, apply_one, apply_two, to_truth, match_top, has_key, cut_part, split_into, save_variable, save_field, save_item, swap_variable, swap_field, swap_item, fail, jump, jump_if, jump_unless, drop_top, print_line, print_values, leave_line, exit_run, end_rules, call_function, return_empty, return_value, push_keys, next_key, delete_item, Config, at, off, land, with_top, with_tops, with_keys, unwound, set_then, keyed, swap_all, exec}
use Rattle.language.specs.Run.{bytes, no_more}
use Rattle.semantics.specs.Code.{code, entries, program_code}
use Rattle.semantics.specs.Lines.{Stage, first_stage, line_stage, last_stage, fresh, Cut, whole, part, cut_line, Live, live, over, Now, steps, waits, ends, live_state, told, live_take, live_after, live_driven, follow, Reached, at_start, one_more, piece_came, end_told}
use Rattle.semantics.specs.Invariants.{All, all_none, all_more, Proper, all_done, faulted, cut_off, Followed, SoundLive, live_at, live_off, live_over, Sound, sound_plus, sound_text, SoundText, SoundProgram, Sets, by_save, by_swap, by_loop, Fills, by_save_item, by_swap_item, by_split, SoundFrame, SoundState, SoundCell, cell_value, cell_return, cell_keys, returns, takes, Values}
use Rattle.semantics.proofs.Primitives.{exit_state}
use Rattle.semantics.proofs.Programs.{over_is}
use Rattle.semantics.proofs.Endings.{outcome_proper}
use Rattle.semantics.proofs.Pieces.{reached_many, reached_run}
use Rattle.semantics.proofs.Notes.{those_all, program_followed}
use Rattle.semantics.proofs.Sound.{Bytes, bytes_both, no_bytes, sound_as_text, small_number, sound_truth, Number, a_plus, number_sum, number_opposite, number_product, number_quotient, SoundNumber, beyond, inside, sound_within, sound_cut, sound_capitals, place_small, short_sound, fields_sound, fields_few, joined_bytes, joined_few, nth_sound, set_sound, cut_by_sound, cut_by_few, FewSwaps, swaps_few}

-- names and items set
set_bound_all : {P : Bind → Type 0} {bs : List Bind} (x : List ℕ) (v : Value) → All P bs → P (record { name = x; worth = v }) → All P (set_bound bs x v)
unfolding set_bound
set_bound_all x v all_none h = all_more h all_none
set_bound_all {P} x v (all_more {x = b} {xs = bs} a hs) h = by_name (same b.name x) (set_bound_all x v hs h)
  where
    by_name : (t : Bool) → All P (set_bound bs x v) → All P (pick t (record { name = x; worth = v } ∷ bs) (b ∷ set_bound bs x v))
    by_name true r = all_more h hs
    by_name false r = all_more a r

bound_all : {P : Bind → Type 0} {bs : List Bind} (x : List ℕ) → ((b : Bind) → P b → Sound b.worth) → All P bs → All Sound (bound bs x)
unfolding bound
bound_all x f all_none = all_none
bound_all {P} x f (all_more {x = b} {xs = bs} a hs) = by_name (same b.name x) (bound_all x f hs)
  where
    by_name : (t : Bool) → All Sound (bound bs x) → All Sound (pick t (b.worth ∷ []) (bound bs x))
    by_name true r = all_more (f b a) all_none
    by_name false r = r

first_sound : {vs : List Value} → All Sound vs → Sound (first_or (text []) vs)
first_sound all_none = sound_text no_bytes
first_sound (all_more h hs) = h

set_item_all : {P : Item → Type 0} {is : List Item} (x k : List ℕ) (v : Value) → All P is → P (record { table = x; key = k; worth = v }) → All P (set_item is x k v)
unfolding set_item
set_item_all x k v all_none h = all_more h all_none
set_item_all {P} x k v (all_more {x = i} {xs = is} a hs) h = by_item (is_item x k i) (stands_before x k i) (set_item_all x k v hs h)
  where
    by_item : (t u : Bool) → All P (set_item is x k v) → All P (pick t (record { table = x; key = k; worth = v } ∷ is) (pick u (record { table = x; key = k; worth = v } ∷ i ∷ is) (i ∷ set_item is x k v)))
    by_item true u r = all_more h hs
    by_item false true r = all_more h (all_more a hs)
    by_item false false r = all_more a r

item_sound : {P : Item → Type 0} {is : List Item} (x k : List ℕ) → ((i : Item) → P i → Sound i.worth) → All P is → Sound (item_of is x k)
unfolding item_of
item_sound x k f all_none = sound_text no_bytes
item_sound x k f (all_more {x = i} {xs = is} a hs) = by_item (is_item x k i) (item_sound x k f hs)
  where
    by_item : (t : Bool) → Sound (item_of is x k) → Sound (pick t i.worth (item_of is x k))
    by_item true r = f i a
    by_item false r = r

each_all : {A B : Type 0} {P : A → Type 0} (Q : B → Type 0) (f : A → B) → ((a : A) → P a → Q (f a)) → {xs : List A} → All P xs → All Q (each f xs)
each_all Q f h all_none = all_none
each_all Q f h (all_more {x} a hs) = all_more (h x a) (each_all Q f h hs)

-- a frame keeps its names
names_kept : (f : List Bind) (x : List ℕ) (v : Value) → none_of (bound f x) ≡ false → each (λ b. b.name) (set_bound f x v) ≡ each (λ b. b.name) f
unfolding bound set_bound
names_kept [] x v h = absurd (clash (sym h))
names_kept (b ∷ f) x v h = by_name (same b.name x) refl h (names_kept f x v)
  where
    by_name : (t : Bool) → same b.name x ≡ t → none_of (pick t (b.worth ∷ []) (bound f x)) ≡ false → (none_of (bound f x) ≡ false → each (λ b. b.name) (set_bound f x v) ≡ each (λ b. b.name) f) →
        each (λ b. b.name) (pick t (record { name = x; worth = v } ∷ f) (b ∷ set_bound f x v)) ≡ b.name ∷ each (λ b. b.name) f
    by_name true e n r = ap (λ z. z ∷ each (λ b. b.name) f) (sym (same_is b.name x e))
    by_name false e n r = ap (λ z. b.name ∷ z) (r n)

framed_names : (xs : List (List ℕ)) (vs : List Value) → each (λ b. b.name) (framed xs vs) ≡ xs
unfolding framed
framed_names [] vs = refl
framed_names (x ∷ xs) [] = ap (λ z. x ∷ z) (framed_names xs [])
framed_names (x ∷ xs) (v ∷ vs) = ap (λ z. x ∷ z) (framed_names xs vs)

framed_sound : (xs : List (List ℕ)) {vs : List Value} → All Sound vs → All (λ b. Sound b.worth) (framed xs vs)
unfolding framed
framed_sound [] h = all_none
framed_sound (x ∷ xs) all_none = all_more (sound_text no_bytes) (framed_sound xs all_none)
framed_sound (x ∷ xs) (all_more h hs) = all_more h (framed_sound xs hs)

module _ (p : Program) where
  abbrev S : State → Type 0
  S s = SoundState p s

  -- states that differ in one part
  abbrev ItemSound : Item → Type 0
  ItemSound i = SoundText i.key × Sound i.worth × Fills p i.table

  vars_sound_with : {s : State} {bs : List Bind} → S s → All (λ b. Sound b.worth × Sets p b.name) bs → S (with_vars s bs)
  vars_sound_with h v = record { vars_sound = v; items_sound = h.items_sound; line_sound = h.line_sound; fields_of = h.fields_of; parts_sound = h.parts_sound; parts_few = h.parts_few; frames_sound = h.frames_sound }

  items_sound_with : {s : State} {is : List Item} → S s → All ItemSound is → S (with_items s is)
  items_sound_with h i = record { vars_sound = h.vars_sound; items_sound = i; line_sound = h.line_sound; fields_of = h.fields_of; parts_sound = h.parts_sound; parts_few = h.parts_few; frames_sound = h.frames_sound }

  frames_sound_with : {s : State} {fs : List (List Bind)} → S s → All (SoundFrame p) fs → S (with_frames s fs)
  frames_sound_with h f = record { vars_sound = h.vars_sound; items_sound = h.items_sound; line_sound = h.line_sound; fields_of = h.fields_of; parts_sound = h.parts_sound; parts_few = h.parts_few; frames_sound = f }

  line_sound_with : {s : State} (l : List ℕ) (ps : List (List ℕ)) → S s → SoundText l → (ps ≡ fields_from [] l) ⊎ (l ≡ joined ps) → All SoundText ps → length ps ≤ suc (length l) → S (with_line s l ps)
  line_sound_with l ps h a b c d = record { vars_sound = h.vars_sound; items_sound = h.items_sound; line_sound = a; fields_of = b; parts_sound = c; parts_few = d; frames_sound = h.frames_sound }

  note_sound : {s : State} (n : ℕ) → S s → S (note n s)
  note_sound n h = record { vars_sound = h.vars_sound; items_sound = h.items_sound; line_sound = h.line_sound; fields_of = h.fields_of; parts_sound = h.parts_sound; parts_few = h.parts_few; frames_sound = h.frames_sound }

  out_sound : {s : State} (bs : List ℕ) → S s → S (with_out s bs)
  out_sound bs h = record { vars_sound = h.vars_sound; items_sound = h.items_sound; line_sound = h.line_sound; fields_of = h.fields_of; parts_sound = h.parts_sound; parts_few = h.parts_few; frames_sound = h.frames_sound }

  -- a line and the fields that are cut from it
  cut_sound : {s : State} {l : List ℕ} → S s → SoundText l → S (with_line s l (fields_from [] l))
  cut_sound {l = l} h a = line_sound_with l (fields_from [] l) h a (inl refl) (fields_sound [] l (omega (arith, a.small)) refl a.in_bytes) (omega (arith, fields_few [] l))

  pub first_state : S at_first
  unfolding fields_from
  first_state = record { vars_sound = all_none; items_sound = all_none; line_sound = no_bytes; fields_of = inl refl; parts_sound = all_none; parts_few = omega arith; frames_sound = all_none }

  -- a value worked out, with n functions being worked out as before; or something is wrong
  data SoundGot (n : ℕ) : Got → Type 0 where
    sound_value : {v : Value} {r : State} → Sound v → S r → length r.frames ≡ n → SoundGot n (got v r)
    sound_left : {w : Went} → S (state_of w) → SoundGot n (left w)

  here : {s : State} {v : Value} → S s → Sound v → SoundGot (length s.frames) (got v s)
  here h v = sound_value v h refl

  got_pick : {n : ℕ} {a b : Got} (c : Bool) → SoundGot n a → SoundGot n b → SoundGot n (pick c a b)
  got_pick true x y = x
  got_pick false x y = y

  got_then : {n : ℕ} {g : Got} (k : Value → State → Got) → SoundGot n g → ((v : Value) (r : State) → Sound v → S r → length r.frames ≡ n → SoundGot n (k v r)) → SoundGot n (then_got g k)
  got_then k (sound_value {v} {r} a b c) m = m v r a b c
  got_then k (sound_left h) m = sound_left h

  number_sound : {s : State} {n : Num} → S s → SoundNumber n → SoundGot (length s.frames) (as_got n s)
  unfolding as_got
  number_sound h beyond = sound_left h
  number_sound h (inside v) = here h v

  worked_out : {s : State} {v : Value} → S s → Number v → SoundGot (length s.frames) (as_got (within v) s)
  worked_out h n = number_sound h (sound_within n)

  field_sound : {s : State} (ks : List ℕ) → S s → SoundGot (length s.frames) (field_got s ks)
  unfolding field_got
  field_sound [] h = sound_left h
  field_sound (zero ∷ ks) h = here h (sound_text h.line_sound)
  field_sound {s} (suc k ∷ ks) h = here h (sound_text (nth_sound s.parts (suc k) h.parts_sound))

  one_sound : {s : State} (k : ℕ) {v : Value} → S s → Sound v → SoundGot (length s.frames) (reckon_one k v s)
  unfolding reckon_one
  one_sound {s} k {v} h a =
      let t = sound_as_text a in
      got_pick (eqb k 0) (here h (sound_truth _)) (got_pick (eqb k 1) (worked_out h (number_opposite (number_of v)))
      (got_pick (eqb k 2) (here h (small_number _ (omega (arith, t.small)))) (here h (sound_text (sound_capitals t)))))

  join_sound : {s : State} {a b : List ℕ} → S s → SoundText a → SoundText b → SoundGot (length s.frames) (text_got (a ++ b) s)
  join_sound {s} {a} {b} h x y = by_short (short (a ++ b)) refl
    where
      by_short : (t : Bool) → short (a ++ b) ≡ t → SoundGot (length s.frames) (pick t (got (text (a ++ b)) s) (left (wrong 7 s)))
      by_short true e = here h (sound_text (short_sound e (bytes_both a b x.in_bytes y.in_bytes)))
      by_short false e = sound_left h

  two_sound : {s : State} (k : ℕ) {v u : Value} → S s → Sound v → Sound u → SoundGot (length s.frames) (reckon k v u s)
  unfolding reckon
  two_sound {s} k {v} {u} h a b =
      let t = sound_as_text a in
      let place : Sound (plus (place_of (as_text v) (as_text u))) = small_number _ (omega (arith, place_small (suc (length (as_text v)) - length (as_text u)) (as_text u) (as_text v) 1, t.small)) in
      got_pick (eqb k 2) (here h (sound_truth _)) (got_pick (eqb k 3) (here h (sound_truth _)) (got_pick (eqb k 4) (here h (sound_truth _)) (got_pick (eqb k 5) (here h (sound_truth _))
      (got_pick (eqb k 6) (worked_out h (number_sum _ _)) (got_pick (eqb k 7) (worked_out h (number_sum _ _)) (got_pick (eqb k 8) (worked_out h (number_product _ _))
      (got_pick (eqb k 9) (got_pick _ (sound_left h) (worked_out h (number_quotient _ _))) (got_pick (eqb k 10) (got_pick _ (sound_left h) (worked_out h (number_sum _ _)))
      (got_pick (eqb k 11) (join_sound h t (sound_as_text b)) (got_pick (eqb k 12) (here h place) (got_pick (eqb k 13) (here h (sound_truth _)) (here h (sound_truth _)))))))))))))

  top_worths : {fs : List (List Bind)} → All (SoundFrame p) fs → All (λ b. Sound b.worth) (top fs)
  top_worths all_none = all_none
  top_worths (all_more f fs) = f.worths

  below_sound : {fs : List (List Bind)} → All (SoundFrame p) fs → All (SoundFrame p) (below fs)
  below_sound all_none = all_none
  below_sound (all_more f fs) = fs

  -- NR counts at most as many lines as there were bytes
  var_sound : {s : State} (x : List ℕ) → S s → s.lines < limit → Sound (var_of s x)
  unfolding var_of
  var_sound {s} x h l =
      value_pick (none_of (bound (top s.frames) x))
      (value_pick (same x w_nr) (sound_plus l) (value_pick (same x w_nf) (small_number _ (omega (arith, h.parts_few, h.line_sound.small))) (first_sound (bound_all x (λ b a. a.0) h.vars_sound))))
      (first_sound (bound_all x (λ b a. a) (top_worths h.frames_sound)))
    where
      value_pick : {v u : Value} (t : Bool) → Sound v → Sound u → Sound (pick t v u)
      value_pick true a b = a
      value_pick false a b = b

  frames_set : (fs : List (List Bind)) (x : List ℕ) {v : Value} → none_of (bound (top fs) x) ≡ false → Sound v → All (SoundFrame p) fs →
      All (SoundFrame p) (set_bound (top fs) x v ∷ below fs) × (length (set_bound (top fs) x v ∷ below fs) ≡ length fs)
  unfolding bound
  frames_set [] x e a all_none = absurd (clash (sym e))
  frames_set (f ∷ fs) x {v} e a (all_more h hs) = (
    all_more (record { worths = set_bound_all x v h.worths a; i = h.i; d = h.d; q = h.q; n = h.n; is_called = h.is_called ∙ ap (λ z. call_function h.d h.q z h.n) (sym (names_kept f x v e)) }) hs,
    refl,
  )

  set_var_sound : {s : State} (x : List ℕ) {v : Value} → S s → Sound v → Sets p x → SoundGot (length s.frames) (set_var s x v)
  unfolding set_var
  set_var_sound {s} x {v} h a n = by_frame (none_of (bound (top s.frames) x)) refl
    where
      by_frame : (t : Bool) → none_of (bound (top s.frames) x) ≡ t →
          SoundGot (length s.frames) (pick t (pick (or (same x w_nr) (same x w_nf)) (left (wrong 6 s)) (got v (with_vars s (set_bound s.vars x v)))) (got v (with_frames s (set_bound (top s.frames) x v ∷ below s.frames))))
      by_frame true e = got_pick (or (same x w_nr) (same x w_nf)) (sound_left h) (sound_value a (vars_sound_with h (set_bound_all x v h.vars_sound (a, n))) refl)
      by_frame false e = let f = frames_set s.frames x e a h.frames_sound in sound_value a (frames_sound_with h f.0) f.1

  store_sound : {s : State} {v : Value} (ks : List ℕ) → S s → Sound v → SoundGot (length s.frames) (store_field s v ks)
  unfolding store_field
  store_sound [] h a = sound_left h
  store_sound (zero ∷ ks) h a = sound_value a (cut_sound h (sound_as_text a)) refl
  store_sound {s} {v} (suc k ∷ ks) h a = by_short (short (joined ps)) refl
    where
      ps : List (List ℕ)
      ps = set_part 1001 s.parts (suc k) (as_text v)

      sound : All SoundText (set_part 1001 s.parts (suc k) (as_text v))
      sound = set_sound 1001 s.parts (suc k) h.parts_sound (sound_as_text a)

      by_short : (t : Bool) → short (joined (set_part 1001 s.parts (suc k) (as_text v))) ≡ t →
          SoundGot (length s.frames) (pick t (got v (with_line s (joined (set_part 1001 s.parts (suc k) (as_text v))) (set_part 1001 s.parts (suc k) (as_text v)))) (left (wrong 7 s)))
      by_short true e = sound_value a (line_sound_with _ _ h (short_sound e (joined_bytes _ sound)) (inr refl) sound (joined_few _)) refl
      by_short false e = sound_left h

  save_item_sound : {s : State} (x k : List ℕ) {v : Value} → S s → SoundText k → Sound v → Fills p x → S (with_items s (set_item s.items x k v))
  save_item_sound x k {v} h a b f = items_sound_with h (set_item_all x k v h.items_sound (a, b, f))

  numbered_sound : (i : ℕ) (x : List ℕ) {bs : List (List ℕ)} {is : List Item} → Fills p x → i + length bs < 200000 → All SoundText bs → All ItemSound is → All ItemSound (numbered i x bs is)
  unfolding numbered
  numbered_sound i x f l all_none h = h
  numbered_sound i x f l (all_more {x = b} a hs) h =
      numbered_sound (suc i) x f (omega arith) hs (set_item_all x (as_text (plus i)) (text b) h (sound_as_text (small_number i (omega arith)), sound_text a, f))

  -- swapping, where putting the new text into the place is sound
  swap_sound : {s : State} (y : Pattern) (b : Term) {v o : Value} (k : Value) → S s → Sound v → Sound o → ((t : Value) → Sound t → SoundGot (length s.frames) (put_place b k t s)) →
      SoundGot (length s.frames) (swap_got b k o v (swapped y v o) s)
  swap_sound {s} y b {v} {o} k h a c put = by_times (eqb r.times 0) (short r.bytes) refl
    where
      r : Swapped
      r = swapped y v o

      few : FewSwaps (2 * length (as_text o) + 2) (swapped y v o)
      few = swaps_few (2 * length (as_text o) + 2) (as_text o) y (as_text v) 0 false (sound_as_text c).in_bytes (sound_as_text a).in_bytes

      times_small : Sound (plus (swapped y v o).times)
      times_small = small_number _ (omega (arith, few.few, (sound_as_text c).small))

      by_times : (t u : Bool) → short (swapped y v o).bytes ≡ u →
          SoundGot (length s.frames) (pick t (got (plus 0) s) (pick u (then_got (put_place b k (text (swapped y v o).bytes) s) (λ w s₁. got (plus (swapped y v o).times) s₁)) (left (wrong 7 s))))
      by_times true u e = here h (small_number 0 (omega arith))
      by_times false true e = got_then _ (put _ (sound_text (short_sound e few.in_bytes))) (λ w q d i j. sound_value times_small i j)
      by_times false false e = sound_left h

  -- the field whose number is k
  swap_field_sound : {s : State} (y : Pattern) {v : Value} (k : Value) → S s → Sound v → SoundGot (length s.frames) (swap_all y (field (txt [])) v k s)
  unfolding in_place put_place
  swap_field_sound y {v} k h a =
      got_then _ (field_sound (field_number (number_of k)) h) (λ o r b d e.
      subst (λ n. SoundGot n (swap_got (field (txt [])) k o v (swapped y v o) r)) e (swap_sound y (field (txt [])) k d a b (λ t g. store_sound _ d g)))

  -- Configurations.
  pub data Good : Config → Type 0 where
    good_at : {q : ℕ} {st : List Cell} {s : State} → S s → All (SoundCell p) st → returns st ≡ length s.frames → Good (at q st s)
    good_off : {w : Went} → S (state_of w) → Good (off w)

  abbrev Cells : List Cell → Type 0
  Cells st = All (SoundCell p) st

  land_good : {n : ℕ} (q : ℕ) {st : List Cell} {g : Got} → Cells st → returns st ≡ n → SoundGot n g → Good (land q st g)
  land_good q c e (sound_value a b d) = good_at b (all_more (cell_value a) c) (e ∙ sym d)
  land_good q c e (sound_left h) = good_off h

  top_good : {k : Value → List Cell → Config} {s : State} {st : List Cell} (n : ℕ) → S s → Cells st → returns st ≡ n → ((v : Value) (r : List Cell) → Sound v → Cells r → returns r ≡ n → Good (k v r)) → Good (with_top k s st)
  top_good n h all_none e m = good_off h
  top_good n h (all_more (cell_value a) c) e m = m _ _ a c e
  top_good n h (all_more (cell_return i q xs k d) c) e m = good_off h
  top_good n h (all_more (cell_keys ks) c) e m = good_off h

  tops_good : {k : List Value → List Cell → Config} {s : State} {st : List Cell} (n j : ℕ) {vs : List Value} → S s → Cells st → returns st ≡ n → All Sound vs →
      ((us : List Value) (r : List Cell) → All Sound us → Cells r → returns r ≡ n → Good (k us r)) → Good (with_tops k s j vs st)
  tops_good n zero h c e a m = m _ _ a c e
  tops_good n (suc j) h c e a m = top_good n h c e (λ v r b d i. tops_good n j h d i (all_more b a) m)

  below_length : (n : ℕ) (fs : List (List Bind)) → suc n ≡ length fs → n ≡ length (below fs)
  below_length n [] e = absurd (omega arith)
  below_length n (f ∷ fs) e = omega arith

  unwound_good : {st : List Cell} {v : Value} {s : State} → S s → Cells st → returns st ≡ length s.frames → Sound v → Good (unwound st v s)
  unwound_good h all_none e a = good_off h
  unwound_good h (all_more (cell_value b) c) e a = unwound_good h c e a
  unwound_good {s = s} h (all_more (cell_return i q xs k d) c) e a = good_at (frames_sound_with h (below_sound h.frames_sound)) (all_more (cell_value a) c) (below_length _ s.frames e)
  unwound_good h (all_more (cell_keys ks) c) e a = unwound_good h c e a

  keyed_good : (q i : ℕ) {st : List Cell} {s : State} {ks : List (List ℕ)} (x : List ℕ) → S s → Sets p x → Cells st → returns st ≡ length s.frames → All SoundText ks → Good (keyed x q i s ks st)
  keyed_good q i x h n c e all_none = good_at h c e
  keyed_good q i {st} {s} x h n c e (all_more {x = k} {xs = ks} a hs) = set_good (set_var_sound x h (sound_text a) n)
    where
      set_good : {g : Got} → SoundGot (length s.frames) g → Good (set_then (λ r. at (suc i) (keys ks ∷ st) r) g)
      set_good (sound_value b d f) = good_at d (all_more (cell_keys hs) c) (e ∙ sym f)
      set_good (sound_left b) = good_off b

  good_pick : {a b : Config} (c : Bool) → Good a → Good b → Good (pick c a b)
  good_pick true x y = x
  good_pick false x y = y

  -- What each instruction makes of a sound stack and state is sound. Literals of the code are; NR is below the limit.
  module _ (texts : (i : ℕ) (b : List ℕ) → code p i ≡ push_text b → SoundText b) (values : (i : ℕ) (v : Value) → code p i ≡ push_value v → Sound v) where
    exec_good : (i : Instr) (q : ℕ) → code p q ≡ i → (st : List Cell) (s : State) → S s → s.lines < limit → Cells st → returns st ≡ length s.frames → Good (exec i q st s)
    unfolding in_place put_place
    exec_good (note_all d) q z st s h l c e = good_at (note_sound _ h) c e
    exec_good (note_below d) q z st s h l c e = good_at (note_sound _ h) c e
    exec_good (push_number n) q z st s h l c e = land_good (suc q) c e (worked_out h (a_plus {n = n}))
    exec_good (push_text b) q z st s h l c e = good_at h (all_more (cell_value (sound_text (texts q b z))) c) e
    exec_good (push_value v) q z st s h l c e = good_at h (all_more (cell_value (values q v z)) c) e
    exec_good (load_variable x) q z st s h l c e = good_at h (all_more (cell_value (var_sound x h l)) c) e
    exec_good load_field q z st s h l c e = top_good _ h c e (λ k r a d i. land_good (suc q) d i (field_sound _ h))
    exec_good (load_item x) q z st s h l c e = top_good _ h c e (λ k r a d i. good_at h (all_more (cell_value (item_sound x _ (λ j b. b.1) h.items_sound)) d) i)
    exec_good (apply_one k) q z st s h l c e = top_good _ h c e (λ v r a d i. land_good (suc q) d i (one_sound k h a))
    exec_good (apply_two k) q z st s h l c e = top_good _ h c e (λ u r a d i. top_good _ h d i (λ v o b f j. land_good (suc q) f j (two_sound k h b a)))
    exec_good to_truth q z st s h l c e = top_good _ h c e (λ v r a d i. good_at h (all_more (cell_value (sound_truth _)) d) i)
    exec_good (match_top y) q z st s h l c e = top_good _ h c e (λ v r a d i. good_at h (all_more (cell_value (sound_truth _)) d) i)
    exec_good (has_key x) q z st s h l c e = top_good _ h c e (λ v r a d i. good_at h (all_more (cell_value (sound_truth _)) d) i)
    exec_good cut_part q z st s h l c e =
        top_good _ h c e (λ w r a d i. top_good _ h d i (λ u o b f j. top_good _ h f j (λ v m g k n. good_at h (all_more (cell_value (sound_text (sound_cut _ _ (sound_as_text g)))) k) n)))
    exec_good (split_into x y) q z st s h l c e = top_good _ h c e (λ v r a d i.
        let t = sound_as_text a in
        let f = cut_by_few y (as_text v) t in
        good_at (items_sound_with h (numbered_sound 1 x (by_split q y z) (omega (arith, f)) (cut_by_sound y (as_text v) t) (those_all _ h.items_sound))) (all_more (cell_value (small_number _ (omega (arith, f)))) d) i)
    exec_good (save_variable x) q z st s h l c e = top_good _ h c e (λ v r a d i. land_good (suc q) d i (set_var_sound x h a (by_save q z)))
    exec_good save_field q z st s h l c e = top_good _ h c e (λ k r a d i. top_good _ h d i (λ v o b f j. land_good (suc q) f j (store_sound _ h b)))
    exec_good (save_item x) q z st s h l c e =
        top_good _ h c e (λ k r a d i. top_good _ h d i (λ v o b f j. good_at (save_item_sound x _ h (sound_as_text a) b (by_save_item q z)) (all_more (cell_value b) f) j))
    exec_good (swap_variable y x) q z st s h l c e =
        top_good _ h c e (λ v r a d i. land_good (suc q) d i (swap_sound y (var x) (text []) h a (var_sound x h l) (λ t b. set_var_sound x h b (by_swap q y z))))
    exec_good (swap_field y) q z st s h l c e =
        top_good _ h c e (λ k r a d i. top_good _ h d i (λ v o b f j. land_good (suc q) f j (swap_field_sound y k h b)))
    exec_good (swap_item y x) q z st s h l c e =
        top_good _ h c e (λ k r a d i. top_good _ h d i (λ v o b f j.
        land_good (suc q) f j (swap_sound y (item x (txt [])) k h b (item_sound x _ (λ m n. n.1) h.items_sound) (λ t g. sound_value g (save_item_sound x _ h (sound_as_text a) g (by_swap_item q y z)) refl))))
    exec_good (fail k) q z st s h l c e = good_off h
    exec_good (jump r) q z st s h l c e = good_at h c e
    exec_good (jump_if r) q z st s h l c e = top_good _ h c e (λ v o a d i. good_pick (holds v) (good_at h d i) (good_at h d i))
    exec_good (jump_unless r) q z st s h l c e = top_good _ h c e (λ v o a d i. good_pick (holds v) (good_at h d i) (good_at h d i))
    exec_good drop_top q z st s h l c e = top_good _ h c e (λ v r a d i. good_at h d i)
    exec_good print_line q z st s h l c e = good_at (out_sound _ h) c e
    exec_good (print_values n) q z st s h l c e = tops_good _ n h c e all_none (λ vs r a d i. good_at (out_sound _ h) d i)
    exec_good leave_line q z st s h l c e = good_off h
    exec_good exit_run q z st s h l c e = top_good _ h c e (λ v r a d i. good_off (subst S (sym (exit_state (number_of v) s)) h))
    exec_good end_rules q z st s h l c e = good_off h
    exec_good (call_function d r xs n) q z st s h l c e = tops_good _ n h c e all_none (λ vs o a f i.
        let frame : SoundFrame p (framed xs vs) = record { worths = framed_sound xs a; i = q; d = d; q = r; n = n; is_called = z ∙ ap (λ u. call_function d r u n) (sym (framed_names xs vs)) } in
        good_at (frames_sound_with h (all_more frame h.frames_sound)) (all_more (cell_return q r xs n z) f) (ap suc i))
    exec_good return_empty q z st s h l c e = unwound_good h c e (sound_text no_bytes)
    exec_good return_value q z st s h l c e = top_good _ h c e (λ v r a d i. unwound_good h d i a)
    exec_good (push_keys y) q z st s h l c e = good_at h (all_more (cell_keys (each_all SoundText (λ i. i.key) (λ i b. b.0) (those_all _ h.items_sound))) c) e
    exec_good (next_key x r) q z st s h l c e = keys_good c e
      where
        keys_good : {st₁ : List Cell} → Cells st₁ → returns st₁ ≡ length s.frames → Good (with_keys (λ ks o. keyed x r q s ks o) s st₁)
        keys_good all_none f = good_off h
        keys_good (all_more (cell_value a) d) f = good_off h
        keys_good (all_more (cell_return i j xs k g) d) f = good_off h
        keys_good (all_more (cell_keys ks) d) f = keyed_good r q x h (by_loop q r z) d f ks
    exec_good (delete_item x) q z st s h l c e = top_good _ h c e (λ v r a d i. good_at (items_sound_with h (those_all _ h.items_sound)) d i)

-- Runs.
abbrev GoodLive : Program → Live → Type 0
GoodLive p (live g c b z) = Good p c × Bytes b
GoodLive p (over w z) = SoundState p (state_of w)

abbrev GoodNow : Program → Now → Type 0
GoodNow p (steps y) = GoodLive p y
GoodNow p (waits s) = Unit {0}
GoodNow p (ends w) = Unit {0}

abbrev CutBytes : Cut → Type 0
CutBytes (whole l r) = Bytes l × Bytes r
CutBytes (part l) = Bytes l

cut_bytes : (l b : List ℕ) → Bytes l → Bytes b → CutBytes (cut_line l b)
unfolding cut_line
cut_bytes l [] h i = h
cut_bytes l (c ∷ b) h i =
    let t = and_parts (ltb c 256) (every (λ d. ltb d 256) b) i in
    by_end (eqb c 10) t.1 (cut_bytes (l ++ c ∷ []) b (bytes_both l (c ∷ []) h (rw t.0 refl)) t.1)
  where
    by_end : (t : Bool) → Bytes b → CutBytes (cut_line (l ++ c ∷ []) b) → CutBytes (pick t (whole l b) (cut_line (l ++ c ∷ []) b))
    by_end true j r = (h, j)
    by_end false j r = r

module _ (p : Program) (texts : (i : ℕ) (b : List ℕ) → code p i ≡ push_text b → SoundText b) (values : (i : ℕ) (v : Value) → code p i ≡ push_value v → Sound v) where
  fresh_sound : {s : State} (l : List ℕ) → SoundState p s → SoundText l → SoundState p (fresh l s)
  fresh_sound {s} l h a =
      let f = cut_sound p h a in
      record { vars_sound = h.vars_sound; items_sound = h.items_sound; line_sound = a; fields_of = inl refl; parts_sound = f.parts_sound; parts_few = f.parts_few; frames_sound = all_none }

  line_good : {s : State} (z : Bool) (l r : List ℕ) → SoundState p s → Bytes l → Bytes r → (t : Bool) → short l ≡ t →
      GoodNow p (pick t (steps (live line_stage (at (entries p).at_line [] (fresh l s)) r z)) (steps (over (wrong 7 s) z)))
  line_good z l r h a b true e = (good_at (fresh_sound l h (short_sound e a)) all_none refl, b)
  line_good z l r h a b false e = h

  take_good : {s : State} (z : Bool) (d : Cut) → SoundState p s → s.frames ≡ [] → CutBytes d → GoodNow p (live_take (entries p) z s d)
  take_good z (whole l r) h f c = line_good z l r h c.0 c.1 (short l) refl
  take_good false (part l) h f c = tt
  take_good true (part []) h f c = (good_at h all_none (ap length (sym f)), refl)
  take_good true (part (c ∷ cs)) h f d = line_good true (c ∷ cs) [] h d refl (short (c ∷ cs)) refl

  after_good : {s : State} (g : Stage) (b : List ℕ) (z : Bool) → SoundState p s → s.frames ≡ [] → Bytes b → GoodNow p (live_after (entries p) g b z s)
  after_good first_stage b z h f i = take_good z (cut_line [] b) h f (cut_bytes [] b refl i)
  after_good line_stage b z h f i = take_good z (cut_line [] b) h f (cut_bytes [] b refl i)
  after_good last_stage b z h f i = h

  off_good : (g : Stage) (w : Went) (b : List ℕ) (z : Bool) → SoundState p (state_of w) → Bytes b → GoodNow p (live_driven (entries p) g b z (settled w))
  off_good g (went s) b z h i = after_good g b z (frames_sound_with p h all_none) refl i
  off_good g (nexted s) b z h i = after_good g b z (frames_sound_with p h all_none) refl i
  off_good g (stopped k s) b z h i = h
  off_good g (given v s) b z h i = after_good g b z (frames_sound_with p h all_none) refl i
  off_good g (wrong k s) b z h i = h
  off_good g (unfinished s) b z h i = h

  next_good : (x : Live) → GoodLive p x → (live_state x).lines < limit → GoodNow p (follow p x)
  next_good (live g (at q st s) b z) (good_at h c e, i) l = (exec_good p texts values (code p q) q refl st s h l c e, i)
  next_good (live g (off w) b z) (good_off h, i) l = off_good g w b z h i
  next_good (over w z) h l = tt

  told_good : (q : List ℕ) (x : Live) → GoodLive p x → Bytes q → GoodLive p (told (bytes q) x)
  told_good q (live g c b z) h i = (h.0, bytes_both b q h.1 i)
  told_good q (over w z) h i = h

  end_good : (x : Live) → GoodLive p x → GoodLive p (told no_more x)
  end_good (live g c b z) h = h
  end_good (over w z) h = h

  pub reached_good : {bs : List ℕ} {n : ℕ} {x : Live} → Reached p bs n x → length bs < limit → GoodLive p x
  reached_good at_start l = (good_at (first_state p) all_none refl, refl)
  reached_good (one_more {x} {y} r e) l =
      subst (λ z. GoodNow p z) e (next_good x (reached_good r l) (omega (arith, reached_many p r)))
  reached_good (piece_came {bs} {cs} {n} {x} {y} q r e b i j) l = subst (λ z. GoodLive p z) (sym j) (told_good q x (reached_good r (omega (arith, ap length i, length-append bs q))) b)
  reached_good (end_told {bs} {n} {x} {y} r e j) l = subst (λ z. GoodLive p z) (sym j) (end_good x (reached_good r l))

-- How what is reached ends: as the meaning does.
module _ (p : Program) where
  over_proper : {bs : List ℕ} {n : ℕ} {w : Went} {z : Bool} → Reached p bs n (over w z) → Proper w
  over_proper {bs} {n} {w} r = subst Proper (over_is p (bs ++ []) n w (reached_run p r [] (λ i. refl))).0 (outcome_proper (suc n) p (bs ++ []))

  off_proper : {bs : List ℕ} {n : ℕ} {g : Stage} {b : List ℕ} {z : Bool} (w : Went) → Reached p bs n (live g (off w) b z) → Proper (settled w)
  off_proper (went s) r = all_done
  off_proper (nexted s) r = all_done
  off_proper (stopped k s) r = over_proper (one_more r refl)
  off_proper (given v s) r = all_done
  off_proper (wrong k s) r = over_proper (one_more r refl)
  off_proper (unfinished s) r = cut_off

  no_zero : {s : State} → Proper (wrong 0 s) → ⊥
  no_zero (faulted h) = clash h

  unstuck : {bs : List ℕ} {n : ℕ} {g : Stage} {q : ℕ} {st : List Cell} {s : State} {b : List ℕ} {z : Bool} → Reached p bs n (live g (at q st s) b z) → exec (code p q) q st s ≡ off (wrong 0 s) → ⊥
  unstuck {bs} {n} {g} {q} {st} {s} {b} {z} r e =
      let r₁ : Reached p bs (suc n) (live g (off (wrong 0 s)) b z) = subst (λ c. Reached p bs (suc n) (live g c b z)) e (one_more r refl) in
      no_zero (off_proper (wrong 0 s) r₁)

-- So an instruction finds what it takes.
need_top : (k : Value → List Cell → Config) (s : State) (m : ℕ) (st : List Cell) → (with_top k s st ≡ off (wrong 0 s) → ⊥) → ((v : Value) (r : List Cell) → (k v r ≡ off (wrong 0 s) → ⊥) → Values m r) → Values (suc m) st
need_top k s m [] h f = absurd (h refl)
need_top k s m (val v ∷ st) h f = f v st h
need_top k s m (ret q d ∷ st) h f = absurd (h refl)
need_top k s m (keys ks ∷ st) h f = absurd (h refl)

need_tops : (k : List Value → List Cell → Config) (s : State) (n : ℕ) (vs : List Value) (st : List Cell) → (with_tops k s n vs st ≡ off (wrong 0 s) → ⊥) → Values n st
need_tops k s zero vs st h = tt
need_tops k s (suc n) vs st h = need_top _ s n st h (λ v r i. need_tops k s n (v ∷ vs) r i)

need_one : (k : Value → List Cell → Config) (s : State) (st : List Cell) → (with_top k s st ≡ off (wrong 0 s) → ⊥) → Values 1 st
need_one k s st h = need_top k s 0 st h (λ v r i. tt)

need_two : (k : Value → Value → List Cell → Config) (s : State) (st : List Cell) → (with_top (λ u r. with_top (λ v q. k u v q) s r) s st ≡ off (wrong 0 s) → ⊥) → Values 2 st
need_two k s st h = need_top _ s 1 st h (λ u r i. need_one (λ v q. k u v q) s r i)

need_keys : (k : List (List ℕ) → List Cell → Config) (s : State) (st : List Cell) → (with_keys k s st ≡ off (wrong 0 s) → ⊥) → (ks : List (List ℕ)) × (rest : List Cell) × (st ≡ keys ks ∷ rest)
need_keys k s [] h = absurd (h refl)
need_keys k s (val v ∷ st) h = absurd (h refl)
need_keys k s (ret q d ∷ st) h = absurd (h refl)
need_keys k s (keys ks ∷ st) h = (ks, st, refl)

finds : (i : Instr) (q : ℕ) (st : List Cell) (s : State) → (exec i q st s ≡ off (wrong 0 s) → ⊥) → Values (takes i) st
finds (note_all d) q st s h = tt
finds (note_below d) q st s h = tt
finds (push_number n) q st s h = tt
finds (push_text b) q st s h = tt
finds (push_value v) q st s h = tt
finds (load_variable x) q st s h = tt
finds load_field q st s h = need_one _ s st h
finds (load_item x) q st s h = need_one _ s st h
finds (apply_one k) q st s h = need_one _ s st h
finds (apply_two k) q st s h = need_two _ s st h
finds to_truth q st s h = need_one _ s st h
finds (match_top y) q st s h = need_one _ s st h
finds (has_key x) q st s h = need_one _ s st h
finds cut_part q st s h = need_top _ s 2 st h (λ w r i. need_two _ s r i)
finds (split_into x y) q st s h = need_one _ s st h
finds (save_variable x) q st s h = need_one _ s st h
finds save_field q st s h = need_two _ s st h
finds (save_item x) q st s h = need_two _ s st h
finds (swap_variable y x) q st s h = need_one _ s st h
finds (swap_field y) q st s h = need_two _ s st h
finds (swap_item y x) q st s h = need_two _ s st h
finds (fail k) q st s h = tt
finds (jump r) q st s h = tt
finds (jump_if r) q st s h = need_one _ s st h
finds (jump_unless r) q st s h = need_one _ s st h
finds drop_top q st s h = need_one _ s st h
finds print_line q st s h = tt
finds (print_values n) q st s h = need_tops _ s n [] st h
finds leave_line q st s h = tt
finds exit_run q st s h = need_one _ s st h
finds end_rules q st s h = tt
finds (call_function d r xs n) q st s h = need_tops _ s n [] st h
finds return_empty q st s h = tt
finds return_value q st s h = need_one _ s st h
finds (push_keys y) q st s h = tt
finds (next_key x r) q st s h = tt
finds (delete_item x) q st s h = need_one _ s st h

-- Literals of a sound program's code are sound.
literal : (p : Program) → SoundProgram p → (i : ℕ) (j : Instr) → code p i ≡ j → (end_rules ≡ j → ⊥) → Followed p.funs j (code p (suc i))
literal p s i j e n = by_place (cases_lt i (length (program_code p)))
  where
    by_place : (i < length (program_code p)) ⊎ (length (program_code p) ≤ i) → Followed p.funs j (code p (suc i))
    by_place (inl h) = subst (λ k. Followed p.funs k (code p (suc i))) e (program_followed p s i h)
    by_place (inr h) = absurd (n (sym (get_or-eq_default (program_code p) end_rules h) ∙ e))

pub reached_sound : (p : Program) → SoundProgram p → {bs : List ℕ} {n : ℕ} {x : Live} → Reached p bs n x → length bs < limit → SoundLive p x
reached_sound p s {bs} {n} {x} r l = by_live x r (reached_good p texts values r l)
  where
    texts : (i : ℕ) (b : List ℕ) → code p i ≡ push_text b → SoundText b
    texts i b e = (literal p s i (push_text b) e (λ z. let y : ◌≡◌ {A = ℕ} 0 1 = cc in omega arith)).0

    values : (i : ℕ) (v : Value) → code p i ≡ push_value v → Sound v
    values i v e = (literal p s i (push_value v) e (λ z. let y : ◌≡◌ {A = ℕ} 0 1 = cc in omega arith)).0

    by_live : (y : Live) → Reached p bs n y → GoodLive p y → SoundLive p y
    by_live (live g (at q st t) b z) a (good_at h c e, i) =
        live_at h c e (finds (code p q) q st t (unstuck p a)) (λ o k w. need_keys _ t st (λ v. unstuck p a (ap (λ u. exec u q st t) w ∙ v))) i
    by_live (live g (off w) b z) a (good_off h, i) = live_off h (off_proper p w a) i
    by_live (over w z) a h = live_over h (over_proper p a)
