-- What the meaning's own operations do to a state, said once for all of them: they give a value or say what is wrong, they write nothing, note
-- nothing and count no line. So an instruction writes at most at the end of what was written.
use Rattle.std.proofs.Common.{◌≡◌, ℕ, zero, suc, ◌+◌, Bool, true, false, eqb, ltb, List, [], ◌∷◌, ◌++◌, sym, refl, ◌∙◌, le_refl}
use Rattle.language.specs.Text.{pick, or, Value, plus, minus, text, Num, too_large, fine, within, number_of, holds, none_of, same, joined, as_text, is_zero, Pattern}
use Rattle.language.specs.Program.{Term, num, txt, var, item, field, un, bin, like, there, put_in, call, part, split, swap}
use Rattle.language.specs.Meaning.{State, Went, stopped, wrong, Got, got, left, state_of, as_got, field_got, field_number, reckon, reckon_one, set_var, store_field, then_got, in_place, put_place, place_got, swapped, bound, top, w_nr, w_nf, short, set_part, exit_with, Ev, printed, with_out, note}
use Rattle.language.proofs.Growth.{Grows, grows_refl, grows_like, grows_note}
use Rattle.semantics.specs.Stack.{Cell, val, ret, keys, held, below_top, Instr, note_all, note_below, push_number, push_text, push_value, load_variable, load_field, load_item, apply_one, apply_two, to_truth, match_top, has_key, cut_part, split_into, save_variable, save_field, save_item, swap_variable, swap_field, swap_item, fail, jump, jump_if, jump_unless, drop_top, print_line, print_values, leave_line, exit_run, end_rules, call_function, return_empty, return_value, push_keys, next_key, delete_item, Config, at, off, config_state, land, with_top, with_tops, with_keys, unwound, set_then, keyed, swap_all, exec}
use Rattle.semantics.specs.Code.{Calls, by_place, key_code, nothing_to_do}
use Rattle.semantics.specs.Invariants.{Fault}

-- a term that is no place: whatever is to be done with it is wrong, and its code has no key
pub record NoPlace (t : Term) : Type 0 where
  pub got_is : (ev : Ev) (h : ℕ) (s : State) → place_got ev h t s ≡ left (wrong 9 s)
  pub in_is : (k : Value) (s : State) → in_place t k s ≡ left (wrong 9 s)
  pub put_is : (k v : Value) (s : State) → put_place t k v s ≡ left (wrong 9 s)
  pub key_is : (c : Calls) (d : ℕ) → key_code c t d ≡ nothing_to_do
  pub by_is : (v i : List ℕ → Instr) (f o : Instr) → by_place t v i f o ≡ o

pub data Place : Term → Type 0 where
  a_name : (x : List ℕ) → Place (var x)
  an_item : (x : List ℕ) (k : Term) → Place (item x k)
  a_field : (k : Term) → Place (field k)
  no_place : {t : Term} → NoPlace t → Place t

pub place_view : (t : Term) → Place t
unfolding place_got in_place put_place key_code
place_view (num n) = no_place (record { got_is = λ e h s. refl; in_is = λ k s. refl; put_is = λ k v s. refl; key_is = λ c d. refl; by_is = λ v i f o. refl })
place_view (txt b) = no_place (record { got_is = λ e h s. refl; in_is = λ k s. refl; put_is = λ k v s. refl; key_is = λ c d. refl; by_is = λ v i f o. refl })
place_view (var x) = a_name x
place_view (item x k) = an_item x k
place_view (field k) = a_field k
place_view (un k a) = no_place (record { got_is = λ e h s. refl; in_is = λ k s. refl; put_is = λ k v s. refl; key_is = λ c d. refl; by_is = λ v i f o. refl })
place_view (bin k a b) = no_place (record { got_is = λ e h s. refl; in_is = λ k s. refl; put_is = λ k v s. refl; key_is = λ c d. refl; by_is = λ v i f o. refl })
place_view (like a y) = no_place (record { got_is = λ e h s. refl; in_is = λ k s. refl; put_is = λ k v s. refl; key_is = λ c d. refl; by_is = λ v i f o. refl })
place_view (there a x) = no_place (record { got_is = λ e h s. refl; in_is = λ k s. refl; put_is = λ k v s. refl; key_is = λ c d. refl; by_is = λ v i f o. refl })
place_view (put_in a b) = no_place (record { got_is = λ e h s. refl; in_is = λ k s. refl; put_is = λ k v s. refl; key_is = λ c d. refl; by_is = λ v i f o. refl })
place_view (call x ts) = no_place (record { got_is = λ e h s. refl; in_is = λ k s. refl; put_is = λ k v s. refl; key_is = λ c d. refl; by_is = λ v i f o. refl })
place_view (part a b k) = no_place (record { got_is = λ e h s. refl; in_is = λ k s. refl; put_is = λ k v s. refl; key_is = λ c d. refl; by_is = λ v i f o. refl })
place_view (split a x y) = no_place (record { got_is = λ e h s. refl; in_is = λ k s. refl; put_is = λ k v s. refl; key_is = λ c d. refl; by_is = λ v i f o. refl })
place_view (swap y a b) = no_place (record { got_is = λ e h s. refl; in_is = λ k s. refl; put_is = λ k v s. refl; key_is = λ c d. refl; by_is = λ v i f o. refl })

-- nothing was written, noted or counted between two states
pub record Quiet (s r : State) : Type 0 where
  pub outs : r.out ≡ s.out
  pub heavies : r.heavy ≡ s.heavy
  pub counts : r.lines ≡ s.lines

pub quiet : {s r : State} → r.out ≡ s.out → r.heavy ≡ s.heavy → r.lines ≡ s.lines → Quiet s r
quiet a b c = record { outs = a; heavies = b; counts = c }

quiet_same : {s : State} → Quiet s s
quiet_same = quiet refl refl refl

quiet_then : {s r q : State} → Quiet s r → Quiet r q → Quiet s q
quiet_then a b = quiet (b.outs ∙ a.outs) (b.heavies ∙ a.heavies) (b.counts ∙ a.counts)

-- a value, or a fault
pub data Mild (s : State) : Got → Type 0 where
  a_value : {v : Value} {r : State} → Quiet s r → Mild s (got v r)
  a_fault : {k : ℕ} {r : State} → Fault k → Quiet s r → Mild s (left (wrong k r))

pub mild : {s : State} {v : Value} → Mild s (got v s)
mild = a_value quiet_same

changed : {s r : State} {v : Value} → r.out ≡ s.out → r.heavy ≡ s.heavy → r.lines ≡ s.lines → Mild s (got v r)
changed a b c = a_value (quiet a b c)

pub faulty : {s : State} (k : ℕ) → Fault k → Mild s (left (wrong k s))
faulty k h = a_fault h quiet_same

mild_pick : {s : State} {a b : Got} (c : Bool) → Mild s a → Mild s b → Mild s (pick c a b)
mild_pick true p q = p
mild_pick false p q = q

mild_from : {s r : State} {g : Got} → Quiet s r → Mild r g → Mild s g
mild_from q (a_value h) = a_value (quiet_then q h)
mild_from q (a_fault k h) = a_fault k (quiet_then q h)

mild_then : {s : State} {g : Got} (k : Value → State → Got) → Mild s g → ((v : Value) (r : State) → Mild r (k v r)) → Mild s (then_got g k)
mild_then k (a_value {v} {r} q) m = mild_from q (m v r)
mild_then k (a_fault h q) m = a_fault h q

pub mild_number : (n : Num) {s : State} → Mild s (as_got n s)
unfolding as_got
mild_number too_large = faulty 3 refl
mild_number (fine v) = mild

pub mild_field : (ks : List ℕ) {s : State} → Mild s (field_got s ks)
unfolding field_got
mild_field [] = faulty 9 refl
mild_field (zero ∷ ks) = mild
mild_field (suc k ∷ ks) = mild

pub mild_one : (k : ℕ) (v : Value) {s : State} → Mild s (reckon_one k v s)
unfolding reckon_one
mild_one k v = mild_pick (eqb k 0) mild (mild_pick (eqb k 1) (mild_number _) (mild_pick (eqb k 2) mild mild))

pub mild_two : (k : ℕ) (v u : Value) {s : State} → Mild s (reckon k v u s)
unfolding reckon
mild_two k v u =
    mild_pick (eqb k 2) mild (mild_pick (eqb k 3) mild (mild_pick (eqb k 4) mild (mild_pick (eqb k 5) mild (mild_pick (eqb k 6) (mild_number _) (mild_pick (eqb k 7) (mild_number _)
    (mild_pick (eqb k 8) (mild_number _) (mild_pick (eqb k 9) (mild_pick (is_zero (number_of u)) (faulty 4 refl) (mild_number _)) (mild_pick (eqb k 10) (mild_pick (is_zero (number_of u)) (faulty 4 refl) (mild_number _))
    (mild_pick (eqb k 11) (mild_pick (short (as_text v ++ as_text u)) mild (faulty 7 refl)) (mild_pick (eqb k 12) mild (mild_pick (eqb k 13) mild mild)))))))))))

pub mild_set : (s : State) (x : List ℕ) (v : Value) → Mild s (set_var s x v)
unfolding set_var
mild_set s x v =
    mild_pick (none_of (bound (top s.frames) x)) (mild_pick (or (same x w_nr) (same x w_nf)) (faulty 6 refl) (changed refl refl refl)) (changed refl refl refl)

pub mild_store : (s : State) (v : Value) (ks : List ℕ) → Mild s (store_field s v ks)
unfolding store_field
mild_store s v [] = faulty 9 refl
mild_store s v (zero ∷ ks) = changed refl refl refl
mild_store s v (suc k ∷ ks) = mild_pick (short (joined (set_part 1001 s.parts (suc k) (as_text v)))) (changed refl refl refl) (faulty 7 refl)

put_by : {t : Term} → Place t → (k v : Value) (s : State) → Mild s (put_place t k v s)
unfolding put_place
put_by (a_name x) k v s = mild_set s x v
put_by (an_item x j) k v s = changed refl refl refl
put_by (a_field j) k v s = mild_store s v _
put_by (no_place z) k v s = rw (z.put_is k v s) (faulty 9 refl)

in_by : {t : Term} → Place t → (k : Value) (s : State) → Mild s (in_place t k s)
unfolding in_place
in_by (a_name x) k s = mild
in_by (an_item x j) k s = mild
in_by (a_field j) k s = mild_field _
in_by (no_place z) k s = rw (z.in_is k s) (faulty 9 refl)

pub mild_put : (t : Term) (k v : Value) (s : State) → Mild s (put_place t k v s)
mild_put t k v s = put_by (place_view t) k v s

pub mild_swap : (y : Pattern) (t : Term) (v k : Value) (s : State) → Mild s (swap_all y t v k s)
mild_swap y t v k s = mild_then _ (in_by (place_view t) k s) (λ o r.
    mild_pick (eqb (swapped y v o).times 0) mild
    (mild_pick (short (swapped y v o).bytes) (mild_then _ (mild_put t k (text (swapped y v o).bytes) r) (λ i j. mild)) (faulty 7 refl)))

-- What an instruction leaves: what was written and noted stays, and no line is counted.
pub record After (s : State) (c : Config) : Type 0 where
  pub grows : Grows s (config_state c)
  pub counts : (config_state c).lines ≡ s.lines

grows_out : (s : State) (bs : List ℕ) → Grows s (with_out s bs)
grows_out s bs = record { outs = (bs, refl); heavies = le_refl s.heavy }

quiet_after : {s : State} (c : Config) → Quiet s (config_state c) → After s c
quiet_after c q = record { grows = grows_like (sym q.outs) (sym q.heavies); counts = q.counts }

still : {s r : State} {p : ℕ} {st : List Cell} → r.out ≡ s.out → r.heavy ≡ s.heavy → r.lines ≡ s.lines → After s (at p st r)
still a b c = quiet_after _ (quiet a b c)

gone : {s : State} {w : Went} → state_of w ≡ s → After s (off w)
gone {s} {w} e = record { grows = rw e grows_refl; counts = rw e }

written : {s : State} {p : ℕ} {st : List Cell} (bs : List ℕ) → After s (at p st (with_out s bs))
written {s} bs = record { grows = grows_out s bs; counts = refl }

noted_after : {s : State} {p : ℕ} {st : List Cell} (h : ℕ) → After s (at p st (note h s))
noted_after {s} h = record { grows = grows_note h s; counts = refl }

land_after : (p : ℕ) (st : List Cell) {s : State} {g : Got} → Mild s g → After s (land p st g)
land_after p st (a_value q) = quiet_after (at p _ _) q
land_after p st (a_fault h q) = quiet_after (off _) q

set_after : (p : ℕ) (st : List Cell) {s : State} {g : Got} → Mild s g → After s (set_then (λ r. at p st r) g)
set_after p st (a_value q) = quiet_after (at p st _) q
set_after p st (a_fault h q) = quiet_after (off _) q

top_after : {k : Value → List Cell → Config} {s : State} → ((v : Value) (r : List Cell) → After s (k v r)) → (st : List Cell) → After s (with_top k s st)
top_after h [] = gone refl
top_after h (val v ∷ st) = h v st
top_after h (ret p d ∷ st) = gone refl
top_after h (keys ks ∷ st) = gone refl

tops_after : {k : List Value → List Cell → Config} {s : State} → ((vs : List Value) (r : List Cell) → After s (k vs r)) → (n : ℕ) (vs : List Value) (st : List Cell) → After s (with_tops k s n vs st)
tops_after h zero vs st = h vs st
tops_after h (suc n) vs st = top_after (λ v r. tops_after h n (v ∷ vs) r) st

keys_after : {k : List (List ℕ) → List Cell → Config} {s : State} → ((ks : List (List ℕ)) (r : List Cell) → After s (k ks r)) → (st : List Cell) → After s (with_keys k s st)
keys_after h [] = gone refl
keys_after h (val v ∷ st) = gone refl
keys_after h (ret p d ∷ st) = gone refl
keys_after h (keys ks ∷ st) = h ks st

keyed_after : (x : List ℕ) (q p : ℕ) (s : State) (ks : List (List ℕ)) (st : List Cell) → After s (keyed x q p s ks st)
keyed_after x q p s [] st = still refl refl refl
keyed_after x q p s (k ∷ ks) st = set_after (suc p) (keys ks ∷ st) (mild_set s x (text k))

unwound_after : (st : List Cell) (v : Value) (s : State) → After s (unwound st v s)
unwound_after [] v s = gone refl
unwound_after (val u ∷ st) v s = unwound_after st v s
unwound_after (ret p d ∷ st) v s = still refl refl refl
unwound_after (keys ks ∷ st) v s = unwound_after st v s

pick_after : {s : State} {c c₁ : Config} (b : Bool) → After s c → After s c₁ → After s (pick b c c₁)
pick_after true x y = x
pick_after false x y = y

-- how exit ends a run
pub exit_state : (v : Value) (s : State) → state_of (exit_with v s) ≡ s
exit_state (plus n) s = exit_pick (ltb n 256)
  where
    exit_pick : (b : Bool) → state_of (pick b (stopped n s) (wrong 9 s)) ≡ s
    exit_pick true = refl
    exit_pick false = refl
exit_state (minus n) s = refl
exit_state (text b) s = refl

pub exec_after : (i : Instr) (p : ℕ) (st : List Cell) (s : State) → After s (exec i p st s)
exec_after (note_all d) p st s = noted_after (d + held st)
exec_after (note_below d) p st s = noted_after (d + held (below_top st))
exec_after (push_number n) p st s = land_after (suc p) st (mild_number (within (plus n)))
exec_after (push_text b) p st s = still refl refl refl
exec_after (push_value v) p st s = still refl refl refl
exec_after (load_variable x) p st s = still refl refl refl
exec_after load_field p st s = top_after (λ k r. land_after (suc p) r (mild_field (field_number (number_of k)))) st
exec_after (load_item x) p st s = top_after (λ v r. still refl refl refl) st
exec_after (apply_one k) p st s = top_after (λ v r. land_after (suc p) r (mild_one k v)) st
exec_after (apply_two k) p st s = top_after (λ u r. top_after (λ v q. land_after (suc p) q (mild_two k v u)) r) st
exec_after to_truth p st s = top_after (λ v r. still refl refl refl) st
exec_after (match_top y) p st s = top_after (λ v r. still refl refl refl) st
exec_after (has_key x) p st s = top_after (λ v r. still refl refl refl) st
exec_after cut_part p st s = top_after (λ w r. top_after (λ u q. top_after (λ v o. still refl refl refl) q) r) st
exec_after (split_into x y) p st s = top_after (λ v r. still refl refl refl) st
exec_after (save_variable x) p st s = top_after (λ v r. land_after (suc p) r (mild_set s x v)) st
exec_after save_field p st s = top_after (λ k r. top_after (λ v q. land_after (suc p) q (mild_store s v (field_number (number_of k)))) r) st
exec_after (save_item x) p st s = top_after (λ k r. top_after (λ v q. still refl refl refl) r) st
exec_after (swap_variable y x) p st s = top_after (λ v r. land_after (suc p) r (mild_swap y (var x) v (text []) s)) st
exec_after (swap_field y) p st s = top_after (λ k r. top_after (λ v q. land_after (suc p) q (mild_swap y (field (txt [])) v k s)) r) st
exec_after (swap_item y x) p st s = top_after (λ k r. top_after (λ v q. land_after (suc p) q (mild_swap y (item x (txt [])) v k s)) r) st
exec_after (fail k) p st s = gone refl
exec_after (jump q) p st s = still refl refl refl
exec_after (jump_if q) p st s = top_after (λ v r. pick_after (holds v) (still refl refl refl) (still refl refl refl)) st
exec_after (jump_unless q) p st s = top_after (λ v r. pick_after (holds v) (still refl refl refl) (still refl refl refl)) st
exec_after drop_top p st s = top_after (λ v r. still refl refl refl) st
exec_after print_line p st s = written (s.line ++ 10 ∷ [])
exec_after (print_values n) p st s = tops_after (λ vs r. written (printed vs)) n [] st
exec_after leave_line p st s = gone refl
exec_after exit_run p st s = top_after (λ v r. gone (exit_state (number_of v) s)) st
exec_after end_rules p st s = gone refl
exec_after (call_function d q xs n) p st s = tops_after (λ vs r. still refl refl refl) n [] st
exec_after return_empty p st s = unwound_after st (text []) s
exec_after return_value p st s = top_after (λ v r. unwound_after r v s) st
exec_after (push_keys y) p st s = still refl refl refl
exec_after (next_key x q) p st s = keys_after (λ ks r. keyed_after x q p s ks r) st
exec_after (delete_item x) p st s = top_after (λ v r. still refl refl refl) st
