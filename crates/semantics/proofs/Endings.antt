-- With which numbers a run can end: below 256 where exit said so, and a fault where something is wrong. Statements can end in two more ways, which a
-- run's stages settle.
use Rattle.std.proofs.Common.{◌≡◌, ℕ, zero, suc, ◌+◌, ◌<◌, Bool, true, false, eqb, ltb, List, [], ◌∷◌, length, refl, ltb-true}
use Rattle.language.specs.Text.{pick, Value, plus, minus, text, holds, number_of, added_up}
use Rattle.language.specs.Program.{Term, Terms, num, txt, var, item, field, un, bin, like, there, put_in, call, part, split, swap, no_terms, term_and, Deed, Deeds, value, print, when, while, each_key, next_line, exit, forget, give, no_deeds, deed_and, Rule, Fun, Program}
use Rattle.language.specs.Meaning.{State, Went, went, nexted, stopped, given, wrong, unfinished, Got, got, left, Gots, gots, lefts, note, noted, then_got, then_gots, and_gots, more_gots, got_then, went_then, exit_with, short, settled, Ev, Ex, eval, does, eval_by, deed_by, deeds_by, eval_all, place_got, call_by, called, over_keys, print_gots, fun_of, size_of, framed, with_frames, keys_of, by_rule, rules_go, begun, lined, over_lines, ended, so_far, outcome, of_kind, for_lines, whole_lines, last_line, at_first}
use Rattle.semantics.specs.Invariants.{Fault, Proper, all_done, exited, faulted, cut_off}
use Rattle.semantics.proofs.Primitives.{Place, a_name, an_item, a_field, no_place, place_view, Mild, a_value, a_fault, mild_number, mild_field, mild_one, mild_two, mild_set, mild_put, mild_swap}

-- statements, a term, terms
data Fine : Went → Type 0 where
  fine_went : {s : State} → Fine (went s)
  fine_nexted : {s : State} → Fine (nexted s)
  fine_stopped : {k : ℕ} {s : State} → k < 256 → Fine (stopped k s)
  fine_given : {v : Value} {s : State} → Fine (given v s)
  fine_wrong : {k : ℕ} {s : State} → Fault k → Fine (wrong k s)
  fine_cut : {s : State} → Fine (unfinished s)

data FineGot : Got → Type 0 where
  fine_value : {v : Value} {s : State} → FineGot (got v s)
  fine_left : {w : Went} → Fine w → FineGot (left w)

data FineGots : Gots → Type 0 where
  fine_values : {vs : List Value} {s : State} → FineGots (gots vs s)
  fine_lefts : {w : Went} → Fine w → FineGots (lefts w)

fine_mild : {s : State} {g : Got} → Mild s g → FineGot g
fine_mild (a_value q) = fine_value
fine_mild (a_fault h q) = fine_left (fine_wrong h)

wrong_got : {s : State} (k : ℕ) → Fault k → FineGot (left (wrong k s))
wrong_got k h = fine_left (fine_wrong h)

pick_got : {a b : Got} (c : Bool) → FineGot a → FineGot b → FineGot (pick c a b)
pick_got true x y = x
pick_got false x y = y

pick_went : {a b : Went} (c : Bool) → Fine a → Fine b → Fine (pick c a b)
pick_went true x y = x
pick_went false x y = y

then_fine : {g : Got} (k : Value → State → Got) → FineGot g → ((v : Value) (r : State) → FineGot (k v r)) → FineGot (then_got g k)
then_fine k (fine_value {v} {s}) m = m v s
then_fine k (fine_left h) m = fine_left h

end_fine : {g : Got} (k : Value → State → Went) → FineGot g → ((v : Value) (r : State) → Fine (k v r)) → Fine (got_then g k)
end_fine k (fine_value {v} {s}) m = m v s
end_fine k (fine_left h) m = h

went_fine : {w : Went} (k : State → Went) → Fine w → ((r : State) → Fine (k r)) → Fine (went_then w k)
went_fine k (fine_went {s}) m = m s
went_fine k fine_nexted m = fine_nexted
went_fine k (fine_stopped h) m = fine_stopped h
went_fine k fine_given m = fine_given
went_fine k (fine_wrong h) m = fine_wrong h
went_fine k fine_cut m = fine_cut

all_fine : {g : Gots} (k : List Value → State → Got) → FineGots g → ((vs : List Value) (r : State) → FineGot (k vs r)) → FineGot (then_gots g k)
all_fine k (fine_values {vs} {s}) m = m vs s
all_fine k (fine_lefts h) m = fine_left h

and_fine : {g : Got} (k : Value → State → Gots) → FineGot g → ((v : Value) (r : State) → FineGots (k v r)) → FineGots (and_gots g k)
and_fine k (fine_value {v} {s}) m = m v s
and_fine k (fine_left h) m = fine_lefts h

more_fine : {g : Gots} (v : Value) → FineGots g → FineGots (more_gots v g)
more_fine v fine_values = fine_values
more_fine v (fine_lefts h) = fine_lefts h

noted_fine : {g : Got} (h : ℕ) → FineGot g → FineGot (noted h g)
noted_fine h fine_value = fine_value
noted_fine h (fine_left i) = fine_left i

called_fine : {w : Went} → Fine w → FineGot (called w)
called_fine fine_went = fine_value
called_fine fine_nexted = fine_left fine_nexted
called_fine (fine_stopped h) = fine_left (fine_stopped h)
called_fine fine_given = fine_value
called_fine (fine_wrong h) = fine_left (fine_wrong h)
called_fine fine_cut = fine_left fine_cut

print_fine : {g : Gots} → FineGots g → Fine (print_gots g)
print_fine fine_values = fine_went
print_fine (fine_lefts h) = h

exit_fine : (v : Value) (s : State) → Fine (exit_with v s)
exit_fine (plus n) s = exit_pick (ltb n 256) refl
  where
    exit_pick : (b : Bool) → ltb n 256 ≡ b → Fine (pick b (stopped n s) (wrong 9 s))
    exit_pick true h = fine_stopped (ltb-true n 256 h)
    exit_pick false h = fine_wrong refl
exit_fine (minus n) s = fine_wrong refl
exit_fine (text b) s = fine_wrong refl

-- one level, where what stands within is fine
module _ (ev : Ev) (ex : Ex) (te : (h : ℕ) (t : Term) (s : State) → FineGot (ev h t s)) (de : (h : ℕ) (ds : Deeds) (s : State) → Fine (ex h ds s)) where
  terms_fine : (h : ℕ) (ts : Terms) (s : State) → FineGots (eval_all ev h ts s)
  unfolding eval_all
  terms_fine h no_terms s = fine_values
  terms_fine h (term_and t ts) s = and_fine _ (te h t s) (λ v r. more_fine v (terms_fine (h + size_of v) ts r))

  place_fine : (h : ℕ) {t : Term} → Place t → (s : State) → FineGot (place_got ev h t s)
  unfolding place_got
  place_fine h (a_name x) s = fine_value
  place_fine h (an_item x k) s = te h k s
  place_fine h (a_field k) s = te h k s
  place_fine h (no_place z) s = rw (z.got_is ev h s) (wrong_got 9 refl)

  call_fine : (h : ℕ) (fs : List Fun) (vs : List Value) (s : State) → FineGot (call_by ex h fs vs s)
  call_fine h [] vs s = wrong_got 5 refl
  call_fine h (f ∷ fs) vs s = pick_got _ (called_fine (de h f.deeds (with_frames s (framed f.params vs ∷ s.frames)))) (wrong_got 5 refl)

  term_fine : (fs : List Fun) (h : ℕ) (t : Term) (s : State) → FineGot (eval_by ev ex fs h t s)
  unfolding eval_by
  term_fine fs h (num n) s = fine_mild (mild_number _ {s = s})
  term_fine fs h (txt b) s = fine_value
  term_fine fs h (var x) s = fine_value
  term_fine fs h (item x k) s = then_fine _ (te h k s) (λ v r. fine_value)
  term_fine fs h (field k) s = then_fine _ (te h k s) (λ v r. fine_mild (mild_field _ {s = r}))
  term_fine fs h (un k a) s = then_fine _ (te h a s) (λ v r. fine_mild (mild_one k v {s = r}))
  term_fine fs h (bin k a b) s =
      then_fine _ (te h a s) (λ v r. pick_got (eqb k 0) (pick_got (holds v) fine_value (then_fine _ (te h b r) (λ u q. fine_value)))
      (pick_got (eqb k 1) (pick_got (holds v) (then_fine _ (te h b r) (λ u q. fine_value)) fine_value) (then_fine _ (te (h + size_of v) b r) (λ u q. fine_mild (mild_two k v u {s = q})))))
  term_fine fs h (like a p) s = then_fine _ (te h a s) (λ v r. fine_value)
  term_fine fs h (there a x) s = then_fine _ (te h a s) (λ v r. fine_value)
  term_fine fs h (put_in a b) s = then_fine _ (te h b s) (λ v r. then_fine _ (place_fine (h + size_of v) (place_view a) r) (λ k q. fine_mild (mild_put a k v q)))
  term_fine fs h (call x ts) s = all_fine _ (terms_fine h ts s) (λ vs r. call_fine h (fun_of fs x) vs r)
  term_fine fs h (part a b c) s = then_fine _ (te h a s) (λ v r. then_fine _ (te (h + size_of v) b r) (λ u q. then_fine _ (te (h + size_of v + size_of u) c q) (λ w o. fine_value)))
  term_fine fs h (split a x p) s = then_fine _ (te h a s) (λ v r. fine_value)
  term_fine fs h (swap p a b) s = then_fine _ (te h a s) (λ v r. then_fine _ (place_fine (h + size_of v) (place_view b) r) (λ k q. fine_mild (mild_swap p b v k q)))

  keys_fine : (h : ℕ) (x : List ℕ) (ds : Deeds) (ks : List (List ℕ)) (s : State) → Fine (over_keys ex h x ds ks s)
  unfolding over_keys
  keys_fine h x ds [] s = fine_went
  keys_fine h x ds (k ∷ ks) s =
      end_fine _ (fine_mild (mild_set s x (text k))) (λ v r. went_fine _ (de (16 + h + added_up (λ j. 16 + length j) ks) ds r) (λ q. keys_fine h x ds ks q))

  deed_fine : (h : ℕ) (d : Deed) (s : State) → Fine (deed_by ev ex h d s)
  unfolding deed_by
  deed_fine h (value t) s = end_fine _ (te h t s) (λ v r. fine_went)
  deed_fine h (print no_terms) s = fine_went
  deed_fine h (print (term_and t ts)) s = print_fine (terms_fine h (term_and t ts) s)
  deed_fine h (when c a b) s = end_fine _ (te h c s) (λ v r. pick_went (holds v) (de (16 + h) a r) (de (16 + h) b r))
  deed_fine h (while c a) s = end_fine _ (te h c s) (λ v r. pick_went (holds v) (went_fine _ (de (16 + h) a r) (λ q. de h (deed_and (while c a) no_deeds) q)) fine_went)
  deed_fine h (each_key x y a) s = keys_fine h x a (keys_of s.items y) s
  deed_fine h next_line s = fine_nexted
  deed_fine h (exit t) s = end_fine _ (te h t s) (λ v r. exit_fine (number_of v) r)
  deed_fine h (forget x t) s = end_fine _ (te h t s) (λ v r. fine_went)
  deed_fine h (give t) s = end_fine _ (te h t s) (λ v r. fine_given)

  deeds_fine : (h : ℕ) (ds : Deeds) (s : State) → Fine (deeds_by ev ex h ds s)
  unfolding deeds_by
  deeds_fine h no_deeds s = fine_went
  deeds_fine h (deed_and d ds) s = went_fine _ (deed_fine h d s) (λ r. de h ds r)

mutual
  unfolding eval

  eval_fine : (n : ℕ) (fs : List Fun) (h : ℕ) (t : Term) (s : State) → FineGot (eval n fs h t s)
  eval_fine zero fs h t s = fine_left fine_cut
  eval_fine (suc n) fs h t s = noted_fine h (term_fine _ _ (λ j u r. eval_fine n fs (16 + j) u r) (λ j ds r. does_fine n fs (16 + j) ds r) fs h t (note h s))

  does_fine : (n : ℕ) (fs : List Fun) (h : ℕ) (ds : Deeds) (s : State) → Fine (does n fs h ds s)
  does_fine zero fs h ds s = fine_cut
  does_fine (suc n) fs h ds s = deeds_fine _ _ (λ j u r. eval_fine n fs j u r) (λ j es r. does_fine n fs j es r) h ds (note h s)

rule_fine : (n : ℕ) (fs : List Fun) (r : Rule) (s : State) → Fine (by_rule n fs r s)
rule_fine n fs r s =
    pick_went (eqb r.kind 3) (end_fine _ (eval_fine n fs 0 r.test s) (λ v q. pick_went (holds v) (does_fine n fs 0 r.deeds q) fine_went)) (does_fine n fs 0 r.deeds s)

rules_fine : (n : ℕ) (fs : List Fun) (rs : List Rule) (s : State) → Fine (rules_go (by_rule n fs) rs s)
unfolding rules_go
rules_fine n fs [] s = fine_went
rules_fine n fs (r ∷ rs) s = went_fine _ (rule_fine n fs r s) (λ q. rules_fine n fs rs q)

-- settled
settled_proper : {w : Went} → Fine w → Proper (settled w)
settled_proper fine_went = all_done
settled_proper fine_nexted = all_done
settled_proper (fine_stopped h) = exited h
settled_proper fine_given = all_done
settled_proper (fine_wrong h) = faulted h
settled_proper fine_cut = cut_off

then_proper : {w : Went} (k : State → Went) → Proper w → ((r : State) → Proper (k r)) → Proper (went_then w k)
then_proper k (all_done {s}) m = m s
then_proper k (exited h) m = exited h
then_proper k (faulted h) m = faulted h
then_proper k cut_off m = cut_off

pick_proper : {a b : Went} (c : Bool) → Proper a → Proper b → Proper (pick c a b)
pick_proper true x y = x
pick_proper false x y = y

lined_proper : (n : ℕ) (p : Program) (l : List ℕ) (s : State) → Proper (lined n p l s)
unfolding lined
lined_proper n p l s = pick_proper (short l) (settled_proper (rules_fine n p.funs (for_lines p.rules) _)) (faulted refl)

lines_proper : (n : ℕ) (p : Program) (ls : List (List ℕ)) (s : State) → Proper (over_lines n p ls s)
unfolding over_lines
lines_proper n p [] s = all_done
lines_proper n p (l ∷ ls) s = then_proper _ (lined_proper n p l s) (λ q. lines_proper n p ls q)

pub outcome_proper : (n : ℕ) (p : Program) (bs : List ℕ) → Proper (outcome n p bs)
unfolding outcome so_far begun ended
outcome_proper n p bs =
    then_proper _ (then_proper _ (settled_proper (rules_fine n p.funs (of_kind 0 p.rules) at_first)) (λ s. lines_proper n p (whole_lines [] bs) s))
    (λ s. then_proper _ (lines_proper n p (last_line [] bs) s) (λ q. settled_proper (rules_fine n p.funs (of_kind 1 p.rules) q)))
