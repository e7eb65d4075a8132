-- More depth only adds. Two runs of the same thing, the second allowed to go deeper: either both come to the same, or the first was cut off and
-- the second has written at least as much and held at least as much. One relation says so for all three kinds of results (a value, several values,
-- a statement's end), and one lemma, `through`, carries it over whatever is done with a result; the rest of the file goes through the meaning.
use Rattle.std.proofs.Common.{◌≡◌, ℕ, zero, suc, ◌+◌, ◌≤◌, Bool, true, false, eqb, ltb, List, [], ◌∷◌, ◌++◌, length, sym, refl, ap, ◌∙◌, subst, append_assoc, append-nil, le_trans, le_refl, arith, ltb-true}
use Rattle.language.specs.Text.{pick, or, Value, plus, minus, text, Num, too_large, fine, holds, Swapped, none_of, same, joined, as_text, number_of, added_up}
use Rattle.language.specs.Program.{Term, Terms, num, txt, var, item, field, un, bin, like, there, put_in, call, part, split, swap, no_terms, term_and, Deed, Deeds, value, print, when, while, each_key, next_line, exit, forget, give, no_deeds, deed_and, Fun}
use Rattle.language.specs.Meaning.{State, Went, went, nexted, stopped, given, wrong, unfinished, Got, got, left, Gots, gots, lefts, state_of, note, noted, larger, weight, then_got, then_gots, and_gots, more_gots, got_then, went_then, eval, does, eval_by, deed_by, deeds_by, eval_all, place_got, in_place, put_place, set_var, store_field, field_got, as_got, reckon, reckon_one, Ev, Ex, call_by, called, over_keys, print_by, print_gots, exit_with, swap_got, with_frames, with_out, framed, swapped, fun_of, size_of, bound, top, w_nr, w_nf, short, set_part, keys_of}
use Rattle.language.specs.Promise.{Beginning}

-- the second state has written at least what the first has, and has held at least as much
pub record Grows (s r : State) : Type 0 where
  pub outs : Beginning s.out r.out
  pub heavies : s.heavy ≤ r.heavy

pub grows_refl : {s : State} → Grows s s
grows_refl {s} = record { outs = ([], sym (append-nil s.out)); heavies = le_refl s.heavy }

pub grows_trans : {s r q : State} → Grows s r → Grows r q → Grows s q
grows_trans {s} {r} {q} a b =
    record {
      outs = (a.outs.0 ++ b.outs.0, b.outs.1 ∙ ap (λ x. x ++ b.outs.0) a.outs.1 ∙ append_assoc s.out a.outs.0 b.outs.0);
      heavies = le_trans a.heavies b.heavies;
    }

-- nothing was written and nothing noted
pub grows_like : {s r : State} → s.out ≡ r.out → s.heavy ≡ r.heavy → Grows s r
grows_like {s} {r} p q = record { outs = ([], sym p ∙ sym (append-nil s.out)); heavies = omega arith }

grows_out : (s : State) (bs : List ℕ) → Grows s (with_out s bs)
grows_out s bs = record { outs = (bs, refl); heavies = le_refl s.heavy }

larger_by : (a b : ℕ) (t : Bool) → ltb a b ≡ t → a ≤ pick t b a
larger_by a b true e = omega (arith, ltb-true a b e)
larger_by a b false e = le_refl a

pub larger_first : (a b : ℕ) → a ≤ larger a b
larger_first a b = larger_by a b (ltb a b) refl

pub grows_note : (h : ℕ) (s : State) → Grows s (note h s)
grows_note h s = record { outs = ([], sym (append-nil s.out)); heavies = larger_first s.heavy (weight s + h) }

-- Results of a kind R: `at` is the state that one ended in, `cut` the one that was cut off there.
pub data Under {R : Type 0} (at : R → State) (cut : State → R) (r r₁ : R) : Type 0 where
  agree : r ≡ r₁ → Under at cut r r₁
  short_of : (s : State) → r ≡ cut s → Grows s (at r₁) → Under at cut r r₁

-- both went on from the state s, and the first is the second, or was cut off before it
pub record Deeper {R : Type 0} (at : R → State) (cut : State → R) (s : State) (r r₁ : R) : Type 0 where
  pub ext : Grows s (at r)
  pub ext₁ : Grows s (at r₁)
  pub und : Under at cut r r₁

abbrev pub got_state : Got → State
got_state (got v s) = s
got_state (left w) = state_of w

abbrev pub gots_state : Gots → State
gots_state (gots vs s) = s
gots_state (lefts w) = state_of w

abbrev got_cut : State → Got
got_cut s = left (unfinished s)

abbrev gots_cut : State → Gots
gots_cut s = lefts (unfinished s)

abbrev pub Dg : State → Got → Got → Type 0
Dg = Deeper got_state got_cut

abbrev pub Ds : State → Gots → Gots → Type 0
Ds = Deeper gots_state gots_cut

abbrev pub Dw : State → Went → Went → Type 0
Dw = Deeper state_of unfinished

-- the same result twice
pub both_at : {R : Type 0} {at : R → State} {cut : State → R} {s : State} {r : R} → Grows s (at r) → Deeper at cut s r r
both_at e = record { ext = e; ext₁ = e; und = agree refl }

pub pick_at : {R : Type 0} {at : R → State} {cut : State → R} {s : State} {a a₁ b b₁ : R} (c : Bool) → Deeper at cut s a a₁ → Deeper at cut s b b₁ → Deeper at cut s (pick c a b) (pick c a₁ b₁)
pick_at true p q = p
pick_at false p q = q

pub from_at : {R : Type 0} {at : R → State} {cut : State → R} {q s : State} {r r₁ : R} → Grows q s → Deeper at cut s r r₁ → Deeper at cut q r r₁
from_at e p = record { ext = grows_trans e p.ext; ext₁ = grows_trans e p.ext₁; und = p.und }

-- what is done with a result: where it only adds from the state in which that ended, and passes on what was cut off, the relation goes through
module _ {A B : Type 0} (at : A → State) (cut : State → A) (bt : B → State) (but : State → B) (f f₁ : A → B)
    (adds : (a : A) → Deeper bt but (at a) (f a) (f₁ a)) (cuts : (s : State) → f (cut s) ≡ but s) where
  through_und : {a a₁ : A} → Under at cut a a₁ → Under bt but (f a) (f₁ a₁)
  through_und {a} {a₁} (agree e) = let P : A → Type 0 = λ x. Under bt but (f a) (f₁ x) in subst P e (adds a).und
  through_und {a} {a₁} (short_of s e g) = short_of s (ap f e ∙ cuts s) (grows_trans g (adds a₁).ext₁)

  pub through : {s : State} {a a₁ : A} → Deeper at cut s a a₁ → Deeper bt but s (f a) (f₁ a₁)
  through {s} {a} {a₁} d = record { ext = grows_trans d.ext (adds a).ext; ext₁ = grows_trans d.ext₁ (adds a₁).ext₁; und = through_und d.und }

then_adds : (f f₁ : Value → State → Got) → ((v : Value) (r : State) → Dg r (f v r) (f₁ v r)) → (g : Got) → Dg (got_state g) (then_got g f) (then_got g f₁)
then_adds f f₁ k (got v r) = k v r
then_adds f f₁ k (left w) = both_at grows_refl

pub then_deeper : (f f₁ : Value → State → Got) → ((v : Value) (r : State) → Dg r (f v r) (f₁ v r)) → {s : State} {g g₁ : Got} → Dg s g g₁ → Dg s (then_got g f) (then_got g₁ f₁)
then_deeper f f₁ k = through got_state got_cut got_state got_cut (λ g. then_got g f) (λ g. then_got g f₁) (then_adds f f₁ k) (λ s. refl)

end_adds : (f f₁ : Value → State → Went) → ((v : Value) (r : State) → Dw r (f v r) (f₁ v r)) → (g : Got) → Dw (got_state g) (got_then g f) (got_then g f₁)
end_adds f f₁ k (got v r) = k v r
end_adds f f₁ k (left w) = both_at grows_refl

pub end_deeper : (f f₁ : Value → State → Went) → ((v : Value) (r : State) → Dw r (f v r) (f₁ v r)) → {s : State} {g g₁ : Got} → Dg s g g₁ → Dw s (got_then g f) (got_then g₁ f₁)
end_deeper f f₁ k = through got_state got_cut state_of unfinished (λ g. got_then g f) (λ g. got_then g f₁) (end_adds f f₁ k) (λ s. refl)

went_adds : (f f₁ : State → Went) → ((r : State) → Dw r (f r) (f₁ r)) → (w : Went) → Dw (state_of w) (went_then w f) (went_then w f₁)
went_adds f f₁ k (went r) = k r
went_adds f f₁ k (nexted r) = both_at grows_refl
went_adds f f₁ k (stopped j r) = both_at grows_refl
went_adds f f₁ k (given v r) = both_at grows_refl
went_adds f f₁ k (wrong j r) = both_at grows_refl
went_adds f f₁ k (unfinished r) = both_at grows_refl

pub went_deeper : (f f₁ : State → Went) → ((r : State) → Dw r (f r) (f₁ r)) → {s : State} {w w₁ : Went} → Dw s w w₁ → Dw s (went_then w f) (went_then w₁ f₁)
went_deeper f f₁ k = through state_of unfinished state_of unfinished (λ w. went_then w f) (λ w. went_then w f₁) (went_adds f f₁ k) (λ s. refl)

and_adds : (f f₁ : Value → State → Gots) → ((v : Value) (r : State) → Ds r (f v r) (f₁ v r)) → (g : Got) → Ds (got_state g) (and_gots g f) (and_gots g f₁)
and_adds f f₁ k (got v r) = k v r
and_adds f f₁ k (left w) = both_at grows_refl

and_deeper : (f f₁ : Value → State → Gots) → ((v : Value) (r : State) → Ds r (f v r) (f₁ v r)) → {s : State} {g g₁ : Got} → Dg s g g₁ → Ds s (and_gots g f) (and_gots g₁ f₁)
and_deeper f f₁ k = through got_state got_cut gots_state gots_cut (λ g. and_gots g f) (λ g. and_gots g f₁) (and_adds f f₁ k) (λ s. refl)

more_adds : (v : Value) (g : Gots) → Ds (gots_state g) (more_gots v g) (more_gots v g)
more_adds v (gots vs r) = both_at grows_refl
more_adds v (lefts w) = both_at grows_refl

more_deeper : (v : Value) {s : State} {g g₁ : Gots} → Ds s g g₁ → Ds s (more_gots v g) (more_gots v g₁)
more_deeper v = through gots_state gots_cut gots_state gots_cut (more_gots v) (more_gots v) (more_adds v) (λ s. refl)

all_adds : (f f₁ : List Value → State → Got) → ((vs : List Value) (r : State) → Dg r (f vs r) (f₁ vs r)) → (g : Gots) → Dg (gots_state g) (then_gots g f) (then_gots g f₁)
all_adds f f₁ k (gots vs r) = k vs r
all_adds f f₁ k (lefts w) = both_at grows_refl

all_deeper : (f f₁ : List Value → State → Got) → ((vs : List Value) (r : State) → Dg r (f vs r) (f₁ vs r)) → {s : State} {g g₁ : Gots} → Ds s g g₁ → Dg s (then_gots g f) (then_gots g₁ f₁)
all_deeper f f₁ k = through gots_state gots_cut got_state got_cut (λ g. then_gots g f) (λ g. then_gots g f₁) (all_adds f f₁ k) (λ s. refl)

print_adds : (g : Gots) → Dw (gots_state g) (print_gots g) (print_gots g)
print_adds (gots vs r) = both_at (grows_out r _)
print_adds (lefts w) = both_at grows_refl

print_deeper : {s : State} {g g₁ : Gots} → Ds s g g₁ → Dw s (print_gots g) (print_gots g₁)
print_deeper = through gots_state gots_cut state_of unfinished print_gots print_gots print_adds (λ s. refl)

called_adds : (w : Went) → Dg (state_of w) (called w) (called w)
called_adds (went r) = both_at (grows_like refl refl)
called_adds (nexted r) = both_at grows_refl
called_adds (stopped j r) = both_at grows_refl
called_adds (given v r) = both_at (grows_like refl refl)
called_adds (wrong j r) = both_at grows_refl
called_adds (unfinished r) = both_at grows_refl

called_deeper : {s : State} {w w₁ : Went} → Dw s w w₁ → Dg s (called w) (called w₁)
called_deeper = through state_of unfinished got_state got_cut called called called_adds (λ s. refl)

noted_adds : (h : ℕ) (g : Got) → Dg (got_state g) (noted h g) (noted h g)
noted_adds h (got v r) = both_at (grows_note h r)
noted_adds h (left w) = both_at grows_refl

noted_deeper : (h : ℕ) {s : State} {g g₁ : Got} → Dg s g g₁ → Dg s (noted h g) (noted h g₁)
noted_deeper h = through got_state got_cut got_state got_cut (noted h) (noted h) (noted_adds h) (λ s. refl)

-- what needs no depth
got_at : {s : State} {v : Value} → Dg s (got v s) (got v s)
got_at = both_at grows_refl

wrong_at : {s : State} {k : ℕ} → Dg s (left (wrong k s)) (left (wrong k s))
wrong_at = both_at grows_refl

set_at : {s r : State} {v : Value} → s.out ≡ r.out → s.heavy ≡ r.heavy → Dg s (got v r) (got v r)
set_at p q = both_at (grows_like p q)

num_at : (n : Num) {s : State} → Dg s (as_got n s) (as_got n s)
unfolding as_got
num_at too_large = wrong_at
num_at (fine v) = got_at

field_at : (ks : List ℕ) {s : State} → Dg s (field_got s ks) (field_got s ks)
unfolding field_got
field_at [] = wrong_at
field_at (zero ∷ ks) = got_at
field_at (suc k ∷ ks) = got_at

one_at : (k : ℕ) (v : Value) {s : State} → Dg s (reckon_one k v s) (reckon_one k v s)
unfolding reckon_one
one_at k v = pick_at (eqb k 0) got_at (pick_at (eqb k 1) (num_at _) (pick_at (eqb k 2) got_at got_at))

two_at : (k : ℕ) (v u : Value) {s : State} → Dg s (reckon k v u s) (reckon k v u s)
unfolding reckon
two_at k v u =
    pick_at (eqb k 2) got_at (pick_at (eqb k 3) got_at (pick_at (eqb k 4) got_at (pick_at (eqb k 5) got_at (pick_at (eqb k 6) (num_at _) (pick_at (eqb k 7) (num_at _)
    (pick_at (eqb k 8) (num_at _) (pick_at (eqb k 9) (pick_at _ wrong_at (num_at _)) (pick_at (eqb k 10) (pick_at _ wrong_at (num_at _))
    (pick_at (eqb k 11) (pick_at _ got_at wrong_at) (pick_at (eqb k 12) got_at (pick_at (eqb k 13) got_at got_at)))))))))))

var_at : (s : State) (x : List ℕ) (v : Value) → Dg s (set_var s x v) (set_var s x v)
unfolding set_var
var_at s x v = pick_at (none_of (bound (top s.frames) x)) (pick_at (or (same x w_nr) (same x w_nf)) wrong_at (set_at refl refl)) (set_at refl refl)

store_at : (s : State) (v : Value) (ks : List ℕ) → Dg s (store_field s v ks) (store_field s v ks)
unfolding store_field
store_at s v [] = wrong_at
store_at s v (zero ∷ ks) = set_at refl refl
store_at s v (suc k ∷ ks) = pick_at (short (joined (set_part 1001 s.parts (suc k) (as_text v)))) (set_at refl refl) wrong_at

in_at : (t : Term) (k : Value) (s : State) → Dg s (in_place t k s) (in_place t k s)
unfolding in_place
in_at (num n) k s = wrong_at
in_at (txt b) k s = wrong_at
in_at (var x) k s = got_at
in_at (item x t) k s = got_at
in_at (field t) k s = field_at _
in_at (un j a) k s = wrong_at
in_at (bin j a b) k s = wrong_at
in_at (like a p) k s = wrong_at
in_at (there a x) k s = wrong_at
in_at (put_in a b) k s = wrong_at
in_at (call x ts) k s = wrong_at
in_at (part a b c) k s = wrong_at
in_at (split a x p) k s = wrong_at
in_at (swap p a b) k s = wrong_at

put_at : (t : Term) (k v : Value) (s : State) → Dg s (put_place t k v s) (put_place t k v s)
unfolding put_place
put_at (num n) k v s = wrong_at
put_at (txt b) k v s = wrong_at
put_at (var x) k v s = var_at s x v
put_at (item x t) k v s = set_at refl refl
put_at (field t) k v s = store_at s v _
put_at (un j a) k v s = wrong_at
put_at (bin j a b) k v s = wrong_at
put_at (like a p) k v s = wrong_at
put_at (there a x) k v s = wrong_at
put_at (put_in a b) k v s = wrong_at
put_at (call x ts) k v s = wrong_at
put_at (part a b c) k v s = wrong_at
put_at (split a x p) k v s = wrong_at
put_at (swap p a b) k v s = wrong_at

swap_at : (b : Term) (k o v : Value) (r : Swapped) (s : State) → Dg s (swap_got b k o v r s) (swap_got b k o v r s)
swap_at b k o v r s =
    pick_at (eqb r.times 0) got_at (pick_at (short r.bytes) (then_deeper _ _ (λ i j. got_at) (put_at b k (text r.bytes) s)) wrong_at)

-- if what is within goes deeper, so does the whole
module _ (ev ev₁ : Ev) (ex ex₁ : Ex) (te : (h : ℕ) (t : Term) (s : State) → Dg s (ev h t s) (ev₁ h t s)) (de : (h : ℕ) (ds : Deeds) (s : State) → Dw s (ex h ds s) (ex₁ h ds s)) where
  each_deeper : (h : ℕ) (ts : Terms) (s : State) → Ds s (eval_all ev h ts s) (eval_all ev₁ h ts s)
  unfolding eval_all
  each_deeper h no_terms s = both_at grows_refl
  each_deeper h (term_and t ts) s = and_deeper _ _ (λ v r. more_deeper v (each_deeper (h + size_of v) ts r)) (te h t s)

  place_deeper : (h : ℕ) (t : Term) (s : State) → Dg s (place_got ev h t s) (place_got ev₁ h t s)
  unfolding place_got
  place_deeper h (num n) s = wrong_at
  place_deeper h (txt b) s = wrong_at
  place_deeper h (var x) s = got_at
  place_deeper h (item x t) s = te h t s
  place_deeper h (field t) s = te h t s
  place_deeper h (un j a) s = wrong_at
  place_deeper h (bin j a b) s = wrong_at
  place_deeper h (like a p) s = wrong_at
  place_deeper h (there a x) s = wrong_at
  place_deeper h (put_in a b) s = wrong_at
  place_deeper h (call x ts) s = wrong_at
  place_deeper h (part a b c) s = wrong_at
  place_deeper h (split a x p) s = wrong_at
  place_deeper h (swap p a b) s = wrong_at

  call_deeper : (h : ℕ) (fs : List Fun) (vs : List Value) (s : State) → Dg s (call_by ex h fs vs s) (call_by ex₁ h fs vs s)
  call_deeper h [] vs s = wrong_at
  call_deeper h (f ∷ fs) vs s =
      pick_at _ (from_at (grows_like refl refl) (called_deeper (de h f.deeds (with_frames s (framed f.params vs ∷ s.frames))))) wrong_at

  term_deeper : (fs : List Fun) (h : ℕ) (t : Term) (s : State) → Dg s (eval_by ev ex fs h t s) (eval_by ev₁ ex₁ fs h t s)
  unfolding eval_by
  term_deeper fs h (num n) s = num_at _
  term_deeper fs h (txt b) s = got_at
  term_deeper fs h (var x) s = got_at
  term_deeper fs h (item x k) s = then_deeper _ _ (λ v r. got_at) (te h k s)
  term_deeper fs h (field k) s = then_deeper _ _ (λ v r. field_at _) (te h k s)
  term_deeper fs h (un k a) s = then_deeper _ _ (λ v r. one_at k v) (te h a s)
  term_deeper fs h (bin k a b) s =
      then_deeper _ _ (λ v r. pick_at (eqb k 0) (pick_at (holds v) got_at (then_deeper _ _ (λ u q. got_at) (te h b r)))
      (pick_at (eqb k 1) (pick_at (holds v) (then_deeper _ _ (λ u q. got_at) (te h b r)) got_at)
      (then_deeper _ _ (λ u q. two_at k v u) (te (h + size_of v) b r)))) (te h a s)
  term_deeper fs h (like a p) s = then_deeper _ _ (λ v r. got_at) (te h a s)
  term_deeper fs h (there a x) s = then_deeper _ _ (λ v r. got_at) (te h a s)
  term_deeper fs h (put_in a b) s = then_deeper _ _ (λ v r. then_deeper _ _ (λ k q. put_at a k v q) (place_deeper (h + size_of v) a r)) (te h b s)
  term_deeper fs h (call x ts) s = all_deeper _ _ (λ vs r. call_deeper h (fun_of fs x) vs r) (each_deeper h ts s)
  term_deeper fs h (part a b c) s =
      then_deeper _ _ (λ v r. then_deeper _ _ (λ u q. then_deeper _ _ (λ w o. got_at) (te (h + size_of v + size_of u) c q)) (te (h + size_of v) b r)) (te h a s)
  term_deeper fs h (split a x p) s = then_deeper _ _ (λ v r. set_at refl refl) (te h a s)
  term_deeper fs h (swap p a b) s =
      then_deeper _ _ (λ v r. then_deeper _ _ (λ k q. then_deeper _ _ (λ o z. swap_at b k o v (swapped p v o) z) (in_at b k q))
      (place_deeper (h + size_of v) b r)) (te h a s)

  keys_deeper : (h : ℕ) (x : List ℕ) (ds : Deeds) (ks : List (List ℕ)) (s : State) → Dw s (over_keys ex h x ds ks s) (over_keys ex₁ h x ds ks s)
  unfolding over_keys
  keys_deeper h x ds [] s = both_at grows_refl
  keys_deeper h x ds (k ∷ ks) s =
      end_deeper _ _ (λ v r. went_deeper _ _ (λ q. keys_deeper h x ds ks q) (de (16 + h + added_up (λ j. 16 + length j) ks) ds r)) (var_at s x (text k))

  print_by_deeper : (h : ℕ) (ts : Terms) (s : State) → Dw s (print_by ev h ts s) (print_by ev₁ h ts s)
  print_by_deeper h no_terms s = both_at (grows_out s _)
  print_by_deeper h (term_and t ts) s = print_deeper (each_deeper h (term_and t ts) s)

  exit_at : (v : Value) (s : State) → Dw s (exit_with v s) (exit_with v s)
  exit_at (plus n) s = pick_at (ltb n 256) (both_at grows_refl) (both_at grows_refl)
  exit_at (minus n) s = both_at grows_refl
  exit_at (text b) s = both_at grows_refl

  deed_deeper : (h : ℕ) (d : Deed) (s : State) → Dw s (deed_by ev ex h d s) (deed_by ev₁ ex₁ h d s)
  unfolding deed_by
  deed_deeper h (value t) s = end_deeper _ _ (λ v r. both_at grows_refl) (te h t s)
  deed_deeper h (print ts) s = print_by_deeper h ts s
  deed_deeper h (when c a b) s = end_deeper _ _ (λ v r. pick_at (holds v) (de (16 + h) a r) (de (16 + h) b r)) (te h c s)
  deed_deeper h (while c a) s =
      end_deeper _ _ (λ v r. pick_at (holds v) (went_deeper _ _ (λ q. de h (deed_and (while c a) no_deeds) q) (de (16 + h) a r)) (both_at grows_refl)) (te h c s)
  deed_deeper h (each_key x y a) s = keys_deeper h x a (keys_of s.items y) s
  deed_deeper h next_line s = both_at grows_refl
  deed_deeper h (exit t) s = end_deeper _ _ (λ v r. exit_at (number_of v) r) (te h t s)
  deed_deeper h (forget x t) s = end_deeper _ _ (λ v r. both_at (grows_like refl refl)) (te h t s)
  deed_deeper h (give t) s = end_deeper _ _ (λ v r. both_at grows_refl) (te h t s)

  deeds_deeper : (h : ℕ) (ds : Deeds) (s : State) → Dw s (deeds_by ev ex h ds s) (deeds_by ev₁ ex₁ h ds s)
  unfolding deeds_by
  deeds_deeper h no_deeds s = both_at grows_refl
  deeds_deeper h (deed_and d ds) s = went_deeper _ _ (λ r. de h ds r) (deed_deeper h d s)

-- one more level than any that only adds, adds only
module _ (n : ℕ) (fs : List Fun) (te : (h : ℕ) (t : Term) (s : State) → Grows s (got_state (eval n fs h t s))) (de : (h : ℕ) (ds : Deeds) (s : State) → Grows s (state_of (does n fs h ds s))) where
  eval_grows : (h : ℕ) (t : Term) (s : State) → Grows s (got_state (eval (suc n) fs h t s))
  unfolding eval
  eval_grows h t s = (noted_deeper h (from_at (grows_note h s) (term_deeper _ _ _ _ (λ j u r. both_at (te (16 + j) u r)) (λ j ds r. both_at (de (16 + j) ds r)) fs h t (note h s)))).ext

  does_grows : (h : ℕ) (ds : Deeds) (s : State) → Grows s (state_of (does (suc n) fs h ds s))
  unfolding does
  does_grows h ds s = (from_at (grows_note h s) (deeds_deeper _ _ _ _ (λ j u r. both_at (te j u r)) (λ j es r. both_at (de j es r)) h ds (note h s))).ext

-- one level more
mutual
  unfolding eval

  pub eval_deeper : (n : ℕ) (fs : List Fun) (h : ℕ) (t : Term) (s : State) → Dg s (eval n fs h t s) (eval (suc n) fs h t s)
  eval_deeper zero fs h t s =
      let e : Grows s (got_state (eval 1 fs h t s)) = eval_grows 0 fs (λ j u r. grows_refl) (λ j u r. grows_refl) h t s in
      record { ext = grows_refl; ext₁ = e; und = short_of s refl e }
  eval_deeper (suc n) fs h t s =
      noted_deeper h (from_at (grows_note h s) (term_deeper _ _ _ _ (λ j u r. eval_deeper n fs (16 + j) u r) (λ j ds r. does_deeper n fs (16 + j) ds r) fs h t (note h s)))

  pub does_deeper : (n : ℕ) (fs : List Fun) (h : ℕ) (ds : Deeds) (s : State) → Dw s (does n fs h ds s) (does (suc n) fs h ds s)
  does_deeper zero fs h ds s =
      let e : Grows s (state_of (does 1 fs h ds s)) = does_grows 0 fs (λ j u r. grows_refl) (λ j u r. grows_refl) h ds s in
      record { ext = grows_refl; ext₁ = e; und = short_of s refl e }
  does_deeper (suc n) fs h ds s = from_at (grows_note h s) (deeds_deeper _ _ _ _ (λ j u r. eval_deeper n fs j u r) (λ j es r. does_deeper n fs j es r) h ds (note h s))
