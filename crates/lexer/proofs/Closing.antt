-- A pattern read byte by byte: each step keeps what the grammar makes of the rest.
use Rattle.std.proofs.Common.{◌≡◌, ℕ, suc, ◌+◌, ◌*◌, ◌≤◌, Bool, true, false, not, eqb, List, [], ◌∷◌, length, sym, refl, ap, ◌∙◌, arith, ne_eqb}
use Rattle.language.specs.Text.{pick, or, none_of, Pattern, nothing, both, either}
use Rattle.language.specs.Program.{Got, none, got, with_got, next_is, less_one, repeated, pattern, row, marks, atom, whole_pattern}
use Rattle.lexer.specs.Scanning.{a_mark, Begun, in_either, in_group, groups, resume, bar, row_on, Means}
use Rattle.lexer.proofs.FuelPatterns.{SPattern, SRow, SMarks, SAtom}
use Rattle.lexer.proofs.Picks.{picked, left_out}

got_got : {A B C : Type 0} (g : Got ℕ A) (f : A → List ℕ → Got ℕ B) (h : B → List ℕ → Got ℕ C) → with_got (with_got g f) h ≡ with_got g (λ a us. with_got (f a us) h)
got_got none f h = refl
got_got (got a us) f h = refl

got_each : {A B : Type 0} (g : Got ℕ A) (f h : A → List ℕ → Got ℕ B) → ((a : A) (us : List ℕ) → f a us ≡ h a us) → with_got g f ≡ with_got g h
got_each none f h e = refl
got_each (got a us) f h e = e a us

got_pick : {A B : Type 0} (b : Bool) (x y : Got ℕ A) (f : A → List ℕ → Got ℕ B) → with_got (pick b x y) f ≡ pick b (with_got x f) (with_got y f)
got_pick true x y f = refl
got_pick false x y f = refl

-- a pattern that begins
pub pattern_is : (N : ℕ) (fs : List Begun) (cs : List ℕ) → 4 * length cs + 4 ≤ N → row_on N fs nothing cs ≡ with_got (pattern N cs) (λ p es. resume N fs p es)
unfolding pattern
pattern_is N fs cs h =
    sym (ap (λ g. with_got g (λ p es. resume N fs p es)) (SPattern N (suc N) cs (omega arith) (omega arith))
    ∙ got_got (row N nothing cs) _ (λ p es. resume N fs p es)
    ∙ got_each (row N nothing cs) _ _ (λ p ds. got_pick (next_is 124 ds) _ (got p ds) (λ q es. resume N fs q es) ∙ ap (λ x. pick (next_is 124 ds) x (resume N fs p ds)) (got_got (pattern N (less_one ds)) (λ q es. got (either p q) es) (λ q es. resume N fs q es))))

-- no mark follows: a row goes on
pub settle : (N : ℕ) (fs : List Begun) (g : Got ℕ Pattern) (m : Bool) (c : ℕ) (cs : List ℕ) → length (c ∷ cs) + 1 ≤ N → a_mark c ≡ false → Means N fs m (c ∷ cs) g → Means N fs false (c ∷ cs) g
unfolding marks
settle N fs g false c cs h e x = x
settle N fs g true c cs h e x =
    (both x.0 x.1, ap (λ y. with_got y (λ r es. row_on N fs (both x.0 r) es)) (sym (SMarks N (suc N) x.1 (c ∷ cs) (omega arith) (omega arith) ∙ left_out (a_mark c) _ _ e)) ∙ x.2)

settle_end : (N : ℕ) (fs : List Begun) (g : Got ℕ Pattern) (m : Bool) → 1 ≤ N → Means N fs m [] g → Means N fs false [] g
unfolding marks
settle_end N fs g false h x = x
settle_end N fs g true h x = (both x.0 x.1, ap (λ y. with_got y (λ r es. row_on N fs (both x.0 r) es)) (sym (SMarks N (suc N) x.1 [] (omega arith) (omega arith))) ∙ x.2)

pub marked : (N : ℕ) (fs : List Begun) (g : Got ℕ Pattern) (c : ℕ) (cs : List ℕ) → length (c ∷ cs) + 1 ≤ N → a_mark c ≡ true → Means N fs true (c ∷ cs) g → Means N fs true cs g
unfolding marks
marked N fs g c cs h e x =
    (x.0, repeated c x.1, ap (λ y. with_got y (λ r es. row_on N fs (both x.0 r) es)) (sym (SMarks N (suc N) x.1 (c ∷ cs) (omega arith) (omega arith) ∙ picked (a_mark c) _ _ e)) ∙ x.2)

-- a row by its first byte
row_first : (N : ℕ) (p : Pattern) (c : ℕ) (cs : List ℕ) → 4 * length (c ∷ cs) + 4 ≤ N → or (eqb c 124) (eqb c 41) ≡ false →
    row N p (c ∷ cs) ≡ with_got (atom (suc N) (c ∷ cs)) (λ q ds. with_got (marks N q ds) (λ r es. row N (both p r) es))
unfolding row
row_first N p c cs h e =
    SRow N (suc N) p (c ∷ cs) (omega arith) (omega arith) ∙ left_out _ _ _ e ∙ ap (λ y. with_got y (λ q ds. with_got (marks N q ds) (λ r es. row N (both p r) es))) (SAtom N (suc N) (c ∷ cs) (omega arith) (omega arith))

row_stops : (N : ℕ) (p : Pattern) (c : ℕ) (cs : List ℕ) → 4 * length (c ∷ cs) + 4 ≤ N → or (eqb c 124) (eqb c 41) ≡ true → row N p (c ∷ cs) ≡ got p (c ∷ cs)
unfolding row
row_stops N p c cs h e = SRow N (suc N) p (c ∷ cs) (omega arith) (omega arith) ∙ picked _ _ _ e

-- an atom is read
pub atom_on : (N : ℕ) (fs : List Begun) (g : Got ℕ Pattern) (c : ℕ) (cs : List ℕ) (q : Pattern) (ds : List ℕ) → 4 * length (c ∷ cs) + 4 ≤ N → or (eqb c 124) (eqb c 41) ≡ false →
    atom (suc N) (c ∷ cs) ≡ got q ds → Means N fs false (c ∷ cs) g → Means N fs true ds g
atom_on N fs g c cs q ds h e a x = (
  x.0,
  q,
  sym (ap (λ y. with_got y (λ s gs. bar N fs s gs)) (row_first N x.0 c cs h e ∙ ap (λ y. with_got y (λ r es. with_got (marks N r es) (λ t gs. row N (both x.0 t) gs))) a)
      ∙ got_got (marks N q ds) (λ r es. row N (both x.0 r) es) (λ s gs. bar N fs s gs)) ∙ x.1,
)

pub atom_fails : (N : ℕ) (fs : List Begun) (g : Got ℕ Pattern) (c : ℕ) (cs : List ℕ) → 4 * length (c ∷ cs) + 4 ≤ N → or (eqb c 124) (eqb c 41) ≡ false → atom (suc N) (c ∷ cs) ≡ none →
    Means N fs false (c ∷ cs) g → g ≡ none
atom_fails N fs g c cs h e a x =
    sym x.1 ∙ ap (λ y. with_got y (λ s gs. bar N fs s gs)) (row_first N x.0 c cs h e ∙ ap (λ y. with_got y (λ r es. with_got (marks N r es) (λ t gs. row N (both x.0 t) gs))) a)

-- a bracket opens
pub opens : (N : ℕ) (fs : List Begun) (g : Got ℕ Pattern) (cs : List ℕ) → 4 * length (40 ∷ cs) + 4 ≤ N → (x : Means N fs false (40 ∷ cs) g) → Means N (in_group x.0 ∷ fs) false cs g
unfolding atom
opens N fs g cs h x =
    let p : Pattern = x.0 in
    let G : Pattern → List ℕ → Got ℕ Pattern = λ s gs. bar N fs s gs in (
      nothing,
      pattern_is N (in_group p ∷ fs) cs (omega arith)
          ∙ got_each (pattern N cs) _ _ (λ q ds.
          ap (λ y. pick (next_is 41 ds) y none) (sym (got_got (marks N q (less_one ds)) (λ r es. row N (both p r) es) G))
          ∙ sym (ap (λ y. with_got y G) (got_pick (next_is 41 ds) (got q (less_one ds)) none (λ r es. with_got (marks N r es) (λ t gs. row N (both p t) gs))) ∙ got_pick (next_is 41 ds) _ none G))
          ∙ sym (ap (λ y. with_got y G) (got_got (pattern N cs) (λ q ds. pick (next_is 41 ds) (got q (less_one ds)) none) (λ r es. with_got (marks N r es) (λ t gs. row N (both p t) gs)))
          ∙ got_got (pattern N cs) (λ q ds. with_got (pick (next_is 41 ds) (got q (less_one ds)) none) (λ r es. with_got (marks N r es) (λ t gs. row N (both p t) gs))) G)
          ∙ sym (ap (λ y. with_got y G) (row_first N p 40 cs h refl)) ∙ x.1,
    )

-- | begins another row
pub bars : (N : ℕ) (fs : List Begun) (g : Got ℕ Pattern) (cs : List ℕ) → 4 * length (124 ∷ cs) + 4 ≤ N → (x : Means N fs false (124 ∷ cs) g) → Means N (in_either x.0 ∷ fs) false cs g
bars N fs g cs h x =
    (nothing, pattern_is N (in_either x.0 ∷ fs) cs (omega arith) ∙ sym (ap (λ y. with_got y (λ s gs. bar N fs s gs)) (row_stops N x.0 124 cs h refl)) ∙ x.1)

-- a bracket closes
pub record Closed (N : ℕ) (g : Got ℕ Pattern) (k : ℕ) (cs : List ℕ) : Type 0 where
  pub begun : List Begun
  pub count : groups begun ≡ k
  pub means : Means N begun true cs g

closes_in : (N : ℕ) (fs : List Begun) (p : Pattern) (g : Got ℕ Pattern) (k : ℕ) (cs : List ℕ) → groups fs ≡ suc k → resume N fs p (41 ∷ cs) ≡ g → Closed N g k cs
closes_in N [] p g k cs e x = absurd (omega arith)
closes_in N (in_either q ∷ fs) p g k cs e x = closes_in N fs (either q p) g k cs e x
closes_in N (in_group q ∷ fs) p g k cs e x = record { begun = fs; count = omega arith; means = (q, p, x) }

pub closes : (N : ℕ) (fs : List Begun) (g : Got ℕ Pattern) (k : ℕ) (cs : List ℕ) → 4 * length (41 ∷ cs) + 4 ≤ N → groups fs ≡ suc k → Means N fs false (41 ∷ cs) g → Closed N g k cs
closes N fs g k cs h e x = closes_in N fs x.0 g k cs e (sym (ap (λ y. with_got y (λ s gs. bar N fs s gs)) (row_stops N x.0 41 cs h refl)) ∙ x.1)

left_over : (N : ℕ) (fs : List Begun) (p : Pattern) (g : Got ℕ Pattern) (cs : List ℕ) → groups fs ≡ 0 → resume N fs p (41 ∷ cs) ≡ g → none_of (whole_pattern g) ≡ true
unfolding whole_pattern
left_over N [] p g cs e x = rw (sym x) refl
left_over N (in_either q ∷ fs) p g cs e x = left_over N fs (either q p) g cs e x
left_over N (in_group q ∷ fs) p g cs e x = absurd (omega arith)

pub never_opened : (N : ℕ) (fs : List Begun) (g : Got ℕ Pattern) (cs : List ℕ) → 4 * length (41 ∷ cs) + 4 ≤ N → groups fs ≡ 0 → Means N fs false (41 ∷ cs) g → none_of (whole_pattern g) ≡ true
never_opened N fs g cs h e x = left_over N fs x.0 g cs e (sym (ap (λ y. with_got y (λ s gs. bar N fs s gs)) (row_stops N x.0 41 cs h refl)) ∙ x.1)

pub no_pattern : (g : Got ℕ Pattern) → g ≡ none → none_of (whole_pattern g) ≡ true
unfolding whole_pattern
no_pattern g e = rw e refl

-- the text ends
row_end : (N : ℕ) (p : Pattern) → 2 ≤ N → row N p [] ≡ got p []
unfolding row
row_end N p h = SRow N (suc N) p [] (omega arith) (omega arith)

ends_in : (N : ℕ) (fs : List Begun) (p : Pattern) (g : Got ℕ Pattern) → resume N fs p [] ≡ g → eqb (groups fs) 0 ≡ not (none_of (whole_pattern g))
unfolding whole_pattern
ends_in N [] p g x = rw (sym x) refl
ends_in N (in_either q ∷ fs) p g x = ends_in N fs (either q p) g x
ends_in N (in_group q ∷ fs) p g x = ne_eqb (suc (groups fs)) 0 (λ e. omega arith) ∙ rw (sym x) refl

pub at_the_end : (N : ℕ) (fs : List Begun) (g : Got ℕ Pattern) (m : Bool) → 2 ≤ N → Means N fs m [] g → eqb (groups fs) 0 ≡ not (none_of (whole_pattern g))
at_the_end N fs g m h y = let x = settle_end N fs g m (omega arith) y in ends_in N fs x.0 g (sym (ap (λ z. with_got z (λ s gs. bar N fs s gs)) (row_end N x.0 h)) ∙ x.1)
