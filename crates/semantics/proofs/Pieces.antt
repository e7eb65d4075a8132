-- Lines in pieces. A live run, seen with any bytes that may still come behind those that wait, is the run over all of these lines: each of its steps is
-- one of that run's. So one fact about what was reached gives both what all the bytes come to and what has been done where it waits.
use Rattle.std.proofs.Common.{◌≡◌, ℕ, zero, suc, ◌+◌, ◌<◌, ◌≤◌, Bool, true, false, eqb, List, [], ◌∷◌, ◌++◌, length, sym, refl, ap, ◌∙◌, subst, append_assoc, append-nil, le_refl, arith, length-append, le-ltb}
use Rattle.language.specs.Text.{pick}
use Rattle.language.specs.Program.{Program}
use Rattle.language.specs.Meaning.{State, Went, went, nexted, stopped, given, wrong, unfinished, state_of, settled, short, whole_lines, last_line, so_far}
use Rattle.language.specs.Run.{bytes, no_more}
use Rattle.language.specs.Promise.{Beginning}
use Rattle.semantics.specs.Stack.{at, off, times}
use Rattle.semantics.specs.Code.{entries, code}
use Rattle.semantics.specs.Lines.{Stage, first_stage, line_stage, last_stage, fresh, Run, busy, done_by, run_state, take_line, driven, run_step, begin, run, Cut, whole, part, cut_line, Live, live, over, Now, steps, waits, ends, live_state, live_out, shut, buffer, told, live_line, live_take, live_after, live_driven, follow, Goes, Reached, at_start, one_more, piece_came, end_told}
use Rattle.semantics.proofs.Steps.{times_add}
use Rattle.semantics.proofs.Primitives.{exec_after}
use Rattle.semantics.proofs.Programs.{step_grows, waits_is}

-- what is left of a line behind the whole lines of some bytes; as a line, if there is anything
unfoldable tail_of : List ℕ → List ℕ → List ℕ
tail_of l [] = l
tail_of l (c ∷ cs) = pick (eqb c 10) (tail_of [] cs) (tail_of (l ++ c ∷ []) cs)

abbrev as_line : List ℕ → List (List ℕ)
as_line [] = []
as_line (b ∷ bs) = (b ∷ bs) ∷ []

last_pick : (t : Bool) (x y : List ℕ) → pick t (as_line x) (as_line y) ≡ as_line (pick t x y)
last_pick true x y = refl
last_pick false x y = refl

last_is : (l bs : List ℕ) → last_line l bs ≡ as_line (tail_of l bs)
unfolding last_line tail_of
last_is [] [] = refl
last_is (a ∷ l) [] = refl
last_is [] (b ∷ bs) = rw (last_is [] bs, last_is (b ∷ []) bs) (last_pick (eqb b 10) _ _)
last_is (a ∷ l) (b ∷ bs) = rw (last_is [] bs, last_is ((a ∷ l) ++ b ∷ []) bs) (last_pick (eqb b 10) _ _)

-- all lines of some bytes; or, of an open run, the whole ones
abbrev pub lines_of : Bool → List ℕ → List (List ℕ)
lines_of o bs = whole_lines [] bs ++ pick o [] (last_line [] bs)

-- a live run as a run, with the bytes that are still to come
abbrev pub view : Bool → List ℕ → Live → Run
view o fu (live g c b z) = busy g (lines_of o (b ++ fu)) c
view o fu (over w z) = done_by w

-- what may still come: where the end was told, nothing, and all lines are there
abbrev pub Future : Bool → Bool → List ℕ → Type 0
Future true o fu = (o ≡ false) × (fu ≡ [])
Future false o fu = Unit {0}

pub view_state : (o : Bool) (fu : List ℕ) (x : Live) → run_state (view o fu x) ≡ live_state x
view_state o fu (live g c b z) = refl
view_state o fu (over w z) = refl

pub future_open : (z o : Bool) (fu : List ℕ) → z ≡ false → Future z o fu
future_open z o fu h = subst (λ u. Future u o fu) (sym h) tt

pub future_shut : (z : Bool) (fu : List ℕ) → (z ≡ true → fu ≡ []) → Future z false fu
future_shut true fu h = (refl, h refl)
future_shut false fu h = tt

-- How a first line is cut off bytes with others behind them: a whole line is the first of all; where there is none, what there is goes on with what
-- comes, and is as long as the bytes.
abbrev CutOf : List ℕ → List ℕ → List ℕ → Cut → Type 0
CutOf a b fu (whole l r) = (whole_lines a (b ++ fu) ≡ l ∷ whole_lines [] (r ++ fu)) × (tail_of a (b ++ fu) ≡ tail_of [] (r ++ fu)) × (length r < length a + length b)
CutOf a b fu (part l) = (whole_lines a b ≡ []) × (tail_of a b ≡ l) × (cut_line a (b ++ fu) ≡ cut_line l fu) × (length l ≡ length a + length b)

cut_of : (a b fu : List ℕ) → CutOf a b fu (cut_line a b)
unfolding cut_line whole_lines tail_of
cut_of a [] fu = (refl, refl, refl, omega arith)
cut_of a (c ∷ b) fu = by_end (eqb c 10) refl (cut_of (a ++ c ∷ []) b fu)
  where
    longer : (d : Cut) → CutOf (a ++ c ∷ []) b fu d → eqb c 10 ≡ false → CutOf a (c ∷ b) fu d
    longer (whole l r) h e = (rw e h.0, rw e h.1, omega (arith, h.2, length-append a (c ∷ [])))
    longer (part l) h e = (rw e h.0, rw e h.1, rw e h.2, omega (arith, h.3, length-append a (c ∷ [])))

    by_end : (t : Bool) → eqb c 10 ≡ t → CutOf (a ++ c ∷ []) b fu (cut_line (a ++ c ∷ []) b) → CutOf a (c ∷ b) fu (pick t (whole a b) (cut_line (a ++ c ∷ []) b))
    by_end true e ih = (rw e, rw e, omega arith)
    by_end false e ih = longer (cut_line (a ++ c ∷ []) b) ih e

cut_is : (b fu : List ℕ) (d : Cut) → cut_line [] b ≡ d → CutOf [] b fu d
cut_is b fu d h = subst (λ z. CutOf [] b fu z) h (cut_of [] b fu)

lines_whole : (o : Bool) (b fu l r : List ℕ) → cut_line [] b ≡ whole l r → lines_of o (b ++ fu) ≡ l ∷ lines_of o (r ++ fu)
lines_whole o b fu l r h =
    let x = cut_is b fu (whole l r) h in
    let y : last_line [] (b ++ fu) ≡ last_line [] (r ++ fu) = last_is [] (b ++ fu) ∙ ap as_line x.1 ∙ sym (last_is [] (r ++ fu)) in
    ap (λ z. whole_lines [] (b ++ fu) ++ pick o [] z) y ∙ ap (λ z. z ++ pick o [] (last_line [] (r ++ fu))) x.0

lines_part : (o : Bool) (b l : List ℕ) → cut_line [] b ≡ part l → lines_of o (b ++ []) ≡ pick o [] (as_line l)
lines_part o b l h =
    let x = cut_is b [] (part l) h in
    ap (λ z. lines_of o z) (append-nil b) ∙ ap (λ z. z ++ pick o [] (last_line [] b)) x.0 ∙ ap (λ z. pick o [] z) (last_is [] b ∙ ap as_line x.1)

-- the first line of bytes without an end, whatever comes behind them, is at least as long as they are
abbrev Longer : ℕ → Cut → Type 0
Longer n (whole l r) = n ≤ length l
Longer n (part l) = n ≤ length l

longer_less : (n m : ℕ) (d : Cut) → m ≤ n → Longer n d → Longer m d
longer_less n m (whole l r) h i = omega arith
longer_less n m (part l) h i = omega arith

longer : (l bs : List ℕ) → Longer (length l) (cut_line l bs)
unfolding cut_line
longer l [] = le_refl (length l)
longer l (c ∷ bs) = by_end (eqb c 10) (longer_less (length (l ++ c ∷ [])) (length l) (cut_line (l ++ c ∷ []) bs) (omega (arith, length-append l (c ∷ []))) (longer (l ++ c ∷ []) bs))
  where
    by_end : (t : Bool) → Longer (length l) (cut_line (l ++ c ∷ []) bs) → Longer (length l) (pick t (whole l bs) (cut_line (l ++ c ∷ []) bs))
    by_end true h = le_refl (length l)
    by_end false h = h

abbrev FirstLong : List ℕ → List ℕ → Type 0
FirstLong b fu = (k : List ℕ) × (ls : List (List ℕ)) × (lines_of false (b ++ fu) ≡ k ∷ ls) × (length b ≤ length k)

first_long : (b l fu : List ℕ) → cut_line [] b ≡ part l → 1 ≤ length b → FirstLong b fu
first_long b l fu h i =
    let x = cut_is b fu (part l) h in
    first_by (cut_line l fu) x.2 (longer_less (length l) (length b) (cut_line l fu) (omega (arith, x.3)) (longer l fu))
  where
    no_more_bytes : lines_of false (b ++ fu) ≡ lines_of false ((b ++ fu) ++ [])
    no_more_bytes = ap (λ u. lines_of false u) (sym (append-nil (b ++ fu)))

    first_part : (k : List ℕ) → cut_line [] (b ++ fu) ≡ part k → length b ≤ length k → FirstLong b fu
    first_part [] y z = absurd (omega arith)
    first_part (c ∷ k) y z = (c ∷ k, [], no_more_bytes ∙ lines_part false (b ++ fu) (c ∷ k) y, z)

    first_by : (d : Cut) → cut_line [] (b ++ fu) ≡ d → Longer (length b) d → FirstLong b fu
    first_by (whole k r) y z = (k, lines_of false (r ++ []), no_more_bytes ∙ lines_whole false (b ++ fu) [] k r y, z)
    first_by (part k) y z = first_part k y z

-- lines and bytes that wait, together: only the taking of a line counts one, and it takes a byte or more
abbrev pub many : Live → ℕ
many x = (live_state x).lines + length (buffer x)

steps_apart : {A : Type 0} {x : Live} {s : State} → steps x ≡ waits s → A
steps_apart h = let y : ◌≡◌ {A = ℕ} 0 1 = cc in absurd (omega arith)

pub same_steps : {x y : Live} → steps x ≡ steps y → x ≡ y
same_steps h = cc

module _ (p : Program) where
  -- Where it waits: behind the rules of a stage, with no whole line in the bytes that wait, and the end not told.
  pub data Stalled : Live → State → Type 0 where
    stalled : {g : Stage} {w : Went} {b : List ℕ} {s : State} (l : List ℕ) → ((o : Bool) (ls : List (List ℕ)) → driven (entries p) o g ls (settled w) ≡ take_line (entries p) o ls s) →
        s.out ≡ (state_of w).out → cut_line [] b ≡ part l → Stalled (live g (off w) b false) s

  stalled_take : (g : Stage) (w : Went) (b : List ℕ) (z : Bool) (s r : State) (d : Cut) → ((o : Bool) (ls : List (List ℕ)) → driven (entries p) o g ls (settled w) ≡ take_line (entries p) o ls s) →
      s.out ≡ (state_of w).out → cut_line [] b ≡ d → live_take (entries p) z s d ≡ waits r → Stalled (live g (off w) b z) r
  stalled_take g w b z s r (whole l q) h o i e = apart (short l) e
    where
      apart : (t : Bool) → pick t (steps (live line_stage (at (entries p).at_line [] (fresh l s)) q z)) (steps (over (wrong 7 s) z)) ≡ waits r → Stalled (live g (off w) b z) r
      apart true e = steps_apart e
      apart false e = steps_apart e
  stalled_take g w b false s r (part l) h o i e = let q : s ≡ r = cc in subst (λ x. Stalled (live g (off w) b false) x) q (stalled l h o i)
  stalled_take g w b true s r (part []) h o i e = steps_apart e
  stalled_take g w b true s r (part (c ∷ cs)) h o i e = apart (short (c ∷ cs)) e
    where
      apart : (t : Bool) → pick t (steps (live line_stage (at (entries p).at_line [] (fresh (c ∷ cs) s)) [] true)) (steps (over (wrong 7 s) true)) ≡ waits r → Stalled (live g (off w) b true) r
      apart true e = steps_apart e
      apart false e = steps_apart e

  stalled_after : (g : Stage) (w : Went) (b : List ℕ) (z : Bool) (s r : State) → settled w ≡ went s → s.out ≡ (state_of w).out → live_after (entries p) g b z s ≡ waits r → Stalled (live g (off w) b z) r
  stalled_after first_stage w b z s r h o e = stalled_take first_stage w b z s r (cut_line [] b) (λ u ls. ap (λ x. driven (entries p) u first_stage ls x) h) o refl e
  stalled_after line_stage w b z s r h o e = stalled_take line_stage w b z s r (cut_line [] b) (λ u ls. ap (λ x. driven (entries p) u line_stage ls x) h) o refl e
  stalled_after last_stage w b z s r h o e = steps_apart e

  pub stalls : (x : Live) (r : State) → follow p x ≡ waits r → Stalled x r
  stalls (live g (at q st s) b z) r e = steps_apart e
  stalls (live g (off (went s)) b z) r e = stalled_after g (went s) b z _ r refl refl e
  stalls (live g (off (nexted s)) b z) r e = stalled_after g (nexted s) b z _ r refl refl e
  stalls (live g (off (stopped k s)) b z) r e = steps_apart e
  stalls (live g (off (given v s)) b z) r e = stalled_after g (given v s) b z _ r refl refl e
  stalls (live g (off (wrong k s)) b z) r e = steps_apart e
  stalls (live g (off (unfinished s)) b z) r e = steps_apart e
  stalls (over w z) r e = let y : ◌≡◌ {A = ℕ} 0 1 = cc in absurd (omega arith)

  stalled_open : {x : Live} {s : State} → Stalled x s → shut x ≡ false
  stalled_open (stalled l h o i) = refl

  stalled_out : {x : Live} {s : State} → Stalled x s → s.out ≡ live_out x
  stalled_out (stalled l h o i) = o

  pub wait_open : (x : Live) {s : State} → follow p x ≡ waits s → shut x ≡ false
  wait_open x {s} h = stalled_open (stalls x s h)

  pub wait_out : (x : Live) {s : State} → follow p x ≡ waits s → s.out ≡ live_out x
  wait_out x {s} h = stalled_out (stalls x s h)

  -- the run that has only the whole lines is done there
  wait_by : {x : Live} {s : State} → Stalled x s → run_step (code p) (entries p) true (view true [] x) ≡ done_by (went s)
  wait_by (stalled {g} {w} {b} {s} l h o i) = h true (lines_of true (b ++ [])) ∙ ap (λ ls. take_line (entries p) true ls s) (lines_part true b l i)

  -- and where a line that has not ended is too long already, that is wrong, whatever comes
  long_by : {x : Live} {s : State} (fu : List ℕ) → Stalled x s → 65536 ≤ length (buffer x) → run_step (code p) (entries p) false (view false fu x) ≡ done_by (wrong 7 s)
  long_by fu (stalled {g} {w} {b} {s} l h o i) n =
      let x = first_long b l fu i (omega arith) in
      h false (lines_of false (b ++ fu)) ∙ ap (λ ls. take_line (entries p) false ls s) x.2
      ∙ ap (λ t. pick t (busy line_stage x.1 (at (entries p).at_line [] (fresh x.0 s))) (done_by (wrong 7 s))) (le-ltb (length x.0) 65536 (omega (arith, x.3)))

  pub long_view : (fu : List ℕ) (x : Live) {s : State} → follow p x ≡ waits s → 65536 ≤ length (buffer x) → run_step (code p) (entries p) false (view false fu x) ≡ done_by (wrong 7 s)
  long_view fu x {s} h n = long_by fu (stalls x s h) n

  -- A step of the live run is one of the run's, whatever is to come; the end stays told; and no more lines are counted than bytes came.
  abbrev Agree : Bool → List ℕ → Bool → ℕ → Run → Now → Type 0
  Agree o fu z n r (steps y) = (r ≡ view o fu y) × (shut y ≡ z) × (many y ≤ n)
  Agree o fu z n r (waits s) = Unit {0}
  Agree o fu z n r (ends w) = Unit {0}

  agree_line : (o : Bool) (fu : List ℕ) (z : Bool) (s : State) (l r : List ℕ) (n : ℕ) → length r < n → (t : Bool) →
      Agree o fu z (s.lines + n) (pick t (busy line_stage (lines_of o (r ++ fu)) (at (entries p).at_line [] (fresh l s))) (done_by (wrong 7 s)))
      (pick t (steps (live line_stage (at (entries p).at_line [] (fresh l s)) r z)) (steps (over (wrong 7 s) z)))
  agree_line o fu z s l r n h true = (refl, refl, omega arith)
  agree_line o fu z s l r n h false = (refl, refl, omega arith)

  agree_take : (o : Bool) (fu : List ℕ) (z : Bool) (s : State) (b : List ℕ) (d : Cut) → Future z o fu → cut_line [] b ≡ d →
      Agree o fu z (s.lines + length b) (take_line (entries p) o (lines_of o (b ++ fu)) s) (live_take (entries p) z s d)
  unfolding whole_lines last_line
  agree_take o fu z s b (whole l r) h i =
      subst (λ ls. Agree o fu z (s.lines + length b) (take_line (entries p) o ls s) (live_line (entries p) z s l r)) (sym (lines_whole o b fu l r i))
      (agree_line o fu z s l r (length b) (omega (arith, (cut_is b fu (whole l r) i).2)) (short l))
  agree_take o fu false s b (part l) h i = tt
  agree_take o fu true s b (part l) h i =
      let P : Bool → List ℕ → Type 0 = λ u v. Agree u v true (s.lines + length b) (take_line (entries p) u (lines_of u (b ++ v)) s) (live_take (entries p) true s (part l)) in
      subst (λ u. P u fu) (sym h.0) (subst (λ v. P false v) (sym h.1)
      (subst (λ ls. Agree false [] true (s.lines + length b) (take_line (entries p) false ls s) (live_take (entries p) true s (part l))) (sym (lines_part false b l i)) (last_by l (cut_is b [] (part l) i).3)))
    where
      last_by : (l : List ℕ) → length l ≡ 0 + length b → Agree false [] true (s.lines + length b) (take_line (entries p) false (as_line l) s) (live_take (entries p) true s (part l))
      last_by [] e = (refl, refl, omega arith)
      last_by (c ∷ cs) e = agree_line false [] true s (c ∷ cs) [] (length b) (omega arith) (short (c ∷ cs))

  agree_driven : (o : Bool) (fu : List ℕ) (g : Stage) (b : List ℕ) (z : Bool) (w : Went) → Future z o fu →
      Agree o fu z ((state_of w).lines + length b) (driven (entries p) o g (lines_of o (b ++ fu)) w) (live_driven (entries p) g b z w)
  agree_driven o fu first_stage b z (went s) h = agree_take o fu z s b (cut_line [] b) h refl
  agree_driven o fu line_stage b z (went s) h = agree_take o fu z s b (cut_line [] b) h refl
  agree_driven o fu last_stage b z (went s) h = (refl, refl, omega arith)
  agree_driven o fu g b z (nexted s) h = (refl, refl, omega arith)
  agree_driven o fu g b z (stopped k s) h = (refl, refl, omega arith)
  agree_driven o fu g b z (given v s) h = (refl, refl, omega arith)
  agree_driven o fu g b z (wrong k s) h = (refl, refl, omega arith)
  agree_driven o fu g b z (unfinished s) h = (refl, refl, omega arith)

  settled_lines : (w : Went) → (state_of (settled w)).lines ≡ (state_of w).lines
  settled_lines (went s) = refl
  settled_lines (nexted s) = refl
  settled_lines (stopped k s) = refl
  settled_lines (given v s) = refl
  settled_lines (wrong k s) = refl
  settled_lines (unfinished s) = refl

  agree : (o : Bool) (fu : List ℕ) (x : Live) → Future (shut x) o fu → Agree o fu (shut x) (many x) (run_step (code p) (entries p) o (view o fu x)) (follow p x)
  agree o fu (live g (at q st s) b z) h = (refl, refl, omega (arith, (exec_after (code p q) q st s).counts))
  agree o fu (live g (off w) b z) h =
      subst (λ n. Agree o fu z (n + length b) (driven (entries p) o g (lines_of o (b ++ fu)) (settled w)) (live_driven (entries p) g b z (settled w))) (settled_lines w) (agree_driven o fu g b z (settled w) h)
  agree o fu (over w z) h = tt

  step_agrees : (o : Bool) (fu : List ℕ) (x : Live) {y : Live} → Future (shut x) o fu → follow p x ≡ steps y → Agree o fu (shut x) (many x) (run_step (code p) (entries p) o (view o fu x)) (steps y)
  step_agrees o fu x h i = subst (λ n. Agree o fu (shut x) (many x) (run_step (code p) (entries p) o (view o fu x)) n) i (agree o fu x h)

  future_any : (z : Bool) → Future z false []
  future_any true = (refl, refl)
  future_any false = tt

  step_shut : (x : Live) {y : Live} → follow p x ≡ steps y → shut y ≡ shut x
  step_shut x i = (step_agrees false [] x (future_any (shut x)) i).1

  step_many : (x : Live) {y : Live} → follow p x ≡ steps y → many y ≤ many x
  step_many x i = (step_agrees false [] x (future_any (shut x)) i).2

  -- Of all that is reached.
  times_more : (o : Bool) (n : ℕ) (x : Run) → times (run_step (code p) (entries p) o) (suc n) x ≡ run_step (code p) (entries p) o (times (run_step (code p) (entries p) o) n x)
  unfolding times
  times_more o n x = let e : suc n ≡ n + 1 = omega arith in ap (λ k. times (run_step (code p) (entries p) o) k x) e ∙ times_add (run_step (code p) (entries p) o) n 1 x

  told_view : (o : Bool) (q fu : List ℕ) (x : Live) → view o (q ++ fu) x ≡ view o fu (told (bytes q) x)
  told_view o q fu (live g c b z) = ap (λ k. busy g (lines_of o k) c) (sym (append_assoc b q fu))
  told_view o q fu (over w z) = refl

  told_shut : (q : List ℕ) (x : Live) → shut (told (bytes q) x) ≡ shut x
  told_shut q (live g c b z) = refl
  told_shut q (over w z) = refl

  told_many : (q : List ℕ) (x : Live) → many (told (bytes q) x) ≤ many x + length q
  told_many q (live g c b z) = omega (arith, length-append b q)
  told_many q (over w z) = omega arith

  end_view : (o : Bool) (fu : List ℕ) (x : Live) → view o fu (told no_more x) ≡ view o fu x
  end_view o fu (live g c b z) = refl
  end_view o fu (over w z) = refl

  end_many : (x : Live) → many (told no_more x) ≡ many x
  end_many (live g c b z) = refl
  end_many (over w z) = refl

  -- the run with all its lines, whatever comes, is at the same place after as many steps
  pub reached_view : {bs : List ℕ} {n : ℕ} {x : Live} → Reached p bs n x → (o : Bool) (fu : List ℕ) → Future (shut x) o fu →
      times (run_step (code p) (entries p) o) n (begin (entries p) (lines_of o (bs ++ fu))) ≡ view o fu x
  unfolding times
  reached_view at_start o fu h = refl
  reached_view (one_more {bs} {n} {x} {y} r e) o fu h =
      let u : Future (shut x) o fu = subst (λ z. Future z o fu) (step_shut x e) h in
      times_more o n _ ∙ ap (λ z. run_step (code p) (entries p) o z) (reached_view r o fu u) ∙ (step_agrees o fu x u e).0
  reached_view (piece_came {bs} {cs} {n} {x} {y} q r e b i j) o fu h =
      let u : Future (shut x) o (q ++ fu) = future_open (shut x) o (q ++ fu) (wait_open x e) in
      ap (λ z. times (run_step (code p) (entries p) o) n (begin (entries p) (lines_of o z))) (ap (λ z. z ++ fu) i ∙ append_assoc bs q fu)
      ∙ reached_view r o (q ++ fu) u ∙ told_view o q fu x ∙ ap (λ z. view o fu z) (sym j)
  reached_view (end_told {bs} {n} {x} {y} r e j) o fu h =
      reached_view r o fu (future_open (shut x) o fu (wait_open x e)) ∙ sym (end_view o fu x) ∙ ap (λ z. view o fu z) (sym j)

  pub reached_many : {bs : List ℕ} {n : ℕ} {x : Live} → Reached p bs n x → many x ≤ length bs
  reached_many at_start = omega arith
  reached_many (one_more {x} r e) = omega (arith, step_many x e, reached_many r)
  reached_many (piece_came {bs} {x} q r e b i j) = omega (arith, told_many q x, ap many j, reached_many r, ap length i, length-append bs q)
  reached_many (end_told {x} r e j) = omega (arith, reached_many r, ap many j, end_many x)

  -- all of the bytes that came, and no others
  pub reached_run : {bs : List ℕ} {n : ℕ} {x : Live} → Reached p bs n x → (fu : List ℕ) → (shut x ≡ true → fu ≡ []) → run p (bs ++ fu) n ≡ view false fu x
  reached_run {x} r fu h = reached_view r false fu (future_shut (shut x) fu h)

  -- where it waits, all of the whole lines that came is done
  pub reached_waits : {bs : List ℕ} {n : ℕ} {x : Live} {s : State} → Reached p bs n x → follow p x ≡ waits s → so_far (suc (suc n)) p bs ≡ went s
  reached_waits {bs} {n} {x} {s} r e =
      let d : lines_of true (bs ++ []) ≡ whole_lines [] bs = append-nil (whole_lines [] (bs ++ [])) ∙ ap (λ z. whole_lines [] z) (append-nil bs) in
      waits_is p (suc n) bs (went s)
      (ap (λ z. times (run_step (code p) (entries p) true) (suc n) (begin (entries p) z)) (sym d) ∙ times_more true n _
      ∙ ap (λ z. run_step (code p) (entries p) true z) (reached_view r true [] (future_open (shut x) true [] (wait_open x e))) ∙ wait_by (stalls x s e))

  -- several steps
  pub reached_goes : {bs : List ℕ} (k n : ℕ) (x : Live) {y : Live} → Reached p bs n x → Goes p k x y → Reached p bs (n + k) y
  reached_goes {bs} zero n x {y} r g = subst (λ z. Reached p bs z y) (omega arith) (subst (λ z. Reached p bs n z) g r)
  reached_goes {bs} (suc k) n x {y} r g = subst (λ z. Reached p bs z y) (omega arith) (reached_goes k (suc n) g.0 (one_more r g.1) g.2)

  pub goes_shut : (k : ℕ) (x y : Live) → Goes p k x y → shut y ≡ shut x
  goes_shut zero x y g = ap shut (sym g)
  goes_shut (suc k) x y g = goes_shut k g.0 y g.2 ∙ step_shut x g.1

  -- what was written stays, so what is new can be named
  step_out : (x y : Live) → follow p x ≡ steps y → Beginning (live_out x) (live_out y)
  step_out x y e =
      let g = (step_grows (code p) (entries p) false (view false [] x)).outs in
      let a : run_state (run_step (code p) (entries p) false (view false [] x)) ≡ live_state y = ap run_state (step_agrees false [] x (future_any (shut x)) e).0 ∙ view_state false [] y in
      subst (λ s. Beginning (live_out x) s.out) a (subst (λ s. Beginning s.out (run_state (run_step (code p) (entries p) false (view false [] x))).out) (view_state false [] x) g)

  pub goes_out : (k : ℕ) (x y : Live) → Goes p k x y → Beginning (live_out x) (live_out y)
  goes_out zero x y g = ([], ap live_out (sym g) ∙ sym (append-nil (live_out x)))
  goes_out (suc k) x y g =
      let a = step_out x g.0 g.1 in
      let b = goes_out k g.0 y g.2 in
      (a.0 ++ b.0, b.1 ∙ ap (λ z. z ++ b.0) a.1 ∙ append_assoc (live_out x) a.0 b.0)
