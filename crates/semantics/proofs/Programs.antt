-- Whole runs. The code of a program stands where its entries say; the rules of a stage do what they mean; the driver takes the lines one by one as
-- the meaning does. So a run is met by the machine at every depth, and by counting steps nothing else is.
use Rattle.std.proofs.Common.{◌≡◌, ℕ, zero, suc, ◌+◌, ◌-◌, ◌<◌, ◌≤◌, Bool, true, false, eqb, leb, List, [], ◌∷◌, ◌++◌, length, get_or, sym, refl, ap, ◌∙◌, subst, add-zero, add-suc, suc-add, zero-add, arith, length-append, leb-false, leb-true}
use mathlib.Core.Path.{fun_ext}
use Rattle.language.specs.Text.{pick, same, holds}
use Rattle.language.specs.Program.{Rule, Fun, Program}
use Rattle.language.specs.Meaning.{State, Went, went, nexted, stopped, given, wrong, unfinished, Got, state_of, got_then, went_then, eval, does, by_rule, rules_go, settled, begun, lined, over_lines, ended, so_far, outcome, of_kind, for_lines, whole_lines, last_line, short, at_first, fun_of}
use Rattle.language.specs.Run.{Ran}
use Rattle.language.specs.Promise.{Beginning, over, NoRoom}
use Rattle.language.proofs.Growth.{Grows, grows_refl, grows_trans, grows_like, grows_note}
use Rattle.semantics.specs.Invariants.{Callable}
use Rattle.semantics.specs.Stack.{Cell, Instr, note_all, jump_unless, jump, end_rules, Config, at, off, exec, step, times}
use Rattle.semantics.specs.Code.{Code, Calls, Stands, test_code, term_code, deeds_code, rule_code, rules_code, stage_code, slot_of, calls_of, function_code, functions_code, slots, Entries, entries, program_code, code}
use Rattle.semantics.specs.Lines.{Stage, first_stage, line_stage, last_stage, fresh, Run, busy, done_by, run_state, take_line, after_stage, driven, run_step, begin, run}
use Rattle.semantics.proofs.Steps.{Steps, times_add, none, one, then_steps, at_least, onward}
use Rattle.semantics.proofs.Primitives.{exec_after}
use Rattle.semantics.proofs.Simulation as sim
use Rattle.semantics.proofs.Simulation.{goes, went_same}

-- one after the other, and then a third
then_third : (w : Went) (j k : State → Went) → went_then (went_then w j) k ≡ went_then w (λ s. went_then (j s) k)
then_third (went s) j k = refl
then_third (nexted s) j k = refl
then_third (stopped i s) j k = refl
then_third (given v s) j k = refl
then_third (wrong i s) j k = refl
then_third (unfinished s) j k = refl

-- What was written stays written, and what was held stays noted.
module _ (f : ℕ → Instr) (e : Entries) (o : Bool) where
  record Up (s : State) (x : Run) : Type 0 where
    grows : Grows s (run_state x)

  up_pick : {s : State} {x y : Run} (b : Bool) → Up s x → Up s y → Up s (pick b x y)
  up_pick true a b = a
  up_pick false a b = b

  after_up : (g : Stage) (ls : List (List ℕ)) (s : State) → Up s (after_stage e o g ls s)
  after_up first_stage [] s = up_pick o (record { grows = grows_refl }) (record { grows = grows_refl })
  after_up first_stage (l ∷ ls) s = up_pick (short l) (record { grows = grows_trans (grows_like refl refl) (grows_note 0 _) }) (record { grows = grows_refl })
  after_up line_stage [] s = up_pick o (record { grows = grows_refl }) (record { grows = grows_refl })
  after_up line_stage (l ∷ ls) s = up_pick (short l) (record { grows = grows_trans (grows_like refl refl) (grows_note 0 _) }) (record { grows = grows_refl })
  after_up last_stage ls s = record { grows = grows_refl }

  pub step_grows : (x : Run) → Grows (run_state x) (run_state (run_step f e o x))
  step_grows (busy g ls (at p st s)) = (exec_after (f p) p st s).grows
  step_grows (busy g ls (off (went s))) = grows_trans (grows_like refl refl) (after_up g ls _).grows
  step_grows (busy g ls (off (nexted s))) = grows_trans (grows_like refl refl) (after_up g ls _).grows
  step_grows (busy g ls (off (stopped k s))) = grows_refl
  step_grows (busy g ls (off (given v s))) = grows_trans (grows_like refl refl) (after_up g ls _).grows
  step_grows (busy g ls (off (wrong k s))) = grows_refl
  step_grows (busy g ls (off (unfinished s))) = grows_refl
  step_grows (done_by w) = grows_refl

  times_grow : (n : ℕ) (x : Run) → Grows (run_state x) (run_state (times (run_step f e o) n x))
  unfolding times
  times_grow zero x = grows_refl
  times_grow (suc n) x = grows_trans (step_grows x) (times_grow n (run_step f e o x))

  pub later : (j k : ℕ) (x : Run) → j ≤ k → Grows (run_state (times (run_step f e o) j x)) (run_state (times (run_step f e o) k x))
  later j k x h =
      let z : k ≡ j + (k - j) = omega arith in
      rw z (rw (times_add (run_step f e o) j (k - j) x) (times_grow (k - j) (times (run_step f e o) j x)))

  -- a run that is done stays so
  done_stays : (k : ℕ) (w : Went) → times (run_step f e o) k (done_by w) ≡ done_by w
  unfolding times
  done_stays zero w = refl
  done_stays (suc k) w = done_stays k w

  pub done_later : (j k : ℕ) (x : Run) (w : Went) → times (run_step f e o) j x ≡ done_by w → times (run_step f e o) (j + k) x ≡ done_by w
  done_later j k x w h = times_add (run_step f e o) j k x ∙ ap (λ z. times (run_step f e o) k z) h ∙ done_stays k w

  -- How a run meets a result of the meaning: it ends so; or the result was cut off, and after at least so many steps it is in that state.
  pub data Ends (n : ℕ) (x : Run) (w : Went) : Type 0 where
    finishes : over w ≡ true → Steps (run_step f e o) 0 x (done_by w) → Ends n x w
    lasts : (g : Stage) (ls : List (List ℕ)) (p : ℕ) (st : List Cell) (s : State) → w ≡ unfinished s → Steps (run_step f e o) n x (busy g ls (at p st s)) → Ends n x w

  ends_from : {n : ℕ} {x y : Run} {w : Went} → Steps (run_step f e o) 0 x y → Ends n y w → Ends n x w
  ends_from a (finishes t b) = finishes t (onward (run_step f e o) a b)
  ends_from {n} a (lasts g ls p st s z b) = lasts g ls p st s z (at_least (run_step f e o) n (omega arith) (then_steps (run_step f e o) a b))

  -- the machine's steps are the run's; when it is off it stays, and the run goes on
  off_is : (k : ℕ) (w : Went) → off w ≡ times (step f) k (off w)
  unfolding times
  off_is zero w = refl
  off_is (suc k) w = off_is k w

  lift_at : (g : Stage) (ls : List (List ℕ)) (k : ℕ) (c : Config) (p : ℕ) (st : List Cell) (s : State) → times (step f) k c ≡ at p st s →
      times (run_step f e o) k (busy g ls c) ≡ busy g ls (at p st s)
  unfolding times
  lift_at g ls zero c p st s h = ap (λ z. busy g ls z) h
  lift_at g ls (suc k) (at q r i) p st s h = lift_at g ls k (exec (f q) q r i) p st s h
  lift_at g ls (suc k) (off w) p st s h = let y : off w ≡ at p st s = off_is k w ∙ h in cc

  lift_off : (g : Stage) (ls : List (List ℕ)) (k : ℕ) (c : Config) (w : Went) → times (step f) k c ≡ off w → Steps (run_step f e o) 0 (busy g ls c) (busy g ls (off w))
  unfolding times
  lift_off g ls zero c w h = rw h (none (run_step f e o))
  lift_off g ls (suc k) (at q r i) w h = onward (run_step f e o) (one (run_step f e o)) (lift_off g ls k (exec (f q) q r i) w h)
  lift_off g ls (suc k) (off v) w h = rw (← (off_is k v ∙ h)) (none (run_step f e o))

  -- the machine is off: the run makes one more step
  offs : {c : Config} (g : Stage) (ls : List (List ℕ)) (w : Went) → Steps (step f) 0 c (off w) → Steps (run_step f e o) 0 (busy g ls c) (driven e o g ls (settled w))
  offs {c} g ls w x = onward (run_step f e o) (lift_off g ls x.k c w x.is) (one (run_step f e o))

  -- a stage: its rules, and then what the driver does
  stage : (n : ℕ) (g : Stage) (ls : List (List ℕ)) {c : Config} (r : ℕ) (w : Went) (k : State → Went) →
      f r ≡ end_rules → sim.Meets f n c (goes r [] w) → ((s : State) → Ends n (after_stage e o g ls s) (k s)) → Ends n (busy g ls c) (went_then (settled w) k)
  unfolding over
  stage n g ls r (went s) k z l m = ends_from (offs g ls (went s) (onward (step f) l.met (sim.exec_one f z))) (m _)
  stage n g ls r (nexted s) k z l m = ends_from (offs g ls (nexted s) l.met) (m _)
  stage n g ls r (stopped j s) k z l m = finishes refl (offs g ls (stopped j s) l.met)
  stage n g ls r (given v s) k z l m = ends_from (offs g ls (given v s) l.met) (m _)
  stage n g ls r (wrong j s) k z l m = finishes refl (offs g ls (wrong j s) l.met)
  stage n g ls {c} r (unfinished s) k z l m =
      let x = l.met.2 in
      lasts g ls l.met.0 l.met.1 s refl (record { k = x.k; enough = x.enough; is = lift_at g ls x.k c l.met.0 l.met.1 s x.is })

  -- what can be read off
  back_by : (n : ℕ) (x : Run) (w : Went) → Ends n x w → Grows (run_state (times (run_step f e o) n x)) (state_of w)
  back_by n x w (finishes t l) =
      let z : Grows (run_state (times (run_step f e o) n x)) (run_state (times (run_step f e o) (l.k + n) x)) = later n (l.k + n) x (omega arith) in
      rw (done_later l.k n x w l.is) at z
  back_by n x w (lasts g ls p st s z l) = rw (z, ← (ap run_state l.is)) (later n l.k x l.enough)

  over_by : (x : Run) (n : ℕ) (w w₁ : Went) → times (run_step f e o) n x ≡ done_by w → Ends (suc n) x w₁ → (w₁ ≡ w) × (over w₁ ≡ true)
  over_by x n w w₁ h (finishes t l) =
      let a : times (run_step f e o) (n + l.k) x ≡ done_by w = done_later n l.k x w h in
      let b : times (run_step f e o) (l.k + n) x ≡ done_by w₁ = done_later l.k n x w₁ l.is in
      let z : n + l.k ≡ l.k + n = omega arith in
      (cc, t)
  over_by x n w w₁ h (lasts g ls p st s i l) =
      let z : l.k ≡ n + (l.k - n) = omega (arith, l.enough) in
      let a : times (run_step f e o) (n + (l.k - n)) x ≡ done_by w = done_later n (l.k - n) x w h in
      let b : times (run_step f e o) l.k x ≡ busy g ls (at p st s) = l.is in
      let y : ◌≡◌ {A = ℕ} 0 1 = cc in absurd (omega arith)

  met_by : (n : ℕ) (x : Run) (w : Went) → Ends n x w → (k : ℕ) × (run_state (times (run_step f e o) k x) ≡ state_of w)
  met_by n x w (finishes t l) = (l.k, ap run_state l.is)
  met_by n x w (lasts g ls p st s z l) = (l.k, ap run_state l.is ∙ ap state_of (sym z))

-- A program's code.
module _ (p : Program) where
  abbrev f : ℕ → Instr
  f = code p

  abbrev fs : List Fun
  fs = p.funs

  abbrev c : Calls
  c = calls_of fs

  stands_by : (q : ℕ) (is : List Instr) → ((i : ℕ) → f (i + q) ≡ get_or is i end_rules) → Stands f q is
  stands_by q [] h = tt
  stands_by q (x ∷ xs) h = (rw zero-add at (h 0), stands_by (suc q) xs (λ i. let e : suc i + q ≡ i + suc q = omega arith in rw e at (h (suc i))))

  slots_length : (gs : List Fun) (q : ℕ) → length (slots c gs q) ≡ length gs
  slots_length [] q = refl
  slots_length (g ∷ gs) q = ap suc (slots_length gs (length (function_code c g q) + q))

  function_by : (g : Fun) (gs : List Fun) (x : List ℕ) (j q : ℕ) (b : Bool) → f j ≡ jump q → Stands f q (function_code c g q) → sim.FunctionAt f fs (suc j + slot_of gs x) (fun_of gs x) →
      sim.FunctionAt f fs (j + pick b 0 (suc (slot_of gs x))) (pick b (g ∷ []) (fun_of gs x))
  function_by g gs x j q true a y r = rw add-zero (q, a, y)
  function_by g gs x j q false a y r = rw (add-suc, ← (suc-add j (slot_of gs x))) r

  functions_at : (gs : List Fun) (j q : ℕ) → Stands f j (slots c gs q) → Stands f q (functions_code c gs q) → (x : List ℕ) → sim.FunctionAt f fs (j + slot_of gs x) (fun_of gs x)
  unfolding fun_of slot_of
  functions_at [] j q a b x = tt
  functions_at (g ∷ gs) j q a b x =
      let y = sim.stands_both f q (function_code c g q) (functions_code c gs (length (function_code c g q) + q)) b in
      function_by g gs x j q (same g.name x) a.0 y.0 (functions_at gs (suc j) _ a.1 y.1 x)

  -- where everything stands
  record Laid : Type 0 where
    functions : (x : List ℕ) → sim.FunctionAt f fs (slot_of fs x) (fun_of fs x)
    first : Stands f (entries p).at_begin (stage_code c (of_kind 0 p.rules) (entries p).at_begin)
    each_line : Stands f (entries p).at_line (stage_code c (for_lines p.rules) (entries p).at_line)
    last : Stands f (entries p).at_end (stage_code c (of_kind 1 p.rules) (entries p).at_end)

  laid : Laid
  laid =
      let n = length fs in
      let m : length (slots c fs n) + 0 ≡ n = rw (slots_length fs n) (add-zero n) in
      let x = sim.stands_both f 0 (slots c fs n) _ (stands_by 0 (program_code p) (λ i. rw add-zero)) in
      let y = sim.stands_both f n (functions_code c fs n) _ (rw m at x.1) in
      let z = sim.stands_both f (entries p).at_begin (stage_code c (of_kind 0 p.rules) (entries p).at_begin) _ y.1 in
      let w = sim.stands_both f (entries p).at_line (stage_code c (for_lines p.rules) (entries p).at_line) _ z.1 in
      record { functions = λ u. rw zero-add at (functions_at fs 0 n x.0 y.0 u); first = z.0; each_line = w.0; last = w.1 }

  -- a call leads over a slot to statements, which begin with a note
  pub call_leads : {q : ℕ} {xs : List (List ℕ)} → Callable fs q xs → (r : ℕ) × (code p q ≡ jump r) × (code p r ≡ note_all 16)
  call_leads h =
      let a : sim.FunctionAt f fs (slot_of fs h.name) (h.fun ∷ h.others) = subst (λ gs. sim.FunctionAt f fs (slot_of fs h.name) gs) h.found (laid.functions h.name) in
      let b = sim.stands_both f a.0 (deeds_code c h.fun.deeds 16 a.0) _ a.2 in
      (a.0, rw h.slot a.1, sim.deeds_first f fs laid.functions h.fun.deeds 16 a.0 b.0)

  -- Rules.
  abbrev right : (n : ℕ) → sim.Simulates f fs laid.functions n
  right n = sim.simulates f fs laid.functions n

  test_works : {n : ℕ} (C A : Code) {s : State} {g : Got} (wa : State → Went) → sim.Gives f n C [] s [] g → ((r : State) → sim.Runs f n A [] r (wa r)) →
      sim.Runs f n (test_code C A) [] s (got_then g (λ v r. pick (holds v) (wa r) (went r)))
  test_works {n} C A {s} {g} wa x m = record {
    from = λ i h.
        let q = length (C i) + i in
        let r = length (A (suc q)) + suc q in
        let y = sim.stands_both f i (C i) (jump_unless r ∷ A (suc q)) h in
        let z : r ≡ length (test_code C A i) + i = omega (arith, length-append (C i) (jump_unless r ∷ A (suc q))) in
        subst (λ k. sim.Meets f n (at i [] s) (goes k [] (got_then g (λ v r. pick (holds v) (wa r) (went r))))) z
        (sim.run_end f g _ (x.from i y.0) (λ v a. sim.skip f y.1.0 (sim.meets_pick f (λ w. goes r [] w) (holds v) ((m a).from (suc q) y.1.1) (record { met = none (step f) }))));
  }

  rule_works : (n : ℕ) (b : Bool) (u : Rule) (s : State) →
      sim.Runs f n (rule_code c b u) [] s (pick b (got_then (eval n fs 0 u.test s) (λ v s₁. pick (holds v) (does n fs 0 u.deeds s₁) (went s₁))) (does n fs 0 u.deeds s))
  rule_works n true u s = test_works (term_code c u.test 0) (deeds_code c u.deeds 0) _ ((right n).terms u.test 0 0 [] s refl) (λ r. (right n).deeds u.deeds 0 0 [] r refl)
  rule_works n false u s = (right n).deeds u.deeds 0 0 [] s refl

  rules_work : (n : ℕ) (us : List Rule) (s : State) → sim.Runs f n (rules_code c us) [] s (rules_go (by_rule n fs) us s)
  unfolding rules_go
  rules_work n [] s = record { from = λ i h. let z : i ≡ 0 + i = omega arith in subst (λ k. sim.Meets f n (at i [] s) (goes k [] (went s))) z (record { met = none (step f) }) }
  rules_work n (u ∷ us) s =
      sim.seq_works f (rule_code c (eqb u.kind 3) u) (rules_code c us) (λ r. goes r [] (rules_go (by_rule n fs) (u ∷ us) s)) (λ i a b.
      sim.run_run f _ _ ((rule_works n (eqb u.kind 3) u s).from i a) (λ r. (rules_work n us r).from _ b))

  -- the rules of a stage, at its entry
  module _ (o : Bool) where
    abbrev E : Entries
    E = entries p

    rules_end : (n : ℕ) (g : Stage) (ls : List (List ℕ)) (us : List Rule) (i : ℕ) (s : State) (k : State → Went) → Stands f i (stage_code c us i) → ((q : State) → Ends f E o n (after_stage E o g ls q) (k q)) →
        Ends f E o n (busy g ls (at i [] s)) (went_then (settled (rules_go (by_rule n fs) us s)) k)
    rules_end n g ls us i s k h m =
        let x = sim.stands_both f i (rules_code c us i) (end_rules ∷ []) h in
        stage f E o n g ls _ _ k x.1.0 ((rules_work n us s).from i x.0) m

    -- what comes behind the lines
    abbrev behind : ℕ → State → Went
    behind n s = pick o (went s) (ended n p s)

    went_done : {n : ℕ} (s : State) → Ends f E o n (done_by (went s)) (went s)
    unfolding over
    went_done s = finishes refl (none (run_step f E o))

    ends_last : (n : ℕ) (s : State) → Ends f E o n (busy last_stage [] (at E.at_end [] s)) (ended n p s)
    unfolding ended
    ends_last n s =
        subst (λ w. Ends f E o n (busy last_stage [] (at E.at_end [] s)) w) (went_same (settled (rules_go (by_rule n fs) (of_kind 1 p.rules) s)))
        (rules_end n last_stage [] (of_kind 1 p.rules) E.at_end s (λ q. went q) laid.last (λ q. went_done q))

    ends_behind : (n : ℕ) (s : State) (b : Bool) → Ends f E o n (pick b (done_by (went s)) (busy last_stage [] (at E.at_end [] s))) (pick b (went s) (ended n p s))
    ends_behind n s true = went_done s
    ends_behind n s false = ends_last n s

    line_ends : (n : ℕ) (l : List ℕ) (ls : List (List ℕ)) (s : State) → ((q : State) → Ends f E o n (take_line E o ls q) (went_then (over_lines n p ls q) (λ r. behind n r))) → (b : Bool) →
        Ends f E o n (pick b (busy line_stage ls (at E.at_line [] (fresh l s))) (done_by (wrong 7 s)))
        (went_then (pick b (settled (rules_go (by_rule n fs) (for_lines p.rules) (fresh l s))) (wrong 7 s)) (λ q. went_then (over_lines n p ls q) (λ r. behind n r)))
    unfolding over
    line_ends n l ls s ih true = rules_end n line_stage ls (for_lines p.rules) E.at_line (fresh l s) _ laid.each_line ih
    line_ends n l ls s ih false = finishes refl (none (run_step f E o))

    ends_lines : (n : ℕ) (ls : List (List ℕ)) (s : State) → Ends f E o n (take_line E o ls s) (went_then (over_lines n p ls s) (λ q. behind n q))
    unfolding over_lines lined
    ends_lines n [] s = ends_behind n s o
    ends_lines n (l ∷ ls) s =
        subst (λ w. Ends f E o n (take_line E o (l ∷ ls) s) w) (sym (then_third (lined n p l s) (λ q. over_lines n p ls q) (λ q. behind n q)))
        (line_ends n l ls s (λ q. ends_lines n ls q) (short l))

    -- all of the program's meaning, with any lines
    ends_all : (n : ℕ) (ls : List (List ℕ)) → Ends f E o n (begin E ls) (went_then (begun n p) (λ s. went_then (over_lines n p ls s) (λ q. behind n q)))
    unfolding begun
    ends_all n ls = rules_end n first_stage ls (of_kind 0 p.rules) E.at_begin at_first _ laid.first (λ s. ends_lines n ls s)

  over_append : (n : ℕ) (ls ms : List (List ℕ)) (s : State) → went_then (over_lines n p ls s) (λ q. over_lines n p ms q) ≡ over_lines n p (ls ++ ms) s
  unfolding over_lines
  over_append n [] ms s = refl
  over_append n (l ∷ ls) ms s = then_third (lined n p l s) _ _ ∙ ap (λ k. went_then (lined n p l s) k) (fun_ext (λ q. over_append n ls ms q))

  outcome_is : (n : ℕ) (bs : List ℕ) → outcome n p bs ≡ went_then (begun n p) (λ s. went_then (over_lines n p (whole_lines [] bs ++ last_line [] bs) s) (λ q. ended n p q))
  unfolding outcome so_far
  outcome_is n bs =
      then_third (begun n p) _ _
      ∙ ap (λ k. went_then (begun n p) k) (fun_ext (λ s.
      sym (then_third (over_lines n p (whole_lines [] bs) s) (λ q. over_lines n p (last_line [] bs) q) (λ q. ended n p q))
      ∙ ap (λ w. went_then w (λ q. ended n p q)) (over_append n (whole_lines [] bs) (last_line [] bs) s)))

  so_far_is : (n : ℕ) (bs : List ℕ) → so_far n p bs ≡ went_then (begun n p) (λ s. went_then (over_lines n p (whole_lines [] bs) s) (λ q. went q))
  unfolding so_far
  so_far_is n bs = ap (λ k. went_then (begun n p) k) (fun_ext (λ s. sym (went_same (over_lines n p (whole_lines [] bs) s))))

  -- a run over all lines, and one over the lines that came
  pub ends_outcome : (n : ℕ) (bs : List ℕ) → Ends f (entries p) false n (begin (entries p) (whole_lines [] bs ++ last_line [] bs)) (outcome n p bs)
  ends_outcome n bs =
      subst (λ w. Ends f (entries p) false n (begin (entries p) (whole_lines [] bs ++ last_line [] bs)) w) (sym (outcome_is n bs)) (ends_all false n (whole_lines [] bs ++ last_line [] bs))

  ends_so_far : (n : ℕ) (bs : List ℕ) → Ends f (entries p) true n (begin (entries p) (whole_lines [] bs)) (so_far n p bs)
  ends_so_far n bs = subst (λ w. Ends f (entries p) true n (begin (entries p) (whole_lines [] bs)) w) (sym (so_far_is n bs)) (ends_all true n (whole_lines [] bs))

  -- Whatever the meaning comes to, the machine comes to; what the machine has done is meant; a run that has ended, ended as meant.
  pub back : (bs : List ℕ) (n : ℕ) → Grows (run_state (run p bs n)) (state_of (outcome n p bs))
  back bs n = back_by f (entries p) false n _ (outcome n p bs) (ends_outcome n bs)

  pub over_is : (bs : List ℕ) (n : ℕ) (w : Went) → run p bs n ≡ done_by w → (outcome (suc n) p bs ≡ w) × (over w ≡ true)
  over_is bs n w h =
      let x = over_by f (entries p) false _ n w (outcome (suc n) p bs) h (ends_outcome (suc n) bs) in
      (x.0, rw x.0 at x.1)

  pub meets : (bs : List ℕ) (n : ℕ) → (k : ℕ) × (run_state (run p bs k) ≡ state_of (outcome n p bs))
  meets bs n = met_by f (entries p) false n _ (outcome n p bs) (ends_outcome n bs)

  pub waits_is : (n : ℕ) (bs : List ℕ) (w : Went) → times (run_step f (entries p) true) n (begin (entries p) (whole_lines [] bs)) ≡ done_by w → so_far (suc n) p bs ≡ w
  waits_is n bs w h = (over_by f (entries p) true _ n w (so_far (suc n) p bs) h (ends_so_far (suc n) bs)).0

  -- Where more was held at a step than there may be: that much is meant to be held, and all that is meant before it is written by then.
  pub room : (bs : List ℕ) (j : ℕ) (r : Ran) → 262144 < (run_state (run p bs j)).heavy → r.end ≡ 1008 → r.written ≡ (run_state (run p bs j)).out → NoRoom p bs r
  unfolding NoRoom
  room bs j r big i w = (i, (j, omega (arith, (back bs j).heavies), rw w (back bs j).outs), λ m g. rw w (before m g (meets bs m)))
    where
      before : (m : ℕ) → (state_of (outcome m p bs)).heavy ≤ 262144 → (k : ℕ) × (run_state (run p bs k) ≡ state_of (outcome m p bs)) → Beginning (state_of (outcome m p bs)).out (run_state (run p bs j)).out
      before m g x = order (leb x.0 j) refl
        where
          order : (b : Bool) → leb x.0 j ≡ b → Beginning (state_of (outcome m p bs)).out (run_state (run p bs j)).out
          order true z =
              let y : Grows (run_state (run p bs x.0)) (run_state (run p bs j)) = later f (entries p) false x.0 j _ (leb-true x.0 j z) in
              rw x.1 at y.outs
          order false z =
              let y : Grows (run_state (run p bs j)) (run_state (run p bs x.0)) = later f (entries p) false j x.0 _ (omega (arith, leb-false x.0 j z)) in
              let q : ⊥ = omega (arith, y.heavies, ap (λ s. s.heavy) x.1) in
              absurd q
