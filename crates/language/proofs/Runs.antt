-- Whole runs: what is over stays as it is when the run may go deeper, what was written stays written, and lines can be done in two parts.
use Rattle.std.proofs.Common.{◌≡◌, ℕ, zero, suc, ◌+◌, true, false, eqb, List, [], ◌∷◌, ◌++◌, sym, refl, ap, ◌∙◌, subst, suc-add, zero-add}
use Rattle.language.specs.Text.{holds, fields_from}
use Rattle.language.specs.Program.{Rule, Fun, Program}
use Rattle.language.specs.Meaning.{State, Went, went, nexted, stopped, given, wrong, unfinished, state_of, note, went_then, by_rule, rules_go, settled, begun, lined, over_lines, ended, so_far, outcome, of_kind, for_lines, whole_lines, last_line, short, at_first}
use Rattle.language.specs.Promise.{over, DeeperSame, OnlyMore, InParts}
use Rattle.language.proofs.Growth.{Grows, grows_refl, grows_trans, grows_like, grows_note, Under, agree, short_of, Dw, both_at, pick_at, from_at, through, end_deeper, went_deeper, eval_deeper, does_deeper}

settled_adds : (w : Went) → Dw (state_of w) (settled w) (settled w)
settled_adds (went r) = both_at (grows_like refl refl)
settled_adds (nexted r) = both_at (grows_like refl refl)
settled_adds (stopped j r) = both_at grows_refl
settled_adds (given v r) = both_at (grows_like refl refl)
settled_adds (wrong j r) = both_at grows_refl
settled_adds (unfinished r) = both_at grows_refl

settled_deeper : {s : State} {w w₁ : Went} → Dw s w w₁ → Dw s (settled w) (settled w₁)
settled_deeper = through state_of unfinished state_of unfinished settled settled settled_adds (λ s. refl)

rule_deeper : (n : ℕ) (fs : List Fun) (r : Rule) (s : State) → Dw s (by_rule n fs r s) (by_rule (suc n) fs r s)
rule_deeper n fs r s =
    pick_at (eqb r.kind 3) (end_deeper _ _ (λ v q. pick_at (holds v) (does_deeper n fs 0 r.deeds q) (both_at grows_refl)) (eval_deeper n fs 0 r.test s))
    (does_deeper n fs 0 r.deeds s)

rules_deeper : (n : ℕ) (fs : List Fun) (rs : List Rule) (s : State) → Dw s (rules_go (by_rule n fs) rs s) (rules_go (by_rule (suc n) fs) rs s)
unfolding rules_go
rules_deeper n fs [] s = both_at grows_refl
rules_deeper n fs (r ∷ rs) s = went_deeper _ _ (λ q. rules_deeper n fs rs q) (rule_deeper n fs r s)

begun_deeper : (n : ℕ) (p : Program) → Dw at_first (begun n p) (begun (suc n) p)
unfolding begun
begun_deeper n p = settled_deeper (rules_deeper n p.funs (of_kind 0 p.rules) at_first)

lined_deeper : (n : ℕ) (p : Program) (l : List ℕ) (s : State) → Dw s (lined n p l s) (lined (suc n) p l s)
unfolding lined
lined_deeper n p l s =
    pick_at (short l)
    (settled_deeper (from_at (grows_trans (grows_like refl refl) (grows_note 0 _)) (rules_deeper n p.funs (for_lines p.rules)
    (note 0 (record { vars = s.vars; items = s.items; line = l; parts = fields_from [] l; lines = suc s.lines; frames = []; out = s.out; heavy = s.heavy })))))
    (both_at grows_refl)

lines_deeper : (n : ℕ) (p : Program) (ls : List (List ℕ)) (s : State) → Dw s (over_lines n p ls s) (over_lines (suc n) p ls s)
unfolding over_lines
lines_deeper n p [] s = both_at grows_refl
lines_deeper n p (l ∷ ls) s = went_deeper _ _ (λ q. lines_deeper n p ls q) (lined_deeper n p l s)

ended_deeper : (n : ℕ) (p : Program) (s : State) → Dw s (ended n p s) (ended (suc n) p s)
unfolding ended
ended_deeper n p s = settled_deeper (rules_deeper n p.funs (of_kind 1 p.rules) s)

pub so_far_deeper : (n : ℕ) (p : Program) (bs : List ℕ) → Dw at_first (so_far n p bs) (so_far (suc n) p bs)
unfolding so_far
so_far_deeper n p bs = went_deeper _ _ (λ s. lines_deeper n p (whole_lines [] bs) s) (begun_deeper n p)

pub outcome_deeper : (n : ℕ) (p : Program) (bs : List ℕ) → Dw at_first (outcome n p bs) (outcome (suc n) p bs)
unfolding outcome
outcome_deeper n p bs = went_deeper _ _ (λ s. went_deeper _ _ (λ r. ended_deeper n p r) (lines_deeper n p (last_line [] bs) s)) (so_far_deeper n p bs)

over_cut : (s : State) → over (unfinished s) ≡ false
unfolding over
over_cut s = refl

under_over : {w w₁ : Went} → Under state_of unfinished w w₁ → over w ≡ true → w₁ ≡ w
under_over (agree e) t = sym e
under_over (short_of s e g) t = let f = over_cut s in cc

under_grows : {w w₁ : Went} → Under state_of unfinished w w₁ → Grows (state_of w) (state_of w₁)
under_grows {w} (agree e) = let P : Went → Type 0 = λ x. Grows (state_of w) (state_of x) in subst P e grows_refl
under_grows {w} {w₁} (short_of s e g) = let P : Went → Type 0 = λ x. Grows (state_of x) (state_of w₁) in subst P (sym e) g

pub outcome_grows : (p : Program) (bs : List ℕ) (f k : ℕ) → Grows (state_of (outcome f p bs)) (state_of (outcome (k + f) p bs))
outcome_grows p bs f zero = rw zero-add grows_refl
outcome_grows p bs f (suc k) = rw suc-add (grows_trans (outcome_grows p bs f k) (under_grows (outcome_deeper (k + f) p bs).und))

pub only_more : OnlyMore
unfolding OnlyMore
only_more p bs f k = (outcome_grows p bs f k).outs

pub deeper_same : DeeperSame
unfolding DeeperSame
deeper_same p bs f zero e = rw zero-add
deeper_same p bs f (suc k) e = rw suc-add (under_over (outcome_deeper (k + f) p bs).und (ap over (deeper_same p bs f k e) ∙ e) ∙ deeper_same p bs f k e)

-- lines done after others, where those went on to the state s₁
parts_then : (p : Program) (f : ℕ) (ls ms : List (List ℕ)) (s₁ : State) → ((r : State) → over_lines f p ls r ≡ went s₁ → over_lines f p (ls ++ ms) r ≡ over_lines f p ms s₁) →
    (w : Went) → went_then w (λ r. over_lines f p ls r) ≡ went s₁ → went_then w (λ r. over_lines f p (ls ++ ms) r) ≡ over_lines f p ms s₁
parts_then p f ls ms s₁ k (went r) t = k r t
parts_then p f ls ms s₁ k (nexted r) t = cc
parts_then p f ls ms s₁ k (stopped j r) t = cc
parts_then p f ls ms s₁ k (given v r) t = cc
parts_then p f ls ms s₁ k (wrong j r) t = cc
parts_then p f ls ms s₁ k (unfinished r) t = cc

pub in_parts : InParts
unfolding InParts over_lines
in_parts p f [] ms s s₁ e = ap (λ r. over_lines f p ms (state_of r)) e
in_parts p f (l ∷ ls) ms s s₁ e = parts_then p f ls ms s₁ (λ r t. in_parts p f ls ms r s₁ t) (lined f p l s) e
