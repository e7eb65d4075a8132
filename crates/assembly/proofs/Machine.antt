-- An operation does what its instruction does.
use Rattle.std.proofs.Common.{◌≡◌, ℕ, zero, suc, ◌<◌, Bool, true, false, ltb, List, [], ◌∷◌, length, sym, refl, ap, ◌∙◌, subst}
use Rattle.std.proofs.lemmas.Bool.{ltb-true, ltb-false, lt-ltb}
use lib.ListN.{get_or-eq_default}
use Rattle.language.specs.Text.{pick, same, none_of, limit, Value, plus, text, within, holds}
use Rattle.language.specs.Meaning.{State, Got, got, left, Went, went, nexted, wrong, bound, set_bound, first_or, top, w_nr, w_nf, var_of, set_var, with_vars, with_frames, below, as_got}
use Rattle.semantics.specs.Stack.{Cell, val, ret, keys, Config, at, off, land, with_top, with_tops, exec, Instr, note_all, note_below, push_number, push_text, push_value, load_variable, load_field, load_item, apply_one, apply_two, to_truth, match_top, has_key, cut_part, split_into, save_variable, save_field, save_item, swap_variable, swap_field, swap_item, fail, jump, jump_if, jump_unless, drop_top, print_line, print_values, leave_line, exit_run, end_rules, call_function, return_empty, return_value, push_keys, next_key, delete_item}
use Rattle.semantics.specs.Code.{program_code, code}
use Rattle.semantics.specs.Invariants.{All, takes, Values}
use Rattle.assembly.specs.Assembly.{Op, op_end, Entry, literal, Pool, is_count, shape, is_note, lean_place, pool, op_at}
use Rattle.assembly.specs.Machine.{entry_value, slot_value, entry_set, op_exec, lean_config}
use Rattle.assembly.specs.Laws.{Holds, Constant, Loads, Saves, Means, in_core, FitsEntry, Steps}
use Rattle.assembly.proofs.Pools.{no, all_at}
use Rattle.assembly.proofs.Correspondence.{correspondence}
use Rattle.assembly.proofs.Known.{only_known}
use Rattle.assembly.proofs.Sizes.{sizes}

-- outside of functions, a variable is a count or what was set
var_is : (s : State) (x : List ℕ) → s.frames ≡ [] → var_of s x ≡ pick (same x w_nr) (plus s.lines) (pick (same x w_nf) (plus (length s.parts)) (first_or (text []) (bound s.vars x)))
unfolding var_of bound
var_is s x e = ap (λ f. pick (none_of (bound (top f) x)) (pick (same x w_nr) (plus s.lines) (pick (same x w_nf) (plus (length s.parts)) (first_or (text []) (bound s.vars x)))) (first_or (text []) (bound (top f) x))) e

set_is : (s : State) (x : List ℕ) (v : Value) → s.frames ≡ [] → set_var s x v ≡ pick (is_count x) (left (wrong 6 s)) (got v (with_vars s (set_bound s.vars x v)))
unfolding set_var bound
set_is s x v e =
    ap (λ f. pick (none_of (bound (top f) x)) (pick (is_count x) (left (wrong 6 s)) (got v (with_vars s (set_bound s.vars x v)))) (got v (with_frames s (set_bound (top f) x v ∷ below f)))) e

module _ (to : ℕ → ℕ) (π : Pool) (q : ℕ) (s : State) (fit : All FitsEntry π) (empty : s.frames ≡ []) (next : to (suc q) ≡ suc (to q)) where
  -- a configuration, and the same at lean places
  record Leans (c d : Config) : Type 0 where
    is : lean_config to c ≡ d

  lean_at : (st : List Cell) (r : State) → Leans (at (suc q) st r) (at (suc (to q)) st r)
  lean_at st r = record { is = ap (λ k. at k st r) next }

  lean_jump : (r : ℕ) (st : List Cell) → Leans (at r st s) (at (to r) st s)
  lean_jump r st = record { is = refl }

  lean_off : (w : Went) → Leans (off w) (off w)
  lean_off w = record { is = refl }

  lean_land : (st : List Cell) (g : Got) → Leans (land (suc q) st g) (land (suc (to q)) st g)
  lean_land st (got v r) = lean_at (val v ∷ st) r
  lean_land st (left w) = lean_off w

  lean_top : {f g : Value → List Cell → Config} (st : List Cell) → ((v : Value) (r : List Cell) → Leans (f v r) (g v r)) → Leans (with_top f s st) (with_top g s st)
  lean_top [] h = lean_off _
  lean_top (val v ∷ st) h = h v st
  lean_top (ret p d ∷ st) h = lean_off _
  lean_top (keys ks ∷ st) h = lean_off _

  lean_tops : {f g : List Value → List Cell → Config} (n : ℕ) (vs : List Value) (st : List Cell) → ((us : List Value) (r : List Cell) → Leans (f us r) (g us r)) → Leans (with_tops f s n vs st) (with_tops g s n vs st)
  lean_tops zero vs st h = h vs st
  lean_tops (suc n) vs st h = lean_top st (λ v r. lean_tops n (v ∷ vs) r h)

  lean_pick : (b : Bool) {x y u v : Config} → Leans x u → Leans y v → Leans (pick b x y) (pick b u v)
  lean_pick true e f = e
  lean_pick false e f = f

  -- the operation that stands there
  by_op : {c : Config} (st : List Cell) {o p : Op} → o ≡ p → Leans c (op_exec π p (to q) st s) → lean_config to c ≡ op_exec π o (to q) st s
  by_op st e h = h.is ∙ ap (λ z. op_exec π z (to q) st s) (sym e)

  holds_value : {k : ℕ} {e : Entry} → Holds π k e → slot_value π s k ≡ entry_value s e
  holds_value h = ap (entry_value s) h.there

  -- constants
  acts_constant : (v : Value) (o : Op) (st : List Cell) → Constant π v o → lean_config to (at (suc q) (val v ∷ st) s) ≡ op_exec π o (to q) st s
  acts_constant v o st c = (lean_at (val v ∷ st) s).is ∙ ap (λ u. at (suc (to q)) (val u ∷ st) s) (sym (holds_value c.2)) ∙ ap (λ z. op_exec π z (to q) st s) (sym c.1)

  number_within : (n k : ℕ) → Holds π k (literal (plus n)) → as_got (within (plus n)) s ≡ got (plus n) s
  unfolding as_got within
  number_within n k h =
      let l : n < limit = subst (λ e. FitsEntry e) h.there (all_at (literal (text [])) k fit h.inside) in
      rw (lt-ltb n limit l) refl

  -- names
  acts_load : (x : List ℕ) (o : Op) (st : List Cell) → Loads π x o → lean_config to (at (suc q) (val (var_of s x) ∷ st) s) ≡ op_exec π o (to q) st s
  acts_load x o st l = ap (λ u. lean_config to (at (suc q) (val u ∷ st) s)) (var_is s x empty) ∙ (lean_at _ s).is ∙ by_name (same x w_nr) (same x w_nf) refl refl
    where
      by_name : (a b : Bool) → same x w_nr ≡ a → same x w_nf ≡ b →
          at (suc (to q)) (val (pick a (plus s.lines) (pick b (plus (length s.parts)) (first_or (text []) (bound s.vars x)))) ∷ st) s ≡ op_exec π o (to q) st s
      by_name true b e f = ap (λ z. op_exec π z (to q) st s) (sym (l.lines e))
      by_name false true e f = ap (λ z. op_exec π z (to q) st s) (sym (l.fields e f))
      by_name false false e f =
          let n = l.other (rw (e, f) refl) in
          ap (λ u. at (suc (to q)) (val u ∷ st) s) (sym (holds_value n.1)) ∙ ap (λ z. op_exec π z (to q) st s) (sym n.0)

  acts_save : (x : List ℕ) (o : Op) (st : List Cell) → Values 1 st → Saves π x o → lean_config to (with_top (λ v r. land (suc q) r (set_var s x v)) s st) ≡ op_exec π o (to q) st s
  acts_save x o [] w l = absurd w
  acts_save x o (ret p d ∷ st) w l = absurd w
  acts_save x o (keys ks ∷ st) w l = absurd w
  acts_save x o (val v ∷ st) w l = (lean_land st (set_var s x v)).is ∙ ap (land (suc (to q)) st) (set_is s x v empty) ∙ by_name (is_count x) refl
    where
      by_name : (a : Bool) → is_count x ≡ a → land (suc (to q)) st (pick a (left (wrong 6 s)) (got v (with_vars s (set_bound s.vars x v)))) ≡ op_exec π o (to q) (val v ∷ st) s
      by_name true e = ap (λ z. op_exec π z (to q) (val v ∷ st) s) (sym (l.count e))
      by_name false e =
          let n = l.other e in
          ap (λ u. at (suc (to q)) (val v ∷ st) (entry_set s u v)) (sym n.1.there) ∙ ap (λ z. op_exec π z (to q) (val v ∷ st) s) (sym n.0)

  -- every instruction
  acts : (i : Instr) (o : Op) (st : List Cell) → Means π to i o → in_core (shape i) ≡ true → is_note i ≡ false → Values (takes i) st → lean_config to (exec i q st s) ≡ op_exec π o (to q) st s
  acts (note_all d) o st m c e w = no (sym e)
  acts (note_below d) o st m c e w = no (sym e)
  acts (push_number n) o st m c e w = ap (λ g. lean_config to (land (suc q) st g)) (number_within n m.0 m.2) ∙ acts_constant (plus n) o st m
  acts (push_text b) o st m c e w = acts_constant (text b) o st m
  acts (push_value v) o st m c e w = acts_constant v o st m
  acts (load_variable x) o st m c e w = acts_load x o st m
  acts load_field o st m c e w = by_op st m (lean_top st (λ v r. lean_land r _))
  acts (load_item x) o st m c e w = no c
  acts (apply_one k) o st m c e w = by_op st m (lean_top st (λ v r. lean_land r _))
  acts (apply_two k) o st m c e w = by_op st m (lean_top st (λ u r. lean_top r (λ v x. lean_land x _)))
  acts to_truth o st m c e w = by_op st m (lean_top st (λ v r. lean_at _ s))
  acts (match_top y) o st m c e w = no c
  acts (has_key x) o st m c e w = no c
  acts cut_part o st m c e w = no c
  acts (split_into x y) o st m c e w = no c
  acts (save_variable x) o st m c e w = acts_save x o st w m
  acts save_field o st m c e w = by_op st m (lean_top st (λ k r. lean_top r (λ v x. lean_land x _)))
  acts (save_item x) o st m c e w = no c
  acts (swap_variable y x) o st m c e w = no c
  acts (swap_field y) o st m c e w = no c
  acts (swap_item y x) o st m c e w = no c
  acts (fail k) o st m c e w = by_op st m (lean_off (wrong k s))
  acts (jump r) o st m c e w = by_op st m (lean_jump r st)
  acts (jump_if r) o st m c e w = by_op st m (lean_top st (λ v x. lean_pick (holds v) (lean_jump r x) (lean_at x s)))
  acts (jump_unless r) o st m c e w = by_op st m (lean_top st (λ v x. lean_pick (holds v) (lean_at x s) (lean_jump r x)))
  acts drop_top o st m c e w = by_op st m (lean_top st (λ v r. lean_at r s))
  acts print_line o st m c e w = by_op st m (lean_at st _)
  acts (print_values n) o st m c e w = by_op st m (lean_tops n [] st (λ us r. lean_at r _))
  acts leave_line o st m c e w = by_op st m (lean_off (nexted s))
  acts exit_run o st m c e w = by_op st m (lean_top st (λ v r. lean_off _))
  acts end_rules o st m c e w = by_op st m (lean_off (went s))
  acts (call_function d r xs n) o st m c e w = no c
  acts return_empty o st m c e w = no c
  acts return_value o st m c e w = no c
  acts (push_keys y) o st m c e w = no c
  acts (next_key x r) o st m c e w = no c
  acts (delete_item x) o st m c e w = no c

pub steps : Steps
steps t p h e k q st s n w z =
    by_place (ltb q (length (program_code p))) refl
  where
    by_place : (b : Bool) → ltb q (length (program_code p)) ≡ b → lean_config (lean_place (program_code p)) (exec (code p q) q st s) ≡ op_exec (pool p) (op_at p (lean_place (program_code p) q)) (lean_place (program_code p) q) st s
    by_place true l =
        let c = correspondence p in
        acts (lean_place (program_code p)) (pool p) q s (sizes t p h e k).slots z (c.past_other q (ltb-true q _ l) n) (code p q) (op_at p (lean_place (program_code p) q)) st (c.stands q n) (only_known p k q) n w
    by_place false l =
        let d : code p q ≡ end_rules = get_or-eq_default (program_code p) end_rules {n = q} (ltb-false q _ l) in
        let m : op_at p (lean_place (program_code p) q) ≡ op_end = subst (λ i. Means (pool p) (lean_place (program_code p)) i (op_at p (lean_place (program_code p) q))) d ((correspondence p).stands q n) in
        ap (λ i. lean_config (lean_place (program_code p)) (exec i q st s)) d ∙ ap (λ o. op_exec (pool p) o (lean_place (program_code p) q) st s) (sym m)
