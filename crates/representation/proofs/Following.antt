-- From an operation to the run: what an operation does is the next instruction that is no note, after the notes before it.
use Rattle.std.proofs.Common.{◌≡◌, ℕ, zero, suc, ◌+◌, ◌<◌, ◌≤◌, Bool, true, false, ltb, leb, List, [], ◌∷◌, length, sym, refl, ap, ◌∙◌, subst, inl, inr, arith}
use Rattle.std.proofs.lemmas.Bool.{and_parts, leb-true, true≢false}
use Rattle.language.specs.Text
use Rattle.language.specs.Text.{each, every, as_text}
use Rattle.language.specs.Program.{Program, reads}
use Rattle.language.specs.Meaning.{State, Bind, Went, stopped, wrong, settled, state_of}
use Rattle.language.specs.Run.{a_row, refused}
use Rattle.language.specs.Known.{core}
use Rattle.semantics.specs.Stack.{Cell, val, Config, at, off, config_state, exec}
use Rattle.semantics.specs.Code.{code, program_code}
use Rattle.semantics.specs.Code as code
use Rattle.semantics.specs.Lines.{Stage, Live, live, over, steps, waits, follow, live_out, live_state, live_driven, buffer, Goes}
use Rattle.semantics.specs.Engine.{Comes, Over, Full, Long, DoneWith, RefusedWith, Stopping}
use Rattle.semantics.specs.Invariants.{All, all_none, all_more, Sound, SoundLive, live_at, SoundState, SoundFrame, SoundCell, cell_value, Values, takes, Noted}
use Rattle.semantics.proofs.Theorems.{sound_runs}
use Rattle.semantics.proofs.Full.{full_below}
use Rattle.assembly.specs.Assembly.{Op, op_end, shape, is_note, lean_place, ops, pool, op_at}
use Rattle.assembly.specs.Machine.{op_exec, lean_config}
use Rattle.assembly.specs.Laws.{FitsOp, in_core}
use Rattle.assembly.proofs.Correspondence.{correspondence}
use Rattle.assembly.proofs.Machine.{steps as op_steps}
use Rattle.assembly.proofs.Sizes.{sizes}
use Rattle.assembly.proofs.Known.{only_known}
use Rattle.regions.specs.Parts.{Parts}
use Rattle.interp.specs.Outcomes.{Turn, On, Ask, Done, Refuse}
use Rattle.interp.specs.declared.registers.Registers.{Registers}
use Rattle.interp.specs.Turns.{Did}
use Rattle.representation.specs.Room.{Apart, Slight}
use Rattle.representation.specs.Relation.{Running, Stands, Rep}
use Rattle.representation.specs.Outcomes.{Outcome, Follows, Pushes, Heavy, Leaves, EmptyAtEnds, OpOutcome, Performs}
use Rattle.representation.proofs.Codes.{lean_within, pool_apart, OpOk, op_takes, behind, all_at, followed_all, with_heavy, through_notes, goes_then, comes_goes}

-- what an operation finds
pub record Ready (p : Program) (m : Parts) (r : Registers) (g : Stage) (pc : ℕ) (us : List Text.Value) (s : State) (b : List ℕ) (z : Bool) (o : Op) : Type 0 where
  pub runs : Running p m r g pc us s.vars s.line s.parts s.lines b z
  pub small : pc ≤ 12291
  pub apart : Apart (pool p)
  pub slight : Slight (pool p)
  pub ok : OpOk (pool p) o
  pub fits : FitsOp o
  pub enough : op_takes o ≤ length us
  pub values : All Sound us
  pub state : SoundState p s
  pub lines_few : s.lines < 9223372036854775808
  pub empty : Leaves o → us ≡ []

-- cells that are all values
values_enough : (n : ℕ) (us : List Text.Value) → Values n (each val us) → n ≤ length us
values_enough zero us h = omega arith
values_enough (suc n) [] h = absurd h
values_enough (suc n) (u ∷ us) h = omega (arith, values_enough n us h)

value_of : {p : Program} {v : Text.Value} → SoundCell p (val v) → Sound v
value_of (cell_value h) = h

all_values : {p : Program} (us : List Text.Value) → All (SoundCell p) (each val us) → All Sound us
all_values [] all_none = all_none
all_values (u ∷ us) (all_more c cs) = all_more (value_of c) (all_values us cs)

-- in a known program no function is being worked out
no_frames : (p : Program) → core p ≡ true → (fs : List (List Bind)) → All (SoundFrame p) fs → fs ≡ []
no_frames p k [] all_none = refl
no_frames p k (f ∷ fs) (all_more c cs) = absurd (true≢false (sym (only_known p k c.i) ∙ ap (λ i. in_core (shape i)) c.is_called))

-- an instruction leads where its operation does
out_of : (to : ℕ → ℕ) (c : Config) → (config_state (lean_config to c)).out ≡ (config_state c).out
out_of to (at q st s) = refl
out_of to (off w) = refl

abbrev OnCode : Config → Type 0
OnCode (at q st s) = Unit {0}
OnCode (off w) = ⊥

off_is : (to : ℕ → ℕ) (c : Config) (w : Went) → lean_config to c ≡ off w → c ≡ off w
off_is to (at q st s) w e = absurd (subst OnCode e tt)
off_is to (off v) w e = e

module _ (p : Program) (n : ℕ) (x y : Live) (g : Goes p n x y) where
  -- what holds later holds of the run before

  over_before : {w : List ℕ} {Q : Went → Type 0} → Over p y w Q → Over p x w Q
  over_before o = record { k = n + o.k; v = o.v; z = o.z; goes = goes_then p n o.k x y (over o.v o.z) g o.goes; all = o.all; fits = o.fits }

  full_before : {w : List ℕ} → Full p y w → Full p x w
  full_before f = record { k = n + f.k; y = f.y; goes = goes_then p n f.k x y f.y g f.goes; all = f.all; heavy = f.heavy }

  long_before : {w : List ℕ} → Long p y w → Long p x w
  long_before f = record { k = n + f.k; y = f.y; goes = goes_then p n f.k x y f.y g f.goes; waiting = f.waiting; long = f.long }

  stops_before : {w : List ℕ} (j : ℕ) → Stopping p y w (refused j) → Stopping p x w (refused j)
  stops_before j (inl o) = inl (over_before o)
  stops_before j (inr (inl (e, f))) = inr (inl (e, full_before f))
  stops_before j (inr (inr (e, f))) = inr (inr (e, long_before f))

  -- so a turn may be told of where the notes before it have been made
  outcome_before : (r r₁ : Registers) (m₁ : Parts) (t : Turn) → live_out x ≡ live_out y → (Rep p m₁ r₁ y → Rep p m₁ r₁ x) → ((s : State) → follow p y ≡ waits s → ⊥) →
      Outcome p y r m₁ r₁ t → Outcome p x r m₁ r₁ t
  outcome_before r r₁ m₁ On o f h (k, v, goes, out, rep, kept) =
      let e : n + suc k ≡ suc (n + k) = omega arith in
      (n + k, v, subst (λ i. Goes p i x v) e (goes_then p n (suc k) x y v g goes), out ∙ sym o, rep, kept)
  outcome_before r r₁ m₁ Ask o f h (rep, kept, (s, e)) = absurd (h s e)
  outcome_before r r₁ m₁ (Done j) o f h (rep, kept, stop) = (f rep, kept, rw o (over_before stop))
  outcome_before r r₁ m₁ (Refuse j) o f h (rep, kept, stop) = (f rep, kept, rw o (stops_before j stop))

no_wait : {x : Live} {v : State} → steps x ≡ waits v → ⊥
no_wait e = let o : ◌≡◌ {A = ℕ} 0 1 = cc in omega arith

none_left : (us : List Text.Value) → each val us ≡ [] → us ≡ []
none_left [] e = refl
none_left (u ∷ us) e = let o : ◌≡◌ {A = ℕ} 0 1 = cc in absurd (omega arith)

-- what soundness says of a place of the code
record SoundAt (p : Program) (q : ℕ) (st : List Cell) (s : State) : Type 0 where
  pub state : SoundState p s
  pub cells : All (SoundCell p) st
  pub values : Values (takes (code p q)) st

sound_at : {p : Program} {g : Stage} {q : ℕ} {st : List Cell} {s : State} {b : List ℕ} {z : Bool} → SoundLive p (live g (at q st s) b z) → SoundAt p q st s
sound_at (live_at a c d e f h) = record { state = a; cells = c; values = e }

module _ (t : List ℕ) (p : Program) (row : a_row t ≡ true) (read : reads t ≡ p ∷ []) (known : core p ≡ true) (slight : Slight (pool p)) (empties : EmptyAtEnds p) where
  short_text : length t ≤ 4096
  short_text = leb-true (length t) 4096 (and_parts (leb (length t) 4096) (every (λ b. ltb b 256) t) row).0

  pub sound_come : {x : Live} → Comes p x → SoundLive p x × ((live_state x).lines + length (buffer x) ≤ 17592186044416)
  sound_come {x} c =
      let d = sound_runs t p row read c.so_far c.made x c.reached (omega (arith, c.few)) in
      (d.0, omega (arith, d.1, c.few))

  abbrev to : ℕ → ℕ
  to q = lean_place (program_code p) q

  -- AT AN INSTRUCTION that is no note
  module _ (g : Stage) (q : ℕ) (us : List Text.Value) (s : State) (b : List ℕ) (z : Bool) (r : Registers) (d : Did) where
    abbrev here : Live
    here = live g (at q (each val us) s) b z

    abbrev made : Config
    made = exec (code p q) q (each val us) s

    abbrev then : Live
    then = live g made b z

    one_step : Goes p 1 here then
    one_step = (then, refl, refl)

    -- its run ends
    ends_so : (w : Went) (Q : Went → Type 0) → made ≡ off w → settled w ≡ w → ((v : Went) → settled w ≡ v → live_driven (code.entries p) g b z v ≡ steps (over v z)) → s.out ≡ (state_of w).out → Q w → Over p here s.out Q
    ends_so w Q e f h o q =
        record {
          k = 2;
          v = w;
          z = z;
          goes = (then, refl, (over w z, ap (λ c. follow p (live g c b z)) e ∙ h (settled w) refl ∙ ap (λ v. steps (over v z)) f, refl));
          all = o;
          fits = q;
        }

    -- there is no room
    full_so : (o : Op) → Pushes o → (Pushes o → Noted (code p (suc q))) → (Pushes o → (q₁ : ℕ) (st₁ : List Cell) (s₁ : State) → made ≡ at q₁ st₁ s₁ → q₁ ≡ suc q) →
        (c : Config) → made ≡ c → Heavy s (lean_config to c) → Full p here s.out
    full_so o u n f (off w) e h = absurd h
    full_so o u n f (at q₁ st₁ s₁) e h =
        let d = n u in
        let k : q₁ ≡ suc q = f u q₁ st₁ s₁ e in
        let there : Live = live g (at (suc q) st₁ s₁) b z in
        let F : Full p there s₁.out = full_below p g (suc q) d.0 st₁ s₁ b z d.1 (omega (arith, h.0)) in
        let step : follow p here ≡ steps there = ap (λ c. steps (live g c b z)) (e ∙ ap (λ j. at j st₁ s₁) k) in
        subst (λ w. Full p here w) h.1 (full_before p 1 here there (there, step, refl) F)

    by_turn : (o : Op) (pc : ℕ) (t : Turn) → (Pushes o → Noted (code p (suc q))) → (Pushes o → (q₁ : ℕ) (st₁ : List Cell) (s₁ : State) → made ≡ at q₁ st₁ s₁ → q₁ ≡ suc q) → to q ≡ pc →
        lean_config to made ≡ op_exec (pool p) o pc (each val us) s → OpOutcome p o r g pc us s b z (op_exec (pool p) o pc (each val us) s) d.mem d.regs t →
        Outcome p here r d.mem d.regs t
    by_turn o pc On n f h e (S, out, kept) =
        (0, then, one_step, sym (out_of to made) ∙ ap (λ c. (config_state c).out) e ∙ out, subst (λ c. Stands p d.mem d.regs g b z c) (sym e) S, kept)
    by_turn o pc Ask n f h e x = absurd x
    by_turn o pc (Done j) n f h e (S, kept, stop) =
        let w = off_is to made (stopped j s) (e ∙ stop) in
        (subst (λ c. Stands p d.mem d.regs g b z (at c (each val us) s)) (sym h) S, kept, ends_so (stopped j s) (DoneWith j) w refl (λ v i. ap (λ y. live_driven (code.entries p) g b z y) (sym i) ∙ ap (λ y. steps (over y z)) i) refl refl)
    by_turn o pc (Refuse j) n f h e (S, kept, inl stop) =
        let w = off_is to made (wrong j s) (e ∙ stop) in
        (subst (λ c. Stands p d.mem d.regs g b z (at c (each val us) s)) (sym h) S, kept, inl (ends_so (wrong j s) (RefusedWith j) w refl (λ v i. ap (λ y. live_driven (code.entries p) g b z y) (sym i) ∙ ap (λ y. steps (over y z)) i) refl refl))
    by_turn o pc (Refuse j) n f h e (S, kept, inr (j8, u, heavy)) =
        (subst (λ c. Stands p d.mem d.regs g b z (at c (each val us) s)) (sym h) S, kept, inr (inl (j8, full_so o u n f made refl (subst (Heavy s) (sym e) heavy))))

    at_instruction : {m : Parts} → is_note (code p q) ≡ false → Comes p here → Running p m r g (to q) us s.vars s.line s.parts s.lines b z →
        (Ready p m r g (to q) us s b z (op_at p (to q)) → Performs p (op_at p (to q)) r g (to q) us s b z (op_exec (pool p) (op_at p (to q)) (to q) (each val us) s) d) → Follows p here r d
    at_instruction {m} n c R f =
        let S = sound_come c in
        let A = sound_at S.0 in
        let K = sizes t p short_text read known in
        let B = behind (pool p) to p.funs (code p q) (code p (suc q)) (op_at p (to q)) n (followed_all t p row read q) ((correspondence p).stands q n) in
        let E = op_steps t p short_text read known q (each val us) s n A.values (no_frames p known s.frames A.state.frames_sound) in
        let l : op_takes (op_at p (to q)) ≤ length us = omega (arith, B.enough, values_enough (takes (code p q)) us A.values) in
        let P = f (record {
          runs = R;
          small = omega (arith, lean_within p q, K.ops_few);
          apart = pool_apart p;
          slight = slight;
          ok = B.ok;
          fits = all_at FitsOp op_end (ops p) K.numbers tt (to q);
          enough = l;
          values = all_values us A.cells;
          state = A.state;
          lines_few = omega (arith, S.1);
          empty = λ u. none_left us (empties g q (each val us) s b z c n u);
        }) in
        by_turn (op_at p (to q)) (to q) d.turn B.noted (λ u q₁ st₁ s₁ i. B.next u q q₁ (each val us) st₁ s s₁ i) refl E P

  -- AT ANY PLACE, with the notes before the instruction
  pub follows : (g : Stage) (q : ℕ) (st : List Cell) (s : State) (b : List ℕ) (z : Bool) (m : Parts) (r : Registers) (d : Did) →
      Rep p m r (live g (at q st s) b z) → Comes p (live g (at q st s) b z) →
      ((pc : ℕ) (us : List Text.Value) (s₁ : State) → Ready p m r g pc us s₁ b z (op_at p pc) → Performs p (op_at p pc) r g pc us s₁ b z (op_exec (pool p) (op_at p pc) pc (each val us) s₁) d) →
      Follows p (live g (at q st s) b z) r d
  follows g q st s b z m r d (us, e, R) c f = subst (λ v. Comes p (live g (at q v s) b z) → Follows p (live g (at q v s) b z) r d) (sym e) all_values_there c
    where
      all_values_there : Comes p (live g (at q (each val us) s) b z) → Follows p (live g (at q (each val us) s) b z) r d
      all_values_there c =
          let N = (correspondence p).past_notes q in
          let T = through_notes p g (each val us) b z N.notes q s N.are_notes in
          let q₁ = N.notes + q in
          let s₁ = with_heavy s T.0 in
          let F = at_instruction g q₁ us s₁ b z r d N.no_note (comes_goes N.notes (live g (at q₁ (each val us) s₁) b z) c T.1)
          (subst (λ pc. Running p m r g pc us s.vars s.line s.parts s.lines b z) (sym N.same_place) R) (f (to q₁) us s₁) in
          outcome_before p N.notes (live g (at q (each val us) s) b z) (live g (at q₁ (each val us) s₁) b z) T.1 r d.regs d.mem d.turn refl
          (subst (λ pc. Stands p d.mem d.regs g b z (at pc (each val us) s) → Stands p d.mem d.regs g b z (at (to q) (each val us) s)) (sym N.same_place) (λ S. S))
          (λ v i. no_wait i) F
