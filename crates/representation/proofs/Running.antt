-- From one place of the code to another, with what an operation changed.
use Rattle.std.proofs.Common.{◌≡◌, ℕ, suc, ◌+◌, ◌-◌, ◌≤◌, Bool, true, false, ltb, List, [], ◌∷◌, length, refl, ◌∙◌, inl, inr, mod-eq_of_lt, arith}
use Rattle.std.proofs.lemmas.Bool.{ltb-true, ltb-false}
use Rattle.language.specs.Text
use Rattle.language.specs.Text.{pick, each}
use Rattle.language.specs.Program.{Program}
use Rattle.language.specs.Meaning.{State, Bind, wrong}
use Rattle.semantics.specs.Stack.{val, at, off}
use Rattle.semantics.specs.Lines.{Stage}
use Rattle.assembly.specs.Assembly.{Op, pool}
use Rattle.store.specs.declared.cells.Value.{Value}
use Rattle.store.specs.Space.{Space}
use Rattle.store.specs.Model.{occ}
use Rattle.store.specs.Values.{held_by}
use Rattle.store.specs.Worth.{meant, Plain}
use Rattle.regions.specs.Parts.{Parts, with_texts}
use Rattle.lines.specs.declared.line.Line.{Line}
use Rattle.interp.specs.Outcomes.{On, Refuse}
use Rattle.interp.specs.declared.registers.Registers.{Registers}
use Rattle.interp.specs.Turns.{says, placed, after, holding, stacking, pushed, replaced, replaced_two, dropped}
use Rattle.representation.specs.Values.{holders, Holds}
use Rattle.representation.specs.Relation.{LineSo, Running}
use Rattle.representation.specs.Outcomes.{RowKept, Pushes, Performs}
use Rattle.representation.proofs.Room.{held_many}
use Rattle.representation.proofs.Stack.{depth_is, drops, replaces, replaces_two, loads}

-- regions with other slots, another stack and other texts
abbrev pub remade : Parts → List ℕ → List ℕ → Space → Parts
remade m sl st x = record { registers = m.registers; code = m.code; slots = sl; stack = st; fields = m.fields; lines = m.lines; texts = x; rest = m.rest }

pub kept_row : (r : Registers) → RowKept r r
kept_row r = record { print = refl; used = refl }

line_remade : {m : Parts} {line : Line} {l : List ℕ} {fs : List (List ℕ)} (sl st : List ℕ) (x : Space) → LineSo m line l fs → LineSo (remade m sl st x) line l fs
line_remade sl st x L =
    record {
      holds = record {
        bytes = L.holds.bytes;
        whole = L.holds.whole;
        count = L.holds.count;
        room = L.holds.room;
        inside = L.holds.inside;
        parts = L.holds.parts;
      };
      placed = L.placed;
    }

module _ {p : Program} {m : Parts} {r : Registers} {g : Stage} {pc : ℕ} {us : List Text.Value} {bs : List Bind} {l : List ℕ} {fs : List (List ℕ)} {n : ℕ} {b : List ℕ} {z : Bool} where
  -- to a place of the code
  pub re_run : Running p m r g pc us bs l fs n b z → {sl st : List ℕ} {x : Space} {vs : List Text.Value} {cs : List Bind} (to from d : ℕ) → from ≡ to →
      Holds (pool p) [] [] (remade m sl st x) d vs cs → Running p (remade m sl st x) (placed r from d) g to vs cs l fs n b z
  re_run R {sl} {st} {x} to from d e H =
      record {
        loaded = record { code = R.loaded.code; line_at = R.loaded.line_at; end_at = R.loaded.end_at };
        sound = record { fields_room = R.sound.fields_room; lines_room = R.sound.lines_room };
        running = R.running;
        at_pc = e;
        stage = R.stage;
        count = R.count;
        holds = H;
        line = line_remade sl st x R.line;
        waits = R.waits;
        inside = R.inside;
        unscanned = R.unscanned;
        ended = R.ended;
      }

  -- texts that were moved together
  pub re_text : Running p m r g pc us bs l fs n b z → (x : Space) → Holds (pool p) [] [] (with_texts m x) r.depth us bs → Running p (with_texts m x) r g pc us bs l fs n b z
  re_text R x H =
      record {
        loaded = record { code = R.loaded.code; line_at = R.loaded.line_at; end_at = R.loaded.end_at };
        sound = record { fields_room = R.sound.fields_room; lines_room = R.sound.lines_room };
        running = R.running;
        at_pc = R.at_pc;
        stage = R.stage;
        count = R.count;
        holds = H;
        line = line_remade m.slots m.stack x R.line;
        waits = R.waits;
        inside = R.inside;
        unscanned = R.unscanned;
        ended = R.ended;
      }

  pub next_pc : Running p m r g pc us bs l fs n b z → pc ≤ 12291 → after r.pc ≡ suc pc
  next_pc R h = mod-eq_of_lt (omega (arith, R.at_pc)) ∙ omega (arith, R.at_pc)

-- THE SHAPES OF OPERATIONS

module _ {p : Program} {m : Parts} {r : Registers} {g : Stage} {pc : ℕ} {us : List Text.Value} (s : State) {b : List ℕ} {z : Bool} where
  -- a value that is held comes onto the stack, or there is no room for it
  pub pushes_so : (o : Op) (R : Running p m r g pc us s.vars s.line s.parts s.lines b z) → pc ≤ 12291 → Pushes o → (v : Value) (w : Text.Value) → Plain v →
      ((k : ℕ) → occ k (held_by v) ≤ occ k (holders [] m r.depth (length (pool p)))) → meant R.holds.said v ≡ w →
      Performs p o r g pc us s b z (at (suc pc) (val w ∷ each val us) s) (pushed m r v)
  unfolding pushed
  pushes_so o R h i v w q f e = by (ltb r.depth 16416) refl
    where
      by : (t : Bool) → ltb r.depth 16416 ≡ t →
          Performs p o r g pc us s b z (at (suc pc) (val w ∷ each val us) s)
          (pick t (says On (stacking (holding m v) r.depth v) (placed r (after r.pc) (r.depth + 1))) (says (Refuse 8) m r))
      by true t = ((w ∷ us, refl, re_run R (suc pc) (after r.pc) (r.depth + 1) (next_pc R h) (loads v w q (ltb-true r.depth 16416 t) R.holds f e)), refl, record { print = refl; used = refl })
      by false t = ((us, refl, R), kept_row r, inr (refl, i, (omega (arith, ltb-false r.depth 16416 t, depth_is R.holds, held_many us), refl)))

  -- what was put together comes in place of the top
  pub replaces_so : (o : Op) {u : Text.Value} {rest : List Text.Value} (R : Running p m r g pc us s.vars s.line s.parts s.lines b z) → pc ≤ 12291 → (x : Space) (v : Value) (w : Text.Value) →
      Plain v → Holds (pool p) (v ∷ []) (w ∷ []) (with_texts m x) r.depth (u ∷ rest) s.vars →
      Performs p o r g pc us s b z (at (suc pc) (val w ∷ each val rest) s) (replaced (with_texts m x) r v)
  unfolding replaced
  replaces_so o {u} {rest} R h x v w q H = ((w ∷ rest, refl, re_run R (suc pc) (after r.pc) r.depth (next_pc R h) (replaces r.depth v q H)), refl, record { print = refl; used = refl })

  -- and in place of the two on top
  pub replaces_two_so : (o : Op) {u y : Text.Value} {rest : List Text.Value} (R : Running p m r g pc us s.vars s.line s.parts s.lines b z) → pc ≤ 12291 → (x : Space) (v : Value) (w : Text.Value) →
      Plain v → Holds (pool p) (v ∷ []) (w ∷ []) (with_texts m x) r.depth (u ∷ y ∷ rest) s.vars →
      Performs p o r g pc us s b z (at (suc pc) (val w ∷ each val rest) s) (replaced_two (with_texts m x) r v)
  unfolding replaced_two
  replaces_two_so o R h x v w q H = ((w ∷ _, refl, re_run R (suc pc) (after r.pc) (r.depth - 2 + 1) (next_pc R h) (replaces_two r.depth v q H)), refl, record { print = refl; used = refl })

  -- something is wrong, and nothing is changed
  pub fails_so : (o : Op) (R : Running p m r g pc us s.vars s.line s.parts s.lines b z) (j : ℕ) → Performs p o r g pc us s b z (off (wrong j s)) (says (Refuse j) m r)
  fails_so o R j = ((us, refl, R), kept_row r, inl refl)

module _ {p : Program} {m : Parts} {r : Registers} {g : Stage} {pc : ℕ} (s : State) {b : List ℕ} {z : Bool} where
  -- the top is gone
  pub drops_so : (o : Op) {u : Text.Value} {rest : List Text.Value} (R : Running p m r g pc (u ∷ rest) s.vars s.line s.parts s.lines b z) → pc ≤ 12291 →
      Performs p o r g pc (u ∷ rest) s b z (at (suc pc) (each val rest) s) (dropped m r)
  unfolding dropped
  drops_so o {u} {rest} R h = ((rest, refl, re_run R (suc pc) (after r.pc) (r.depth - 1) (next_pc R h) (drops r.depth R.holds)), refl, record { print = refl; used = refl })
