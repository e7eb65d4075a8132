-- A field of the line as a value: its bytes, and that there is room for them.
use Rattle.std.proofs.Common.{◌≡◌, ℕ, zero, suc, ◌+◌, ◌<◌, ◌≤◌, Bool, ◌⊎◌, List, [], ◌∷◌, length, get_or, sym, refl, subst, inl, inr, arith, ne_eqb}
use Rattle.language.specs.Text
use Rattle.language.specs.Text.{each, text, as_text, number_of}
use Rattle.language.specs.Program.{Program}
use Rattle.language.specs.Meaning.{State, got, weight, binds_size, nth_part, field_number, field_got}
use Rattle.semantics.specs.Stack.{val, held, at, land}
use Rattle.semantics.specs.Lines.{Stage}
use Rattle.assembly.specs.Assembly.{op_get_field, pool}
use Rattle.assembly.specs.Machine.{op_exec}
use Rattle.store.specs.Space.{span}
use Rattle.store.specs.Values.{made}
use Rattle.store.proofs.Moving.{window_below}
use Rattle.regions.specs.Parts.{Parts, with_texts}
use Rattle.lines.proofs.Holding.{nth_right}
use Rattle.interp.specs.declared.registers.Registers.{Registers}
use Rattle.interp.specs.Fields as fields
use Rattle.interp.specs.Fields.{field_place, bytes_in, put_new, field_put, field_by}
use Rattle.representation.specs.Room.{Apart, Slight}
use Rattle.representation.specs.Relation.{Running}
use Rattle.representation.specs.Outcomes.{Performs}
use Rattle.representation.proofs.Room.{room_one}
use Rattle.representation.proofs.Making.{MadeSo, Unmade, makes}
use Rattle.representation.proofs.Stack.{top_worth}
use Rattle.representation.proofs.Running.{kept_row, re_text, replaces_so, fails_so}

-- the variables are a part of what a state holds
pub binds_weigh : (s : State) → binds_size s.vars ≤ weight s
unfolding weight
binds_weigh s = omega arith

-- a text of at most 65,535 bytes takes at most 8,195 words
pub span_most : (n : ℕ) → n < 65536 → span n ≤ 8195
span_most n l = omega arith

-- the text of a field, or the line
abbrev pub field_text : State → ℕ → List ℕ
field_text s zero = s.line
field_text s (suc k) = nth_part s.parts (suc k)

got_field : (s : State) (k : ℕ) (ks : List ℕ) → field_got s (k ∷ ks) ≡ got (text (field_text s k)) s
unfolding field_got
got_field s zero ks = refl
got_field s (suc k) ks = refl

module _ (p : Program) (m : Parts) (r : Registers) (g : Stage) (pc : ℕ) (s : State) (b : List ℕ) (z : Bool) (small : pc ≤ 12291) where
  abbrev Runs : List Text.Value → Type 0
  Runs us = Running p m r g pc us s.vars s.line s.parts s.lines b z

  -- the bytes at the place of a field are its text
  field_bytes : {us : List Text.Value} → Runs us → (k : ℕ) → bytes_in m (field_place m.fields r.line k) ≡ field_text s k
  unfolding field_place
  field_bytes R zero = R.line.holds.bytes
  field_bytes R (suc k) =
      rw (ne_eqb (suc k) 0 (λ e. omega (arith, e)))
      (nth_right m r.line s.line s.parts (suc k) R.sound (omega (arith, R.line.holds.whole, R.line.placed.within)) R.line.holds)

  made_does : {u : Text.Value} {rest : List Text.Value} → Apart (pool p) → Slight (pool p) → length (as_text u) < 65536 → (R : Runs (u ∷ rest)) (t : List ℕ) → length t < 65536 →
      MadeSo R.holds t (made 20480 77822 m.texts t) ⊎ Unmade R.holds t (made 20480 77822 m.texts t) →
      Performs p op_get_field r g pc (u ∷ rest) s b z (at (suc pc) (val (text t) ∷ each val rest) s) (field_put m r (made 20480 77822 m.texts t))
  made_does {u} {rest} apart slight short R t l (inl M) =
      subst (λ v. Performs p op_get_field r g pc (u ∷ rest) s b z (at (suc pc) (val (text t) ∷ each val rest) s) (put_new (with_texts m (made 20480 77822 m.texts t).space) r v)) (sym M.got)
      (replaces_so s op_get_field R small (made 20480 77822 m.texts t).space M.value (text t) M.plain M.holds)
  made_does {u} {rest} apart slight short R t l (inr M) =
      let heavy : 262144 < weight s + held (each val rest)
      = omega (arith, room_one apart slight r.depth R.holds (span (length t)) M.full, span_most (length (as_text u)) short, span_most (length t) l, binds_weigh s) in
      subst (λ v. Performs p op_get_field r g pc (u ∷ rest) s b z (at (suc pc) (val (text t) ∷ each val rest) s) (put_new (with_texts m (made 20480 77822 m.texts t).space) r v)) (sym M.got)
      ((u ∷ rest, refl, re_text R (made 20480 77822 m.texts t).space M.holds), kept_row r, inr (refl, tt, (heavy, refl)))

  -- the field whose number is on top
  pub field_does : {u : Text.Value} {rest : List Text.Value} → Apart (pool p) → Slight (pool p) → length (as_text u) < 65536 → ((k : ℕ) → length (field_text s k) < 65536) → Runs (u ∷ rest) →
      Performs p op_get_field r g pc (u ∷ rest) s b z (op_exec (pool p) op_get_field pc (each val (u ∷ rest)) s) (fields.field_got m r)
  unfolding fields.field_got
  field_does {u} {rest} apart slight short shorts R = rw (top_worth r.depth R.holds) (by (field_number (number_of u)))
    where
      by : (ks : List ℕ) → Performs p op_get_field r g pc (u ∷ rest) s b z (land (suc pc) (each val rest) (field_got s ks)) (field_by m r ks)
      by [] = unfold field_got in fails_so s op_get_field R 9
      by (k ∷ ks) =
          let t = field_text s k in
          let below : (i : ℕ) → get_or t i 0 < 256 = λ i. subst (λ w. get_or w i 0 < 256) (field_bytes R k) (window_below (field_place m.fields r.line k).start (field_place m.fields r.line k).len m.lines i) in
          rw (got_field s k ks, field_bytes R k) (made_does apart slight short R t (shorts k) (makes R.holds t below))
