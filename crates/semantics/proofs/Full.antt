-- Where an engine may say that there is no room: at a note of more than may be held, before a step that leads to one and writes nothing, and before a line
-- is taken with which there is too much.
use Rattle.std.proofs.Common.{◌≡◌, ℕ, suc, ◌+◌, ◌<◌, ◌≤◌, Bool, true, false, ltb, List, [], length, sym, refl, ap, ◌∙◌, le_refl, arith, ltb-false, lt-ltb}
use Rattle.language.specs.Text.{pick}
use Rattle.language.specs.Program.{Program}
use Rattle.language.specs.Meaning.{State, went, wrong, note, weight, larger, with_frames}
use Rattle.semantics.specs.Stack.{Cell, held, below_top, note_all, note_below, at, off, exec}
use Rattle.semantics.specs.Code.{code, entries}
use Rattle.semantics.specs.Lines.{Stage, first_stage, line_stage, last_stage, fresh, Live, live, over, whole, cut_line, steps, live_take, live_out, follow}
use Rattle.semantics.specs.Engine.{Full}

larger_by : (a b : ℕ) (t : Bool) → ltb a b ≡ t → b ≤ pick t b a
larger_by a b true i = le_refl b
larger_by a b false i = ltb-false a b i

larger_second : (a b : ℕ) → b ≤ larger a b
larger_second a b = larger_by a b (ltb a b) refl

module _ (p : Program) where
  pub full_note : (g : Stage) (q d : ℕ) (st : List Cell) (s : State) (b : List ℕ) (z : Bool) → code p q ≡ note_all d → 262144 < weight s + (d + held st) → Full p (live g (at q st s) b z) s.out
  full_note g q d st s b z h w = record {
    k = 1;
    y = live g (at (suc q) st (note (d + held st) s)) b z;
    goes = (_, ap (λ i. steps (live g (exec i q st s) b z)) h, refl);
    all = refl;
    heavy = omega (arith, larger_second s.heavy (weight s + (d + held st)));
  }

  pub full_below : (g : Stage) (q d : ℕ) (st : List Cell) (s : State) (b : List ℕ) (z : Bool) → code p q ≡ note_below d → 262144 < weight s + (d + held (below_top st)) → Full p (live g (at q st s) b z) s.out
  full_below g q d st s b z h w = record {
    k = 1;
    y = live g (at (suc q) st (note (d + held (below_top st)) s)) b z;
    goes = (_, ap (λ i. steps (live g (exec i q st s) b z)) h, refl);
    all = refl;
    heavy = omega (arith, larger_second s.heavy (weight s + (d + held (below_top st))));
  }

  pub full_before : (x y : Live) → follow p x ≡ steps y → live_out y ≡ live_out x → Full p y (live_out y) → Full p x (live_out x)
  full_before x y h o d = record { k = suc d.k; y = d.y; goes = (y, h, d.goes); all = sym o ∙ d.all; heavy = d.heavy }

  pub full_line : (g : Stage) (s : State) (b l r : List ℕ) (z : Bool) → (g ≡ last_stage → ⊥) → cut_line [] b ≡ whole l r → length l < 65536 → 262144 < (fresh l (with_frames s [])).heavy →
      Full p (live g (off (went s)) b z) s.out
  full_line g s b l r z n h i w = record {
    k = 1;
    y = live line_stage (at (entries p).at_line [] (fresh l (with_frames s []))) r z;
    goes = (
      _,
      line_next g n ∙ ap (λ d. live_take (entries p) z (with_frames s []) d) h
          ∙ ap (λ t. pick t (steps (live line_stage (at (entries p).at_line [] (fresh l (with_frames s []))) r z)) (steps (over (wrong 7 (with_frames s [])) z))) (lt-ltb (length l) 65536 i),
      refl,
    );
    all = refl;
    heavy = w;
  }
    where
      line_next : (k : Stage) → (k ≡ last_stage → ⊥) → follow p (live k (off (went s)) b z) ≡ live_take (entries p) z (with_frames s []) (cut_line [] b)
      line_next first_stage m = refl
      line_next line_stage m = refl
      line_next last_stage m = absurd (m refl)
