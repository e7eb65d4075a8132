-- Memory between steps: as many numbers as before, all below 2^64; and for a memory of the machine's own length, the memory itself.
use Rattle.std.proofs.Common.{◌≡◌, ℕ, zero, suc, ◌%◌, ◌<◌, Bool, true, false, ◌&&◌, List, [], ◌∷◌, length, get_or, refl, ap, ◌∙◌, subst, arith}
use Rattle.std.proofs.lemmas.Bool.{lt-ltb}
use Rattle.language.specs.Text.{pick, none_of}
use Rattle.language.specs.Run.{Event, more, all_small, started, bytes, no_more, next}
use Rattle.semantics.specs.Engine.{Halt, tired, asked, halted, loop, turned, writes_or, finish, goes_by}
use Rattle.interp.specs.Outcomes as Turn
use Rattle.interp.specs.Outcomes.{On, Ask, Done, Refuse}
use Rattle.engine.specs.Scenes.{Scene, fitted, saved, machine_parts, taken_in, turn_of}
use Rattle.engine.specs.Steps.{StepsSteady}

pub fitted_length : (n : ℕ) (ms : List ℕ) → length (fitted n ms) ≡ n
unfolding fitted
fitted_length zero ms = refl
fitted_length (suc n) [] = ap suc (fitted_length n [])
fitted_length (suc n) (m ∷ ms) = ap suc (fitted_length n ms)

pub fitted_small : (n : ℕ) (ms : List ℕ) → all_small (fitted n ms) ≡ true
unfolding fitted all_small
fitted_small zero ms = refl
fitted_small (suc n) [] = fitted_small n []
fitted_small (suc n) (m ∷ ms) =
    let h : m % 18446744073709551616 < 18446744073709551616 = omega arith in
    ap (λ b. b && all_small (fitted n ms)) (lt-ltb (m % 18446744073709551616) 18446744073709551616 h) ∙ fitted_small n ms

-- numbers that fit are left as they are
pub fitted_same : (n : ℕ) (ms : List ℕ) → length ms ≡ n → ((i : ℕ) → get_or ms i 0 < 18446744073709551616) → fitted n ms ≡ ms
unfolding fitted
fitted_same zero [] e h = refl
fitted_same zero (m ∷ ms) e h = absurd (omega arith)
fitted_same (suc n) [] e h = absurd (omega arith)
fitted_same (suc n) (m ∷ ms) e h =
    let f : m < 18446744073709551616 = h 0 in
    let g : m % 18446744073709551616 ≡ m = omega arith in
    ap (λ x. x ∷ fitted n ms) g ∙ ap (λ x. m ∷ x) (fitted_same n ms (omega arith) (λ i. h (suc i)))

-- turns don't change how many numbers the memory has

abbrev halt_size : Halt Scene → ℕ
halt_size (tired s) = s.size
halt_size (asked s) = s.size
halt_size (halted s c) = s.size

turned_size : (go : Scene → Halt Scene) → ((s : Scene) → halt_size (go s) ≡ s.size) → (t : Turn.Turn) (s : Scene) → halt_size (turned machine_parts go (turn_of t s)) ≡ s.size
turned_size go h On s = h s
turned_size go h Ask s = refl
turned_size go h (Done k) s = refl
turned_size go h (Refuse k) s = refl

ripe_size : (b : Bool) (s : Scene) (h : Halt Scene) → halt_size h ≡ s.size → halt_size (pick b (tired s) h) ≡ s.size
ripe_size true s h e = refl
ripe_size false s h e = e

loop_size : (n : ℕ) (s : Scene) → halt_size (loop machine_parts n s) ≡ s.size
unfolding loop machine_parts
loop_size zero s = refl
loop_size (suc n) s = ripe_size (machine_parts.ripe s) s _ (turned_size (λ s₁. loop machine_parts n s₁) (λ s₁. loop_size n s₁) _ _)

taken_size : (m : List ℕ) (ev : Event) → (taken_in m ev).size ≡ length m
taken_size m (started t) = refl
taken_size m (bytes q) = refl
taken_size m no_more = refl
taken_size m next = refl

-- what a step leaves is what some scene of that size is saved as
record Leaves (n : ℕ) (m : List ℕ) : Type 0 where
  ms : List ℕ
  is : m ≡ fitted n ms

finish_leaves : (h : Halt Scene) → Leaves (halt_size h) (finish machine_parts h).memory
unfolding machine_parts saved
finish_leaves (tired s) = record { ms = _; is = refl }
finish_leaves (asked s) = by (none_of s.row)
  where
    by : (b : Bool) → Leaves s.size (writes_or machine_parts b more s).memory
    by true = record { ms = _; is = refl }
    by false = record { ms = _; is = refl }
finish_leaves (halted s c) = by (none_of s.row)
  where
    by : (b : Bool) → Leaves s.size (writes_or machine_parts b c s).memory
    by true = record { ms = _; is = refl }
    by false = record { ms = _; is = refl }

step_leaves : (m : List ℕ) (ev : Event) → Leaves (length m) (goes_by machine_parts m ev).memory
unfolding machine_parts
step_leaves m ev =
    subst (λ n. Leaves n (goes_by machine_parts m ev).memory) (loop_size 16384 (taken_in m ev) ∙ taken_size m ev) (finish_leaves (loop machine_parts 16384 (taken_in m ev)))

pub steady : StepsSteady
steady = record {
  length_kept = λ m ev. let l = step_leaves m ev in ap length l.is ∙ fitted_length (length m) l.ms;
  small = λ m ev. let l = step_leaves m ev in ap all_small l.is ∙ fitted_small (length m) l.ms;
}
