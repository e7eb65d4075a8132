-- What comes of a step once its turns are over: memory, the answer, and what stands in what was lent for a row.
use Rattle.std.proofs.Common.{◌≡◌, ℕ, zero, suc, ◌<◌, ◌≤◌, Bool, true, false, List, [], ◌∷◌, ◌++◌, length, get_or, take, drop, sym, refl, ap, ◌∙◌, subst, arith, take-append-drop, length-take-le}
use Rattle.std.proofs.lemmas.Bool.{lt-ltb}
use Rattle.language.specs.Text.{pick, none_of}
use Rattle.language.specs.Run.{Event, more, done, refused}
use Rattle.semantics.specs.Engine.{loop, writes_or, finish, goes_by}
use Rattle.regions.specs.Parts.{parts, joined}
use Rattle.regions.proofs.Regions.{joined_parts}
use Rattle.interp.specs.Outcomes.{Turn, On, Ask, Done, Refuse}
use Rattle.interp.specs.declared.registers.Registers.{Registers}
use Rattle.engine.specs.Scenes.{Scene, halt_of, put_away, saved, fitted, taken_in, machine_parts}
use Rattle.engine.specs.Steps.{scene_in, PutBehind, Ask as Asks, Write, Done as Ends, Refuse as Refuses, Answers, plain_answer, answer_of}
use Rattle.engine.proofs.Saving.{fitted_same}
use Rattle.engine.proofs.Stepping.{all_behind}

-- MEMORY

finish_saves : (t : Turn) (s : Scene) → (finish machine_parts (halt_of t s)).memory ≡ saved s
unfolding machine_parts
finish_saves t s = by t (none_of s.row) refl
  where
    by : (t : Turn) (b : Bool) → none_of s.row ≡ b → (finish machine_parts (halt_of t s)).memory ≡ saved s
    by On b e = refl
    by Ask true e = ap (λ x. (writes_or machine_parts x more s).memory) e
    by Ask false e = ap (λ x. (writes_or machine_parts x more s).memory) e
    by (Done k) true e = ap (λ x. (writes_or machine_parts x (done k) s).memory) e
    by (Done k) false e = ap (λ x. (writes_or machine_parts x (done k) s).memory) e
    by (Refuse k) true e = ap (λ x. (writes_or machine_parts x (refused k) s).memory) e
    by (Refuse k) false e = ap (λ x. (writes_or machine_parts x (refused k) s).memory) e

-- a memory that the code has is saved as it is
saves : (m m₁ : List ℕ) (r : Registers) (out : List ℕ) → length m ≡ 262144 → length m₁ ≡ 262144 → parts m₁ ≡ put_away (parts m) r → ((i : ℕ) → get_or m₁ i 0 < 18446744073709551616) →
    m₁ ≡ saved (scene_in m r out)
unfolding saved
saves m m₁ r out l l₁ e h =
    sym (ap (λ p. fitted (length m) (joined p)) (sym e) ∙ ap (fitted (length m)) (joined_parts m₁ l₁) ∙ fitted_same (length m) m₁ (l₁ ∙ sym l) h)

-- THE ANSWER

-- with nothing in the row
plain : (t : Turn) (s : Scene) (out : List ℕ) → s.row ≡ [] → Answers (finish machine_parts (halt_of t s)).act (plain_answer t) out out
unfolding machine_parts
plain On s out e = subst (λ w. (Write 0 ≡ Write (length w)) × (out ≡ w ++ drop (length w) out)) (sym e) (refl, refl)
plain Ask s out e = subst (λ b. Answers (writes_or machine_parts b more s).act Asks out out) (sym (ap none_of e)) (refl, refl)
plain (Done k) s out e = subst (λ b. Answers (writes_or machine_parts b (done k) s).act (Ends k) out out) (sym (ap none_of e)) (refl, refl)
plain (Refuse k) s out e = subst (λ b. Answers (writes_or machine_parts b (refused k) s).act (Refuses k) out out) (sym (ap none_of e)) (refl, refl)

-- with something in it
filled : (t : Turn) (s : Scene) (out out₁ : List ℕ) (n : ℕ) → none_of s.row ≡ false → length s.row ≡ n → out₁ ≡ s.row ++ drop n out →
    Answers (finish machine_parts (halt_of t s)).act (Write n) out out₁
unfolding machine_parts
filled t s out out₁ n e l f =
    by t (subst (λ k. (Write k ≡ Write (length s.row)) × (out₁ ≡ s.row ++ drop (length s.row) out)) l (refl, (f ∙ ap (λ k. s.row ++ drop k out) (sym l))))
  where
    by : (t : Turn) → (Write n ≡ Write (length s.row)) × (out₁ ≡ s.row ++ drop (length s.row) out) → Answers (finish machine_parts (halt_of t s)).act (Write n) out out₁
    by On h = h
    by Ask h = subst (λ b. Answers (writes_or machine_parts b more s).act (Write n) out out₁) (sym e) h
    by (Done k) h = subst (λ b. Answers (writes_or machine_parts b (done k) s).act (Write n) out out₁) (sym e) h
    by (Refuse k) h = subst (λ b. Answers (writes_or machine_parts b (refused k) s).act (Write n) out out₁) (sym e) h

some_taken : (k : ℕ) (out : List ℕ) → suc k ≤ length out → none_of (take (suc k) out) ≡ false
some_taken k [] h = absurd (omega arith)
some_taken k (x ∷ xs) h = refl

answers : (t : Turn) (s : Scene) (out out₁ : List ℕ) (n : ℕ) → s.row ≡ take n out₁ → n ≤ length out₁ → drop n out₁ ≡ drop n out →
    Answers (finish machine_parts (halt_of t s)).act (answer_of t n) out out₁
unfolding answer_of
answers t s out out₁ zero e l b = subst (λ o. Answers (finish machine_parts (halt_of t s)).act (plain_answer t) out o) (sym b) (plain t s out e)
answers t s out out₁ (suc k) e l b =
    subst (λ v. Answers (finish machine_parts (halt_of t s)).act (pick v (Write (suc k)) (plain_answer t)) out out₁) (sym (lt-ltb 0 (suc k) (omega arith)))
    (filled t s out out₁ (suc k) (ap none_of e ∙ some_taken k out₁ l) (ap length e ∙ length-take-le (suc k) out₁ l)
    (sym (take-append-drop (suc k) out₁) ∙ ap (λ x. take (suc k) out₁ ++ x) b ∙ ap (λ x. x ++ drop (suc k) out) (sym e)))

-- A STEP

-- what the code did: it took in what was told, made turns, and put the registers away
pub record Worked (m : List ℕ) (ev : Event) (out m₁ : List ℕ) (r₁ : Registers) (out₁ m₂ : List ℕ) (r₂ : Registers) (out₂ m₃ : List ℕ) (t : Turn) : Type 0 where
  pub long : length m ≡ 262144
  pub wide : 4096 ≤ length out
  pub taken : scene_in m₁ r₁ out₁ ≡ taken_in m ev
  pub first : PutBehind out 0 out₁ r₁.used
  pub turns : halt_of t (scene_in m₂ r₂ out₂) ≡ loop machine_parts 16384 (scene_in m₁ r₁ out₁)
  pub then : PutBehind out₁ r₁.used out₂ r₂.used
  pub still : length m₂ ≡ 262144
  pub last : length m₃ ≡ 262144
  pub put : parts m₃ ≡ put_away (parts m₂) r₂
  pub fits : (i : ℕ) → get_or m₃ i 0 < 18446744073709551616

module _ (m : List ℕ) (ev : Event) (out m₁ : List ℕ) (r₁ : Registers) (out₁ m₂ : List ℕ) (r₂ : Registers) (out₂ m₃ : List ℕ) (t : Turn) (w : Worked m ev out m₁ r₁ out₁ m₂ r₂ out₂ m₃ t) where
  went : finish machine_parts (halt_of t (scene_in m₂ r₂ out₂)) ≡ goes_by machine_parts m ev
  unfolding machine_parts
  went = ap (finish machine_parts) (w.turns ∙ ap (loop machine_parts 16384) w.taken)

  pub worked_memory : m₃ ≡ (goes_by machine_parts m ev).memory
  worked_memory = saves m₂ m₃ r₂ out₂ w.still w.last w.put w.fits ∙ sym (finish_saves t (scene_in m₂ r₂ out₂)) ∙ ap (λ s. s.memory) went

  pub worked_act : Answers (goes_by machine_parts m ev).act (answer_of t r₂.used) out out₂
  worked_act =
      let b : PutBehind out 0 out₂ r₂.used = all_behind out out₁ out₂ 0 r₁.used r₂.used w.first w.then in
      subst (λ s. Answers s.act (answer_of t r₂.used) out out₂) went
      (answers t (scene_in m₂ r₂ out₂) out out₂ r₂.used refl (omega (arith, b.room, b.size, w.wide)) b.behind)
