-- The operations that print nothing and set no field, each by its number.
use Rattle.std.proofs.Common.{◌≡◌, ℕ, zero, suc, ◌<◌, ◌≤◌, Bool, true, not, ◌&&◌, eqb, leb, ◌≢◌, List, [], ◌∷◌, length, sym, refl, ap, ◌∙◌, subst, inl, inr, arith}
use Rattle.std.proofs.lemmas.Bool.{cases_eq, and_parts, leb-true, true≢false}
use Rattle.language.specs.Text
use Rattle.language.specs.Text.{pick, each, as_text}
use Rattle.language.specs.Program.{Program}
use Rattle.language.specs.Meaning.{State}
use Rattle.semantics.specs.Stack.{val}
use Rattle.semantics.specs.Lines.{Stage}
use Rattle.semantics.specs.Invariants.{All, all_more, Sound, SoundState}
use Rattle.semantics.proofs.Sound.{sound_as_text, nth_sound}
use Rattle.assembly.specs.Assembly.{Op, op_load, op_save, op_line_count, op_field_count, op_get_field, op_set_field, op_one, op_two, op_truth, op_fail, op_jump, op_jump_if, op_jump_unless, op_drop, op_print_line, op_print_values, op_leave_line, op_exit, op_end, pool}
use Rattle.assembly.specs.Machine.{op_exec}
use Rattle.assembly.specs.Laws.{is_two}
use Rattle.regions.specs.Parts.{Parts}
use Rattle.values.specs.declared.numbers.Arithmetic.{Arithmetic}
use Rattle.values.specs.declared.numbers.Arithmetic.TheVariants.{Add, Subtract, Multiply, Divide, Remainder}
use Rattle.values.specs.declared.compare.Comparison.{Comparison}
use Rattle.values.specs.declared.compare.Comparison.TheVariants.{Equal, Unequal, Less, AtMost, Above, AtLeast}
use Rattle.values.specs.Numbers.{operation}
use Rattle.values.specs.Compare.{operator}
use Rattle.interp.specs.declared.ops.Op.TheVariants.{Compare, Calculate, Join, Not, Opposite}
use Rattle.interp.specs.declared.registers.Registers.{Registers}
use Rattle.interp.specs.Ops.{one_of, two_of, op_in}
use Rattle.representation.specs.Outcomes.{Performs}
use Rattle.representation.proofs.Running.{drops_so}
use Rattle.representation.proofs.Operations.{load_does, count_lines_does, count_fields_does, save_does, truth_does, not_does, calculate_does, compare_does, opposite_does, jump_does, jump_if_does, jump_unless_does, fail_does, exit_does}
use Rattle.representation.proofs.Fields.{field_text, field_does}
use Rattle.representation.proofs.Joining.{below_all, join_does}
use Rattle.representation.proofs.Between.{leaves_so}
use Rattle.representation.proofs.Following.{Ready}
use Rattle.engine.specs.Dispatch.{performed}

-- the operations of this page
abbrev pub PlainOp : Op → Type 0
PlainOp (op_load k) = Unit {0}
PlainOp (op_save k) = Unit {0}
PlainOp op_line_count = Unit {0}
PlainOp op_field_count = Unit {0}
PlainOp op_get_field = Unit {0}
PlainOp op_set_field = ⊥
PlainOp (op_one k) = Unit {0}
PlainOp (op_two k) = Unit {0}
PlainOp op_truth = Unit {0}
PlainOp (op_fail k) = Unit {0}
PlainOp (op_jump q) = Unit {0}
PlainOp (op_jump_if q) = Unit {0}
PlainOp (op_jump_unless q) = Unit {0}
PlainOp op_drop = Unit {0}
PlainOp op_print_line = ⊥
PlainOp (op_print_values n) = ⊥
PlainOp op_leave_line = Unit {0}
PlainOp op_exit = Unit {0}
PlainOp op_end = Unit {0}

-- operators on two values, by their numbers
data Two (k : ℕ) : Type 0 where
  compares : (c : Comparison) → k ≡ operator c → Two k
  calculates : (c : Arithmetic) → k ≡ operation c → Two k
  joins : k ≡ 11 → Two k

no_two : (k : ℕ) → is_two k ≡ true → k ≢ 2 → k ≢ 3 → k ≢ 4 → k ≢ 5 → k ≢ 6 → k ≢ 7 → k ≢ 8 → k ≢ 9 → k ≢ 10 → k ≢ 11 → k ≢ 13 → k ≢ 14 → ⊥
no_two k h a b c d e f g i j l m n =
    let t = and_parts (leb 2 k) (leb k 14 && not (eqb k 12)) h in
    let u = and_parts (leb k 14) (not (eqb k 12)) t.1 in
    let lo = leb-true 2 k t.0 in
    let hi = leb-true k 14 u.0 in
    let q : k ≡ 12 = omega (arith, lo, hi, a, b, c, d, e, f, g, i, j, l, m, n) in
    true≢false (sym u.1 ∙ ap (λ x. not (eqb x 12)) q)

two : (k : ℕ) → is_two k ≡ true → Two k
two k h =
    elim (cases_eq k 2) [
      | inl e ↦ compares Equal e
      | inr n2 ↦
          elim (cases_eq k 3) [
            | inl e ↦ compares Unequal e
            | inr n3 ↦
                elim (cases_eq k 4) [
                  | inl e ↦ compares Less e
                  | inr n4 ↦
                      elim (cases_eq k 5) [
                        | inl e ↦ compares AtMost e
                        | inr n5 ↦
                            elim (cases_eq k 6) [
                              | inl e ↦ calculates Add e
                              | inr n6 ↦
                                  elim (cases_eq k 7) [
                                    | inl e ↦ calculates Subtract e
                                    | inr n7 ↦
                                        elim (cases_eq k 8) [
                                          | inl e ↦ calculates Multiply e
                                          | inr n8 ↦
                                              elim (cases_eq k 9) [
                                                | inl e ↦ calculates Divide e
                                                | inr n9 ↦
                                                    elim (cases_eq k 10) [
                                                      | inl e ↦ calculates Remainder e
                                                      | inr n10 ↦
                                                          elim (cases_eq k 11) [
                                                            | inl e ↦ joins e
                                                            | inr n11 ↦
                                                                elim (cases_eq k 13) [
                                                                  | inl e ↦ compares Above e
                                                                  | inr n13 ↦
                                                                      elim (cases_eq k 14) [
                                                                        | inl e ↦ compares AtLeast e
                                                                        | inr n14 ↦
                                                                            absurd (no_two k h n2 n3 n4 n5 n6 n7 n8 n9 n10 n11 n13 n14)
                                                                      ]
                                                                ]
                                                          ]
                                                    ]
                                              ]
                                        ]
                                  ]
                            ]
                      ]
                ]
          ]
    ]

-- the operation of the machine for each

two_compare : (c : Comparison) → two_of (operator c) ≡ Compare c
unfolding two_of
two_compare Equal = refl
two_compare Unequal = refl
two_compare Less = refl
two_compare AtMost = refl
two_compare Above = refl
two_compare AtLeast = refl

two_calculate : (c : Arithmetic) → two_of (operation c) ≡ Calculate c
unfolding two_of
two_calculate Add = refl
two_calculate Subtract = refl
two_calculate Multiply = refl
two_calculate Divide = refl
two_calculate Remainder = refl

two_join : two_of 11 ≡ Join
unfolding two_of
two_join = refl

one_not : one_of 0 ≡ Not
unfolding one_of
one_not = refl

one_opposite : one_of 1 ≡ Opposite
unfolding one_of
one_opposite = refl

sound_first : {u : Text.Value} {us : List Text.Value} → All Sound (u ∷ us) → Sound u
sound_first (all_more h hs) = h

sound_second : {u v : Text.Value} {us : List Text.Value} → All Sound (u ∷ v ∷ us) → Sound v
sound_second (all_more h (all_more k hs)) = k

field_short : {p : Program} {s : State} → SoundState p s → (k : ℕ) → length (field_text s k) < 65536
field_short S zero = S.line_sound.small
field_short {p} {s} S (suc k) = (nth_sound s.parts (suc k) S.parts_sound).small

module _ (p : Program) (m : Parts) (r : Registers) (g : Stage) (pc : ℕ) (s : State) (b : List ℕ) (z : Bool) where
  abbrev Does : Op → List Text.Value → Type 0
  Does o us = Performs p o r g pc us s b z (op_exec (pool p) o pc (each val us) s) (performed (op_in o) m r)

  two_does : {u v : Text.Value} {us : List Text.Value} (k : ℕ) → Ready p m r g pc (u ∷ v ∷ us) s b z (op_two k) → Two k → Does (op_two k) (u ∷ v ∷ us)
  two_does {u} {v} {us} k R (compares c e) =
      subst (λ j. Does (op_two j) (u ∷ v ∷ us)) (sym e)
      (subst (λ o. Performs p (op_two (operator c)) r g pc (u ∷ v ∷ us) s b z (op_exec (pool p) (op_two (operator c)) pc (each val (u ∷ v ∷ us)) s) (performed o m r)) (sym (two_compare c))
      (compare_does p m r g pc s b z R.small c R.runs))
  two_does {u} {v} {us} k R (calculates c e) =
      subst (λ j. Does (op_two j) (u ∷ v ∷ us)) (sym e)
      (subst (λ o. Performs p (op_two (operation c)) r g pc (u ∷ v ∷ us) s b z (op_exec (pool p) (op_two (operation c)) pc (each val (u ∷ v ∷ us)) s) (performed o m r)) (sym (two_calculate c))
      (calculate_does p m r g pc s b z R.small c R.runs))
  two_does {u} {v} {us} k R (joins e) =
      subst (λ j. Does (op_two j) (u ∷ v ∷ us)) (sym e)
      (subst (λ o. Performs p (op_two 11) r g pc (u ∷ v ∷ us) s b z (op_exec (pool p) (op_two 11) pc (each val (u ∷ v ∷ us)) s) (performed o m r)) (sym two_join)
      (join_does p m r g pc s b z R.small R.apart R.slight R.runs
      (below_all (as_text u) (sound_as_text (sound_first R.values)).in_bytes) (below_all (as_text v) (sound_as_text (sound_second R.values)).in_bytes)))

  one_does : {u : Text.Value} {us : List Text.Value} (k : ℕ) → k ≤ 1 → Ready p m r g pc (u ∷ us) s b z (op_one k) → Does (op_one k) (u ∷ us)
  one_does {u} {us} zero l R =
      subst (λ o. Performs p (op_one 0) r g pc (u ∷ us) s b z (op_exec (pool p) (op_one 0) pc (each val (u ∷ us)) s) (performed o m r)) (sym one_not) (not_does p m r g pc s b z R.small R.runs)
  one_does {u} {us} (suc zero) l R =
      subst (λ o. Performs p (op_one 1) r g pc (u ∷ us) s b z (op_exec (pool p) (op_one 1) pc (each val (u ∷ us)) s) (performed o m r)) (sym one_opposite) (opposite_does p m r g pc s b z R.small R.runs)
  one_does (suc (suc k)) l R = absurd (omega (arith, l))

  -- with the values that it takes
  with_one : {o : Op} (us : List Text.Value) → 1 ≤ length us → Ready p m r g pc us s b z o → ((u : Text.Value) (vs : List Text.Value) → Ready p m r g pc (u ∷ vs) s b z o → Does o (u ∷ vs)) → Does o us
  with_one [] l R f = absurd (omega (arith, l))
  with_one (u ∷ us) l R f = f u us R

  with_two : {o : Op} (us : List Text.Value) → 2 ≤ length us → Ready p m r g pc us s b z o →
      ((u v : Text.Value) (vs : List Text.Value) → Ready p m r g pc (u ∷ v ∷ vs) s b z o → Does o (u ∷ v ∷ vs)) → Does o us
  with_two [] l R f = absurd (omega (arith, l))
  with_two (u ∷ []) l R f = absurd (omega (arith, l))
  with_two (u ∷ v ∷ us) l R f = f u v us R

  with_none : {o : Op} {us : List Text.Value} → us ≡ [] → Ready p m r g pc us s b z o → (Ready p m r g pc [] s b z o → Does o []) → Does o us
  with_none {o} {us} e R f = subst (λ v. Ready p m r g pc v s b z o → Does o v) (sym e) f R

  pub plain_does : {us : List Text.Value} (o : Op) → PlainOp o → Ready p m r g pc us s b z o → Does o us
  plain_does {us} (op_load k) h R = load_does p m r g pc s b z R.small k R.ok R.runs
  plain_does {us} (op_save k) h R = with_one us R.enough R (λ u vs Q. save_does p m r g pc s b z Q.small k Q.ok.0 Q.apart Q.ok.1 Q.ok.2 Q.runs)
  plain_does {us} op_line_count h R = count_lines_does p m r g pc s b z R.small R.lines_few R.runs
  plain_does {us} op_field_count h R = count_fields_does p m r g pc s b z R.small R.runs
  plain_does {us} op_get_field h R =
      with_one us R.enough R (λ u vs Q. field_does p m r g pc s b z Q.small Q.apart Q.slight (sound_as_text (sound_first Q.values)).small (field_short Q.state) Q.runs)
  plain_does {us} op_set_field h R = absurd h
  plain_does {us} (op_one k) h R = with_one us R.enough R (λ u vs Q. one_does k Q.fits Q)
  plain_does {us} (op_two k) h R = with_two us R.enough R (λ u v vs Q. two_does k Q (two k Q.fits))
  plain_does {us} op_truth h R = with_one us R.enough R (λ u vs Q. truth_does p m r g pc s b z Q.small Q.runs)
  plain_does {us} (op_fail k) h R = fail_does p m r g pc s b z R.small k R.runs
  plain_does {us} (op_jump q) h R = jump_does p m r g pc s b z R.small q R.runs
  plain_does {us} (op_jump_if q) h R = with_one us R.enough R (λ u vs Q. jump_if_does p m r g pc s b z Q.small q Q.runs)
  plain_does {us} (op_jump_unless q) h R = with_one us R.enough R (λ u vs Q. jump_unless_does p m r g pc s b z Q.small q Q.runs)
  plain_does {us} op_drop h R = with_one us R.enough R (λ u vs Q. drops_so s op_drop Q.runs Q.small)
  plain_does {us} op_print_line h R = absurd h
  plain_does {us} (op_print_values n) h R = absurd h
  plain_does {us} op_leave_line h R = with_none (R.empty tt) R (λ Q. (leaves_so p m r g pc s b z Q.runs, refl, record { print = refl; used = refl }))
  plain_does {us} op_exit h R = with_one us R.enough R (λ u vs Q. exit_does p m r g pc s b z Q.small Q.runs)
  plain_does {us} op_end h R = with_none (R.empty tt) R (λ Q. (leaves_so p m r g pc s b z Q.runs, refl, record { print = refl; used = refl }))
