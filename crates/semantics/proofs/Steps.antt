-- Steps of any machine: so many or more lead from one configuration to another.
use Rattle.std.proofs.Common.{◌≡◌, ℕ, zero, suc, ◌+◌, ◌≤◌, refl, ap, ◌∙◌, suc-add, zero-add, arith}
use Rattle.semantics.specs.Stack.{times}

module _ {C : Type 0} (next : C → C) where
  -- at least n steps
  pub record Steps (n : ℕ) (c c₁ : C) : Type 0 where
    pub k : ℕ
    pub enough : n ≤ k
    pub is : times next k c ≡ c₁

  pub times_add : (j k : ℕ) (c : C) → times next (j + k) c ≡ times next k (times next j c)
  unfolding times
  times_add zero k c = rw zero-add
  times_add (suc j) k c = rw suc-add (times_add j k (next c))

  pub none : {c : C} → Steps 0 c c
  unfolding times
  none = record { k = 0; enough = omega arith; is = refl }

  pub one : {c : C} → Steps 1 c (next c)
  unfolding times
  one = record { k = 1; enough = omega arith; is = refl }

  pub then_steps : {n m : ℕ} {a b c : C} → Steps n a b → Steps m b c → Steps (n + m) a c
  then_steps {a} x y = record { k = x.k + y.k; enough = omega arith; is = times_add x.k y.k a ∙ ap (λ z. times next y.k z) x.is ∙ y.is }

  pub at_least : {n : ℕ} (m : ℕ) {a b : C} → m ≤ n → Steps n a b → Steps m a b
  at_least m h x = record { k = x.k; enough = omega arith; is = x.is }

  pub onward : {n m : ℕ} {a b c : C} → Steps n a b → Steps m b c → Steps 0 a c
  onward x y = at_least 0 (omega arith) (then_steps x y)
