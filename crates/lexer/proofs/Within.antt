-- What is left of a list after a part of it was read: how long it is, and that then the same is read.
use Rattle.std.proofs.Common.{◌≡◌, ℕ, ◌<◌, ◌≤◌, Bool, true, false, List, length, refl, ap, ◌∙◌, arith}
use Rattle.language.specs.Text.{pick}
use Rattle.language.specs.Program.{Got, none, got, with_got}

-- what is left has fewer than k
abbrev pub Within : {X A : Type 0} → ℕ → Got X A → Type 0
Within k none = Unit {0}
Within k (got a us) = length us < k

pub within_pick : {X A : Type 0} (k : ℕ) (b : Bool) (x y : Got X A) → Within k x → Within k y → Within k (pick b x y)
within_pick k true x y p q = p
within_pick k false x y p q = q

pub within_more : {X A : Type 0} (k j : ℕ) (g : Got X A) → k ≤ j → Within k g → Within j g
within_more k j none h w = tt
within_more k j (got a us) h w = omega arith

-- a part that leaves fewer than j, and then what leaves fewer than k
pub after : {X A B : Type 0} {j : ℕ} (k : ℕ) (g : Got X A) (f : A → List X → Got X B) → Within j g → ((a : A) (us : List X) → length us < j → Within k (f a us)) → Within k (with_got g f)
after k none f w e = tt
after k (got a us) f w e = e a us w

pub got_same : {X A B : Type 0} {k : ℕ} (g : Got X A) (f f₁ : A → List X → Got X B) → Within k g → ((a : A) (us : List X) → length us < k → f a us ≡ f₁ a us) → with_got g f ≡ with_got g f₁
got_same none f f₁ w e = refl
got_same (got a us) f f₁ w e = e a us w

pub then_only : {X A B : Type 0} (g h : Got X A) (f : A → List X → Got X B) → g ≡ h → with_got g f ≡ with_got h f
then_only g h f p = ap (λ x. with_got x f) p

-- the same part, and from what it leaves the same
pub then_same : {X A B : Type 0} {k : ℕ} (g h : Got X A) (f f₁ : A → List X → Got X B) → Within k g → g ≡ h → ((a : A) (us : List X) → length us < k → f a us ≡ f₁ a us) → with_got g f ≡ with_got h f₁
then_same g h f f₁ w p e = got_same g f f₁ w e ∙ then_only g h f₁ p
