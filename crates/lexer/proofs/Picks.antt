-- Choices by a condition that is known.
use Rattle.std.proofs.Common.{◌≡◌, ℕ, Bool, true, false, refl, arith}
use Rattle.language.specs.Text.{pick}

pub picked : {A : Type 0} (b : Bool) (x y : A) → b ≡ true → pick b x y ≡ x
picked true x y t = refl
picked false x y t = let z : ◌≡◌ {A = ℕ} 0 1 = cc in absurd (omega arith)

pub left_out : {A : Type 0} (b : Bool) (x y : A) → b ≡ false → pick b x y ≡ y
left_out true x y t = let z : ◌≡◌ {A = ℕ} 0 1 = cc in absurd (omega arith)
left_out false x y t = refl

pub pick_same : {A : Type 0} (b : Bool) {x x₁ y y₁ : A} → x ≡ x₁ → y ≡ y₁ → pick b x y ≡ pick b x₁ y₁
pick_same true p q = p
pick_same false p q = q
