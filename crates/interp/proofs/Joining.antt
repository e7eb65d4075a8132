-- What joining two texts comes to, by how long they are.
use Rattle.std.proofs.Common.{◌≡◌, ℕ, ◌+◌, ◌-◌, ◌<◌, ◌≤◌, min, Bool, true, false, ◌++◌, length, get_or, Some, sym, ap, ◌∙◌, arith}
use Rattle.std.proofs.lemmas.Bool.{lt-ltb, le-ltb, le-leb, lt-leb}
use Rattle.language.specs.Text.{pick}
use Rattle.store.specs.declared.short.Short.{Short}
use Rattle.store.specs.declared.cells.Value.{Value}
use Rattle.store.specs.declared.cells.Value.TheVariants.{Unset, Short as InShort, Text as InText}
use Rattle.store.specs.declared.texts.Handle.{Handle}
use Rattle.store.specs.Space.{allocated}
use Rattle.store.specs.Values.{decoded}
use Rattle.store.specs.Words.{bytes_of}
use Rattle.regions.specs.Parts.{Parts, with_texts}
use Rattle.interp.specs.Outcomes.{Refuse}
use Rattle.interp.specs.declared.registers.Registers.{Registers}
use Rattle.interp.specs.Turns.{says, top_of, under_of, replaced_two}
use Rattle.interp.specs.Texts.{text_in, putting, joined_in, joined_long, joined_as, joined}
use Rattle.interp.proofs.Pieces.{short_is}

pub picked : {A : Type 0} (b : Bool) (x y : A) → b ≡ true → pick b x y ≡ x
picked b x y e = ap (λ t. pick t x y) e

pub passed : {A : Type 0} (b : Bool) (x y : A) → b ≡ false → pick b x y ≡ y
passed b x y e = ap (λ t. pick t x y) e

-- the two operands, and how long they are
pub record Operands (p : Parts) (r : Registers) (v w : Value) (m n size : ℕ) : Type 0 where
  pub first : v ≡ under_of p r
  pub second : w ≡ top_of p r
  pub left : m ≡ length (text_in p v)
  pub right : n ≡ length (text_in p w)
  pub both : size ≡ min (m + n) 18446744073709551615

as_joined : (p : Parts) (r : Registers) (v w : Value) (m n size : ℕ) → Operands p r v w m n size → joined_as p r (text_in p v) (text_in p w) ≡ joined p r
unfolding joined
as_joined p r v w m n size o =
    ap (λ x. joined_as p r (text_in p x) (text_in p w)) o.first ∙ ap (λ x. joined_as p r (text_in p (under_of p r)) (text_in p x)) o.second

pub joined_far : (p : Parts) (r : Registers) (v w : Value) (m n size : ℕ) → Operands p r v w m n size → 65535 < size → says (Refuse 7) p r ≡ joined p r
joined_far p r v w m n size o h =
    let k : 65536 ≤ length (text_in p v) + length (text_in p w) = omega (arith, o.left, o.right, o.both) in
    sym (passed _ _ _ (le-ltb (length (text_in p v) + length (text_in p w)) 65536 k)) ∙ as_joined p r v w m n size o

pub joined_wide : (p : Parts) (r : Registers) (v w : Value) (m n size : ℕ) → Operands p r v w m n size → size ≤ 65535 → 8 < size → joined_long p r m size ≡ joined p r
joined_wide p r v w m n size o h g =
    let k : length (text_in p v) + length (text_in p w) < 65536 = omega (arith, o.left, o.right, o.both) in
    let l : 8 < length (text_in p v) + length (text_in p w) = omega (arith, o.left, o.right, o.both) in
    let e : size ≡ length (text_in p v) + length (text_in p w) = omega (arith, o.left, o.right, o.both) in
    ap (λ x. joined_long p r x size) o.left ∙ ap (joined_long p r (length (text_in p v))) e
    ∙ sym (passed _ _ _ (lt-leb (length (text_in p v) + length (text_in p w)) 8 l))
    ∙ sym (picked _ _ _ (lt-ltb (length (text_in p v) + length (text_in p w)) 65536 k)) ∙ as_joined p r v w m n size o

pub joined_near : (p : Parts) (r : Registers) (v w : Value) (m n size : ℕ) (s : Short) → Operands p r v w m n size → size ≤ 8 → bytes_of s.len s.word ≡ text_in p v ++ text_in p w →
    replaced_two p r (InShort s) ≡ joined p r
joined_near p r v w m n size s o h b =
    let k : length (text_in p v) + length (text_in p w) < 65536 = omega (arith, o.left, o.right, o.both) in
    let l : length (text_in p v) + length (text_in p w) ≤ 8 = omega (arith, o.left, o.right, o.both) in
    ap (λ x. replaced_two p r (InShort x)) (short_is s (text_in p v ++ text_in p w) b)
    ∙ sym (picked _ _ _ (le-leb (length (text_in p v) + length (text_in p w)) 8 l))
    ∙ sym (picked _ _ _ (lt-ltb (length (text_in p v) + length (text_in p w)) 65536 k)) ∙ as_joined p r v w m n size o

-- the two on top went into a new text, one after the other
pub record Built (p q q₁ q₂ : Parts) (r : Registers) (m size : ℕ) (v w : Value) (h : Handle) : Type 0 where
  pub first : v ≡ under_of p r
  pub second : w ≡ top_of p r
  pub given : q ≡ with_texts p (allocated 20480 77822 p.texts size).space
  pub handle : Some h ≡ (allocated 20480 77822 p.texts size).handle
  pub one : q₁ ≡ putting q h.index 0 v
  pub two : q₂ ≡ putting q₁ h.index m w

module _ (p q q₁ q₂ : Parts) (r : Registers) (m size : ℕ) (v w : Value) (h : Handle) (b : Built p q q₁ q₂ r m size v w h) where
  same_stack : p.stack ≡ q₂.stack
  same_stack = sym (ap (λ x. x.stack) b.two ∙ ap (λ x. x.stack) b.one ∙ ap (λ x. x.stack) b.given)

  pub built_under : v ≡ under_of q₂ r
  built_under = b.first ∙ ap (λ x. get_or (decoded x) (r.depth - 2) Unset) same_stack

  pub built_top : w ≡ top_of q₂ r
  built_top = b.second ∙ ap (λ x. get_or (decoded x) (r.depth - 1) Unset) same_stack

  pub joined_built : replaced_two q₂ r (InText h) ≡ joined_long p r m size
  unfolding joined_long
  joined_built =
      let s : Parts = with_texts p (allocated 20480 77822 p.texts size).space in
      ap (λ x. replaced_two x r (InText h)) (b.two ∙ ap (λ x. putting x h.index m w) (b.one ∙ ap (λ x. putting x h.index 0 v) b.given))
      ∙ ap (λ x. joined_in s r m x w (Some h)) b.first ∙ ap (λ x. joined_in s r m (under_of p r) x (Some h)) b.second
      ∙ ap (joined_in s r m (under_of p r) (top_of p r)) b.handle
