-- What an operator has as its result, from what arithmetic and comparing answer.
use Rattle.std.proofs.Common.{◌≡◌, Bool, true, false, ℤ, pos, negsuc, Some, None, Ok, Err, Option, Result, sym, refl, ap, ◌∙◌, IsErrAnd}
use Rattle.language.specs.Text
use Rattle.language.specs.Text.{number_of, truth, within, opposite}
use Rattle.language.specs.Meaning.{State, got, reckon, reckon_one, as_got}
use Rattle.values.specs.declared.numbers.Trouble.{Trouble}
use Rattle.values.specs.declared.numbers.Trouble.TheVariants.{ByZero, TooLarge}
use Rattle.values.specs.declared.numbers.Arithmetic.{Arithmetic}
use Rattle.values.specs.declared.compare.Comparison.{Comparison}
use Rattle.values.specs.Numbers.{divided, judged, operation}
use Rattle.values.specs.Compare.{operator}
use Rattle.store.specs.Numbers.{number}
use Rattle.store.specs.declared.cells.Value.{Value}
use Rattle.store.specs.declared.cells.Value.TheVariants.{Number}
use Rattle.regions.specs.Parts.{Parts}
use Rattle.interp.specs.declared.Turn as Code
use Rattle.interp.specs.declared.Refusal.{Refusal}
use Rattle.interp.specs.Outcomes.{Turn, Refuse, refusal_number, came}
use Rattle.interp.specs.declared.registers.Registers.{Registers}
use Rattle.interp.specs.Turns.{Did, says, top_of, under_of, worth_in, replaced, replaced_two, truth_of}
use Rattle.interp.specs.Jumps.{nothing_done}
use Rattle.interp.specs.Numbers.{refusal_of, troubled, settled, figured, figured_one, Compares}

settled_number : (f : Value → Did) (g : Turn → Did) (z : ℤ) (s : State) → settled f g (got (number z) s) ≡ f (Number z)
settled_number f g (pos n) s = refl
settled_number f g (negsuc n) s = refl

settled_trouble : (f : Value → Did) (g : Turn → Did) (t : Trouble) (s : State) → settled f g (divided (Err t) s) ≡ g (troubled t)
settled_trouble f g ByZero s = refl
settled_trouble f g TooLarge s = refl

-- an error of arithmetic, as what is refused
pub refused_so : (r : Result Code.Turn Refusal) (t : Trouble) → IsErrAnd r (λ e. e ≡ refusal_of t) → came r ≡ troubled t
refused_so (Ok x) t k = absurd k
refused_so (Err e) ByZero k = ap (λ x. Refuse (refusal_number x)) k
refused_so (Err e) TooLarge k = ap (λ x. Refuse (refusal_number x)) k

settled_truth : (f : Value → Did) (g : Turn → Did) (b : Bool) (s : State) → settled f g (got (truth b) s) ≡ f (truth_of b)
unfolding truth_of
settled_truth f g true s = refl
settled_truth f g false s = refl

-- the operands of an operator, and what it answers
pub record Reckoned (c : Arithmetic) (p : Parts) (r : Registers) (v w : Value) (a b : ℤ) (o : Result ℤ Trouble) : Type 0 where
  pub first : v ≡ under_of p r
  pub second : w ≡ top_of p r
  pub left : number a ≡ number_of (worth_in p v)
  pub right : number b ≡ number_of (worth_in p w)
  pub answer : (x y : Text.Value) (s : State) → number_of x ≡ number a → number_of y ≡ number b → divided o s ≡ reckon (operation c) x y s

figures : (c : Arithmetic) (p : Parts) (r : Registers) (v w : Value) (a b : ℤ) (o : Result ℤ Trouble) → Reckoned c p r v w a b o →
    settled (replaced_two p r) (λ t. says t p r) (divided o nothing_done) ≡ figured (operation c) p r
unfolding figured
figures c p r v w a b o h =
    ap (settled (replaced_two p r) (λ t. says t p r))
    (h.answer (worth_in p (under_of p r)) (worth_in p (top_of p r)) nothing_done
    (ap (λ x. number_of (worth_in p x)) (sym h.first) ∙ sym h.left) (ap (λ x. number_of (worth_in p x)) (sym h.second) ∙ sym h.right))

pub reckoned_ok : (c : Arithmetic) (p : Parts) (r : Registers) (v w : Value) (a b z : ℤ) → Reckoned c p r v w a b (Ok z) → replaced_two p r (Number z) ≡ figured (operation c) p r
reckoned_ok c p r v w a b z h = sym (settled_number (replaced_two p r) (λ t. says t p r) z nothing_done) ∙ figures c p r v w a b (Ok z) h

pub reckoned_err : (c : Arithmetic) (p : Parts) (r : Registers) (v w : Value) (a b : ℤ) (t : Trouble) → Reckoned c p r v w a b (Err t) → says (troubled t) p r ≡ figured (operation c) p r
reckoned_err c p r v w a b t h = sym (settled_trouble (replaced_two p r) (λ t. says t p r) t nothing_done) ∙ figures c p r v w a b (Err t) h

opposed : (p : Parts) (r : Registers) (v : Value) (a : ℤ) (o : Option ℤ) → v ≡ top_of p r → number a ≡ number_of (worth_in p v) → judged o ≡ within (opposite (number a)) →
    settled (replaced p r) (λ t. says t p r) (as_got (judged o) nothing_done) ≡ figured_one 1 p r
unfolding figured_one reckon_one
opposed p r v a o e h k =
    ap (λ x. settled (replaced p r) (λ t. says t p r) (as_got x nothing_done))
    (k ∙ ap (λ x. within (opposite x)) (h ∙ ap (λ x. number_of (worth_in p x)) e))

pub opposed_some : (p : Parts) (r : Registers) (v : Value) (a z : ℤ) → v ≡ top_of p r → number a ≡ number_of (worth_in p v) → judged (Some z) ≡ within (opposite (number a)) →
    replaced p r (Number z) ≡ figured_one 1 p r
unfolding as_got
opposed_some p r v a z e h k = sym (settled_number (replaced p r) (λ t. says t p r) z nothing_done) ∙ opposed p r v a (Some z) e h k

pub opposed_none : (p : Parts) (r : Registers) (v : Value) (a : ℤ) → v ≡ top_of p r → number a ≡ number_of (worth_in p v) → judged None ≡ within (opposite (number a)) →
    says (troubled TooLarge) p r ≡ figured_one 1 p r
unfolding as_got
opposed_none p r v a e h k = opposed p r v a None e h k

pub compared : (c : Comparison) (p : Parts) (r : Registers) (v w : Value) (b : Bool) → v ≡ under_of p r → w ≡ top_of p r → Compares c b (worth_in p v) (worth_in p w) →
    replaced_two p r (truth_of b) ≡ figured (operator c) p r
unfolding figured Compares
compared c p r v w b e f h =
    sym (settled_truth (replaced_two p r) (λ t. says t p r) b nothing_done)
    ∙ ap (settled (replaced_two p r) (λ t. says t p r)) (h nothing_done ∙ ap (λ x. reckon (operator c) (worth_in p x) (worth_in p w) nothing_done) e ∙ ap (λ x. reckon (operator c) (worth_in p (under_of p r)) (worth_in p x) nothing_done) f)

pub compares : (c : Comparison) (b : Bool) (v v₁ w w₁ : Text.Value) → ((s : State) → got (truth b) s ≡ reckon (operator c) v w s) → v ≡ v₁ → w ≡ w₁ → Compares c b v₁ w₁
unfolding Compares
compares c b v v₁ w w₁ h e f s = h s ∙ ap (λ x. reckon (operator c) x w s) e ∙ ap (λ x. reckon (operator c) v₁ x s) f
