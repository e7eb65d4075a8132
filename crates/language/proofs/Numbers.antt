-- Values that look like numbers have one order.
use Rattle.std.proofs.Common.{◌≡◌, Bool, true, false, not, ◌&&◌, sym, refl, ◌∙◌, arith}
use Rattle.std.proofs.lemmas.Bool.{ltb-true, lt-ltb, le-ltb, and_parts}
use Rattle.language.specs.Text.{or, Value, plus, minus, text, less, less_number, alike, looks, number_of}
use Rattle.language.specs.Promise.{Order}

less_number_trans : (a b c : Value) → less_number a b ≡ true → less_number b c ≡ true → less_number a c ≡ true
unfolding less_number
less_number_trans (plus a) (plus b) (plus c) u v = lt-ltb a c (let x = ltb-true a b u in let y = ltb-true b c v in omega arith)
less_number_trans (plus a) (plus b) (minus c) u v = v
less_number_trans (plus a) (plus b) (text c) u v = v
less_number_trans (plus a) (minus b) c u v = cc
less_number_trans (plus a) (text b) c u v = cc
less_number_trans (minus a) (plus b) (plus c) u v = refl
less_number_trans (minus a) (plus b) (minus c) u v = cc
less_number_trans (minus a) (plus b) (text c) u v = refl
less_number_trans (minus a) (minus b) (plus c) u v = refl
less_number_trans (minus a) (minus b) (minus c) u v = lt-ltb c a (let x = ltb-true b a u in let y = ltb-true c b v in omega arith)
less_number_trans (minus a) (minus b) (text c) u v = refl
less_number_trans (minus a) (text b) c u v = cc
less_number_trans (text a) b c u v = cc

less_number_self : (a : Value) → less_number a a ≡ false
unfolding less_number
less_number_self (plus a) = le-ltb a a (omega arith)
less_number_self (minus a) = le-ltb a a (omega arith)
less_number_self (text a) = refl

-- values that look like numbers compare as numbers
pub less_is : (a b : Value) → looks a ≡ true → looks b ≡ true → less a b ≡ less_number (number_of a) (number_of b)
unfolding less
less_is a b x y = rw (x, y)

one_of_three : (x y : Bool) → or x (or y (not x && not y)) ≡ true
one_of_three true y = refl
one_of_three false true = refl
one_of_three false false = refl

pub order : Order
unfolding Order alike
order a b c h =
    let s = and_parts (looks a) (looks b && looks c) h in
    let t = and_parts (looks b) (looks c) s.1 in (
      (λ u v. less_is a c s.0 t.1 ∙ less_number_trans (number_of a) (number_of b) (number_of c) (sym (less_is a b s.0 t.0) ∙ u) (sym (less_is b c t.0 t.1) ∙ v)),
      less_is a a s.0 s.0 ∙ less_number_self (number_of a),
      one_of_three (less a b) (less b a),
    )
