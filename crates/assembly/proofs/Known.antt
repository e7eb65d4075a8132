-- The code of a program of the core has no instruction that is outside.
use Rattle.std.proofs.Common.{◌≡◌, ℕ, zero, suc, ◌+◌, ◌≤◌, Bool, true, false, not, ◌&&◌, eqb, leb, List, [], ◌∷◌, get_or, refl, arith}
use Rattle.std.proofs.lemmas.Bool.{and_parts}
use Rattle.language.specs.Text.{pick, every, none_of, added_up}
use Rattle.language.specs.Program.{Term, Terms, num, txt, var, item, field, un, bin, like, there, put_in, call, part, split, swap, no_terms, term_and, Deed, Deeds, value, print, when, while, each_key, next_line, exit, forget, give, no_deeds, deed_and, Rule, Fun, Program}
use Rattle.language.specs.Known.{plain_term, plain_terms, plain_deed, plain_deeds, core}
use Rattle.semantics.specs.Stack.{Instr, end_rules}
use Rattle.semantics.specs.Code.{save_code, program_code}
use Rattle.assembly.specs.Assembly.{shape, Shape, silent, constant, loads, saves, goes, does, outside}
use Rattle.assembly.specs.Laws.{in_core_op, in_core, OnlyKnown}
use Rattle.assembly.proofs.Pools.{no}
use Rattle.assembly.proofs.Weights.{Weights, weight, total, term_weight, key_weight, terms_weight, print_weight, deed_weight, deeds_weight, test_weight, rule_weight, function_weight, program_weight, program_weighs}

-- what is outside weighs 1, everything else nothing
abbrev pub strange : Weights
strange = record { op = λ o. pick (in_core_op o) 0 1; going = 0; outer = 1; name = λ x. 0; lit = λ v. 0 }

mutual
  unfolding plain_term term_weight

  plain_weight : (t : Term) → plain_term t ≡ true → term_weight strange t ≡ 0
  plain_weight (num n) h = refl
  plain_weight (txt b) h = refl
  plain_weight (var x) h = refl
  plain_weight (item x k) h = no h
  plain_weight (field k) h = omega (arith, plain_weight k h)
  plain_weight (un k a) h = let t = and_parts (leb k 1) (plain_term a) h in rw t.0 (omega (arith, plain_weight a t.1))
  plain_weight (bin zero a b) h = let t = and_parts (plain_term a) (plain_term b) h in omega (arith, plain_weight a t.0, plain_weight b t.1)
  plain_weight (bin (suc zero) a b) h = let t = and_parts (plain_term a) (plain_term b) h in omega (arith, plain_weight a t.0, plain_weight b t.1)
  plain_weight (bin (suc (suc k)) a b) h =
      let s = and_parts (not (eqb (suc (suc k)) 12)) (plain_term a && plain_term b) h in
      let t = and_parts (plain_term a) (plain_term b) s.1 in
      rw s.0 (omega (arith, plain_weight a t.0, plain_weight b t.1))
  plain_weight (like a y) h = no h
  plain_weight (there a x) h = no h
  plain_weight (put_in a b) h = let t = and_parts (plain_term a) (plain_term b) h in omega (arith, plain_place a t.0, plain_weight b t.1)
  plain_weight (call x ts) h = no h
  plain_weight (part a b c) h = no h
  plain_weight (split a x y) h = no h
  plain_weight (swap y a b) h = no h

  plain_place : (t : Term) → plain_term t ≡ true → key_weight strange t + weight strange (shape (save_code t)) ≡ 0
  plain_place (num n) h = refl
  plain_place (txt b) h = refl
  plain_place (var x) h = refl
  plain_place (item x k) h = no h
  plain_place (field k) h = omega (arith, plain_weight k h)
  plain_place (un k a) h = refl
  plain_place (bin k a b) h = refl
  plain_place (like a y) h = no h
  plain_place (there a x) h = no h
  plain_place (put_in a b) h = refl
  plain_place (call x ts) h = no h
  plain_place (part a b c) h = no h
  plain_place (split a x y) h = no h
  plain_place (swap y a b) h = no h

plain_all : (ts : Terms) → plain_terms ts ≡ true → terms_weight strange ts ≡ 0
unfolding plain_terms terms_weight
plain_all no_terms h = refl
plain_all (term_and t ts) h = let s = and_parts (plain_term t) (plain_terms ts) h in omega (arith, plain_weight t s.0, plain_all ts s.1)

plain_print : (ts : Terms) → plain_terms ts ≡ true → print_weight strange ts ≡ 0
unfolding print_weight
plain_print no_terms h = refl
plain_print (term_and t ts) h = omega (arith, plain_all (term_and t ts) h)

mutual
  unfolding plain_deed deed_weight

  plain_does : (e : Deed) → plain_deed e ≡ true → deed_weight strange e ≡ 0
  plain_does (value t) h = omega (arith, plain_weight t h)
  plain_does (print ts) h = plain_print ts h
  plain_does (when t a b) h =
      let s = and_parts (plain_term t) (plain_deeds a && plain_deeds b) h in
      let r = and_parts (plain_deeds a) (plain_deeds b) s.1 in
      omega (arith, plain_weight t s.0, plain_do a r.0, plain_do b r.1)
  plain_does (while t a) h = let s = and_parts (plain_term t) (plain_deeds a) h in omega (arith, plain_weight t s.0, plain_do a s.1)
  plain_does (each_key x y a) h = no h
  plain_does next_line h = refl
  plain_does (exit t) h = omega (arith, plain_weight t h)
  plain_does (forget x t) h = no h
  plain_does (give t) h = no h

  plain_do : (es : Deeds) → plain_deeds es ≡ true → deeds_weight strange es ≡ 0
  plain_do no_deeds h = refl
  plain_do (deed_and e es) h = let s = and_parts (plain_deed e) (plain_deeds es) h in omega (arith, plain_does e s.0, plain_do es s.1)

plain_test : (b : Bool) (t : Term) → plain_term t ≡ true → test_weight strange b t ≡ 0
plain_test true t h = omega (arith, plain_weight t h)
plain_test false t h = refl

plain_rules : (us : List Rule) → every (λ r. plain_term r.test && plain_deeds r.deeds) us ≡ true → added_up (rule_weight strange) us ≡ 0
unfolding rule_weight
plain_rules [] h = refl
plain_rules (u ∷ us) h =
    let s = and_parts (plain_term u.test && plain_deeds u.deeds) (every (λ r. plain_term r.test && plain_deeds r.deeds) us) h in
    let t = and_parts (plain_term u.test) (plain_deeds u.deeds) s.0 in
    omega (arith, plain_test (eqb u.kind 3) u.test t.0, plain_do u.deeds t.1, plain_rules us s.1)

no_functions : (fs : List Fun) → none_of fs ≡ true → added_up (function_weight strange) fs ≡ 0
no_functions [] h = refl
no_functions (f ∷ fs) h = no h

pub core_weighs : (p : Program) → core p ≡ true → total strange (program_code p) ≡ 0
unfolding core program_weight
core_weighs p h =
    let s = and_parts (none_of p.funs) (every (λ r. plain_term r.test && plain_deeds r.deeds) p.rules) h in
    omega (arith, program_weighs strange p, plain_rules p.rules s.1, no_functions p.funs s.0)

pub light : (s : Shape) → weight strange s ≤ 0 → in_core s ≡ true
light silent h = refl
light (constant v) h = refl
light (loads x) h = refl
light (saves x) h = refl
light (goes j q) h = refl
light (does o) h = by_test (in_core_op o) h
  where
    by_test : (b : Bool) → pick b 0 1 ≤ 0 → b ≡ true
    by_test true i = refl
    by_test false i = absurd (omega arith)
light outside h = absurd (omega arith)

known_at : (is : List Instr) (i : ℕ) → total strange is ≡ 0 → in_core (shape (get_or is i end_rules)) ≡ true
known_at [] i h = refl
known_at (j ∷ is) zero h = light (shape j) (omega arith)
known_at (j ∷ is) (suc i) h = known_at is i (omega arith)

pub only_known : OnlyKnown
only_known p h i = known_at (program_code p) i (core_weighs p h)
