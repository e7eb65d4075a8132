-- Pieces of the generator only add to the pool, so whatever fits behind a piece fits before it.
use Rattle.std.proofs.Common.{ℕ, zero, suc, Bool, true, false, eqb, List, [], ◌∷◌}
use Rattle.language.specs.Text.{plus, text}
use Rattle.language.specs.Program.{Term, Terms, num, txt, var, item, field, un, bin, like, there, put_in, call, part, split, swap, no_terms, term_and, Deed, Deeds, value, print, when, while, each_key, next_line, exit, forget, give, no_deeds, deed_and, Rule}
use Rattle.semantics.specs.Code.{count}
use Rattle.assembly.specs.Assembly.{op_get_field, op_set_field, op_one, op_two, op_fail, op_drop, op_print_line, op_print_values, op_leave_line, op_exit, op_end, Pool, Jump, if_holds, unless_holds, Shape, constant, loads, saves, does, outside}
use Rattle.assembly.specs.Generator.{Piece, no_ops, lone_op, both, decided_ops, if_ops, while_ops, test_ops, two_ops, term_ops, place_ops, terms_ops, print_ops, deed_ops, deeds_ops, rule_ops, rules_ops, stage_ops}
use Rattle.assembly.proofs.Pools.{Begins, begins_self, begins_trans, begins_after}

-- the pool behind a piece begins with the pool before it
pub record Grows (G : Piece) : Type 0 where
  pub keeps : (k : ℕ) (π : Pool) → Begins π (G k π).pool

grows_none : Grows no_ops
grows_none = record { keeps = λ k π. begins_self π }

grows_lone : (s : Shape) → Grows (lone_op s)
grows_lone s = record { keeps = λ k π. begins_after s π }

pub grows_both : {G H : Piece} → Grows G → Grows H → Grows (both G H)
grows_both g h = record { keeps = λ k π. begins_trans (g.keeps k π) (h.keeps _ _) }

grows_decided : {G H : Piece} (j : Jump) (n : ℕ) → Grows G → Grows H → Grows (decided_ops j n G H)
grows_decided j n g h = record { keeps = λ k π. begins_trans (g.keeps k π) (begins_trans (h.keeps _ _) (begins_after (constant (plus n)) _)) }

grows_if : {E G H : Piece} → Grows E → Grows G → Grows H → Grows (if_ops E G H)
grows_if e g h = record { keeps = λ k π. begins_trans (e.keeps k π) (begins_trans (g.keeps _ _) (h.keeps _ _)) }

grows_while : {E G : Piece} → Grows E → Grows G → Grows (while_ops E G)
grows_while e g = record { keeps = λ k π. begins_trans (e.keeps k π) (g.keeps _ _) }

grows_test : {E G : Piece} → Grows E → Grows G → Grows (test_ops E G)
grows_test e g = record { keeps = λ k π. begins_trans (e.keeps k π) (g.keeps _ _) }

grows_two : {G H : Piece} (k : ℕ) → Grows G → Grows H → Grows (two_ops k G H)
unfolding two_ops
grows_two zero g h = grows_decided if_holds 1 g h
grows_two (suc zero) g h = grows_decided unless_holds 0 g h
grows_two (suc (suc k)) g h = grows_both g (grows_both h (grows_lone (does (op_two (suc (suc k))))))

mutual
  unfolding term_ops

  pub term_grows : (t : Term) → Grows (term_ops t)
  term_grows (num n) = grows_lone (constant (plus n))
  term_grows (txt b) = grows_lone (constant (text b))
  term_grows (var x) = grows_lone (loads x)
  term_grows (item x k) = grows_lone outside
  term_grows (field k) = grows_both (term_grows k) (grows_lone (does op_get_field))
  term_grows (un k a) = grows_both (term_grows a) (grows_lone (does (op_one k)))
  term_grows (bin k a b) = grows_two k (term_grows a) (term_grows b)
  term_grows (like a y) = grows_lone outside
  term_grows (there a x) = grows_lone outside
  term_grows (put_in a b) = grows_both (term_grows b) (place_grows a)
  term_grows (call x ts) = grows_lone outside
  term_grows (part a b c) = grows_lone outside
  term_grows (split a x y) = grows_lone outside
  term_grows (swap y a b) = grows_lone outside

  pub place_grows : (t : Term) → Grows (place_ops t)
  place_grows (num n) = grows_lone (does (op_fail 9))
  place_grows (txt b) = grows_lone (does (op_fail 9))
  place_grows (var x) = grows_lone (saves x)
  place_grows (item x k) = grows_lone outside
  place_grows (field k) = grows_both (term_grows k) (grows_lone (does op_set_field))
  place_grows (un k a) = grows_lone (does (op_fail 9))
  place_grows (bin k a b) = grows_lone (does (op_fail 9))
  place_grows (like a y) = grows_lone (does (op_fail 9))
  place_grows (there a x) = grows_lone (does (op_fail 9))
  place_grows (put_in a b) = grows_lone (does (op_fail 9))
  place_grows (call x ts) = grows_lone (does (op_fail 9))
  place_grows (part a b c) = grows_lone (does (op_fail 9))
  place_grows (split a x y) = grows_lone (does (op_fail 9))
  place_grows (swap y a b) = grows_lone (does (op_fail 9))

pub terms_grow : (ts : Terms) → Grows (terms_ops ts)
unfolding terms_ops
terms_grow no_terms = grows_none
terms_grow (term_and t ts) = grows_both (term_grows t) (terms_grow ts)

pub print_grows : (ts : Terms) → Grows (print_ops ts)
unfolding print_ops
print_grows no_terms = grows_lone (does op_print_line)
print_grows (term_and t ts) = grows_both (terms_grow (term_and t ts)) (grows_lone (does (op_print_values (suc (count ts)))))

mutual
  unfolding deed_ops

  pub deed_grows : (e : Deed) → Grows (deed_ops e)
  deed_grows (value t) = grows_both (term_grows t) (grows_lone (does op_drop))
  deed_grows (print ts) = print_grows ts
  deed_grows (when t a b) = grows_if (term_grows t) (deeds_grow a) (deeds_grow b)
  deed_grows (while t a) = grows_while (term_grows t) (deeds_grow a)
  deed_grows (each_key x y a) = grows_lone outside
  deed_grows next_line = grows_lone (does op_leave_line)
  deed_grows (exit t) = grows_both (term_grows t) (grows_lone (does op_exit))
  deed_grows (forget x t) = grows_lone outside
  deed_grows (give t) = grows_lone outside

  pub deeds_grow : (es : Deeds) → Grows (deeds_ops es)
  deeds_grow no_deeds = grows_none
  deeds_grow (deed_and e es) = grows_both (deed_grows e) (deeds_grow es)

pub rule_grows : (b : Bool) (u : Rule) → Grows (rule_ops b u)
rule_grows true u = grows_test (term_grows u.test) (deeds_grow u.deeds)
rule_grows false u = deeds_grow u.deeds

pub rules_grow : (us : List Rule) → Grows (rules_ops us)
unfolding rules_ops
rules_grow [] = grows_none
rules_grow (u ∷ us) = grows_both (rule_grows (eqb u.kind 3) u) (rules_grow us)

pub stage_grows : (us : List Rule) → Grows (stage_ops us)
stage_grows us = grows_both (rules_grow us) (grows_lone (does op_end))
