-- The assembled code of a known program, made without the code with notes: by recursion over the program. A piece knows the place at which it begins and the
-- pool so far; its length says where it ends, so jumps go to places that are computed. `specs/Laws` says that this is the same code.
use Rattle.std.specs.Prelude.{ℕ, zero, suc, ◌+◌, Bool, true, false, List, [], ◌∷◌, ◌++◌, length, ◌==◌}
use Rattle.language.specs.Text.{plus, text}
use Rattle.language.specs.Program.{Term, Terms, num, txt, var, item, field, un, bin, like, there, put_in, call, part, split, swap, no_terms, term_and, Deed, Deeds, value, print, when, while, each_key, next_line, exit, forget, give, no_deeds, deed_and, Rule, Program}
use Rattle.language.specs.Meaning.{of_kind, for_lines}
use Rattle.semantics.specs.Code.{Entries, count}
use Rattle.assembly.specs.Assembly.{op_load, op_get_field, op_set_field, op_one, op_two, op_truth, op_fail, op_jump, op_jump_unless, op_drop, op_print_line, op_print_values, op_leave_line, op_exit, op_end, literal, Pool, Jump, if_holds, unless_holds, jump_op, Shape, constant, loads, saves, does, outside, op_for, pool_after, Made}

-- a piece of code, from its place and the pool before it
abbrev pub Piece : Type 0
Piece = ℕ → Pool → Made

-- nothing
abbrev pub no_ops : Piece
no_ops p π = record { ops = []; pool = π }

-- what becomes of an instruction that is no jump
abbrev pub lone_op : Shape → Piece
lone_op s p π = record { ops = op_for (λ q. q) s π; pool = pool_after s π }

-- one after the other
abbrev pub both : Piece → Piece → Piece
both A B p π =
    let a = A p π in
    let b = B (length a.ops + p) a.pool in
    record { ops = a.ops ++ b.ops; pool = b.pool }

-- A; where it decides, the constant k; otherwise B, as 1 or 0
abbrev pub decided_ops : Jump → ℕ → Piece → Piece → Piece
decided_ops j k A B p π =
    let a = A p π in
    let q = length a.ops + p in
    let b = B (suc q) a.pool in
    let r = length b.ops + suc q in
    record {
      ops = a.ops ++ (jump_op j (suc (suc r)) ∷ (b.ops ++ (op_truth ∷ op_jump (suc (suc (suc r))) ∷ op_load (length b.pool) ∷ [])));
      pool = b.pool ++ literal (plus k) ∷ [];
    }

-- a test, what is done if it holds, and what is done if it doesn't
abbrev pub if_ops : Piece → Piece → Piece → Piece
if_ops C A B p π =
    let c = C p π in
    let q = length c.ops + p in
    let a = A (suc q) c.pool in
    let r = length a.ops + suc q in
    let b = B (suc r) a.pool in
    record { ops = c.ops ++ (op_jump_unless (suc r) ∷ (a.ops ++ (op_jump (length b.ops + suc r) ∷ b.ops))); pool = b.pool }

-- a test, and what is done as long as it holds
abbrev pub while_ops : Piece → Piece → Piece
while_ops C A p π =
    let c = C p π in
    let q = length c.ops + p in
    let a = A (suc q) c.pool in
    let r = length a.ops + suc q in
    record { ops = c.ops ++ (op_jump_unless (suc r) ∷ (a.ops ++ (op_jump p ∷ []))); pool = a.pool }

-- a test, and what is done if it holds
abbrev pub test_ops : Piece → Piece → Piece
test_ops C A p π =
    let c = C p π in
    let q = length c.ops + p in
    let a = A (suc q) c.pool in
    record { ops = c.ops ++ (op_jump_unless (length a.ops + suc q) ∷ a.ops); pool = a.pool }

-- or (0) and and (1) look at the second value only if they have to
unfoldable pub two_ops : ℕ → Piece → Piece → Piece
two_ops zero A B = decided_ops if_holds 1 A B
two_ops (suc zero) A B = decided_ops unless_holds 0 A B
two_ops (suc (suc k)) A B = both A (both B (lone_op (does (op_two (suc (suc k))))))

-- a term, which leaves its value on the stack; and putting that into a place. What no known program has fails.
unfoldable mutual
  pub term_ops : Term → Piece
  term_ops (num n) = lone_op (constant (plus n))
  term_ops (txt b) = lone_op (constant (text b))
  term_ops (var x) = lone_op (loads x)
  term_ops (item x k) = lone_op outside
  term_ops (field k) = both (term_ops k) (lone_op (does op_get_field))
  term_ops (un k a) = both (term_ops a) (lone_op (does (op_one k)))
  term_ops (bin k a b) = two_ops k (term_ops a) (term_ops b)
  term_ops (like a y) = lone_op outside
  term_ops (there a x) = lone_op outside
  term_ops (put_in a b) = both (term_ops b) (place_ops a)
  term_ops (call x ts) = lone_op outside
  term_ops (part a b c) = lone_op outside
  term_ops (split a x y) = lone_op outside
  term_ops (swap y a b) = lone_op outside

  pub place_ops : Term → Piece
  place_ops (num n) = lone_op (does (op_fail 9))
  place_ops (txt b) = lone_op (does (op_fail 9))
  place_ops (var x) = lone_op (saves x)
  place_ops (item x k) = lone_op outside
  place_ops (field k) = both (term_ops k) (lone_op (does op_set_field))
  place_ops (un k a) = lone_op (does (op_fail 9))
  place_ops (bin k a b) = lone_op (does (op_fail 9))
  place_ops (like a y) = lone_op (does (op_fail 9))
  place_ops (there a x) = lone_op (does (op_fail 9))
  place_ops (put_in a b) = lone_op (does (op_fail 9))
  place_ops (call x ts) = lone_op (does (op_fail 9))
  place_ops (part a b c) = lone_op (does (op_fail 9))
  place_ops (split a x y) = lone_op (does (op_fail 9))
  place_ops (swap y a b) = lone_op (does (op_fail 9))

-- terms in a row
unfoldable pub terms_ops : Terms → Piece
terms_ops no_terms = no_ops
terms_ops (term_and t ts) = both (term_ops t) (terms_ops ts)

-- printing them, or the line
unfoldable pub print_ops : Terms → Piece
print_ops no_terms = lone_op (does op_print_line)
print_ops (term_and t ts) = both (terms_ops (term_and t ts)) (lone_op (does (op_print_values (suc (count ts)))))

-- statements
unfoldable mutual
  pub deed_ops : Deed → Piece
  deed_ops (value t) = both (term_ops t) (lone_op (does op_drop))
  deed_ops (print ts) = print_ops ts
  deed_ops (when t a b) = if_ops (term_ops t) (deeds_ops a) (deeds_ops b)
  deed_ops (while t a) = while_ops (term_ops t) (deeds_ops a)
  deed_ops (each_key x y a) = lone_op outside
  deed_ops next_line = lone_op (does op_leave_line)
  deed_ops (exit t) = both (term_ops t) (lone_op (does op_exit))
  deed_ops (forget x t) = lone_op outside
  deed_ops (give t) = lone_op outside

  pub deeds_ops : Deeds → Piece
  deeds_ops no_deeds = no_ops
  deeds_ops (deed_and e es) = both (deed_ops e) (deeds_ops es)

-- a rule, with its test if it has one
abbrev pub rule_ops : Bool → Rule → Piece
rule_ops true u = test_ops (term_ops u.test) (deeds_ops u.deeds)
rule_ops false u = deeds_ops u.deeds

-- rules in a row
unfoldable pub rules_ops : List Rule → Piece
rules_ops [] = no_ops
rules_ops (u ∷ us) = both (rule_ops (u.kind == 3) u) (rules_ops us)

-- those of a stage of the run
abbrev pub stage_ops : List Rule → Piece
stage_ops us = both (rules_ops us) (lone_op (does op_end))

-- the stage before the first line
abbrev pub begin_ops : Program → Made
begin_ops p = stage_ops (of_kind 0 p.rules) 0 []

-- behind it, the stage for each line
abbrev pub line_ops : Program → Made
line_ops p = stage_ops (for_lines p.rules) (length (begin_ops p).ops) (begin_ops p).pool

-- and the stage after the last
abbrev pub end_ops : Program → Made
end_ops p = stage_ops (of_kind 1 p.rules) (length (line_ops p).ops + length (begin_ops p).ops) (line_ops p).pool

-- THE WHOLE PROGRAM: its operations and its pool.
unfoldable pub program_ops : Program → Made
program_ops p = record { ops = (begin_ops p).ops ++ ((line_ops p).ops ++ (end_ops p).ops); pool = (end_ops p).pool }

-- where its stages begin
unfoldable pub program_starts : Program → Entries
program_starts p = record { at_begin = 0; at_line = length (begin_ops p).ops; at_end = length (line_ops p).ops + length (begin_ops p).ops }
