-- Which programs a machine knows: a condition on programs that have been read. Assumes nothing: these are definitions.
-- The promise is stated for any such condition; a program that doesn't meet it is refused with number 2. Two conditions are named here:
-- core, the small language without tables, patterns, functions and parts of texts; and everything, all programs.
-- Words: Term = expression, Deed = statement, plain = belongs to the core.
use Rattle.std.specs.Prelude.{Bool, true, false, not, ◌&&◌, ◌==◌, nat_le}
use Rattle.language.specs.Text.{every, none_of}
use Rattle.language.specs.Program.{Term, Terms, num, txt, var, item, field, un, bin, like, there, put_in, call, part, split, swap, no_terms, term_and, Deed, Deeds, value, print, when, while, each_key, next_line, exit, forget, give, no_deeds, deed_and, Program}

-- an expression of the core: numbers, quoted texts, variables, fields, assignment, and all operators but ~ !~ in;
-- no table, no function of the program's, and none that is built in (length, upper, index, substr, split, swap)
unfoldable pub plain_term : Term → Bool
plain_term (num n) = true
plain_term (txt b) = true
plain_term (var x) = true
plain_term (item x k) = false
plain_term (field k) = plain_term k
plain_term (un k a) = nat_le k 1 && plain_term a
plain_term (bin k a b) = not (k == 12) && (plain_term a && plain_term b)
plain_term (like a p) = false
plain_term (there a x) = false
plain_term (put_in a b) = plain_term a && plain_term b
plain_term (call x ts) = false
plain_term (part a b c) = false
plain_term (split a x p) = false
plain_term (swap p a b) = false

-- all expressions of the list are of the core
unfoldable pub plain_terms : Terms → Bool
plain_terms no_terms = true
plain_terms (term_and t ts) = plain_term t && plain_terms ts

unfoldable mutual
  -- a statement of the core: all but loops over keys, delete and return
  pub plain_deed : Deed → Bool
  plain_deed (value t) = plain_term t
  plain_deed (print ts) = plain_terms ts
  plain_deed (when c a b) = plain_term c && (plain_deeds a && plain_deeds b)
  plain_deed (while c a) = plain_term c && plain_deeds a
  plain_deed (each_key x y a) = false
  plain_deed next_line = true
  plain_deed (exit t) = plain_term t
  plain_deed (forget x t) = false
  plain_deed (give t) = false

  -- all statements of the list are of the core
  pub plain_deeds : Deeds → Bool
  plain_deeds no_deeds = true
  plain_deeds (deed_and d ds) = plain_deed d && plain_deeds ds

-- THE CORE: no functions, and all conditions and statements of the rules are of the core
unfoldable pub core : Program → Bool
core p = none_of p.funs && every (λ r. plain_term r.test && plain_deeds r.deeds) p.rules

-- every program
abbrev pub everything : Program → Bool
everything p = true
