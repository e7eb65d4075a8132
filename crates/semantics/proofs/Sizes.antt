-- How long code is: a number for each term and statement, and that its code has no more instructions.
use Rattle.std.proofs.Common.{◌≡◌, ℕ, zero, suc, ◌+◌, ◌≤◌, Bool, true, false, eqb, ltb, leb, List, [], ◌∷◌, ◌++◌, length, sym, zero-add, arith, length-append, le-ltb, le-leb}
use lib.Dec.{eqb-suc-zero, eqb-suc-suc}
use Rattle.language.specs.Text.{pick, added_up, Value, plus}
use Rattle.language.specs.Program.{Term, Terms, num, txt, var, item, field, un, bin, like, there, put_in, call, part, split, swap, no_terms, term_and, Deed, Deeds, value, print, when, while, each_key, next_line, exit, forget, give, no_deeds, deed_and, joined_deeds, Rule, Fun, Program}
use Rattle.language.specs.Meaning.{of_kind, for_lines}
use Rattle.semantics.specs.Stack.{Instr, note_all, note_below, push_value, to_truth, jump, jump_if, jump_unless, end_rules}
use Rattle.semantics.specs.Code.{Code, Calls, nothing_to_do, lone, ahead, seq, noted_code, decided_code, if_code, while_code, for_code, test_code, body_code, key_code, terms_code, term_code, print_code, deed_code, deeds_code, two_code, rule_code, rules_code, stage_code, function_code, functions_code, slots, calls_of, program_code, entries}

-- a term with both notes, terms in a row
unfoldable mutual
  pub term_size : Term → ℕ
  term_size (num n) = 3
  term_size (txt b) = 3
  term_size (var x) = 3
  term_size (item x k) = 3 + term_size k
  term_size (field k) = 3 + term_size k
  term_size (un k a) = 3 + term_size a
  term_size (bin k a b) = pick (ltb k 2) 6 3 + (term_size a + term_size b)
  term_size (like a y) = 3 + term_size a
  term_size (there a x) = 3 + term_size a
  term_size (put_in a b) = 2 + (term_size b + term_size a)
  term_size (call x ts) = 3 + terms_size ts
  term_size (part a b c) = 3 + (term_size a + term_size b + term_size c)
  term_size (split a x y) = 3 + term_size a
  term_size (swap y a b) = 2 + (term_size a + term_size b)

  pub terms_size : Terms → ℕ
  terms_size no_terms = 0
  terms_size (term_and t ts) = term_size t + terms_size ts

-- a statement; statements without the note at their end
unfoldable mutual
  pub deed_size : Deed → ℕ
  deed_size (value t) = 1 + term_size t
  deed_size (print ts) = 1 + terms_size ts
  deed_size (when c a b) = 4 + (term_size c + deeds_size a + deeds_size b)
  deed_size (while c a) = 4 + (term_size c + deeds_size a)
  deed_size (each_key x y a) = 4 + deeds_size a
  deed_size next_line = 1
  deed_size (exit t) = 1 + term_size t
  deed_size (forget x t) = 1 + term_size t
  deed_size (give t) = 1 + term_size t

  pub deeds_size : Deeds → ℕ
  deeds_size no_deeds = 0
  deeds_size (deed_and d ds) = 1 + deed_size d + deeds_size ds

-- a rule with its test, the jump over it and the note; a function with its slot, the note and its return
abbrev pub rule_size : Rule → ℕ
rule_size r = 4 + term_size r.test + deeds_size r.deeds

abbrev pub fun_size : Fun → ℕ
fun_size f = 4 + deeds_size f.deeds

unfoldable pub program_size : Program → ℕ
program_size p = added_up rule_size p.rules + added_up fun_size p.funs

pick_most : (b : Bool) → pick b 6 3 ≤ 6
pick_most true = omega arith
pick_most false = omega arith

pick_least : (b : Bool) → 3 ≤ pick b 6 3
pick_least true = omega arith
pick_least false = omega arith

pub bin_size : (k : ℕ) (a b : Term) → term_size (bin k a b) ≤ 6 + (term_size a + term_size b)
unfolding term_size
bin_size k a b = omega (arith, pick_most (ltb k 2))

pub joined_size : (ds es : Deeds) → deeds_size (joined_deeds ds es) ≡ deeds_size ds + deeds_size es
unfolding deeds_size joined_deeds
joined_size no_deeds es = sym (zero-add (deeds_size es))
joined_size (deed_and d ds) es = omega (arith, joined_size ds es)

-- The code at any place has at most n instructions.
record Len (A : Code) (n : ℕ) : Type 0 where
  len : (p : ℕ) → length (A p) ≤ n

len_more : {A : Code} {n : ℕ} (m : ℕ) → Len A n → n ≤ m → Len A m
len_more m a h = record { len = λ p. omega (arith, a.len p, h) }

len_lone : {i : Instr} → Len (lone i) 1
len_lone = record { len = λ p. omega arith }

len_none : Len nothing_to_do 0
len_none = record { len = λ p. omega arith }

len_seq : {A B : Code} {a b : ℕ} → Len A a → Len B b → Len (seq A B) (a + b)
len_seq {A} {B} x y = record { len = λ p. omega (arith, x.len p, y.len (length (A p) + p), length-append (A p) (B (length (A p) + p))) }

len_noted : {A : Code} {a d : ℕ} → Len A a → Len (noted_code d A) (a + 2)
len_noted {A} {d = d} x = record { len = λ p. omega (arith, x.len (suc p), length-append (A (suc p)) (note_below d ∷ [])) }

len_decided : (i : ℕ → Instr) (k : Value) {A B : Code} {a b : ℕ} → Len A a → Len B b → Len (decided_code i k A B) (a + b + 4)
len_decided i k {A} {B} x y = record {
  len = λ p.
      let q = length (A p) + p in
      let r = length (B (suc q)) + suc q in
      let end = to_truth ∷ jump (suc (suc (suc r))) ∷ push_value k ∷ [] in
      omega (arith, x.len p, y.len (suc q), length-append (A p) (i (suc (suc r)) ∷ (B (suc q) ++ end)), length-append (B (suc q)) end);
}

len_if : {C A B : Code} {c a b : ℕ} → Len C c → Len A a → Len B b → Len (if_code C A B) (c + a + b + 2)
len_if {C} {A} {B} x y z = record {
  len = λ p.
      let q = length (C p) + p in
      let r = length (A (suc q)) + suc q in
      let w = length (B (suc r)) + suc r in
      omega (arith, x.len p, y.len (suc q), z.len (suc r), length-append (C p) (jump_unless (suc r) ∷ (A (suc q) ++ (jump w ∷ B (suc r)))), length-append (A (suc q)) (jump w ∷ B (suc r)));
}

len_while : {C A : Code} {c a : ℕ} (d : ℕ) → Len C c → Len A a → Len (while_code d C A) (c + a + 3)
len_while {C} {A} d x y = record {
  len = λ p.
      let q = length (C p) + p in
      let r = length (A (suc q)) + suc q in
      let end = note_all d ∷ jump p ∷ [] in
      omega (arith, x.len p, y.len (suc q), length-append (C p) (jump_unless (suc (suc r)) ∷ (A (suc q) ++ end)), length-append (A (suc q)) end);
}

len_for : {x : List ℕ} {A : Code} {a : ℕ} → Len A a → Len (for_code x A) (a + 2)
len_for {x} {A} y = record { len = λ p. omega (arith, y.len (suc p), length-append (A (suc p)) (jump p ∷ [])) }

len_test : {C A : Code} {c a : ℕ} → Len C c → Len A a → Len (test_code C A) (c + a + 1)
len_test {C} {A} x y = record {
  len = λ p.
      let q = length (C p) + p in
      omega (arith, x.len p, y.len (suc q), length-append (C p) (jump_unless (length (A (suc q)) + suc q) ∷ A (suc q)));
}

len_ahead : {i : Instr} {A : Code} {a : ℕ} → Len A a → Len (ahead i A) (suc a)
len_ahead x = record { len = λ p. omega (arith, x.len (suc p)) }

module _ (c : Calls) where
  -- without its notes a term is shorter by two, and a key by one at least
  record Inner (A : Code) (k n : ℕ) : Type 0 where
    m : ℕ
    inner : Len A m
    small : m + k ≤ n

  inner_of : {A : Code} {m : ℕ} (k n : ℕ) → Len A m → m + k ≤ n → Inner A k n
  inner_of {m = m} k n a h = record { m = m; inner = a; small = h }

  noted_size : {A : Code} {n d : ℕ} → Inner A 2 n → Len (noted_code d A) n
  noted_size {n = n} a = len_more n (len_noted a.inner) a.small

  two_size : (k : ℕ) {A B : Code} {a b : ℕ} → Len A a → Len B b → Inner (two_code k A B) 2 (pick (ltb k 2) 6 3 + (a + b))
  unfolding two_code
  two_size zero x y = inner_of 2 _ (len_decided jump_if (plus 1) x y) (omega arith)
  two_size (suc zero) x y = inner_of 2 _ (len_decided jump_unless (plus 0) x y) (omega arith)
  two_size (suc (suc k)) x y = rw (le-ltb (suc (suc k)) 2 (omega arith)) (inner_of 2 _ (len_seq x (len_seq y len_lone)) (omega arith))

  mutual
    unfolding body_code term_size

    body_inner : (t : Term) (d : ℕ) → Inner (body_code c t d) 2 (term_size t)
    body_inner (num n) d = inner_of 2 _ len_lone (omega arith)
    body_inner (txt b) d = inner_of 2 _ len_lone (omega arith)
    body_inner (var x) d = inner_of 2 _ len_lone (omega arith)
    body_inner (item x k) d = inner_of 2 _ (len_seq (noted_size (body_inner k (16 + d))) len_lone) (omega arith)
    body_inner (field k) d = inner_of 2 _ (len_seq (noted_size (body_inner k (16 + d))) len_lone) (omega arith)
    body_inner (un k a) d = inner_of 2 _ (len_seq (noted_size (body_inner a (16 + d))) len_lone) (omega arith)
    body_inner (bin k a b) d = two_size k (noted_size (body_inner a (16 + d))) (noted_size (body_inner b (16 + d)))
    body_inner (like a y) d = inner_of 2 _ (len_seq (noted_size (body_inner a (16 + d))) len_lone) (omega arith)
    body_inner (there a x) d = inner_of 2 _ (len_seq (noted_size (body_inner a (16 + d))) len_lone) (omega arith)
    body_inner (put_in a b) d = let k = key_inner a d in inner_of 2 _ (len_seq (noted_size (body_inner b (16 + d))) (len_seq k.inner len_lone)) (omega (arith, k.small))
    body_inner (call x ts) d = inner_of 2 _ (len_seq (terms_len ts (16 + d)) len_lone) (omega arith)
    body_inner (part a b k) d = inner_of 2 _ (len_seq (noted_size (body_inner a (16 + d))) (len_seq (noted_size (body_inner b (16 + d))) (len_seq (noted_size (body_inner k (16 + d))) len_lone))) (omega arith)
    body_inner (split a x y) d = inner_of 2 _ (len_seq (noted_size (body_inner a (16 + d))) len_lone) (omega arith)
    body_inner (swap y a b) d = let k = key_inner b d in inner_of 2 _ (len_seq (noted_size (body_inner a (16 + d))) (len_seq k.inner len_lone)) (omega (arith, k.small))

    key_inner : (t : Term) (d : ℕ) → Inner (key_code c t d) 1 (term_size t)
    key_inner (num n) d = inner_of 1 _ len_none (omega arith)
    key_inner (txt b) d = inner_of 1 _ len_none (omega arith)
    key_inner (var x) d = inner_of 1 _ len_none (omega arith)
    key_inner (item x k) d = inner_of 1 _ (noted_size (body_inner k (16 + d))) (omega arith)
    key_inner (field k) d = inner_of 1 _ (noted_size (body_inner k (16 + d))) (omega arith)
    key_inner (un k a) d = inner_of 1 _ len_none (omega arith)
    key_inner (bin k a b) d = inner_of 1 _ len_none (omega (arith, pick_least (ltb k 2)))
    key_inner (like a y) d = inner_of 1 _ len_none (omega arith)
    key_inner (there a x) d = inner_of 1 _ len_none (omega arith)
    key_inner (put_in a b) d = inner_of 1 _ len_none (omega arith)
    key_inner (call x ts) d = inner_of 1 _ len_none (omega arith)
    key_inner (part a b k) d = inner_of 1 _ len_none (omega arith)
    key_inner (split a x y) d = inner_of 1 _ len_none (omega arith)
    key_inner (swap y a b) d = inner_of 1 _ len_none (omega arith)

    terms_len : (ts : Terms) (d : ℕ) → Len (terms_code c ts d) (terms_size ts)
    terms_len no_terms d = len_none
    terms_len (term_and t ts) d = len_seq (noted_size (body_inner t d)) (terms_len ts d)

  term_len : (t : Term) (d : ℕ) → Len (term_code c t d) (term_size t)
  term_len t d = noted_size (body_inner t d)

  mutual
    unfolding deed_code print_code deed_size terms_size

    deed_len : (e : Deed) (d : ℕ) → Len (deed_code c e d) (deed_size e)
    deed_len (value t) d = len_more _ (len_seq (term_len t d) len_lone) (omega arith)
    deed_len (print no_terms) d = len_lone
    deed_len (print (term_and t ts)) d = len_more _ (len_seq (terms_len (term_and t ts) d) len_lone) (omega arith)
    deed_len (when t a b) d = len_more _ (len_if (term_len t d) (deeds_len a (16 + d)) (deeds_len b (16 + d))) (omega arith)
    deed_len (while t a) d = len_more _ (len_while d (term_len t d) (deeds_len a (16 + d))) (omega arith)
    deed_len (each_key x y a) d = len_more _ (len_ahead (len_for (deeds_len a d))) (omega arith)
    deed_len next_line d = len_lone
    deed_len (exit t) d = len_more _ (len_seq (term_len t d) len_lone) (omega arith)
    deed_len (forget x t) d = len_more _ (len_seq (term_len t d) len_lone) (omega arith)
    deed_len (give t) d = len_more _ (len_seq (term_len t d) len_lone) (omega arith)

    deeds_len : (es : Deeds) (d : ℕ) → Len (deeds_code c es d) (suc (deeds_size es))
    deeds_len no_deeds d = len_more _ len_lone (omega arith)
    deeds_len (deed_and e es) d = len_more _ (len_ahead (len_seq (deed_len e d) (deeds_len es d))) (omega arith)

  rule_len : (b : Bool) (u : Rule) → Len (rule_code c b u) (rule_size u)
  rule_len true u = len_more _ (len_test (term_len u.test 0) (deeds_len u.deeds 0)) (omega arith)
  rule_len false u = len_more _ (deeds_len u.deeds 0) (omega arith)

  rules_len : (us : List Rule) → Len (rules_code c us) (added_up rule_size us)
  rules_len [] = len_none
  rules_len (u ∷ us) = len_seq (rule_len (eqb u.kind 3) u) (rules_len us)

  functions_len : (gs : List Fun) → Len (functions_code c gs) (added_up (λ g. 2 + deeds_size g.deeds) gs)
  functions_len [] = len_none
  functions_len (g ∷ gs) = len_more _ (len_seq (len_seq (deeds_len g.deeds 16) len_lone) (functions_len gs)) (omega arith)

  slots_len : (gs : List Fun) (q : ℕ) → length (slots c gs q) + added_up (λ g. 2 + deeds_size g.deeds) gs ≤ added_up fun_size gs
  slots_len [] q = omega arith
  slots_len (g ∷ gs) q = omega (arith, slots_len gs (length (function_code c g q) + q))

-- each rule is of one kind at most
kinds : (us : List Rule) → added_up rule_size (of_kind 0 us) + added_up rule_size (for_lines us) + added_up rule_size (of_kind 1 us) ≤ added_up rule_size us
kinds [] = omega arith
kinds (u ∷ us) = by_kind u.kind (kinds us)
  where
    A : List Rule → ℕ
    A vs = added_up rule_size vs

    by_kind : (k : ℕ) → A (of_kind 0 us) + A (for_lines us) + A (of_kind 1 us) ≤ A us →
        A (pick (eqb k 0) (u ∷ of_kind 0 us) (of_kind 0 us)) + A (pick (leb 2 k) (u ∷ for_lines us) (for_lines us)) + A (pick (eqb k 1) (u ∷ of_kind 1 us) (of_kind 1 us)) ≤ rule_size u + A us
    by_kind zero h = omega (arith, h)
    by_kind (suc zero) h = omega (arith, h)
    by_kind (suc (suc k)) h = rw (eqb-suc-zero, eqb-suc-suc (suc k) 0, eqb-suc-zero, le-leb 2 (suc (suc k)) (omega arith)) (omega (arith, h))

pub program_length : (p : Program) → length (program_code p) ≤ program_size p + 3
unfolding program_size
program_length p =
    let c = calls_of p.funs in
    let s₀ = (len_seq (rules_len c (of_kind 0 p.rules)) (len_lone {i = end_rules})).len (entries p).at_begin in
    let s₁ = (len_seq (rules_len c (for_lines p.rules)) (len_lone {i = end_rules})).len (entries p).at_line in
    let s₂ = (len_seq (rules_len c (of_kind 1 p.rules)) (len_lone {i = end_rules})).len (entries p).at_end in
    let f = (functions_len c p.funs).len (length p.funs) in
    omega (
      arith,
      s₀,
      s₁,
      s₂,
      f,
      slots_len c p.funs (length p.funs),
      kinds p.rules,
      length-append (slots c p.funs (length p.funs)) (functions_code c p.funs (length p.funs) ++ (stage_code c (of_kind 0 p.rules) (entries p).at_begin ++ (stage_code c (for_lines p.rules) (entries p).at_line ++ stage_code c (of_kind 1 p.rules) (entries p).at_end))),
      length-append (functions_code c p.funs (length p.funs)) (stage_code c (of_kind 0 p.rules) (entries p).at_begin ++ (stage_code c (for_lines p.rules) (entries p).at_line ++ stage_code c (of_kind 1 p.rules) (entries p).at_end)),
      length-append (stage_code c (of_kind 0 p.rules) (entries p).at_begin) (stage_code c (for_lines p.rules) (entries p).at_line ++ stage_code c (of_kind 1 p.rules) (entries p).at_end),
      length-append (stage_code c (for_lines p.rules) (entries p).at_line) (stage_code c (of_kind 1 p.rules) (entries p).at_end),
    )
