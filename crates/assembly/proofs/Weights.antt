-- What a program's code weighs, instruction by instruction, is what its terms and statements weigh.
use Rattle.std.proofs.Common.{◌≡◌, ℕ, zero, suc, ◌+◌, ◌*◌, ◌≤◌, Bool, true, false, eqb, leb, List, [], ◌∷◌, ◌++◌, length, refl, le_refl, arith}
use Rattle.std.proofs.lemmas.Bool.{eqb-true, leb-true}
use Rattle.language.specs.Text.{pick, added_up, Value, plus, text}
use Rattle.language.specs.Program.{Term, Terms, num, txt, var, item, field, un, bin, like, there, put_in, call, part, split, swap, no_terms, term_and, Deed, Deeds, value, print, when, while, each_key, next_line, exit, forget, give, no_deeds, deed_and, Rule, Fun, Program}
use Rattle.language.specs.Meaning.{fun_of, of_kind, for_lines}
use Rattle.semantics.specs.Stack.{Instr, note_all, note_below, push_value, to_truth, jump, jump_if, jump_unless, call_function, fail}
use Rattle.semantics.specs.Code.{Code, Calls, nothing_to_do, lone, ahead, seq, noted_code, decided_code, if_code, while_code, for_code, test_code, count, save_code, swap_code, two_code, body_code, key_code, terms_code, term_code, print_code, deed_code, deeds_code, rule_code, rules_code, stage_code, slot_of, call_code, calls_of, function_code, functions_code, slots, program_code, entries}
use Rattle.semantics.specs.Invariants.{All, all_none, all_more}
use Rattle.assembly.specs.Assembly.{Op, op_get_field, op_one, op_two, op_truth, op_fail, op_drop, op_print_line, op_print_values, op_leave_line, op_exit, op_end, Shape, silent, constant, loads, saves, goes, does, outside, shape}

-- weights of operations whose number is no place; of jumps; of what is outside of the known programs; of names and constants
pub record Weights : Type 0 where
  pub op : Op → ℕ
  pub going : ℕ
  pub outer : ℕ
  pub name : List ℕ → ℕ
  pub lit : Value → ℕ

module _ (W : Weights) where
  abbrev pub weight : Shape → ℕ
  weight silent = 0
  weight (constant v) = W.lit v
  weight (loads x) = W.name x
  weight (saves x) = W.name x
  weight (goes j q) = W.going
  weight (does o) = W.op o
  weight outside = W.outer

  abbrev pub total : List Instr → ℕ
  total is = added_up (λ i. weight (shape i)) is

  -- or and and jump over their second value, and have a constant for what is decided
  abbrev pub decided_weight : ℕ → ℕ
  decided_weight k = W.going + (W.op op_truth + (W.going + W.lit (plus k)))

  abbrev pub two_weight : ℕ → ℕ
  two_weight zero = decided_weight 1
  two_weight (suc zero) = decided_weight 0
  two_weight (suc (suc k)) = W.op (op_two (suc (suc k)))

  -- terms; the key of a place; terms in a row
  unfoldable mutual
    pub term_weight : Term → ℕ
    term_weight (num n) = W.lit (plus n)
    term_weight (txt b) = W.lit (text b)
    term_weight (var x) = W.name x
    term_weight (item x k) = term_weight k + W.outer
    term_weight (field k) = term_weight k + W.op op_get_field
    term_weight (un k a) = term_weight a + W.op (op_one k)
    term_weight (bin k a b) = term_weight a + (term_weight b + two_weight k)
    term_weight (like a y) = term_weight a + W.outer
    term_weight (there a x) = term_weight a + W.outer
    term_weight (put_in a b) = term_weight b + (key_weight a + weight (shape (save_code a)))
    term_weight (call x ts) = terms_weight ts + (W.op (op_fail 5) + W.outer)
    term_weight (part a b c) = term_weight a + (term_weight b + (term_weight c + W.outer))
    term_weight (split a x y) = term_weight a + W.outer
    term_weight (swap y a b) = term_weight a + (key_weight b + weight (shape (swap_code y b)))

    pub key_weight : Term → ℕ
    key_weight (num n) = 0
    key_weight (txt b) = 0
    key_weight (var x) = 0
    key_weight (item x k) = term_weight k
    key_weight (field k) = term_weight k
    key_weight (un k a) = 0
    key_weight (bin k a b) = 0
    key_weight (like a y) = 0
    key_weight (there a x) = 0
    key_weight (put_in a b) = 0
    key_weight (call x ts) = 0
    key_weight (part a b c) = 0
    key_weight (split a x y) = 0
    key_weight (swap y a b) = 0

    pub terms_weight : Terms → ℕ
    terms_weight no_terms = 0
    terms_weight (term_and t ts) = term_weight t + terms_weight ts

  unfoldable pub print_weight : Terms → ℕ
  print_weight no_terms = W.op op_print_line
  print_weight (term_and t ts) = terms_weight (term_and t ts) + W.op (op_print_values (suc (count ts)))

  -- statements
  unfoldable mutual
    pub deed_weight : Deed → ℕ
    deed_weight (value t) = term_weight t + W.op op_drop
    deed_weight (print ts) = print_weight ts
    deed_weight (when t a b) = term_weight t + (W.going + (deeds_weight a + (W.going + deeds_weight b)))
    deed_weight (while t a) = term_weight t + (W.going + (deeds_weight a + W.going))
    deed_weight (each_key x y a) = W.outer + (W.outer + (deeds_weight a + W.going))
    deed_weight next_line = W.op op_leave_line
    deed_weight (exit t) = term_weight t + W.op op_exit
    deed_weight (forget x t) = term_weight t + W.outer
    deed_weight (give t) = term_weight t + W.outer

    pub deeds_weight : Deeds → ℕ
    deeds_weight no_deeds = 0
    deeds_weight (deed_and e es) = deed_weight e + deeds_weight es

  -- rules, functions, programs
  abbrev pub test_weight : Bool → Term → ℕ
  test_weight true t = term_weight t + W.going
  test_weight false t = 0

  unfoldable pub rule_weight : Rule → ℕ
  rule_weight u = test_weight (eqb u.kind 3) u.test + deeds_weight u.deeds

  unfoldable pub function_weight : Fun → ℕ
  function_weight g = W.going + (deeds_weight g.deeds + W.outer)

  unfoldable pub program_weight : Program → ℕ
  program_weight p = added_up rule_weight p.rules + added_up function_weight p.funs

  -- CODE that weighs no more than so much
  total_both : (xs ys : List Instr) → total (xs ++ ys) ≡ total xs + total ys
  total_both [] ys = omega arith
  total_both (x ∷ xs) ys = omega (arith, total_both xs ys)

  record Weighs (A : Code) (n : ℕ) : Type 0 where
    most : (p : ℕ) → total (A p) ≤ n

  weighs_lone : (i : Instr) → Weighs (lone i) (weight (shape i))
  weighs_lone i = record { most = λ p. omega arith }

  weighs_none : Weighs nothing_to_do 0
  weighs_none = record { most = λ p. omega arith }

  weighs_more : {A : Code} {m n : ℕ} → Weighs A m → m ≤ n → Weighs A n
  weighs_more a h = record { most = λ p. omega (arith, a.most p) }

  weighs_seq : {A B : Code} {m n : ℕ} → Weighs A m → Weighs B n → Weighs (seq A B) (m + n)
  weighs_seq {A} {B} a b = record { most = λ p. let q = length (A p) + p in omega (arith, total_both (A p) (B q), a.most p, b.most q) }

  weighs_noted : {A : Code} {n : ℕ} (d : ℕ) → Weighs A n → Weighs (noted_code d A) n
  weighs_noted {A} d a = record { most = λ p. omega (arith, total_both (A (suc p)) (note_below d ∷ []), a.most (suc p)) }

  weighs_ahead : {A : Code} {n : ℕ} (i : Instr) → Weighs A n → Weighs (ahead i A) (weight (shape i) + n)
  weighs_ahead {A} i a = record { most = λ p. omega (arith, a.most (suc p)) }

  weighs_decided : (i : ℕ → Instr) (k : ℕ) {A B : Code} {m n : ℕ} → ((q : ℕ) → weight (shape (i q)) ≤ W.going) → Weighs A m → Weighs B n → Weighs (decided_code i (plus k) A B) (m + (n + decided_weight k))
  weighs_decided i k {A} {B} j a b = record {
    most = λ p.
        let q = length (A p) + p in
        let r = length (B (suc q)) + suc q in
        let e = to_truth ∷ jump (suc (suc (suc r))) ∷ push_value (plus k) ∷ [] in
        omega (arith, total_both (A p) (i (suc (suc r)) ∷ (B (suc q) ++ e)), total_both (B (suc q)) e, j (suc (suc r)), a.most p, b.most (suc q));
  }

  weighs_two : (k : ℕ) {A B : Code} {m n : ℕ} → Weighs A m → Weighs B n → Weighs (two_code k A B) (m + (n + two_weight k))
  unfolding two_code
  weighs_two zero a b = weighs_decided jump_if 1 (λ q. le_refl W.going) a b
  weighs_two (suc zero) a b = weighs_decided jump_unless 0 (λ q. le_refl W.going) a b
  weighs_two (suc (suc k)) a b = weighs_seq a (weighs_seq b (weighs_lone _))

  weighs_if : {C A B : Code} {k m n : ℕ} → Weighs C k → Weighs A m → Weighs B n → Weighs (if_code C A B) (k + (W.going + (m + (W.going + n))))
  weighs_if {C} {A} {B} c a b = record {
    most = λ p.
        let q = length (C p) + p in
        let r = length (A (suc q)) + suc q in
        let e = jump (length (B (suc r)) + suc r) ∷ B (suc r) in
        omega (arith, total_both (C p) (jump_unless (suc r) ∷ (A (suc q) ++ e)), total_both (A (suc q)) e, c.most p, a.most (suc q), b.most (suc r));
  }

  weighs_while : {C A : Code} {k m : ℕ} (d : ℕ) → Weighs C k → Weighs A m → Weighs (while_code d C A) (k + (W.going + (m + W.going)))
  weighs_while {C} {A} d c a = record {
    most = λ p.
        let q = length (C p) + p in
        let r = length (A (suc q)) + suc q in
        let e = note_all d ∷ jump p ∷ [] in
        omega (arith, total_both (C p) (jump_unless (suc (suc r)) ∷ (A (suc q) ++ e)), total_both (A (suc q)) e, c.most p, a.most (suc q));
  }

  weighs_for : {A : Code} {m : ℕ} (x : List ℕ) → Weighs A m → Weighs (for_code x A) (W.outer + (m + W.going))
  weighs_for {A} x a = record { most = λ p. omega (arith, total_both (A (suc p)) (jump p ∷ []), a.most (suc p)) }

  weighs_test : {C A : Code} {k m : ℕ} → Weighs C k → Weighs A m → Weighs (test_code C A) (k + W.going + m)
  weighs_test {C} {A} c a = record {
    most = λ p.
        let q = length (C p) + p in
        omega (arith, total_both (C p) (jump_unless (length (A (suc q)) + suc q) ∷ A (suc q)), c.most p, a.most (suc q));
  }

  module _ (fs : List Fun) where
    abbrev c : Calls
    c = calls_of fs

    call_weight : (gs : List Fun) (q k d : ℕ) → weight (shape (call_code gs q k d)) ≤ W.op (op_fail 5) + W.outer
    call_weight [] q k d = omega arith
    call_weight (g ∷ gs) q k d = by_test (leb k (length g.params))
      where
        by_test : (t : Bool) → weight (shape (pick t (call_function d q g.params k) (fail 5))) ≤ W.op (op_fail 5) + W.outer
        by_test true = omega arith
        by_test false = omega arith

    mutual
      unfolding body_code term_weight

      body_weighs : (t : Term) (d : ℕ) → Weighs (body_code c t d) (term_weight t)
      body_weighs (num n) d = weighs_lone _
      body_weighs (txt b) d = weighs_lone _
      body_weighs (var x) d = weighs_lone _
      body_weighs (item x k) d = weighs_seq (weighs_noted _ (body_weighs k _)) (weighs_lone _)
      body_weighs (field k) d = weighs_seq (weighs_noted _ (body_weighs k _)) (weighs_lone _)
      body_weighs (un k a) d = weighs_seq (weighs_noted _ (body_weighs a _)) (weighs_lone _)
      body_weighs (bin k a b) d = weighs_two k (weighs_noted _ (body_weighs a _)) (weighs_noted _ (body_weighs b _))
      body_weighs (like a y) d = weighs_seq (weighs_noted _ (body_weighs a _)) (weighs_lone _)
      body_weighs (there a x) d = weighs_seq (weighs_noted _ (body_weighs a _)) (weighs_lone _)
      body_weighs (put_in a b) d = weighs_seq (weighs_noted _ (body_weighs b _)) (weighs_seq (key_weighs a d) (weighs_lone _))
      body_weighs (call x ts) d = weighs_seq (terms_weigh ts _) (weighs_more (weighs_lone _) (call_weight (fun_of fs x) (slot_of fs x) (count ts) d))
      body_weighs (part a b k) d = weighs_seq (weighs_noted _ (body_weighs a _)) (weighs_seq (weighs_noted _ (body_weighs b _)) (weighs_seq (weighs_noted _ (body_weighs k _)) (weighs_lone _)))
      body_weighs (split a x y) d = weighs_seq (weighs_noted _ (body_weighs a _)) (weighs_lone _)
      body_weighs (swap y a b) d = weighs_seq (weighs_noted _ (body_weighs a _)) (weighs_seq (key_weighs b d) (weighs_lone _))

      key_weighs : (t : Term) (d : ℕ) → Weighs (key_code c t d) (key_weight t)
      key_weighs (num n) d = weighs_none
      key_weighs (txt b) d = weighs_none
      key_weighs (var x) d = weighs_none
      key_weighs (item x k) d = weighs_noted _ (body_weighs k _)
      key_weighs (field k) d = weighs_noted _ (body_weighs k _)
      key_weighs (un k a) d = weighs_none
      key_weighs (bin k a b) d = weighs_none
      key_weighs (like a y) d = weighs_none
      key_weighs (there a x) d = weighs_none
      key_weighs (put_in a b) d = weighs_none
      key_weighs (call x ts) d = weighs_none
      key_weighs (part a b k) d = weighs_none
      key_weighs (split a x y) d = weighs_none
      key_weighs (swap y a b) d = weighs_none

      terms_weigh : (ts : Terms) (d : ℕ) → Weighs (terms_code c ts d) (terms_weight ts)
      terms_weigh no_terms d = weighs_none
      terms_weigh (term_and t ts) d = weighs_seq (weighs_noted _ (body_weighs t _)) (terms_weigh ts d)

    term_weighs : (t : Term) (d : ℕ) → Weighs (term_code c t d) (term_weight t)
    term_weighs t d = weighs_noted d (body_weighs t d)

    print_weighs : (ts : Terms) (d : ℕ) → Weighs (print_code c ts d) (print_weight ts)
    unfolding print_code print_weight
    print_weighs no_terms d = weighs_lone _
    print_weighs (term_and t ts) d = weighs_seq (terms_weigh (term_and t ts) d) (weighs_lone _)

    mutual
      unfolding deed_code deed_weight

      deed_weighs : (e : Deed) (d : ℕ) → Weighs (deed_code c e d) (deed_weight e)
      deed_weighs (value t) d = weighs_seq (term_weighs t d) (weighs_lone _)
      deed_weighs (print ts) d = print_weighs ts d
      deed_weighs (when t a b) d = weighs_if (term_weighs t d) (deeds_weigh a _) (deeds_weigh b _)
      deed_weighs (while t a) d = weighs_while d (term_weighs t d) (deeds_weigh a _)
      deed_weighs (each_key x y a) d = weighs_ahead _ (weighs_for x (deeds_weigh a d))
      deed_weighs next_line d = weighs_lone _
      deed_weighs (exit t) d = weighs_seq (term_weighs t d) (weighs_lone _)
      deed_weighs (forget x t) d = weighs_seq (term_weighs t d) (weighs_lone _)
      deed_weighs (give t) d = weighs_seq (term_weighs t d) (weighs_lone _)

      deeds_weigh : (es : Deeds) (d : ℕ) → Weighs (deeds_code c es d) (deeds_weight es)
      deeds_weigh no_deeds d = weighs_lone _
      deeds_weigh (deed_and e es) d = weighs_more (weighs_ahead (note_all d) (weighs_seq (deed_weighs e d) (deeds_weigh es d))) (omega arith)

    rule_weighs : (t : Bool) (u : Rule) → Weighs (rule_code c t u) (test_weight t u.test + deeds_weight u.deeds)
    rule_weighs true u = weighs_test (term_weighs u.test 0) (deeds_weigh u.deeds 0)
    rule_weighs false u = weighs_more (deeds_weigh u.deeds 0) (omega arith)

    rules_weigh : (us : List Rule) → Weighs (rules_code c us) (added_up rule_weight us)
    unfolding rule_weight
    rules_weigh [] = weighs_none
    rules_weigh (u ∷ us) = weighs_seq (rule_weighs (eqb u.kind 3) u) (rules_weigh us)

    stage_weighs : (us : List Rule) → Weighs (stage_code c us) (added_up rule_weight us + W.op op_end)
    stage_weighs us = weighs_seq (rules_weigh us) (weighs_lone _)

    abbrev bodies_weight : List Fun → ℕ
    bodies_weight gs = added_up (λ g. deeds_weight g.deeds + W.outer) gs

    functions_weigh : (gs : List Fun) → Weighs (functions_code c gs) (bodies_weight gs)
    functions_weigh [] = weighs_none
    functions_weigh (g ∷ gs) = weighs_seq (weighs_seq (deeds_weigh g.deeds 16) (weighs_lone _)) (functions_weigh gs)

    slots_weigh : (gs : List Fun) (q : ℕ) → total (slots c gs q) + bodies_weight gs ≤ added_up function_weight gs
    unfolding function_weight
    slots_weigh [] q = omega arith
    slots_weigh (g ∷ gs) q = omega (arith, slots_weigh gs (length (function_code c g q) + q))

  -- the rules of the three stages are different rules
  three_stages : (us : List Rule) → added_up rule_weight (of_kind 0 us) + (added_up rule_weight (for_lines us) + added_up rule_weight (of_kind 1 us)) ≤ added_up rule_weight us
  three_stages [] = omega arith
  three_stages (u ∷ us) = by_kind (eqb u.kind 0) (leb 2 u.kind) (eqb u.kind 1) (λ e. eqb-true _ _ e) (λ e. leb-true _ _ e) (λ e. eqb-true _ _ e) (three_stages us)
    where
      by_kind : (x y z : Bool) → (x ≡ true → u.kind ≡ 0) → (y ≡ true → 2 ≤ u.kind) → (z ≡ true → u.kind ≡ 1) →
          added_up rule_weight (of_kind 0 us) + (added_up rule_weight (for_lines us) + added_up rule_weight (of_kind 1 us)) ≤ added_up rule_weight us →
          added_up rule_weight (pick x (u ∷ of_kind 0 us) (of_kind 0 us)) + (added_up rule_weight (pick y (u ∷ for_lines us) (for_lines us)) + added_up rule_weight (pick z (u ∷ of_kind 1 us) (of_kind 1 us)))
          ≤ rule_weight u + added_up rule_weight us
      by_kind true true z f g h i = absurd (omega (arith, f refl, g refl))
      by_kind true false true f g h i = absurd (omega (arith, f refl, h refl))
      by_kind true false false f g h i = omega arith
      by_kind false true true f g h i = absurd (omega (arith, g refl, h refl))
      by_kind false true false f g h i = omega arith
      by_kind false false true f g h i = omega arith
      by_kind false false false f g h i = omega arith

  -- A PROGRAM'S CODE weighs no more than the program, and the three ends of its stages.
  pub program_weighs : (p : Program) → total (program_code p) ≤ program_weight p + 3 * W.op op_end
  unfolding program_weight
  program_weighs p =
      let fs = p.funs in
      let k = calls_of fs in
      let n = length fs in
      let e = entries p in
      let x = slots k fs n in
      let f = functions_code k fs n in
      let a = stage_code k (of_kind 0 p.rules) e.at_begin in
      let b = stage_code k (for_lines p.rules) e.at_line in
      let d = stage_code k (of_kind 1 p.rules) e.at_end in
      omega (
        arith,
        total_both x (f ++ (a ++ (b ++ d))),
        total_both f (a ++ (b ++ d)),
        total_both a (b ++ d),
        total_both b d,
        slots_weigh fs fs n,
        (functions_weigh fs fs).most n,
        (stage_weighs fs (of_kind 0 p.rules)).most e.at_begin,
        (stage_weighs fs (for_lines p.rules)).most e.at_line,
        (stage_weighs fs (of_kind 1 p.rules)).most e.at_end,
        three_stages p.rules,
      )

  -- and so does each of its instructions
  pub weighs_each : (is : List Instr) (n : ℕ) → total is ≤ n → All (λ i. weight (shape i) ≤ n) is
  weighs_each [] n h = all_none
  weighs_each (i ∷ is) n h = all_more (omega arith) (weighs_each is n (omega arith))
