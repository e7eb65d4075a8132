-- The code of a program. A piece of code knows the place at which it begins, and its length says where it ends, so jumps go to places that are
-- computed. Code of a term works out its value and leaves it on the stack. Each term begins with a note and ends with one, and each list of
-- statements begins with one at every statement and at its end: this is where the meaning notes, too.
use Rattle.std.specs.Prelude.{◌≡◌, ℕ, zero, suc, ◌+◌, Bool, true, false, List, [], ◌∷◌, ◌++◌, length, ◌==◌, nat_le, slice_index_or}
use Rattle.language.specs.Text.{pick, same, Value, plus, Pattern}
use Rattle.language.specs.Program.{Term, Terms, num, txt, var, item, field, un, bin, like, there, put_in, call, part, split, swap, no_terms, term_and, Deed, Deeds, value, print, when, while, each_key, next_line, exit, forget, give, no_deeds, deed_and, Rule, Fun, Program}
use Rattle.language.specs.Meaning.{fun_of, of_kind, for_lines}
use Rattle.semantics.specs.Stack.{Instr, note_all, note_below, push_number, push_text, push_value, load_variable, load_field, load_item, apply_one, apply_two, to_truth, match_top, has_key, cut_part, split_into, save_variable, save_field, save_item, swap_variable, swap_field, swap_item, fail, jump, jump_if, jump_unless, drop_top, print_line, print_values, leave_line, exit_run, end_rules, call_function, return_empty, return_value, push_keys, next_key, delete_item}

-- code that begins at a place
abbrev pub Code : Type 0
Code = ℕ → List Instr

-- no code at all
abbrev pub nothing_to_do : Code
nothing_to_do p = []

-- one instruction
abbrev pub lone : Instr → Code
lone i p = i ∷ []

-- an instruction, and what comes after it
abbrev pub ahead : Instr → Code → Code
ahead i A p = i ∷ A (suc p)

-- one after the other
abbrev pub seq : Code → Code → Code
seq A B p = A p ++ B (length (A p) + p)

-- what stands so deep in the program, between two notes
abbrev pub noted_code : ℕ → Code → Code
noted_code d A = ahead (note_all d) (seq A (lone (note_below d)))

-- A; where it decides, a constant; otherwise B, as 1 or 0
abbrev pub decided_code : (ℕ → Instr) → Value → Code → Code → Code
decided_code i k A B p =
    let q = length (A p) + p in
    let r = length (B (suc q)) + suc q in
    A p ++ (i (suc (suc r)) ∷ (B (suc q) ++ (to_truth ∷ jump (suc (suc (suc r))) ∷ push_value k ∷ [])))

-- a test, what is done if it holds, and what is done if it doesn't
abbrev pub if_code : Code → Code → Code → Code
if_code C A B p =
    let q = length (C p) + p in
    let r = length (A (suc q)) + suc q in
    C p ++ (jump_unless (suc r) ∷ (A (suc q) ++ (jump (length (B (suc r)) + suc r) ∷ B (suc r))))

-- a test, and what is done as long as it holds; each time round there is a note
abbrev pub while_code : ℕ → Code → Code → Code
while_code d C A p =
    let q = length (C p) + p in
    let r = length (A (suc q)) + suc q in
    C p ++ (jump_unless (suc (suc r)) ∷ (A (suc q) ++ (note_all d ∷ jump p ∷ [])))

-- what is done for each of the keys on the stack
abbrev pub for_code : List ℕ → Code → Code
for_code x A p = next_key x (suc (length (A (suc p)) + suc p)) ∷ (A (suc p) ++ (jump p ∷ []))

-- a test, and what is done if it holds
abbrev pub test_code : Code → Code → Code
test_code C A p =
    let q = length (C p) + p in
    C p ++ (jump_unless (length (A (suc q)) + suc q) ∷ A (suc q))

-- how many terms
unfoldable pub count : Terms → ℕ
count no_terms = 0
count (term_and t ts) = suc (count ts)

-- by what can be set: a name, an item of a table, a field; or a term that is no place
abbrev pub by_place : {A : Type 0} → Term → (List ℕ → A) → (List ℕ → A) → A → A → A
by_place (num n) v i f o = o
by_place (txt b) v i f o = o
by_place (var x) v i f o = v x
by_place (item x k) v i f o = i x
by_place (field k) v i f o = f
by_place (un k a) v i f o = o
by_place (bin k a b) v i f o = o
by_place (like a p) v i f o = o
by_place (there a x) v i f o = o
by_place (put_in a b) v i f o = o
by_place (call x ts) v i f o = o
by_place (part a b c) v i f o = o
by_place (split a x p) v i f o = o
by_place (swap p a b) v i f o = o

-- how a value is put into a place
abbrev pub save_code : Term → Instr
save_code t = by_place t save_variable save_item save_field (fail 9)

-- and how what matches is swapped there
abbrev pub swap_code : Pattern → Term → Instr
swap_code y t = by_place t (swap_variable y) (swap_item y) (swap_field y) (fail 9)

-- how a function is called: by its name, the number of values, and how deep the call stands
abbrev pub Calls : Type 0
Calls = List ℕ → ℕ → ℕ → Instr

-- or (0) and and (1) look at the second value only if they have to
unfoldable pub two_code : ℕ → Code → Code → Code
two_code zero A B = decided_code jump_if (plus 1) A B
two_code (suc zero) A B = decided_code jump_unless (plus 0) A B
two_code (suc (suc k)) A B = seq A (seq B (lone (apply_two (suc (suc k)))))

-- A term so deep in the program, without its notes; the key of a place, if it has one; and terms in a row, with their notes.
unfoldable mutual
  pub body_code : Calls → Term → ℕ → Code
  body_code c (num n) d = lone (push_number n)
  body_code c (txt b) d = lone (push_text b)
  body_code c (var x) d = lone (load_variable x)
  body_code c (item x k) d = seq (noted_code (16 + d) (body_code c k (16 + d))) (lone (load_item x))
  body_code c (field k) d = seq (noted_code (16 + d) (body_code c k (16 + d))) (lone load_field)
  body_code c (un k a) d = seq (noted_code (16 + d) (body_code c a (16 + d))) (lone (apply_one k))
  body_code c (bin k a b) d = two_code k (noted_code (16 + d) (body_code c a (16 + d))) (noted_code (16 + d) (body_code c b (16 + d)))
  body_code c (like a y) d = seq (noted_code (16 + d) (body_code c a (16 + d))) (lone (match_top y))
  body_code c (there a x) d = seq (noted_code (16 + d) (body_code c a (16 + d))) (lone (has_key x))
  body_code c (put_in a b) d = seq (noted_code (16 + d) (body_code c b (16 + d))) (seq (key_code c a d) (lone (save_code a)))
  body_code c (call x ts) d = seq (terms_code c ts (16 + d)) (lone (c x (count ts) d))
  body_code c (part a b k) d =
      seq (noted_code (16 + d) (body_code c a (16 + d)))
      (seq (noted_code (16 + d) (body_code c b (16 + d))) (seq (noted_code (16 + d) (body_code c k (16 + d))) (lone cut_part)))
  body_code c (split a x y) d = seq (noted_code (16 + d) (body_code c a (16 + d))) (lone (split_into x y))
  body_code c (swap y a b) d = seq (noted_code (16 + d) (body_code c a (16 + d))) (seq (key_code c b d) (lone (swap_code y b)))

  pub key_code : Calls → Term → ℕ → Code
  key_code c (num n) d = nothing_to_do
  key_code c (txt b) d = nothing_to_do
  key_code c (var x) d = nothing_to_do
  key_code c (item x k) d = noted_code (16 + d) (body_code c k (16 + d))
  key_code c (field k) d = noted_code (16 + d) (body_code c k (16 + d))
  key_code c (un k a) d = nothing_to_do
  key_code c (bin k a b) d = nothing_to_do
  key_code c (like a y) d = nothing_to_do
  key_code c (there a x) d = nothing_to_do
  key_code c (put_in a b) d = nothing_to_do
  key_code c (call x ts) d = nothing_to_do
  key_code c (part a b k) d = nothing_to_do
  key_code c (split a x y) d = nothing_to_do
  key_code c (swap y a b) d = nothing_to_do

  pub terms_code : Calls → Terms → ℕ → Code
  terms_code c no_terms d = nothing_to_do
  terms_code c (term_and t ts) d = seq (noted_code d (body_code c t d)) (terms_code c ts d)

-- a term with its notes
abbrev pub term_code : Calls → Term → ℕ → Code
term_code c t d = noted_code d (body_code c t d)

-- to print nothing is to print the line
unfoldable pub print_code : Calls → Terms → ℕ → Code
print_code c no_terms d = lone print_line
print_code c (term_and t ts) d = seq (terms_code c (term_and t ts) d) (lone (print_values (suc (count ts))))

-- Statements. What a loop over keys holds is counted with the keys on the stack, so its body stands no deeper than itself.
unfoldable mutual
  pub deed_code : Calls → Deed → ℕ → Code
  deed_code c (value t) d = seq (term_code c t d) (lone drop_top)
  deed_code c (print ts) d = print_code c ts d
  deed_code c (when t a b) d = if_code (term_code c t d) (deeds_code c a (16 + d)) (deeds_code c b (16 + d))
  deed_code c (while t a) d = while_code d (term_code c t d) (deeds_code c a (16 + d))
  deed_code c (each_key x y a) d = ahead (push_keys y) (for_code x (deeds_code c a d))
  deed_code c next_line d = lone leave_line
  deed_code c (exit t) d = seq (term_code c t d) (lone exit_run)
  deed_code c (forget x t) d = seq (term_code c t d) (lone (delete_item x))
  deed_code c (give t) d = seq (term_code c t d) (lone return_value)

  pub deeds_code : Calls → Deeds → ℕ → Code
  deeds_code c no_deeds d = lone (note_all d)
  deeds_code c (deed_and e es) d = ahead (note_all d) (seq (deed_code c e d) (deeds_code c es d))

-- a rule, with its test if it has one
abbrev pub rule_code : Calls → Bool → Rule → Code
rule_code c true u = test_code (term_code c u.test 0) (deeds_code c u.deeds 0)
rule_code c false u = deeds_code c u.deeds 0

-- rules in a row
abbrev pub rules_code : Calls → List Rule → Code
rules_code c [] = nothing_to_do
rules_code c (u ∷ us) = seq (rule_code c (u.kind == 3) u) (rules_code c us)

-- the rules of a stage of the run, and its end
abbrev pub stage_code : Calls → List Rule → Code
stage_code c us = seq (rules_code c us) (lone end_rules)

-- Functions. Each has a slot at the beginning of the code, from which a jump leads to its statements, so that a call needs only the slot.
unfoldable pub slot_of : List Fun → List ℕ → ℕ
slot_of [] x = 0
slot_of (g ∷ gs) x = pick (same g.name x) 0 (suc (slot_of gs x))

-- a call of the function of that name, if there is one that takes so many values
abbrev pub call_code : List Fun → ℕ → ℕ → ℕ → Instr
call_code [] q k d = fail 5
call_code (g ∷ gs) q k d = pick (nat_le k (length g.params)) (call_function d q g.params k) (fail 5)

-- calls of a program's functions
abbrev pub calls_of : List Fun → Calls
calls_of fs x k d = call_code (fun_of fs x) (slot_of fs x) k d

-- a function: its statements, and to return nothing in bytes where they give nothing; a call counts 16
abbrev pub function_code : Calls → Fun → Code
function_code c g = seq (deeds_code c g.deeds 16) (lone return_empty)

-- functions in a row
abbrev pub functions_code : Calls → List Fun → Code
functions_code c [] = nothing_to_do
functions_code c (g ∷ gs) = seq (function_code c g) (functions_code c gs)

-- the slots of functions whose code begins at q
abbrev pub slots : Calls → List Fun → ℕ → List Instr
slots c [] q = []
slots c (g ∷ gs) q = jump q ∷ slots c gs (length (function_code c g q) + q)

-- where the code for the beginning, for each line and for the end stands
pub record Entries : Type 0 where
  pub at_begin : ℕ
  pub at_line : ℕ
  pub at_end : ℕ

-- The whole program: slots, functions, and the rules of the three stages.
abbrev pub entries : Program → Entries
entries p =
    let c = calls_of p.funs in
    let n = length p.funs in
    let n₀ = length (functions_code c p.funs n) + n in
    let n₁ = length (stage_code c (of_kind 0 p.rules) n₀) + n₀ in
    let n₂ = length (stage_code c (for_lines p.rules) n₁) + n₁ in
    record { at_begin = n₀; at_line = n₁; at_end = n₂ }

-- and the code itself
abbrev pub program_code : Program → List Instr
program_code p =
    let c = calls_of p.funs in
    let n = length p.funs in
    slots c p.funs n ++ (functions_code c p.funs n ++ (stage_code c (of_kind 0 p.rules) (entries p).at_begin
    ++ (stage_code c (for_lines p.rules) (entries p).at_line ++ stage_code c (of_kind 1 p.rules) (entries p).at_end)))

-- the instruction at a place
abbrev pub code : Program → ℕ → Instr
code p i = slice_index_or (program_code p) i end_rules

-- these instructions stand in the code f from the place p on
abbrev pub Stands : (ℕ → Instr) → ℕ → List Instr → Type 0
Stands f p [] = Unit {0}
Stands f p (i ∷ is) = (f p ≡ i) × Stands f (suc p) is
