-- What stands behind each instruction of a program's code, by going over the code as it is made.
use Rattle.std.proofs.Common.{◌≡◌, ℕ, zero, suc, ◌+◌, ◌<◌, Bool, true, false, eqb, leb, List, [], ◌∷◌, ◌++◌, length, get_or, refl, subst, arith}
use Rattle.language.specs.Text.{pick, those, plus, Pattern}
use Rattle.language.specs.Program.{Term, Terms, num, txt, var, item, field, un, bin, like, there, put_in, call, part, split, swap, no_terms, term_and, Deed, Deeds, value, print, when, while, each_key, next_line, exit, forget, give, no_deeds, deed_and, Rule, Fun, Program}
use Rattle.language.specs.Meaning.{fun_of, of_kind, for_lines}
use Rattle.semantics.specs.Stack.{Instr, note_all, note_below, jump, jump_if, jump_unless, drop_top, print_values, exit_run, end_rules, return_empty, return_value, delete_item, save_variable, save_field, save_item, swap_variable, swap_field, swap_item, fail, call_function}
use Rattle.semantics.specs.Code.{Code, Calls, nothing_to_do, lone, seq, noted_code, decided_code, count, save_code, swap_code, two_code, body_code, key_code, terms_code, term_code, print_code, deed_code, deeds_code, rule_code, rules_code, stage_code, slot_of, call_code, calls_of, function_code, functions_code, slots, program_code, entries, code}
use Rattle.semantics.specs.Invariants.{All, all_none, all_more, Sound, sound_plus, SoundTerm, SoundTerms, SoundDeed, SoundDeeds, SoundProgram, Followed}
use Rattle.semantics.proofs.Primitives.{Place, a_name, an_item, a_field, no_place, place_view}

module _ (fs : List Fun) where
  abbrev c : Calls
  c = calls_of fs

  -- the first of some instructions, or what comes behind them
  abbrev first_of : List Instr → Instr → Instr
  first_of [] j = j
  first_of (i ∷ is) j = i

  -- each instruction is followed as it should be, the last by j
  abbrev Row : List Instr → Instr → Type 0
  Row [] j = Unit {0}
  Row (i ∷ is) j = Followed fs i (first_of is j) × Row is j

  first_both : (xs ys : List Instr) (j : Instr) → first_of xs (first_of ys j) ≡ first_of (xs ++ ys) j
  first_both [] ys j = refl
  first_both (x ∷ xs) ys j = refl

  row_both : (xs ys : List Instr) (j : Instr) → Row xs (first_of ys j) → Row ys j → Row (xs ++ ys) j
  row_both [] ys j a b = b
  row_both (x ∷ xs) ys j a b = (subst (λ z. Followed fs x z) (first_both xs ys j) a.0, row_both xs ys j a.1 b)

  -- code that is right whatever comes behind it, and code that wants a note there
  record Free (A : Code) : Type 0 where
    free : (p : ℕ) (j : Instr) → Row (A p) j

  record Wants (A : Code) : Type 0 where
    wants : (p : ℕ) (d : ℕ) → Row (A p) (note_below d)

  abbrev LoneWants : Instr → Type 0
  LoneWants i = (d : ℕ) → Followed fs i (note_below d)

  wants_lone : {i : Instr} → LoneWants i → Wants (lone i)
  wants_lone h = record { wants = λ p d. (h d, tt) }

  free_seq : {A B : Code} → Free A → Free B → Free (seq A B)
  free_seq {A} {B} a b = record { free = λ p j. row_both (A p) (B (length (A p) + p)) j (a.free p _) (b.free _ j) }

  wants_seq : {A B : Code} → Free A → Wants B → Wants (seq A B)
  wants_seq {A} {B} a b = record { wants = λ p d. row_both (A p) (B (length (A p) + p)) (note_below d) (a.free p _) (b.wants _ d) }

  free_none : Free nothing_to_do
  free_none = record { free = λ p j. tt }

  free_noted : {d : ℕ} {A : Code} → Wants A → Free (noted_code d A)
  free_noted {d} {A} a = record { free = λ p j. (tt, row_both (A (suc p)) (note_below d ∷ []) j (a.wants (suc p) d) (tt, tt)) }

  wants_decided : (i : ℕ → Instr) (k : ℕ) {A B : Code} → ((q : ℕ) (j : Instr) → Followed fs (i q) j) → Sound (plus k) → Free A → Free B → Wants (decided_code i (plus k) A B)
  wants_decided i k {A} {B} h s a b = record {
    wants = λ p d.
        let q = length (A p) + p in
        row_both (A p) _ (note_below d) (a.free p _) (h _ _, row_both (B (suc q)) _ (note_below d) (b.free (suc q) _) ((_, refl), (tt, ((s, (d, refl)), tt))));
  }

  wants_two : (k : ℕ) {A B : Code} → Free A → Free B → Wants (two_code k A B)
  unfolding two_code
  wants_two zero a b = wants_decided jump_if 1 (λ q j. tt) (sound_plus (omega arith)) a b
  wants_two (suc zero) a b = wants_decided jump_unless 0 (λ q j. tt) (sound_plus (omega arith)) a b
  wants_two (suc (suc k)) a b = wants_seq a (wants_seq b (wants_lone (λ d. (d, refl))))

  save_wants : {a : Term} → Place a → LoneWants (save_code a)
  save_wants (a_name x) d = (d, refl)
  save_wants (an_item x k) d = (d, refl)
  save_wants (a_field k) d = (d, refl)
  save_wants (no_place z) d = rw (z.by_is save_variable save_item save_field (fail 9)) tt

  swap_wants : (y : Pattern) {a : Term} → Place a → LoneWants (swap_code y a)
  swap_wants y (a_name x) d = (d, refl)
  swap_wants y (an_item x k) d = (d, refl)
  swap_wants y (a_field k) d = (d, refl)
  swap_wants y (no_place z) d = rw (z.by_is (swap_variable y) (swap_item y) (swap_field y) (fail 9)) tt

  call_wants : (x : List ℕ) (k d : ℕ) → LoneWants (c x k d)
  call_wants x k d e = by_fun (fun_of fs x) refl
    where
      by_fun : (gs : List Fun) → fun_of fs x ≡ gs → Followed fs (call_code gs (slot_of fs x) k d) (note_below e)
      by_fun [] z = tt
      by_fun (g ∷ gs) z = by_count (leb k (length g.params))
        where
          by_count : (b : Bool) → Followed fs (pick b (call_function d (slot_of fs x) g.params k) (fail 5)) (note_below e)
          by_count true = (record { name = x; fun = g; others = gs; found = z; slot = refl; params = refl }, (e, refl))
          by_count false = tt

  mutual
    unfolding body_code SoundTerm

    body_wants : (t : Term) (d : ℕ) → SoundTerm t → Wants (body_code c t d)
    body_wants (num n) d s = wants_lone (λ e. (e, refl))
    body_wants (txt b) d s = wants_lone (λ e. (s, (e, refl)))
    body_wants (var x) d s = wants_lone (λ e. (e, refl))
    body_wants (item x k) d s = wants_seq (free_noted (body_wants k (16 + d) s)) (wants_lone (λ e. (e, refl)))
    body_wants (field k) d s = wants_seq (free_noted (body_wants k (16 + d) s)) (wants_lone (λ e. (e, refl)))
    body_wants (un k a) d s = wants_seq (free_noted (body_wants a (16 + d) s)) (wants_lone (λ e. (e, refl)))
    body_wants (bin k a b) d s = wants_two k (free_noted (body_wants a (16 + d) s.0)) (free_noted (body_wants b (16 + d) s.1))
    body_wants (like a y) d s = wants_seq (free_noted (body_wants a (16 + d) s)) (wants_lone (λ e. (e, refl)))
    body_wants (there a x) d s = wants_seq (free_noted (body_wants a (16 + d) s)) (wants_lone (λ e. (e, refl)))
    body_wants (put_in a b) d s = wants_seq (free_noted (body_wants b (16 + d) s.1)) (wants_seq (key_free a d s.0) (wants_lone (save_wants (place_view a))))
    body_wants (call x ts) d s = wants_seq (terms_free ts (16 + d) s) (wants_lone (call_wants x (count ts) d))
    body_wants (part a b k) d s =
        wants_seq (free_noted (body_wants a (16 + d) s.0)) (wants_seq (free_noted (body_wants b (16 + d) s.1)) (wants_seq (free_noted (body_wants k (16 + d) s.2)) (wants_lone (λ e. (e, refl)))))
    body_wants (split a x y) d s = wants_seq (free_noted (body_wants a (16 + d) s)) (wants_lone (λ e. (e, refl)))
    body_wants (swap y a b) d s = wants_seq (free_noted (body_wants a (16 + d) s.0)) (wants_seq (key_free b d s.1) (wants_lone (swap_wants y (place_view b))))

    key_free : (t : Term) (d : ℕ) → SoundTerm t → Free (key_code c t d)
    key_free (num n) d s = free_none
    key_free (txt b) d s = free_none
    key_free (var x) d s = free_none
    key_free (item x k) d s = free_noted (body_wants k (16 + d) s)
    key_free (field k) d s = free_noted (body_wants k (16 + d) s)
    key_free (un k a) d s = free_none
    key_free (bin k a b) d s = free_none
    key_free (like a y) d s = free_none
    key_free (there a x) d s = free_none
    key_free (put_in a b) d s = free_none
    key_free (call x ts) d s = free_none
    key_free (part a b k) d s = free_none
    key_free (split a x y) d s = free_none
    key_free (swap y a b) d s = free_none

    terms_free : (ts : Terms) (d : ℕ) → SoundTerms ts → Free (terms_code c ts d)
    terms_free no_terms d s = free_none
    terms_free (term_and t ts) d s = free_seq (free_noted (body_wants t d s.0)) (terms_free ts d s.1)

  term_free : (t : Term) (d : ℕ) → SoundTerm t → Free (term_code c t d)
  term_free t d s = free_noted (body_wants t d s)

  -- a term, then an instruction that takes its value
  free_end : {A : Code} (i : Instr) → ((j : Instr) → Followed fs i j) → Free A → Free (seq A (lone i))
  free_end i h a = free_seq {B = lone i} a (record { free = λ p j. (h j, tt) })

  -- statements begin with a note
  deeds_note : (es : Deeds) (d p : ℕ) (ys : List Instr) (j : Instr) → first_of (deeds_code c es d p ++ ys) j ≡ note_all d
  unfolding deeds_code
  deeds_note no_deeds d p ys j = refl
  deeds_note (deed_and e es) d p ys j = refl

  mutual
    unfolding deed_code print_code count SoundDeed

    deed_free : (e : Deed) (d : ℕ) → SoundDeed e → Free (deed_code c e d)
    deed_free (value t) d s = free_end drop_top (λ j. tt) (term_free t d s)
    deed_free (print no_terms) d s = record { free = λ p j. (tt, tt) }
    deed_free (print (term_and t ts)) d s = free_end (print_values (suc (count ts))) (λ j. tt) (terms_free (term_and t ts) d s)
    deed_free (when t a b) d s = record {
      free = λ p j.
          let C = term_code c t d in
          let q = length (C p) + p in
          let r = length (deeds_code c a (16 + d) (suc q)) + suc q in
          row_both (C p) _ j ((term_free t d s.0).free p _) (tt, row_both (deeds_code c a (16 + d) (suc q)) _ j ((deeds_free a (16 + d) s.1).free (suc q) _) (tt, (deeds_free b (16 + d) s.2).free (suc r) j));
    }
    deed_free (while t a) d s = record {
      free = λ p j.
          let C = term_code c t d in
          let q = length (C p) + p in
          row_both (C p) _ j ((term_free t d s.0).free p _) (tt, row_both (deeds_code c a (16 + d) (suc q)) _ j ((deeds_free a (16 + d) s.1).free (suc q) _) (tt, (tt, tt)));
    }
    deed_free (each_key x y a) d s = record {
      free = λ p j.
          ((x, _, refl), ((d, deeds_note a d (suc (suc p)) (jump (suc p) ∷ []) j), row_both (deeds_code c a d (suc (suc p))) (jump (suc p) ∷ []) j ((deeds_free a d s).free (suc (suc p)) _) (tt, tt)));
    }
    deed_free next_line d s = record { free = λ p j. (tt, tt) }
    deed_free (exit t) d s = free_end exit_run (λ j. tt) (term_free t d s)
    deed_free (forget x t) d s = free_end (delete_item x) (λ j. tt) (term_free t d s)
    deed_free (give t) d s = free_end return_value (λ j. tt) (term_free t d s)

    deeds_free : (es : Deeds) (d : ℕ) → SoundDeeds es → Free (deeds_code c es d)
    deeds_free no_deeds d s = record { free = λ p j. (tt, tt) }
    deeds_free (deed_and e es) d s = record { free = λ p j. (tt, (free_seq (deed_free e d s.0) (deeds_free es d s.1)).free (suc p) j) }

  rule_free : (b : Bool) (u : Rule) → SoundTerm u.test × SoundDeeds u.deeds → Free (rule_code c b u)
  rule_free true u s = record {
    free = λ p j.
        let q = length (term_code c u.test 0 p) + p in
        row_both (term_code c u.test 0 p) _ j ((term_free u.test 0 s.0).free p _) (tt, (deeds_free u.deeds 0 s.1).free (suc q) j);
  }
  rule_free false u s = deeds_free u.deeds 0 s.1

  stage_free : (us : List Rule) → All (λ r. SoundTerm r.test × SoundDeeds r.deeds) us → Free (stage_code c us)
  stage_free us s = free_end end_rules (λ j. tt) (rules_free us s)
    where
      rules_free : (us : List Rule) → All (λ r. SoundTerm r.test × SoundDeeds r.deeds) us → Free (rules_code c us)
      rules_free [] all_none = free_none
      rules_free (u ∷ us) (all_more s ss) = free_seq (rule_free (eqb u.kind 3) u s) (rules_free us ss)

  functions_free : (gs : List Fun) → All (λ g. SoundDeeds g.deeds) gs → Free (functions_code c gs)
  functions_free [] all_none = free_none
  functions_free (g ∷ gs) (all_more s ss) = free_seq (free_end return_empty (λ j. tt) (deeds_free g.deeds 16 s)) (functions_free gs ss)

  slots_row : (gs : List Fun) (q : ℕ) (j : Instr) → Row (slots c gs q) j
  slots_row [] q j = tt
  slots_row (g ∷ gs) q j = (tt, slots_row gs (length (function_code c g q) + q) j)

  -- at each place
  row_at : (is : List Instr) (j : Instr) (i : ℕ) → Row is j → i < length is → Followed fs (get_or is i j) (get_or is (suc i) j)
  row_at [] j i r h = absurd (omega arith)
  row_at (x ∷ []) j zero r h = r.0
  row_at (x ∷ y ∷ is) j zero r h = r.0
  row_at (x ∷ is) j (suc i) r h = row_at is j i r.1 (omega arith)

pub those_all : {A : Type 0} {P : A → Type 0} (f : A → Bool) {xs : List A} → All P xs → All P (those f xs)
those_all f all_none = all_none
those_all {A} {P} f (all_more {x} {xs} h hs) = by_test (f x) (those_all f hs)
  where
    by_test : (b : Bool) → All P (those f xs) → All P (pick b (x ∷ those f xs) (those f xs))
    by_test true r = all_more h r
    by_test false r = r

pub program_followed : (p : Program) → SoundProgram p → (i : ℕ) → i < length (program_code p) → Followed p.funs (code p i) (code p (suc i))
program_followed p s i h =
    let fs = p.funs in
    let C = calls_of fs in
    let rules : (f : Rule → Bool) → Free fs (stage_code C (those f p.rules)) = λ f. stage_free fs (those f p.rules) (those_all f s.in_rules) in
    row_at fs (program_code p) end_rules i
    (row_both fs (slots C fs (length fs)) _ end_rules (slots_row fs fs (length fs) _)
    (row_both fs (functions_code C fs (length fs)) _ end_rules ((functions_free fs fs s.in_functions).free _ _)
    (row_both fs (stage_code C (of_kind 0 p.rules) (entries p).at_begin) _ end_rules ((rules (λ r. eqb r.kind 0)).free _ _)
    (row_both fs (stage_code C (for_lines p.rules) (entries p).at_line) _ end_rules ((rules (λ r. leb 2 r.kind)).free _ _)
    ((rules (λ r. eqb r.kind 1)).free _ _))))) h
