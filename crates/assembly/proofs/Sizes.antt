-- How much there is of a program that was read from at most 4,096 bytes: four weights, each at most what its tokens weigh.
use Rattle.std.proofs.Common.{◌≡◌, ℕ, zero, suc, ◌+◌, ◌*◌, ◌<◌, ◌≤◌, Bool, true, false, not, ◌&&◌, eqb, leb, ◌⊎◌, List, [], ◌∷◌, ◌++◌, length, refl, ap, inl, inr, le_refl, arith, length-append}
use Rattle.std.proofs.lemmas.Bool.{and_parts, ltb-true, lt-ltb, leb-true, le-leb}
use Rattle.language.specs.Text.{pick, or, same, every, added_up, Value, plus, minus, text}
use Rattle.language.specs.Program.{Token, Terms, no_terms, term_and, Program, cut_up, reads}
use Rattle.language.specs.Meaning.{w_nr, w_nf}
use Rattle.semantics.specs.Stack.{Instr}
use Rattle.semantics.specs.Code.{count, program_code}
use Rattle.semantics.specs.Code as code
use Rattle.semantics.specs.Invariants.{All, all_none, all_more}
use Rattle.assembly.specs.Assembly.{Op, op_load, op_save, op_line_count, op_field_count, op_get_field, op_set_field, op_one, op_two, op_truth, op_fail, op_jump, op_jump_if, op_jump_unless, op_drop, op_print_line, op_print_values, op_leave_line, op_exit, op_end, word as op_word, Entry, named, literal, Pool, slot_of, with_name, is_count, Jump, always, if_holds, unless_holds, jump_op, Shape, silent, constant, loads, saves, goes, does, outside, shape, is_silent, lean_place, pool_after, op_for, translated, assemble, ops, pool, entries}
use Rattle.assembly.specs.Laws.{in_core_op, most_ops, most_slots, is_two, FitsOp, WordsSmall, FitsEntry, InBytes, Sizes}
use Rattle.assembly.proofs.Pools.{no, adds, grown, Begins, begins_self, begins_trans, begins_translated, holds_constant, holds_name, all_after}
use Rattle.assembly.proofs.Correspondence.{length_for}
use Rattle.assembly.proofs.Weights.{Weights, weight, total, program_weighs, weighs_each}
use Rattle.assembly.proofs.Grammar.{Bounds, spare, read_weighs}
use Rattle.assembly.proofs.Tokens.{below, fine_text, fine_number, fine_token, cut_few, cut_fine}
use Rattle.assembly.proofs.Known.{strange, core_weighs, light}

-- WEIGHTS. Every instruction that is no note weighs 1; a token 3.
abbrev by_op : Weights
by_op = record { op = λ o. 1; going = 1; outer = 1; name = λ x. 1; lit = λ v. 1 }

op_bounds : Bounds by_op 2 3 (λ t. 3)
op_bounds = omega arith

-- Every name and constant weighs 1; a token too.
abbrev by_slot : Weights
by_slot = record { op = λ o. 0; going = 0; outer = 0; name = λ x. 1; lit = λ v. 1 }

slot_bounds : Bounds by_slot 0 1 (λ t. 1)
slot_bounds = omega arith

-- Values that are printed weigh 1 each; a token too.
abbrev printed : Op → ℕ
printed (op_load k) = 0
printed (op_save k) = 0
printed op_line_count = 0
printed op_field_count = 0
printed op_get_field = 0
printed op_set_field = 0
printed (op_one k) = 0
printed (op_two k) = 0
printed op_truth = 0
printed (op_fail k) = 0
printed (op_jump q) = 0
printed (op_jump_if q) = 0
printed (op_jump_unless q) = 0
printed op_drop = 0
printed op_print_line = 0
printed (op_print_values n) = n
printed op_leave_line = 0
printed op_exit = 0
printed op_end = 0

abbrev by_value : Weights
by_value = record { op = printed; going = 0; outer = 0; name = λ x. 0; lit = λ v. 0 }

spare_count : (ts : Terms) → spare 1 ts ≡ count ts
unfolding count
spare_count no_terms = refl
spare_count (term_and t ts) = omega (arith, spare_count ts)

value_bounds : Bounds by_value 1 1 (λ t. 1)
value_bounds = omega (arith, spare_count)

-- A flaw weighs 1: a constant or a name that is too long, has a byte beyond the limit or too many digits, and an operation that no program has.
abbrev read_op : Op → Bool
read_op (op_load k) = false
read_op (op_save k) = false
read_op op_line_count = true
read_op op_field_count = true
read_op op_get_field = true
read_op op_set_field = true
read_op (op_one k) = true
read_op (op_two k) = leb 2 k && leb k 14
read_op op_truth = true
read_op (op_fail k) = leb k 9
read_op (op_jump q) = false
read_op (op_jump_if q) = false
read_op (op_jump_unless q) = false
read_op op_drop = true
read_op op_print_line = true
read_op (op_print_values n) = true
read_op op_leave_line = true
read_op op_exit = true
read_op op_end = true

abbrev flaw : Bool → ℕ
flaw b = pick b 0 1

no_flaw : (b : Bool) → flaw b ≤ 0 → b ≡ true
no_flaw true h = refl
no_flaw false h = absurd (omega arith)

abbrev fine_value : ℕ → Value → Bool
fine_value lim (plus n) = fine_number n
fine_value lim (minus n) = false
fine_value lim (text b) = fine_text lim 4096 b

abbrev by_flaw : ℕ → Weights
by_flaw lim = record { op = λ o. flaw (read_op o); going = 0; outer = 0; name = λ x. flaw (fine_text lim 4096 x); lit = λ v. flaw (fine_value lim v) }

two_read : (k : ℕ) → 2 ≤ k → k ≤ 14 → flaw (leb 2 k && leb k 14) ≤ 0
two_read k l h = rw (le-leb 2 k l, le-leb k 14 h) (omega arith)

flaw_bounds : (lim : ℕ) → Bounds (by_flaw lim) 0 0 (λ t. flaw (fine_token lim 4096 t))
flaw_bounds lim = omega (arith, two_read)

-- what tokens weigh
ones : (ts : List Token) → added_up (λ t. 1) ts ≡ length ts
ones [] = refl
ones (t ∷ ts) = omega (arith, ones ts)

threes : (ts : List Token) → added_up (λ t. 3) ts ≡ 3 * length ts
threes [] = refl
threes (t ∷ ts) = omega (arith, threes ts)

no_flaws : {A : Type 0} (q : A → Bool) (xs : List A) → every q xs ≡ true → added_up (λ x. flaw (q x)) xs ≡ 0
no_flaws q [] h = refl
no_flaws q (x ∷ xs) h = let t = and_parts (q x) (every q xs) h in rw t.0 (omega (arith, no_flaws q xs t.1))

-- OPERATIONS: one for each instruction that is no note
one_each : (s : Shape) (n : ℕ) → pick (is_silent s) n (suc n) ≡ weight by_op s + n
one_each silent n = omega arith
one_each (constant v) n = omega arith
one_each (loads x) n = omega arith
one_each (saves x) n = omega arith
one_each (goes j q) n = omega arith
one_each (does o) n = omega arith
one_each outside n = omega arith

length_ops : (to : ℕ → ℕ) (is : List Instr) (π : Pool) → length (translated to is π).ops ≡ total by_op is
unfolding translated
length_ops to [] π = refl
length_ops to (i ∷ is) π =
    let os = (translated to is (pool_after (shape i) π)).ops in
    omega (arith, length_for to (shape i) π os, one_each (shape i) (length os), length_ops to is (pool_after (shape i) π))

lean_most : (is : List Instr) (q : ℕ) → lean_place is q ≤ total by_op is
unfolding lean_place
lean_most [] q = omega arith
lean_most (i ∷ is) zero = omega arith
lean_most (i ∷ is) (suc q) = omega (arith, one_each (shape i) (lean_place is q), lean_most is q)

-- THE POOL: a slot for each name and constant, at most
name_few : (x : List ℕ) (b : Bool) → length (pick b [] (named x ∷ [])) ≤ 1
name_few x true = omega arith
name_few x false = omega arith

adds_few : (s : Shape) → length (adds s) ≤ weight by_slot s
adds_few silent = omega arith
adds_few (constant v) = omega arith
adds_few (loads x) = name_few x (is_count x)
adds_few (saves x) = name_few x (is_count x)
adds_few (goes j q) = omega arith
adds_few (does o) = omega arith
adds_few outside = omega arith

after_few : (s : Shape) (π : Pool) → length (pool_after s π) ≤ length π + weight by_slot s
after_few s π = let g = grown s π in omega (arith, ap length g.is, length-append π g.more, more_few g.more g.from)
  where
    more_few : (more : List Entry) → (more ≡ []) ⊎ (more ≡ adds s) → length more ≤ weight by_slot s
    more_few more (inl e) = omega (arith, ap length e)
    more_few more (inr e) = omega (arith, ap length e, adds_few s)

pool_few : (to : ℕ → ℕ) (is : List Instr) (π : Pool) → length (translated to is π).pool ≤ length π + total by_slot is
unfolding translated
pool_few to [] π = omega arith
pool_few to (i ∷ is) π = omega (arith, pool_few to is (pool_after (shape i) π), after_few (shape i) π)

-- every entry comes from an instruction
all_map : {A : Type 0} {P Q : A → Type 0} {xs : List A} → ((x : A) → P x → Q x) → All P xs → All Q xs
all_map f all_none = all_none
all_map f (all_more {x} p a) = all_more (f x p) (all_map f a)

all_translated : {P : Entry → Type 0} (to : ℕ → ℕ) (is : List Instr) (π : Pool) → All (λ i. All P (adds (shape i))) is → All P π → All P (translated to is π).pool
unfolding translated
all_translated to [] π all_none h = h
all_translated to (i ∷ is) π (all_more p a) h = all_translated to is (pool_after (shape i) π) a (all_after (shape i) π p h)

abbrev fine_entry : ℕ → Entry → Bool
fine_entry lim (named x) = fine_text lim 4096 x
fine_entry lim (literal v) = fine_value lim v

name_fine : (lim : ℕ) (x : List ℕ) (b : Bool) → flaw (fine_text lim 4096 x) ≤ 0 → All (λ e. fine_entry lim e ≡ true) (pick b [] (named x ∷ []))
name_fine lim x true h = all_none
name_fine lim x false h = all_more (no_flaw (fine_text lim 4096 x) h) all_none

adds_fine : (lim : ℕ) (s : Shape) → weight (by_flaw lim) s ≤ 0 → All (λ e. fine_entry lim e ≡ true) (adds s)
adds_fine lim silent h = all_none
adds_fine lim (constant v) h = all_more (no_flaw (fine_value lim v) h) all_none
adds_fine lim (loads x) h = name_fine lim x (is_count x) h
adds_fine lim (saves x) h = name_fine lim x (is_count x) h
adds_fine lim (goes j q) h = all_none
adds_fine lim (does o) h = all_none
adds_fine lim outside h = all_none

text_fits : (lim : ℕ) (b : List ℕ) → fine_text lim 4096 b ≡ true → length b ≤ 4096
text_fits lim b h = leb-true (length b) 4096 (and_parts (leb (length b) 4096) (below lim b) h).0

entry_fits : (lim : ℕ) (e : Entry) → fine_entry lim e ≡ true → FitsEntry e
entry_fits lim (named x) h = text_fits lim x h
entry_fits lim (literal (plus n)) h = omega (arith, ltb-true n 1000000000000000000 h)
entry_fits lim (literal (minus n)) h = no h
entry_fits lim (literal (text b)) h = text_fits lim b h

entry_bytes : (e : Entry) → fine_entry 256 e ≡ true → InBytes e
entry_bytes (named x) h = (and_parts (leb (length x) 4096) (below 256 x) h).1
entry_bytes (literal (plus n)) h = tt
entry_bytes (literal (minus n)) h = tt
entry_bytes (literal (text b)) h = (and_parts (leb (length b) 4096) (below 256 b) h).1

-- every byte of a text is below some limit
some_limit : (n : ℕ) (b : List ℕ) → added_up (λ c. c) b ≤ n → below (suc n) b ≡ true
some_limit n [] h = refl
some_limit n (c ∷ b) h = rw (lt-ltb c (suc n) (omega arith)) (some_limit n b (omega arith))

-- NUMBERS IN RANGE
abbrev Ready : Shape → Type 0
Ready silent = Unit {0}
Ready (constant v) = Unit {0}
Ready (loads x) = Unit {0}
Ready (saves x) = Unit {0}
Ready (goes j q) = Unit {0}
Ready (does o) = FitsOp o
Ready outside = Unit {0}

two_fits : (k : ℕ) → (leb 2 k && leb k 14) ≡ true → not (eqb k 12) ≡ true → is_two k ≡ true
two_fits k g h = let t = and_parts (leb 2 k) (leb k 14) g in rw (t.0, t.1, h) refl

op_ready : (o : Op) → read_op o ≡ true → in_core_op o ≡ true → printed o ≤ 4096 → FitsOp o
op_ready (op_load k) f g h = no f
op_ready (op_save k) f g h = no f
op_ready op_line_count f g h = tt
op_ready op_field_count f g h = tt
op_ready op_get_field f g h = tt
op_ready op_set_field f g h = tt
op_ready (op_one k) f g h = leb-true k 1 g
op_ready (op_two k) f g h = two_fits k f g
op_ready op_truth f g h = tt
op_ready (op_fail k) f g h = leb-true k 9 f
op_ready (op_jump q) f g h = no f
op_ready (op_jump_if q) f g h = no f
op_ready (op_jump_unless q) f g h = no f
op_ready op_drop f g h = tt
op_ready op_print_line f g h = tt
op_ready (op_print_values n) f g h = h
op_ready op_leave_line f g h = tt
op_ready op_exit f g h = tt
op_ready op_end f g h = tt

ready : (lim : ℕ) (s : Shape) → weight (by_flaw lim) s ≤ 0 → weight strange s ≤ 0 → weight by_value s ≤ 4096 → Ready s
ready lim silent f g h = tt
ready lim (constant v) f g h = tt
ready lim (loads x) f g h = tt
ready lim (saves x) f g h = tt
ready lim (goes j q) f g h = tt
ready lim (does o) f g h = op_ready o (no_flaw (read_op o) f) (light (does o) g) h
ready lim outside f g h = tt

all_ready : (lim : ℕ) (is : List Instr) → All (λ i. weight (by_flaw lim) (shape i) ≤ 0) is → All (λ i. weight strange (shape i) ≤ 0) is → All (λ i. weight by_value (shape i) ≤ 4096) is → All (λ i. Ready (shape i)) is
all_ready lim [] all_none all_none all_none = all_none
all_ready lim (i ∷ is) (all_more f a) (all_more g b) (all_more h c) = all_more (ready lim (shape i) f g h) (all_ready lim is a b c)

begins_length : {π ρ : Pool} → Begins π ρ → length π ≤ length ρ
begins_length {π} b = omega (arith, ap length b.is, length-append π b.behind)

jump_fits : (j : Jump) (q : ℕ) → q ≤ most_ops → FitsOp (jump_op j q)
jump_fits always q h = h
jump_fits if_holds q h = h
jump_fits unless_holds q h = h

module _ (to : ℕ → ℕ) (ρ : Pool) (near : (q : ℕ) → to q ≤ most_ops) (few : length ρ ≤ most_slots) where
  slot_fits : (π : Pool) (x : List ℕ) → Begins (with_name π x) ρ → slot_of π x < most_slots
  slot_fits π x b = omega (arith, (holds_name π x).inside, begins_length b)

  load_fits : (π : Pool) (x : List ℕ) (a c : Bool) → Begins (pick (or a c) π (with_name π x)) ρ → FitsOp (pick a op_line_count (pick c op_field_count (op_load (slot_of π x))))
  load_fits π x true c b = tt
  load_fits π x false true b = tt
  load_fits π x false false b = slot_fits π x b

  save_fits : (π : Pool) (x : List ℕ) (t : Bool) → Begins (pick t π (with_name π x)) ρ → FitsOp (pick t (op_fail 6) (op_save (slot_of π x)))
  save_fits π x true b = omega arith
  save_fits π x false b = slot_fits π x b

  op_fits : (s : Shape) (π : Pool) (os : List Op) → Begins (pool_after s π) ρ → Ready s → All FitsOp os → All FitsOp (op_for to s π ++ os)
  op_fits silent π os b r a = a
  op_fits (constant v) π os b r a = all_more (omega (arith, (holds_constant π v).inside, begins_length b)) a
  op_fits (loads x) π os b r a = all_more (load_fits π x (same x w_nr) (same x w_nf) b) a
  op_fits (saves x) π os b r a = all_more (save_fits π x (is_count x) b) a
  op_fits (goes j q) π os b r a = all_more (jump_fits j (to q) (near q)) a
  op_fits (does o) π os b r a = all_more r a
  op_fits outside π os b r a = all_more (omega arith) a

  ops_fit : (is : List Instr) (π : Pool) → Begins (translated to is π).pool ρ → All (λ i. Ready (shape i)) is → All FitsOp (translated to is π).ops
  unfolding translated
  ops_fit [] π b all_none = all_none
  ops_fit (i ∷ is) π b (all_more r a) = op_fits (shape i) π _ (begins_trans (begins_translated to is (pool_after (shape i) π)) b) r (ops_fit is (pool_after (shape i) π) b a)

-- A WHOLE PROGRAM
no_flaw_in : (lim : ℕ) (t : List ℕ) (p : Program) → length t ≤ 4096 → reads t ≡ p ∷ [] → below lim t ≡ true → All (λ i. weight (by_flaw lim) (shape i) ≤ 0) (program_code p)
no_flaw_in lim t p h e b =
    weighs_each (by_flaw lim) (program_code p) 0
    (omega (arith, program_weighs (by_flaw lim) p, read_weighs (by_flaw lim) 0 0 _ (flaw_bounds lim) t p e, no_flaws (fine_token lim 4096) (cut_up t) (cut_fine lim 4096 t h b)))

fine_pool : (lim : ℕ) (t : List ℕ) (p : Program) → length t ≤ 4096 → reads t ≡ p ∷ [] → below lim t ≡ true → All (λ e. fine_entry lim e ≡ true) (pool p)
unfolding assemble
fine_pool lim t p h e b = all_translated _ (program_code p) [] (all_map (λ i g. adds_fine lim (shape i) g) (no_flaw_in lim t p h e b)) all_none

pub sizes : Sizes
unfolding assemble entries
sizes t p h e k =
    let is = program_code p in
    let to = lean_place is in
    let n = cut_few 0 t in
    let lim = suc (added_up (λ c. c) t) in
    let b = some_limit (added_up (λ c. c) t) t (le_refl _) in
    let w : total by_op is ≤ most_ops = omega (arith, program_weighs by_op p, read_weighs by_op 2 3 _ op_bounds t p e, threes (cut_up t), n) in
    let v : total by_value is ≤ 4096 = omega (arith, program_weighs by_value p, read_weighs by_value 1 1 _ value_bounds t p e, ones (cut_up t), n) in
    let few : length (pool p) ≤ most_slots = omega (arith, pool_few to is [], program_weighs by_slot p, read_weighs by_slot 0 1 _ slot_bounds t p e, ones (cut_up t), n) in
    let all_ready_in = all_ready lim is (no_flaw_in lim t p h e b) (weighs_each strange is 0 (omega (arith, core_weighs p k))) (weighs_each by_value is 4096 v) in
    let inside : (q : ℕ) → to q ≤ length (ops p) = λ q. omega (arith, length_ops to is [], lean_most is q) in
    record {
      ops_few = omega (arith, length_ops to is []);
      pool_few = few;
      numbers = ops_fit to (pool p) (λ q. omega (arith, lean_most is q)) few is [] (begins_self (pool p)) all_ready_in;
      slots = all_map (λ x f. entry_fits lim x f) (fine_pool lim t p h e b);
      bytes = λ g. all_map (λ x f. entry_bytes x f) (fine_pool 256 t p h e g);
      begin_inside = inside (code.entries p).at_begin;
      line_inside = inside (code.entries p).at_line;
      end_inside = inside (code.entries p).at_end;
    }

two_small : (k : ℕ) → is_two k ≡ true → k ≤ 14
two_small k h = leb-true k 14 (and_parts (leb k 14) (not (eqb k 12)) (and_parts (leb 2 k) (leb k 14 && not (eqb k 12)) h).1).0

pub words_small : WordsSmall
unfolding op_word
words_small (op_load k) h = omega arith
words_small (op_save k) h = omega arith
words_small op_line_count h = omega arith
words_small op_field_count h = omega arith
words_small op_get_field h = omega arith
words_small op_set_field h = omega arith
words_small (op_one k) h = omega arith
words_small (op_two k) h = omega (arith, two_small k h)
words_small op_truth h = omega arith
words_small (op_fail k) h = omega arith
words_small (op_jump q) h = omega arith
words_small (op_jump_if q) h = omega arith
words_small (op_jump_unless q) h = omega arith
words_small op_drop h = omega arith
words_small op_print_line h = omega arith
words_small (op_print_values n) h = omega arith
words_small op_leave_line h = omega arith
words_small op_exit h = omega arith
words_small op_end h = omega arith
