-- The first line of some bytes, as the abstract machine takes it.
use Rattle.std.proofs.Common.{◌≡◌, ℕ, zero, suc, ◌+◌, ◌*◌, ◌<◌, ◌≤◌, Bool, true, false, eqb, ◌⊎◌, List, [], ◌∷◌, ◌++◌, length, take, sym, refl, ap, ◌∙◌, inl, inr, append_assoc, append-nil, arith}
use Rattle.std.proofs.lemmas.Bool.{eqb-false, eqb-true, ne_eqb, cases_lt, lt-ltb, le-ltb}
use Rattle.language.specs.Text.{pick, or, has, added_up, fields_from}
use Rattle.language.specs.Meaning.{State, wrong, weight, larger}
use Rattle.semantics.specs.Code.{Entries}
use Rattle.semantics.specs.Lines.{Cut, whole, part, cut_line, fresh, Now, steps, waits, live_line, live_take}
use Rattle.semantics.specs.Lines as runs

or_first : (t u : Bool) → or t u ≡ false → t ≡ false
or_first true u e = e
or_first false u e = refl

or_second : (t u : Bool) → or t u ≡ false → u ≡ false
or_second true u e = absurd (let z : ◌≡◌ {A = ℕ} 0 1 = ap (λ x. pick x 0 1) e in omega arith)
or_second false u e = e

pub head_not : (x : ℕ) (xs : List ℕ) → has (x ∷ xs) 10 ≡ false → eqb x 10 ≡ false
head_not x xs h = ne_eqb x 10 (λ q. eqb-false 10 x (or_first (eqb 10 x) (has xs 10) h) (sym q))

pub tail_not : (x : ℕ) (xs : List ℕ) → has (x ∷ xs) 10 ≡ false → has xs 10 ≡ false
tail_not x xs h = or_second (eqb 10 x) (has xs 10) h

cut_whole_from : (a l r : List ℕ) → has l 10 ≡ false → cut_line a (l ++ 10 ∷ r) ≡ whole (a ++ l) r
unfolding cut_line
cut_whole_from a [] r h = ap (λ x. whole x r) (sym (append-nil a))
cut_whole_from a (x ∷ l) r h =
    ap (λ t. pick t (whole a (l ++ 10 ∷ r)) (cut_line (a ++ x ∷ []) (l ++ 10 ∷ r))) (head_not x l h)
    ∙ cut_whole_from (a ++ x ∷ []) l r (tail_not x l h) ∙ ap (λ y. whole y r) (append_assoc a (x ∷ []) l)

pub cut_whole : (l r : List ℕ) → has l 10 ≡ false → cut_line [] (l ++ 10 ∷ r) ≡ whole l r
cut_whole l r h = cut_whole_from [] l r h

cut_part_from : (a b : List ℕ) → has b 10 ≡ false → cut_line a b ≡ part (a ++ b)
unfolding cut_line
cut_part_from a [] h = ap part (sym (append-nil a))
cut_part_from a (x ∷ b) h =
    ap (λ t. pick t (whole a b) (cut_line (a ++ x ∷ []) b)) (head_not x b h)
    ∙ cut_part_from (a ++ x ∷ []) b (tail_not x b h) ∙ ap part (append_assoc a (x ∷ []) b)

pub cut_part : (b : List ℕ) → has b 10 ≡ false → cut_line [] b ≡ part b
cut_part b h = cut_part_from [] b h

-- where no line ends among the first bytes, the first one is longer than these

pub record Ends (b : List ℕ) : Type 0 where
  pub line : List ℕ
  pub rest : List ℕ
  pub split : b ≡ line ++ 10 ∷ rest
  pub none : has line 10 ≡ false

-- there is a byte 10, or there is none
pub first_end : (b : List ℕ) → Ends b ⊎ (has b 10 ≡ false)
first_end [] = inr refl
first_end (x ∷ b) = by (eqb x 10) refl (first_end b)
  where
    not_here : eqb x 10 ≡ false → (xs : List ℕ) → has xs 10 ≡ false → has (x ∷ xs) 10 ≡ false
    not_here e xs h = ap (λ t. or t (has xs 10)) (ne_eqb 10 x (λ q. eqb-false x 10 e (sym q))) ∙ h

    by : (t : Bool) → eqb x 10 ≡ t → Ends b ⊎ (has b 10 ≡ false) → Ends (x ∷ b) ⊎ (has (x ∷ b) 10 ≡ false)
    by true e y = inl (record { line = []; rest = b; split = ap (λ c. c ∷ b) (eqb-true x 10 e); none = refl })
    by false e (inl y) = inl (record { line = x ∷ y.line; rest = y.rest; split = ap (λ c. x ∷ c) y.split; none = not_here e y.line y.none })
    by false e (inr y) = inr (not_here e b y)

pub no_end_before : (n : ℕ) (l r : List ℕ) → has (take n (l ++ 10 ∷ r)) 10 ≡ false → n ≤ length l
no_end_before zero l r h = omega arith
no_end_before (suc n) [] r h = absurd (let z : ◌≡◌ {A = ℕ} 0 1 = sym (ap (λ x. pick x 1 0) h) in omega arith)
no_end_before (suc n) (x ∷ l) r h = let k = no_end_before n l r (tail_not x (take n (l ++ 10 ∷ r)) h) in omega arith

pub has_front : (n : ℕ) (l : List ℕ) → has l 10 ≡ false → has (take n l) 10 ≡ false
has_front zero l h = refl
has_front (suc n) [] h = refl
has_front (suc n) (x ∷ l) h = ap (λ t. or t (has (take n l) 10)) (or_first (eqb 10 x) (has l 10) h) ∙ has_front n l (tail_not x l h)

-- too long a line is wrong, or it waits for its end

module _ (e : Entries) (z : Bool) (s : State) where
  pub long_line : (l r : List ℕ) → 65536 ≤ length l → live_line e z s l r ≡ steps (runs.over (wrong 7 s) z)
  long_line l r h = rw (le-ltb (length l) 65536 h)

  part_long : (b : List ℕ) → 65536 ≤ length b → (live_take e z s (part b) ≡ steps (runs.over (wrong 7 s) z)) ⊎ ((live_take e z s (part b) ≡ waits s) × (z ≡ false))
  part_long [] h = absurd (omega arith)
  part_long (c ∷ cs) h = by z refl
    where
      by : (t : Bool) → z ≡ t → (live_take e t s (part (c ∷ cs)) ≡ steps (runs.over (wrong 7 s) t)) ⊎ ((live_take e t s (part (c ∷ cs)) ≡ waits s) × (z ≡ false))
      by true q = inl (rw (le-ltb (length (c ∷ cs)) 65536 h))
      by false q = inr (refl, q)

  pub long_take : (b : List ℕ) → 65536 ≤ length b → has (take 65536 b) 10 ≡ false →
      (live_take e z s (cut_line [] b) ≡ steps (runs.over (wrong 7 s) z)) ⊎ ((live_take e z s (cut_line [] b) ≡ waits s) × (z ≡ false))
  long_take b h n =
      elim (first_end b) [
        | inl y ↦
            let k : 65536 ≤ length y.line = no_end_before 65536 y.line y.rest (ap (λ x. has (take 65536 x) 10) (sym y.split) ∙ n) in
            inl (ap (λ x. live_take e z s (cut_line [] x)) y.split ∙ ap (live_take e z s) (cut_whole y.line y.rest y.none) ∙ long_line y.line y.rest k)
        | inr y ↦
            let q : live_take e z s (cut_line [] b) ≡ live_take e z s (part b) = ap (live_take e z s) (cut_part b y) in
            elim (part_long b h) [ inl x ↦ inl (q ∙ x) | inr x ↦ inr (q ∙ x.0, x.1) ]
      ]

-- a line of so many fields is more than may be held

fields_heavy : (fs : List (List ℕ)) → 16 * length fs ≤ added_up (λ p. 16 + length p) fs
fields_heavy [] = omega arith
fields_heavy (f ∷ fs) = omega (arith, fields_heavy fs)

larger_second : (a b : ℕ) → b ≤ larger a b
larger_second a b = elim (cases_lt a b) [ inl h ↦ rw (lt-ltb a b h) (omega arith) | inr h ↦ rw (le-ltb a b h) h ]

-- a state with so many fields
pub fields_weigh : (s : State) → 16448 < length s.parts → 262144 < weight s
unfolding weight
fields_weigh s h = omega (arith, fields_heavy s.parts)

pub line_heavy : (l : List ℕ) (s : State) → 16448 < length (fields_from [] l) → 262144 < (fresh l s).heavy
line_heavy l s h =
    let r : State = record { vars = s.vars; items = s.items; line = l; parts = fields_from [] l; lines = suc s.lines; frames = []; out = s.out; heavy = s.heavy } in
    omega (arith, fields_weigh r h, larger_second s.heavy (weight r + 0))
