-- Patterns of texts: matches as a relation, and that the ends of the specification are the ends of matches. From this follow the laws: how ends go
-- together, that the first match is the first and the longest there, and that without a match nothing is swapped.
use Rattle.std.proofs.Common.{◌≡◌, ℕ, zero, suc, ◌+◌, ◌*◌, ◌<◌, ◌≤◌, Bool, true, false, not, eqb, ltb, ◌⊎◌, List, [], ◌∷◌, ◌++◌, length, take, drop, sym, refl, ap, subst, inl, inr, arith, drop_of_length-le}
use Rattle.std.proofs.lemmas.Bool.{eqb-true, eq-eqb, ltb-true, ltb-false, cases_lt, cases_eq}
use Rattle.language.specs.Text.{pick, or, any, flat, none_of, has, with_all, Span, Pattern, nothing, byte, both, either, some, at_start, at_end, in_spans, byte_at, one_byte, again, ends, greatest, first_match, swap_from, Swapped}
use borrow.Author.Tests.{clash}
use Rattle.language.specs.Promise.{EndsRight, FirstLongest, SwapNone}

-- a member of a list
pub data In (j : ℕ) : List ℕ → Type 0 where
  here : {ks : List ℕ} → In j (j ∷ ks)
  there : {k : ℕ} {ks : List ℕ} → In j ks → In j (k ∷ ks)

-- tests, and members of lists
same_bool : (a b : Bool) → (a ≡ true → b ≡ true) → (b ≡ true → a ≡ true) → a ≡ b
same_bool true b f g = sym (f refl)
same_bool false true f g = g refl
same_bool false false f g = refl

or_left : (a b : Bool) → a ≡ true → or a b ≡ true
or_left true b e = refl
or_left false b e = absurd (clash e)

or_right : (a b : Bool) → b ≡ true → or a b ≡ true
or_right true b e = refl
or_right false b e = e

or_cases : (a b : Bool) → or a b ≡ true → (a ≡ true) ⊎ (b ≡ true)
or_cases true b e = inl refl
or_cases false b e = inr e

any_in : (f : ℕ → Bool) (ks : List ℕ) → any f ks ≡ true → (k : ℕ) × In k ks × (f k ≡ true)
any_in f [] e = absurd (clash e)
any_in f (k ∷ ks) e = go (or_cases (f k) (any f ks) e) (any_in f ks)
  where
    go : (f k ≡ true) ⊎ (any f ks ≡ true) → (any f ks ≡ true → (j : ℕ) × In j ks × (f j ≡ true)) → (j : ℕ) × In j (k ∷ ks) × (f j ≡ true)
    go (inl h) r = (k, here, h)
    go (inr h) r = let t = r h in (t.0, there t.1, t.2)

in_any : (f : ℕ → Bool) {k : ℕ} {ks : List ℕ} → In k ks → f k ≡ true → any f ks ≡ true
in_any f (here {ks}) e = or_left (f _) (any f ks) e
in_any f (there {k} {ks} i) e = or_right (f k) (any f ks) (in_any f i e)

has_in : (ks : List ℕ) (j : ℕ) → has ks j ≡ true → In j ks
has_in ks j e = let t = any_in (eqb j) ks e in subst (λ x. In x ks) (sym (eqb-true j t.0 t.2)) t.1

in_has : {ks : List ℕ} {j : ℕ} → In j ks → has ks j ≡ true
in_has {ks} {j} i = in_any (eqb j) i (eq-eqb j j refl)

in_app_left : {j : ℕ} {xs : List ℕ} (ys : List ℕ) → In j xs → In j (xs ++ ys)
in_app_left ys here = here
in_app_left ys (there i) = there (in_app_left ys i)

in_app_right : {j : ℕ} (xs : List ℕ) {ys : List ℕ} → In j ys → In j (xs ++ ys)
in_app_right [] i = i
in_app_right (x ∷ xs) i = there (in_app_right xs i)

in_app : {j : ℕ} (xs ys : List ℕ) → In j (xs ++ ys) → In j xs ⊎ In j ys
in_app [] ys i = inr i
in_app {j} (x ∷ xs) ys i = go x i (in_app xs ys)
  where
    go : (y : ℕ) → In j (y ∷ (xs ++ ys)) → (In j (xs ++ ys) → In j xs ⊎ In j ys) → In j (y ∷ xs) ⊎ In j ys
    go y here r = inl here
    go y (there h) r = elim (r h) [ inl a ↦ inl (there a) | inr b ↦ inr b ]

add_one : (b : Bool) (j x : ℕ) (ks : List ℕ) → In x ks → In x (pick b ks (ks ++ j ∷ []))
add_one true j x ks i = i
add_one false j x ks i = in_app_left (j ∷ []) i

add_itself : (b : Bool) (j : ℕ) (ks : List ℕ) → has ks j ≡ b → In j (pick b ks (ks ++ j ∷ []))
add_itself true j ks e = has_in ks j e
add_itself false j ks e = in_app_right ks here

one_only : {x j : ℕ} → In x (j ∷ []) → x ≡ j
one_only here = refl
one_only (there i) = elim i [ ]

added : (b : Bool) (j x : ℕ) (ks : List ℕ) → In x (pick b ks (ks ++ j ∷ [])) → In x ks ⊎ (x ≡ j)
added true j x ks i = inl i
added false j x ks i = elim (in_app ks (j ∷ []) i) [ inl a ↦ inl a | inr b ↦ inr (one_only b) ]

with_right : {x : ℕ} (js ks : List ℕ) → In x ks → In x (with_all js ks)
unfolding with_all
with_right [] ks i = i
with_right {x} (j ∷ js) ks i = with_right js (pick (has ks j) ks (ks ++ j ∷ [])) (add_one (has ks j) j x ks i)

with_left : {x : ℕ} {js : List ℕ} (ks : List ℕ) → In x js → In x (with_all js ks)
unfolding with_all
with_left {x} ks (here {ks = js}) = with_right js (pick (has ks x) ks (ks ++ x ∷ [])) (add_itself (has ks x) x ks refl)
with_left {x} ks (there {k = j} {ks = js} i) = with_left (pick (has ks j) ks (ks ++ j ∷ [])) i

with_in : {x : ℕ} (js ks : List ℕ) → In x (with_all js ks) → In x js ⊎ In x ks
unfolding with_all
with_in [] ks i = inr i
with_in {x} (j ∷ js) ks i = go (with_in js (pick (has ks j) ks (ks ++ j ∷ [])) i)
  where
    go : In x js ⊎ In x (pick (has ks j) ks (ks ++ j ∷ [])) → In x (j ∷ js) ⊎ In x ks
    go (inl a) = inl (there a)
    go (inr b) = elim (added (has ks j) j x ks b) [ inl a ↦ inr a | inr e ↦ inl (subst (λ y. In y (j ∷ js)) (sym e) here) ]

in_flat : (f : ℕ → List ℕ) {j k : ℕ} {ks : List ℕ} → In k ks → In j (f k) → In j (flat f ks)
in_flat f here h = in_app_left _ h
in_flat f (there {k} i) h = in_app_right (f k) (in_flat f i h)

flat_in : (f : ℕ → List ℕ) {j : ℕ} (ks : List ℕ) → In j (flat f ks) → (k : ℕ) × In k ks × In j (f k)
flat_in f [] i = elim i [ ]
flat_in f {j} (k ∷ ks) i = go (in_app (f k) (flat f ks) i) (flat_in f ks)
  where
    go : In j (f k) ⊎ In j (flat f ks) → (In j (flat f ks) → (k₁ : ℕ) × In k₁ ks × In j (f k₁)) → (k₁ : ℕ) × In k₁ (k ∷ ks) × In j (f k₁)
    go (inl a) r = (k, here, a)
    go (inr b) r = let t = r b in (t.0, there t.1, t.2)

-- A match of a pattern in the bytes bs, from one place to another.
abbrev fits : List Span → Bool → ℕ → Bool
fits ss v c = pick v (in_spans ss c) (not (in_spans ss c))

pub data Match (bs : List ℕ) : Pattern → ℕ → ℕ → Type 0 where
  m_nothing : {i : ℕ} → Match bs nothing i i
  m_byte : {ss : List Span} {v : Bool} {i : ℕ} (c : ℕ) (cs : List ℕ) → byte_at bs i ≡ c ∷ cs → fits ss v c ≡ true → Match bs (byte ss v) i (suc i)
  m_both : {p q : Pattern} {i j k : ℕ} → Match bs p i k → Match bs q k j → Match bs (both p q) i j
  m_left : {p q : Pattern} {i j : ℕ} → Match bs p i j → Match bs (either p q) i j
  m_right : {p q : Pattern} {i j : ℕ} → Match bs q i j → Match bs (either p q) i j
  m_none : {p : Pattern} {i : ℕ} → Match bs (some p) i i
  m_more : {p : Pattern} {i j k : ℕ} → Match bs p i k → Match bs (some p) k j → Match bs (some p) i j
  m_start : {i : ℕ} → i ≡ 0 → Match bs at_start i i
  m_end : {i : ℕ} → i ≡ length bs → Match bs at_end i i

no_byte_past : (bs : List ℕ) (i c : ℕ) (cs : List ℕ) → byte_at bs i ≡ c ∷ cs → i < length bs
no_byte_past bs i c cs e = go (cases_lt i (length bs))
  where
    go : (i < length bs) ⊎ (length bs ≤ i) → i < length bs
    go (inl h) = h
    go (inr h) = let d : take 1 (drop i bs) ≡ [] = ap (λ x. take 1 x) (drop_of_length-le bs h) in let z : ◌≡◌ {A = ℕ} 0 1 = cc in absurd (omega arith)

pub onward : {bs : List ℕ} {p : Pattern} {i j : ℕ} → Match bs p i j → i ≤ length bs → (i ≤ j) × (j ≤ length bs)
onward m_nothing h = (omega arith, h)
onward {bs} (m_byte {i} c cs e f) h = let g = no_byte_past bs i c cs e in (omega arith, omega arith)
onward (m_both a b) h = let s = onward a h in let t = onward b s.1 in (omega arith, t.1)
onward (m_left a) h = onward a h
onward (m_right a) h = onward a h
onward m_none h = (omega arith, h)
onward (m_more a b) h = let s = onward a h in let t = onward b s.1 in (omega arith, t.1)
onward (m_start e) h = (omega arith, h)
onward (m_end e) h = (omega arith, h)

-- each end is the end of a match
again_sound : (bs : List ℕ) (p : Pattern) (f : ℕ → List ℕ) → ((a b : ℕ) → In b (f a) → Match bs p a b) → (n : ℕ) (ks : List ℕ) (j : ℕ) → In j (again f n ks) → (k : ℕ) × In k ks × Match bs (some p) k j
unfolding again
again_sound bs p f r zero ks j i = (j, i, m_none)
again_sound bs p f r (suc n) ks j i = go (again_sound bs p f r n (with_all (flat f ks) ks) j i)
  where
    on : (k : ℕ) → Match bs (some p) k j → In k (flat f ks) ⊎ In k ks → (k₁ : ℕ) × In k₁ ks × Match bs (some p) k₁ j
    on k m (inl a) = let t = flat_in f ks a in (t.0, t.1, m_more (r t.0 k t.2) m)
    on k m (inr b) = (k, b, m)

    go : (k : ℕ) × In k (with_all (flat f ks) ks) × Match bs (some p) k j → (k₁ : ℕ) × In k₁ ks × Match bs (some p) k₁ j
    go t = on t.0 t.2 (with_in (flat f ks) ks t.1)

again_keeps : (f : ℕ → List ℕ) (n : ℕ) (ks : List ℕ) {j : ℕ} → In j ks → In j (again f n ks)
unfolding again
again_keeps f zero ks i = i
again_keeps f (suc n) ks i = again_keeps f n (with_all (flat f ks) ks) (with_right (flat f ks) ks i)

again_step : (f : ℕ → List ℕ) (n m : ℕ) (ks : List ℕ) {j : ℕ} → n ≡ suc m → In j (again f m (with_all (flat f ks) ks)) → In j (again f n ks)
unfolding again
again_step f n m ks {j} e i = subst (λ x. In j (again f x ks)) (sym e) i

pred_of : (n : ℕ) → 1 ≤ n → (m : ℕ) × (n ≡ suc m)
pred_of zero h = absurd (omega arith)
pred_of (suc m) h = (m, refl)

again_all : {bs : List ℕ} {p : Pattern} {i j : ℕ} (f : ℕ → List ℕ) → ((a b : ℕ) → Match bs p a b → a ≤ length bs → In b (f a)) → (n : ℕ) (ks : List ℕ) → Match bs (some p) i j → In i ks → i ≤ length bs → length bs ≤ n + i → In j (again f n ks)
again_all f r n ks m_none h a b = again_keeps f n ks h
again_all {bs} {p} {i} {j} f r n ks (m_more {k} x y) h a b = go (cases_lt i k) (λ n₁ ks₁. again_all f r n₁ ks₁ y)
  where
    s : (i ≤ k) × (k ≤ length bs)
    s = onward x a

    go : (i < k) ⊎ (k ≤ i) → ((n₁ : ℕ) (ks₁ : List ℕ) → In k ks₁ → k ≤ length bs → length bs ≤ n₁ + k → In j (again f n₁ ks₁)) → In j (again f n ks)
    go (inl l) ih =
        let u : 1 ≤ n = omega (arith, s.1) in
        let t = pred_of n u in
        let e : n ≡ suc t.0 = t.1 in
        again_step f n t.0 ks e (ih t.0 (with_all (flat f ks) ks) (with_left ks (in_flat f h (r i k x a))) s.1 (omega arith))
    go (inr l) ih = let e : i ≡ k = omega (arith, s.0) in ih n ks (subst (λ z. In z ks) e h) s.1 (omega arith)

one_byte_in : (ss : List Span) (v : Bool) (i j c : ℕ) (cs : List ℕ) (t : Bool) → fits ss v c ≡ t → In j (pick t (suc i ∷ []) []) → (j ≡ suc i) × (fits ss v c ≡ true)
one_byte_in ss v i j c cs true e h = (one_only h, e)
one_byte_in ss v i j c cs false e h = elim h [ ]

sound_byte : (bs : List ℕ) (ss : List Span) (v : Bool) (i j : ℕ) (cs : List ℕ) → byte_at bs i ≡ cs → In j (one_byte ss v i cs) → Match bs (byte ss v) i j
sound_byte bs ss v i j [] e h = elim h [ ]
sound_byte bs ss v i j (c ∷ cs) e h =
    let t = one_byte_in ss v i j c cs (fits ss v c) refl h in
    subst (λ x. Match bs (byte ss v) i x) (sym t.0) (m_byte c cs e t.1)

only_if : (b : Bool) (i j : ℕ) → In j (pick b (i ∷ []) []) → (b ≡ true) × (j ≡ i)
only_if true i j h = (refl, one_only h)
only_if false i j h = elim h [ ]

pub sound : (bs : List ℕ) (p : Pattern) (i j : ℕ) → In j (ends bs p i) → Match bs p i j
unfolding ends
sound bs nothing i j h = subst (λ x. Match bs nothing i x) (sym (one_only h)) m_nothing
sound bs (byte ss v) i j h = sound_byte bs ss v i j (byte_at bs i) refl h
sound bs (both p q) i j h = go (with_in (flat (λ k. ends bs q k) (ends bs p i)) [] h) (sound bs p) (sound bs q)
  where
    go : In j (flat (λ k. ends bs q k) (ends bs p i)) ⊎ In j [] → ((a b : ℕ) → In b (ends bs p a) → Match bs p a b) → ((a b : ℕ) → In b (ends bs q a) → Match bs q a b) → Match bs (both p q) i j
    go (inl a) f g = let t = flat_in (λ k. ends bs q k) (ends bs p i) a in m_both (f i t.0 t.1) (g t.0 j t.2)
    go (inr b) f g = elim b [ ]
sound bs (either p q) i j h = go (with_in (ends bs q i) (with_all (ends bs p i) []) h) (sound bs p i j) (sound bs q i j)
  where
    on : In j (ends bs p i) ⊎ In j [] → (In j (ends bs p i) → Match bs p i j) → Match bs (either p q) i j
    on (inl a) f = m_left (f a)
    on (inr b) f = elim b [ ]

    go : In j (ends bs q i) ⊎ In j (with_all (ends bs p i) []) → (In j (ends bs p i) → Match bs p i j) → (In j (ends bs q i) → Match bs q i j) → Match bs (either p q) i j
    go (inl a) f g = m_right (g a)
    go (inr b) f g = on (with_in (ends bs p i) [] b) f
sound bs (some p) i j h =
    let t = again_sound bs p (λ a. ends bs p a) (λ a b. sound bs p a b) (length bs) (i ∷ []) j h in
    subst (λ x. Match bs (some p) x j) (one_only t.1) t.2
sound bs at_start i j h = let t = only_if (eqb i 0) i j h in subst (λ x. Match bs at_start i x) (sym t.1) (m_start (eqb-true i 0 t.0))
sound bs at_end i j h = let t = only_if (eqb i (length bs)) i j h in subst (λ x. Match bs at_end i x) (sym t.1) (m_end (eqb-true i (length bs) t.0))

-- and each match has its end among them
picked : (b : Bool) (i : ℕ) → b ≡ true → In i (pick b (i ∷ []) [])
picked true i e = here
picked false i e = absurd (clash e)

all_byte : (bs : List ℕ) (ss : List Span) (v : Bool) (i : ℕ) (c : ℕ) (cs : List ℕ) → byte_at bs i ≡ c ∷ cs → fits ss v c ≡ true → In (suc i) (one_byte ss v i (byte_at bs i))
all_byte bs ss v i c cs e f = subst (λ x. In (suc i) (one_byte ss v i x)) (sym e) (picked (fits ss v c) (suc i) f)

pub all : {bs : List ℕ} {i j : ℕ} (p : Pattern) → Match bs p i j → i ≤ length bs → In j (ends bs p i)
unfolding ends
all nothing m_nothing h = here
all {bs} (byte ss v) (m_byte {i} c cs e f) h = all_byte bs ss v i c cs e f
all {bs} {i} (both p q) (m_both {k} a b) h = with_left [] (in_flat (λ x. ends bs q x) (all p a h) (all q b (onward a h).1))
all {bs} {i} (either p q) (m_left a) h = with_right (ends bs q i) (with_all (ends bs p i) []) (with_left [] (all p a h))
all {bs} {i} (either p q) (m_right a) h = with_left (with_all (ends bs p i) []) (all q a h)
all {bs} {i} (some p) m_none h = again_keeps (λ a. ends bs p a) (length bs) (i ∷ []) here
all {bs} {i} (some p) (m_more a b) h = again_all (λ x. ends bs p x) (λ x y m l. all p m l) (length bs) (i ∷ []) (m_more a b) here h (omega arith)
all at_start (m_start {i} e) h = picked (eqb i 0) i (eq-eqb i 0 e)
all {bs} at_end (m_end {i} e) h = picked (eqb i (length bs)) i (eq-eqb i (length bs) e)

-- ends go together as patterns do
both_right : (bs : List ℕ) (p q : Pattern) (i j : ℕ) → i ≤ length bs → has (ends bs (both p q) i) j ≡ any (λ k. has (ends bs q k) j) (ends bs p i)
both_right bs p q i j h = same_bool (has (ends bs (both p q) i) j) (any (λ k. has (ends bs q k) j) (ends bs p i)) (λ e. to (sound bs (both p q) i j (has_in (ends bs (both p q) i) j e))) fro
  where
    to : Match bs (both p q) i j → any (λ k. has (ends bs q k) j) (ends bs p i) ≡ true
    to (m_both a b) = in_any (λ k. has (ends bs q k) j) (all p a h) (in_has (all q b (onward a h).1))

    fro : any (λ k. has (ends bs q k) j) (ends bs p i) ≡ true → has (ends bs (both p q) i) j ≡ true
    fro e =
        let t = any_in (λ k. has (ends bs q k) j) (ends bs p i) e in
        in_has (all (both p q) (m_both (sound bs p i t.0 t.1) (sound bs q t.0 j (has_in (ends bs q t.0) j t.2))) h)

either_right : (bs : List ℕ) (p q : Pattern) (i j : ℕ) → i ≤ length bs → has (ends bs (either p q) i) j ≡ or (has (ends bs p i) j) (has (ends bs q i) j)
either_right bs p q i j h = same_bool (has (ends bs (either p q) i) j) (or (has (ends bs p i) j) (has (ends bs q i) j)) (λ e. to (sound bs (either p q) i j (has_in (ends bs (either p q) i) j e))) (λ e. fro (or_cases (has (ends bs p i) j) (has (ends bs q i) j) e))
  where
    to : Match bs (either p q) i j → or (has (ends bs p i) j) (has (ends bs q i) j) ≡ true
    to (m_left a) = or_left (has (ends bs p i) j) (has (ends bs q i) j) (in_has (all p a h))
    to (m_right a) = or_right (has (ends bs p i) j) (has (ends bs q i) j) (in_has (all q a h))

    fro : (has (ends bs p i) j ≡ true) ⊎ (has (ends bs q i) j ≡ true) → has (ends bs (either p q) i) j ≡ true
    fro (inl e) = in_has (all (either p q) (m_left (sound bs p i j (has_in (ends bs p i) j e))) h)
    fro (inr e) = in_has (all (either p q) (m_right (sound bs q i j (has_in (ends bs q i) j e))) h)

some_to : {i j : ℕ} (bs : List ℕ) (p : Pattern) → Match bs (some p) i j → i ≤ length bs → or (has (i ∷ []) j) (any (λ k. has (ends bs (some p) k) j) (ends bs p i)) ≡ true
some_to {i} bs p m_none h = or_left (has (i ∷ []) i) (any (λ k. has (ends bs (some p) k) i) (ends bs p i)) (in_has {ks = i ∷ []} here)
some_to {i} {j} bs p (m_more a b) h = or_right (has (i ∷ []) j) (any (λ k. has (ends bs (some p) k) j) (ends bs p i)) (in_any (λ k. has (ends bs (some p) k) j) (all p a h) (in_has (all (some p) b (onward a h).1)))

some_right : (bs : List ℕ) (p : Pattern) (i j : ℕ) → i ≤ length bs → has (ends bs (some p) i) j ≡ or (has (i ∷ []) j) (any (λ k. has (ends bs (some p) k) j) (ends bs p i))
some_right bs p i j h =
    same_bool (has (ends bs (some p) i) j) (or (has (i ∷ []) j) (any (λ k. has (ends bs (some p) k) j) (ends bs p i)))
    (λ e. some_to bs p (sound bs (some p) i j (has_in (ends bs (some p) i) j e)) h)
    (λ e. fro (or_cases (has (i ∷ []) j) (any (λ k. has (ends bs (some p) k) j) (ends bs p i)) e))
  where
    fro : (has (i ∷ []) j ≡ true) ⊎ (any (λ k. has (ends bs (some p) k) j) (ends bs p i) ≡ true) → has (ends bs (some p) i) j ≡ true
    fro (inl e) = in_has (all (some p) (subst (λ x. Match bs (some p) i x) (sym (one_only (has_in (i ∷ []) j e))) m_none) h)
    fro (inr e) =
        let t = any_in (λ k. has (ends bs (some p) k) j) (ends bs p i) e in
        in_has (all (some p) (m_more (sound bs p i t.0 t.1) (sound bs (some p) t.0 j (has_in (ends bs (some p) t.0) j t.2))) h)

pub ends_right : EndsRight
unfolding EndsRight
ends_right bs p q i j h = (both_right bs p q i j h, either_right bs p q i j h, some_right bs p i j h)

-- the first match
greatest_from : (m : ℕ) (ks : List ℕ) → m ≤ greatest m ks
unfolding greatest
greatest_from m [] = omega arith
greatest_from m (k ∷ ks) = go (ltb m k) refl (λ x. greatest_from x ks)
  where
    go : (b : Bool) → ltb m k ≡ b → ((x : ℕ) → x ≤ greatest x ks) → m ≤ greatest (pick b k m) ks
    go true e r = let a = r k in omega (arith, ltb-true m k e)
    go false e r = r m

greatest_all : {k : ℕ} (m : ℕ) {ks : List ℕ} → In k ks → k ≤ greatest m ks
unfolding greatest
greatest_all {k} m (here {ks}) = go (ltb m k) refl
  where
    go : (b : Bool) → ltb m k ≡ b → k ≤ greatest (pick b k m) ks
    go true e = greatest_from k ks
    go false e = let a = greatest_from m ks in omega (arith, ltb-false m k e)
greatest_all m (there {k = j} i) = greatest_all (pick (ltb m j) j m) i

greatest_is : (m : ℕ) (ks : List ℕ) → (greatest m ks ≡ m) ⊎ In (greatest m ks) ks
unfolding greatest
greatest_is m [] = inl refl
greatest_is m (k ∷ ks) = go (ltb m k) (λ x. greatest_is x ks)
  where
    go : (b : Bool) → ((x : ℕ) → (greatest x ks ≡ x) ⊎ In (greatest x ks) ks) → (greatest (pick b k m) ks ≡ m) ⊎ In (greatest (pick b k m) ks) (k ∷ ks)
    go true r = inr (elim (r k) [ inl e ↦ subst (λ x. In x (k ∷ ks)) (sym e) here | inr i ↦ there i ])
    go false r = elim (r m) [ inl e ↦ inl e | inr i ↦ inr (there i) ]

greatest_in : (ks : List ℕ) → none_of ks ≡ false → In (greatest 0 ks) ks
greatest_in [] e = absurd (clash (sym e))
greatest_in (k ∷ ks) e = go (greatest_is 0 (k ∷ ks))
  where
    go : (greatest 0 (k ∷ ks) ≡ 0) ⊎ In (greatest 0 (k ∷ ks)) (k ∷ ks) → In (greatest 0 (k ∷ ks)) (k ∷ ks)
    go (inl z) = let a = greatest_all {k = k} 0 (here {ks = ks}) in let w : greatest 0 (k ∷ ks) ≡ k = omega arith in subst (λ x. In x (k ∷ ks)) (sym w) here
    go (inr i) = i

none_nil : (ks : List ℕ) → none_of ks ≡ true → ks ≡ []
none_nil [] e = refl
none_nil (k ∷ ks) e = cc

-- what a first match from a place is
record Found (bs : List ℕ) (p : Pattern) (a i j : ℕ) : Type 0 where
  past : a ≤ i
  full : none_of (ends bs p i) ≡ false
  longest : j ≡ greatest 0 (ends bs p i)
  before : (h : ℕ) → a ≤ h → h < i → ends bs p h ≡ []

found : (bs : List ℕ) (p : Pattern) (a n i j : ℕ) → first_match bs p a n ≡ i ∷ j ∷ [] → Found bs p a i j
unfolding first_match
found bs p a zero i j e = let z : ◌≡◌ {A = ℕ} 0 1 = cc in absurd (omega arith)
found bs p a (suc n) i j e = go (none_of (ends bs p a)) refl e (found bs p (suc a) n i j)
  where
    go : (b : Bool) → none_of (ends bs p a) ≡ b → pick b (first_match bs p (suc a) n) (a ∷ greatest 0 (ends bs p a) ∷ []) ≡ i ∷ j ∷ [] → (first_match bs p (suc a) n ≡ i ∷ j ∷ [] → Found bs p (suc a) i j) → Found bs p a i j
    go true t u r =
        let f = r u in
        let before : (h : ℕ) → a ≤ h → h < i → ends bs p h ≡ [] = λ h x y. (let on : (a ≡ h) ⊎ (a ≡ h → ⊥) → ends bs p h ≡ [] = elim [ inl q ↦ subst (λ z. ends bs p z ≡ []) q (none_nil (ends bs p a) t) | inr q ↦ f.before h (omega arith) y ] in on (cases_eq a h)) in
        record { past = omega (arith, f.past); full = f.full; longest = f.longest; before = before }
    go false t u r =
        let e₁ : a ≡ i = cc in
        record { past = omega arith; full = subst (λ x. none_of (ends bs p x) ≡ false) e₁ t; longest = cc; before = λ h x y. absurd (omega arith) }

pub first_longest : FirstLongest
unfolding FirstLongest
first_longest bs p i j e =
    let f = found bs p 0 (suc (length bs)) i j e in (
      in_has (subst (λ x. In x (ends bs p i)) (sym f.longest) (greatest_in (ends bs p i) f.full)),
      (λ k h. let g = greatest_all 0 (has_in (ends bs p i) k h) in omega (arith, f.longest)),
      (λ h l. f.before h (omega arith) l),
    )

-- nothing is swapped
none_found : (bs : List ℕ) (p : Pattern) (a n : ℕ) → first_match bs p a n ≡ [] → (h : ℕ) → a ≤ h → h < a + n → ends bs p h ≡ []
unfolding first_match
none_found bs p a zero e h x y = absurd (omega arith)
none_found bs p a (suc n) e h x y = go (none_of (ends bs p a)) refl e (none_found bs p (suc a) n) (cases_eq a h)
  where
    go : (b : Bool) → none_of (ends bs p a) ≡ b → pick b (first_match bs p (suc a) n) (a ∷ greatest 0 (ends bs p a) ∷ []) ≡ [] → (first_match bs p (suc a) n ≡ [] → (k : ℕ) → suc a ≤ k → k < suc a + n → ends bs p k ≡ []) → (a ≡ h) ⊎ (a ≡ h → ⊥) → ends bs p h ≡ []
    go true t u r (inl q) = subst (λ z. ends bs p z ≡ []) q (none_nil (ends bs p a) t)
    go true t u r (inr q) = r u h (omega arith) (omega arith)
    go false t u r q = cc

byte_drop : (bs : List ℕ) (i : ℕ) → byte_at bs i ++ drop (suc i) bs ≡ drop i bs
byte_drop [] zero = refl
byte_drop [] (suc i) = refl
byte_drop (b ∷ bs) zero = refl
byte_drop (b ∷ bs) (suc i) = byte_drop bs i

swap_idle : (n : ℕ) (bs t : List ℕ) (p : Pattern) (i : ℕ) → ((h : ℕ) → h ≤ length bs → ends bs p h ≡ []) → i ≤ length bs → swap_from n bs p t i false ≡ record { bytes = drop i bs; times = 0 }
unfolding swap_from
swap_idle zero bs t p i f h = refl
swap_idle (suc n) bs t p i f h = rw (f i h) (go (ltb i (length bs)) refl (swap_idle n bs t p (suc i) f))
  where
    go : (b : Bool) → ltb i (length bs) ≡ b → (suc i ≤ length bs → swap_from n bs p t (suc i) false ≡ record { bytes = drop (suc i) bs; times = 0 }) → ◌≡◌ {A = Swapped} (pick b (record { bytes = byte_at bs i ++ (swap_from n bs p t (suc i) false).bytes; times = (swap_from n bs p t (suc i) false).times }) (record { bytes = []; times = 0 })) (record { bytes = drop i bs; times = 0 })
    go true e r = rw (r (ltb-true i (length bs) e)) (ap (λ x. record { bytes = x; times = 0 }) (byte_drop bs i))
    go false e r = ap (λ x. record { bytes = x; times = 0 }) (sym (drop_of_length-le bs (ltb-false i (length bs) e)))

not_false : (b : Bool) → not b ≡ false → b ≡ true
not_false true e = refl
not_false false e = sym e

pub swap_none : SwapNone
unfolding SwapNone
swap_none bs t p e = swap_idle (2 * length bs + 2) bs t p 0 (λ h l. none_found bs p 0 (suc (length bs)) (none_nil (first_match bs p 0 (suc (length bs))) (not_false (none_of (first_match bs p 0 (suc (length bs)))) e)) h (omega arith) (omega arith)) (omega arith)
