-- Pools: each instruction adds at most one entry behind those that are there, and a name is there only once.
use Rattle.std.proofs.Common.{◌≡◌, ℕ, zero, suc, ◌<◌, Bool, true, false, ◌⊎◌, List, [], ◌∷◌, ◌++◌, length, get_or, sym, refl, ap, ◌∙◌, subst, inl, inr, append_assoc, append-nil, arith, length-append}
use lib.ListN.{get_or-append}
use Rattle.language.specs.Text.{pick, or, any, same, Value}
use Rattle.language.proofs.Lists.{same_refl, same_is}
use Rattle.semantics.specs.Invariants.{All, all_none, all_more}
use Rattle.semantics.specs.Stack.{Instr}
use Rattle.assembly.specs.Assembly.{Entry, named, literal, Pool, is_named, slot_of, with_name, is_count, Shape, silent, constant, loads, saves, goes, does, outside, shape, pool_after, translated}
use Rattle.assembly.specs.Laws.{Holds}

-- a test that fails doesn't pass
pub no : {A : Type 0} → false ≡ true → A
no e = absurd (let z : ◌≡◌ {A = ℕ} 0 1 = cc in omega arith)

-- two tests for one name
same_sym : (x y : List ℕ) → same x y ≡ false → same y x ≡ false
same_sym x y h = by_test (same y x) refl
  where
    by_test : (t : Bool) → same y x ≡ t → t ≡ false
    by_test true e = let i = same_is y x e in let j = same_refl x in let k : same x y ≡ true = subst (λ z. same x z ≡ true) (sym i) j in cc
    by_test false e = refl

-- what a shape may add
abbrev pub named_entry : List ℕ → List Entry
named_entry x = pick (is_count x) [] (named x ∷ [])

abbrev pub adds : Shape → List Entry
adds silent = []
adds (constant v) = literal v ∷ []
adds (loads x) = named_entry x
adds (saves x) = named_entry x
adds (goes j q) = []
adds (does o) = []
adds outside = []

-- a pool is another with these entries, or without them, behind it
pub record Grown (π ρ : Pool) (es : List Entry) : Type 0 where
  pub more : List Entry
  pub is : ρ ≡ π ++ more
  pub from : (more ≡ []) ⊎ (more ≡ es)

grown_none : (π : Pool) (es : List Entry) → Grown π π es
grown_none π es = record { more = []; is = sym (append-nil π); from = inl refl }

grown_name : (π : Pool) (x : List ℕ) → Grown π (with_name π x) (named x ∷ [])
unfolding with_name
grown_name [] x = record { more = named x ∷ []; is = refl; from = inr refl }
grown_name (e ∷ π) x = by_test (is_named x e) (grown_name π x)
  where
    by_test : (t : Bool) → Grown π (with_name π x) (named x ∷ []) → Grown (e ∷ π) (pick t (e ∷ π) (e ∷ with_name π x)) (named x ∷ [])
    by_test true g = grown_none (e ∷ π) (named x ∷ [])
    by_test false g = record { more = g.more; is = ap (λ z. e ∷ z) g.is; from = g.from }

grown_unless : (π : Pool) (x : List ℕ) (t : Bool) → Grown π (pick t π (with_name π x)) (pick t [] (named x ∷ []))
grown_unless π x true = grown_none π []
grown_unless π x false = grown_name π x

pub grown : (s : Shape) (π : Pool) → Grown π (pool_after s π) (adds s)
grown silent π = grown_none π []
grown (constant v) π = record { more = literal v ∷ []; is = refl; from = inr refl }
grown (loads x) π = grown_unless π x (is_count x)
grown (saves x) π = grown_unless π x (is_count x)
grown (goes j q) π = grown_none π []
grown (does o) π = grown_none π []
grown outside π = grown_none π []

-- what is in the pool stays where it is
pub holds_more : {π : Pool} {k : ℕ} {e : Entry} (ρ : Pool) → Holds π k e → Holds (π ++ ρ) k e
holds_more {π} {k} ρ h = record { inside = omega (arith, h.inside, length-append π ρ); there = get_or-append π ρ _ k h.inside ∙ h.there }

-- a pool that begins with another
pub record Begins (π ρ : Pool) : Type 0 where
  pub behind : List Entry
  pub is : ρ ≡ π ++ behind

pub begins_self : (π : Pool) → Begins π π
begins_self π = record { behind = []; is = sym (append-nil π) }

pub begins_trans : {π ρ σ : Pool} → Begins π ρ → Begins ρ σ → Begins π σ
begins_trans {π} a b = record { behind = a.behind ++ b.behind; is = b.is ∙ ap (λ z. z ++ b.behind) a.is ∙ append_assoc π a.behind b.behind }

pub begins_holds : {π ρ : Pool} {k : ℕ} {e : Entry} → Begins π ρ → Holds π k e → Holds ρ k e
begins_holds {k} {e} b h = subst (λ z. Holds z k e) (sym b.is) (holds_more b.behind h)

pub begins_after : (s : Shape) (π : Pool) → Begins π (pool_after s π)
begins_after s π = record { behind = (grown s π).more; is = (grown s π).is }

pub begins_translated : (to : ℕ → ℕ) (is : List Instr) (π : Pool) → Begins π (translated to is π).pool
unfolding translated
begins_translated to [] π = begins_self π
begins_translated to (i ∷ is) π = begins_trans (begins_after (shape i) π) (begins_translated to is (pool_after (shape i) π))

-- a constant's slot, and a name's
pub holds_constant : (π : Pool) (v : Value) → Holds (π ++ literal v ∷ []) (length π) (literal v)
holds_constant [] v = record { inside = omega arith; there = refl }
holds_constant (e ∷ π) v = let h = holds_constant π v in record { inside = omega (arith, h.inside); there = h.there }

pub holds_name : (π : Pool) (x : List ℕ) → Holds (with_name π x) (slot_of π x) (named x)
unfolding with_name slot_of
holds_name [] x = record { inside = omega arith; there = refl }
holds_name (e ∷ π) x = by_test (is_named x e) refl (holds_name π x)
  where
    is_the : (e : Entry) → is_named x e ≡ true → e ≡ named x
    is_the (named y) h = ap named (same_is y x h)
    is_the (literal v) h = cc

    by_test : (t : Bool) → is_named x e ≡ t → Holds (with_name π x) (slot_of π x) (named x) → Holds (pick t (e ∷ π) (e ∷ with_name π x)) (pick t 0 (suc (slot_of π x))) (named x)
    by_test true z h = record { inside = omega arith; there = is_the e z }
    by_test false z h = record { inside = omega (arith, h.inside); there = h.there }

-- every entry of a pool
pub all_both : {A : Type 0} {P : A → Type 0} {xs ys : List A} → All P xs → All P ys → All P (xs ++ ys)
all_both all_none b = b
all_both (all_more p a) b = all_more p (all_both a b)

pub all_after : {P : Entry → Type 0} (s : Shape) (π : Pool) → All P (adds s) → All P π → All P (pool_after s π)
all_after {P} s π a h = let g = grown s π in subst (λ z. All P z) (sym g.is) (all_both h (by_from g.from))
  where
    by_from : {es : List Entry} → (es ≡ []) ⊎ (es ≡ adds s) → All P es
    by_from (inl e) = subst (λ z. All P z) (sym e) all_none
    by_from (inr e) = subst (λ z. All P z) (sym e) a

pub all_at : {A : Type 0} {P : A → Type 0} {xs : List A} (d : A) (k : ℕ) → All P xs → k < length xs → P (get_or xs k d)
all_at d k all_none h = absurd (omega arith)
all_at d zero (all_more p a) h = p
all_at d (suc k) (all_more p a) h = all_at d k a (omega arith)

-- names that are all different: none stands behind itself
abbrev has_name : Pool → List ℕ → Bool
has_name π x = any (is_named x) π

abbrev Apart : Pool → Type 0
Apart [] = Unit {0}
Apart (named x ∷ π) = (has_name π x ≡ false) × Apart π
Apart (literal v ∷ π) = Apart π

or_parts : (a b : Bool) → or a b ≡ false → (a ≡ false) × (b ≡ false)
or_parts true b h = (h, cc)
or_parts false b h = (refl, h)

or_none : {a b : Bool} → a ≡ false → b ≡ false → or a b ≡ false
or_none g h = rw (g, h) refl

has_constant : (π : Pool) (v : Value) (y : List ℕ) → has_name π y ≡ false → has_name (π ++ literal v ∷ []) y ≡ false
has_constant [] v y h = refl
has_constant (e ∷ π) v y h = let t = or_parts (is_named y e) (has_name π y) h in or_none t.0 (has_constant π v y t.1)

has_new : (π : Pool) (x y : List ℕ) → has_name π y ≡ false → same x y ≡ false → has_name (with_name π x) y ≡ false
unfolding with_name
has_new [] x y h d = or_none d refl
has_new (e ∷ π) x y h d = by_test (is_named x e) (has_new π x y t.1 d)
  where
    t : (is_named y e ≡ false) × (has_name π y ≡ false)
    t = or_parts (is_named y e) (has_name π y) h

    by_test : (b : Bool) → has_name (with_name π x) y ≡ false → has_name (pick b (e ∷ π) (e ∷ with_name π x)) y ≡ false
    by_test true k = h
    by_test false k = or_none t.0 k

apart_constant : (π : Pool) (v : Value) → Apart π → Apart (π ++ literal v ∷ [])
apart_constant [] v a = tt
apart_constant (named x ∷ π) v a = (has_constant π v x a.0, apart_constant π v a.1)
apart_constant (literal u ∷ π) v a = apart_constant π v a

apart_name : (π : Pool) (x : List ℕ) → Apart π → Apart (with_name π x)
unfolding with_name
apart_name [] x a = (refl, tt)
apart_name (named y ∷ π) x a = by_test (same y x) refl (apart_name π x a.1)
  where
    by_test : (b : Bool) → same y x ≡ b → Apart (with_name π x) → Apart (pick b (named y ∷ π) (named y ∷ with_name π x))
    by_test true z k = a
    by_test false z k = (has_new π x y a.0 (same_sym y x z), k)
apart_name (literal v ∷ π) x a = apart_name π x a

apart_unless : (π : Pool) (x : List ℕ) (t : Bool) → Apart π → Apart (pick t π (with_name π x))
apart_unless π x true a = a
apart_unless π x false a = apart_name π x a

apart_after : (s : Shape) (π : Pool) → Apart π → Apart (pool_after s π)
apart_after silent π a = a
apart_after (constant v) π a = apart_constant π v a
apart_after (loads x) π a = apart_unless π x (is_count x) a
apart_after (saves x) π a = apart_unless π x (is_count x) a
apart_after (goes j q) π a = a
apart_after (does o) π a = a
apart_after outside π a = a

-- the slot that has a name is the one that is found
holds_has : (π : Pool) (k : ℕ) (x : List ℕ) → Holds π k (named x) → has_name π x ≡ true
holds_has [] k x h = absurd (omega (arith, h.inside))
holds_has (e ∷ π) zero x h = rw (ap (is_named x) h.there ∙ same_refl x) refl
holds_has (e ∷ π) (suc k) x h = or_true (is_named x e) (holds_has π k x (record { inside = omega (arith, h.inside); there = h.there }))
  where
    or_true : (b : Bool) {c : Bool} → c ≡ true → or b c ≡ true
    or_true true z = refl
    or_true false z = z

slot_is : (π : Pool) (k : ℕ) (x : List ℕ) → Apart π → Holds π k (named x) → k ≡ slot_of π x
unfolding slot_of
slot_is [] k x a h = absurd (omega (arith, h.inside))
slot_is (e ∷ π) zero x a h = rw (ap (is_named x) h.there ∙ same_refl x) refl
slot_is (literal v ∷ π) (suc k) x a h = ap suc (slot_is π k x a (record { inside = omega (arith, h.inside); there = h.there }))
slot_is (named y ∷ π) (suc k) x a h = by_test (same y x) refl (slot_is π k x a.1 below)
  where
    below : Holds π k (named x)
    below = record { inside = omega (arith, h.inside); there = h.there }

    by_test : (b : Bool) → same y x ≡ b → k ≡ slot_of π x → suc k ≡ pick b 0 (suc (slot_of π x))
    by_test true z e = let i = same_is y x z in let f : has_name π x ≡ false = subst (λ w. has_name π w ≡ false) i a.0 in let g = holds_has π k x below in cc
    by_test false z e = ap suc e

-- RIGHT POOLS: names are different, and none is a count.
abbrev Uncounted : Entry → Type 0
Uncounted (named x) = is_count x ≡ false
Uncounted (literal v) = Unit {0}

pub record Right (π : Pool) : Type 0 where
  apart : Apart π
  uncounted : All Uncounted π

uncounted_name : (x : List ℕ) (t : Bool) → is_count x ≡ t → All Uncounted (pick t [] (named x ∷ []))
uncounted_name x true e = all_none
uncounted_name x false e = all_more e all_none

uncounted_adds : (s : Shape) → All Uncounted (adds s)
uncounted_adds silent = all_none
uncounted_adds (constant v) = all_more tt all_none
uncounted_adds (loads x) = uncounted_name x (is_count x) refl
uncounted_adds (saves x) = uncounted_name x (is_count x) refl
uncounted_adds (goes j q) = all_none
uncounted_adds (does o) = all_none
uncounted_adds outside = all_none

pub right_none : Right []
right_none = record { apart = tt; uncounted = all_none }

pub right_translated : (to : ℕ → ℕ) (is : List Instr) (π : Pool) → Right π → Right (translated to is π).pool
unfolding translated
right_translated to [] π r = r
right_translated to (i ∷ is) π r =
    right_translated to is (pool_after (shape i) π) (record { apart = apart_after (shape i) π r.apart; uncounted = all_after (shape i) π (uncounted_adds (shape i)) r.uncounted })

pub right_slot : {π : Pool} {k : ℕ} {x : List ℕ} → Right π → Holds π k (named x) → k ≡ slot_of π x
right_slot {π} {k} {x} r h = slot_is π k x r.apart h

pub right_count : {π : Pool} {k : ℕ} {x : List ℕ} → Right π → Holds π k (named x) → is_count x ≡ false
right_count {π} {k} {x} r h = subst (λ e. Uncounted e) h.there (all_at _ k r.uncounted h.inside)
