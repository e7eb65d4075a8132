-- Slots of names and constants: what a state holds under them, and how much that is.
use Rattle.std.proofs.Common.{◌≡◌, ℕ, zero, suc, ◌+◌, ◌<◌, ◌≤◌, Bool, true, false, List, [], ◌∷◌, length, get_or, sym, refl, ap, ◌∙◌, subst, le_refl, arith}
use Rattle.language.specs.Text.{pick, same, added_up, Value, text}
use Rattle.language.specs.Meaning.{Bind, bound, set_bound, size_of, binds_size}
use Rattle.language.proofs.Lists.{same_refl, same_is}
use Rattle.assembly.specs.Assembly.{Entry, named, literal, Pool}
use Rattle.representation.specs.Room.{Apart}

pub bound_same : (bs : List Bind) (x : List ℕ) (v : Value) → bound (set_bound bs x v) x ≡ v ∷ []
unfolding bound set_bound
bound_same [] x v = rw (same_refl x)
bound_same (b ∷ bs) x v = by (same b.name x) refl (bound_same bs x v)
  where
    by : (t : Bool) → same b.name x ≡ t → bound (set_bound bs x v) x ≡ v ∷ [] → bound (pick (same b.name x) (record { name = x; worth = v } ∷ bs) (b ∷ set_bound bs x v)) x ≡ v ∷ []
    by true e ih = rw (e, same_refl x)
    by false e ih = rw (e, e) ih

pub bound_other : (bs : List Bind) (x y : List ℕ) (v : Value) → same x y ≡ false → bound (set_bound bs x v) y ≡ bound bs y
unfolding bound set_bound
bound_other [] x y v h = rw h
bound_other (b ∷ bs) x y v h = by (same b.name x) refl (bound_other bs x y v h)
  where
    by : (t : Bool) → same b.name x ≡ t → bound (set_bound bs x v) y ≡ bound bs y →
        bound (pick (same b.name x) (record { name = x; worth = v } ∷ bs) (b ∷ set_bound bs x v)) y ≡ pick (same b.name y) (b.worth ∷ []) (bound bs y)
    by true e ih = rw (e, h, same_is b.name x e, h)
    by false e ih = rw (e, ih)

-- SUMS over the slots
unfoldable pub over : (ℕ → ℕ) → ℕ → ℕ
over f zero = 0
over f (suc n) = f n + over f n

over_none : (f : ℕ → ℕ) (n : ℕ) → ((k : ℕ) → f k ≡ 0) → over f n ≡ 0
unfolding over
over_none f zero h = refl
over_none f (suc n) h = rw (h n, over_none f n h)

over_same : (f g : ℕ → ℕ) (n : ℕ) → ((k : ℕ) → k < n → f k ≡ g k) → over f n ≡ over g n
unfolding over
over_same f g zero h = refl
over_same f g (suc n) h = rw (h n (le_refl (suc n)), over_same f g n (λ k l. h k (omega arith)))

pub over_add : (f g : ℕ → ℕ) (n : ℕ) → over (λ k. f k + g k) n ≡ over f n + over g n
unfolding over
over_add f g zero = refl
over_add f g (suc n) = omega (arith, over_add f g n)

-- from the front
over_front : (f : ℕ → ℕ) (n : ℕ) → over f (suc n) ≡ f 0 + over (λ k. f (suc k)) n
unfolding over
over_front f zero = refl
over_front f (suc n) = omega (arith, over_front f n)

pub over_list : (f : Entry → ℕ) (π : Pool) (d : Entry) → over (λ k. f (get_or π k d)) (length π) ≡ added_up f π
over_list f [] d = unfold over in refl
over_list f (e ∷ π) d = over_front (λ k. f (get_or (e ∷ π) k d)) (length π) ∙ ap (λ z. f e + z) (over_list f π d)

-- what the value of a name that was set takes
abbrev pub set_size : List Value → ℕ
set_size [] = 0
set_size (v ∷ vs) = 16 + size_of v

-- what the variable of a slot takes
abbrev pub name_size : List Bind → Entry → ℕ
name_size bs (named x) = set_size (bound bs x)
name_size bs (literal v) = 0

none_bound : (e : Entry) → name_size [] e ≡ 0
unfolding bound
none_bound (named x) = refl
none_bound (literal v) = refl

abbrev pub at_slot : List Bind → Pool → ℕ → ℕ
at_slot bs π k = name_size bs (get_or π k (literal (text [])))

-- a slot of another name takes as much as before
other_slot : (b : Bind) (bs : List Bind) (e : Entry) → (e ≡ named b.name → ⊥) → name_size (b ∷ bs) e ≡ name_size bs e
unfolding bound
other_slot b bs (named x) h = by (same b.name x) refl
  where
    by : (t : Bool) → same b.name x ≡ t → set_size (pick (same b.name x) (b.worth ∷ []) (bound bs x)) ≡ set_size (bound bs x)
    by true e = absurd (h (ap named (sym (same_is b.name x e))))
    by false e = rw e
other_slot b bs (literal v) h = refl

-- and any takes at most that much more
any_slot : (b : Bind) (bs : List Bind) (e : Entry) → name_size (b ∷ bs) e ≤ 16 + size_of b.worth + name_size bs e
unfolding bound
any_slot b bs (named x) = by (same b.name x)
  where
    by : (t : Bool) → set_size (pick t (b.worth ∷ []) (bound bs x)) ≤ 16 + size_of b.worth + set_size (bound bs x)
    by true = omega arith
    by false = omega arith
any_slot b bs (literal v) = omega arith

data IsName (e : Entry) (x : List ℕ) : Type 0 where
  it_is : e ≡ named x → IsName e x
  it_is_not : (e ≡ named x → ⊥) → IsName e x

abbrev name_in : Entry → List ℕ
name_in (named y) = y
name_in (literal v) = []

abbrev Literal : Entry → Type 0
Literal (named y) = ⊥
Literal (literal v) = Unit {0}

is_name : (e : Entry) (x : List ℕ) → IsName e x
is_name (named y) x = by (same y x) refl
  where
    by : (t : Bool) → same y x ≡ t → IsName (named y) x
    by true e = it_is (ap named (same_is y x e))
    by false e = it_is_not (λ q. let z : true ≡ false = sym (same_refl x) ∙ ap (λ w. same w x) (sym (ap name_in q)) ∙ e in let o : ◌≡◌ {A = ℕ} 0 1 = cc in omega arith)
is_name (literal v) x = it_is_not (λ q. subst Literal q tt)

one_more : (b : Bind) (bs : List Bind) (π : Pool) → Apart π → (n : ℕ) → n ≤ length π → over (at_slot (b ∷ bs) π) n ≤ 16 + size_of b.worth + over (at_slot bs π) n
unfolding over
one_more b bs π a zero h = omega arith
one_more b bs π a (suc n) h = by (is_name (get_or π n (literal (text []))) b.name) (one_more b bs π a n (omega arith))
  where
    by : IsName (get_or π n (literal (text []))) b.name → over (at_slot (b ∷ bs) π) n ≤ 16 + size_of b.worth + over (at_slot bs π) n →
        at_slot (b ∷ bs) π n + over (at_slot (b ∷ bs) π) n ≤ 16 + size_of b.worth + (at_slot bs π n + over (at_slot bs π) n)
    by (it_is e) ih =
        let o : over (at_slot (b ∷ bs) π) n ≡ over (at_slot bs π) n
        = over_same (at_slot (b ∷ bs) π) (at_slot bs π) n (λ k l. other_slot b bs (get_or π k (literal (text []))) (λ q. omega (arith, a k n b.name (omega arith) (omega arith) q e))) in
        omega (arith, o, any_slot b bs (get_or π n (literal (text []))))
    by (it_is_not e) ih = omega (arith, ih, other_slot b bs (get_or π n (literal (text []))) e)

-- all slots together take no more than the state's variables do
pub slots_size : (bs : List Bind) (π : Pool) → Apart π → over (at_slot bs π) (length π) ≤ binds_size bs
unfolding binds_size
slots_size [] π a =
    let o : over (at_slot [] π) (length π) ≡ 0 = over_none (at_slot [] π) (length π) (λ k. none_bound (get_or π k (literal (text [])))) in
    omega (arith, o)
slots_size (b ∷ bs) π a =
    let ih : over (at_slot bs π) (length π) ≤ added_up (λ c. 16 + length c.name + size_of c.worth) bs = slots_size bs π a in
    omega (arith, ih, one_more b bs π a (length π) (le_refl (length π)))
