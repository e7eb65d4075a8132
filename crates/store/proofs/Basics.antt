-- Lists of cells: what is live, how wide they are, where they are laid.
use Rattle.std.proofs.Common.{◌≡◌, ℕ, ◌+◌, ◌<◌, ◌≤◌, ◌≢◌, List, [], ◌∷◌, ◌++◌, length, get_or, sym, refl, ap, ◌∙◌, subst, inl, inr, append_assoc, add-zero, add_assoc, zero-add, arith, length-append, le-ltb, lt-ltb, eq-eqb, ne_eqb}
use Rattle.std.proofs.lemmas.Bool.{cases_lt, cases_eq}
use Rattle.store.specs.Space.{span}
use Rattle.store.specs.Model.{Cell, encoded, laid, live, extent, names, is, occ, Placed, Linked}

-- tests

pub is_same : (h x : ℕ) → h ≡ x → is h x ≡ 1
is_same h x e = rw (eq-eqb h x e)

pub is_other : (h x : ℕ) → h ≢ x → is h x ≡ 0
is_other h x e = rw (ne_eqb h x e)

pub occ_append : (h : ℕ) (xs ys : List ℕ) → occ h (xs ++ ys) ≡ occ h xs + occ h ys
occ_append h [] ys = sym (zero-add (occ h ys))
occ_append h (x ∷ xs) ys = omega (arith, occ_append h xs ys)

pub occ_le : (h : ℕ) (xs : List ℕ) → occ h xs ≤ length xs
occ_le h [] = omega arith
occ_le h (x ∷ xs) = elim (cases_eq h x) [ inl e ↦ omega (arith, is_same h x e, occ_le h xs) | inr e ↦ omega (arith, is_other h x e, occ_le h xs) ]

pub names_append : (xs ys : List Cell) → names (xs ++ ys) ≡ names xs ++ names ys
names_append [] ys = refl
names_append (c ∷ xs) ys = ap (λ t. c.handle ∷ t) (names_append xs ys)

pub occ_names : (h : ℕ) (xs ys : List Cell) → occ h (names (xs ++ ys)) ≡ occ h (names xs) + occ h (names ys)
occ_names h xs ys = ap (occ h) (names_append xs ys) ∙ occ_append h (names xs) (names ys)

pub laid_append : (xs ys : List Cell) → laid (xs ++ ys) ≡ laid xs ++ laid ys
laid_append [] ys = refl
laid_append (c ∷ xs) ys = ap (λ t. encoded c ++ t) (laid_append xs ys) ∙ sym (append_assoc (encoded c) (laid xs) (laid ys))

pub extent_append : (xs ys : List Cell) → extent (xs ++ ys) ≡ extent xs + extent ys
extent_append [] ys = sym (zero-add (extent ys))
extent_append (c ∷ xs) ys = omega (arith, extent_append xs ys)

pub live_in : (T : ℕ) (c : Cell) (cs : List Cell) → c.handle < T → live T (c ∷ cs) ≡ c ∷ live T cs
live_in T c cs h = rw (lt-ltb c.handle T h)

pub live_out : (T : ℕ) (c : Cell) (cs : List Cell) → T ≤ c.handle → live T (c ∷ cs) ≡ live T cs
live_out T c cs h = rw (le-ltb c.handle T h)

pub live_append : (T : ℕ) (xs ys : List Cell) → live T (xs ++ ys) ≡ live T xs ++ live T ys
live_append T [] ys = refl
live_append T (c ∷ xs) ys =
    elim (cases_lt c.handle T) [
      | inl h ↦ live_in T c (xs ++ ys) h ∙ ap (λ t. c ∷ t) (live_append T xs ys) ∙ ap (λ t. t ++ live T ys) (sym (live_in T c xs h))
      | inr h ↦ live_out T c (xs ++ ys) h ∙ live_append T xs ys ∙ ap (λ t. t ++ live T ys) (sym (live_out T c xs h))
    ]

pub live_live : (T : ℕ) (cs : List Cell) → live T (live T cs) ≡ live T cs
live_live T [] = refl
live_live T (c ∷ cs) =
    elim (cases_lt c.handle T) [
      | inl h ↦ ap (live T) (live_in T c cs h) ∙ live_in T c (live T cs) h ∙ ap (λ t. c ∷ t) (live_live T cs) ∙ sym (live_in T c cs h)
      | inr h ↦ ap (live T) (live_out T c cs h) ∙ live_live T cs ∙ sym (live_out T c cs h)
    ]

pub names_live : (T h : ℕ) (cs : List Cell) → h < T → occ h (names (live T cs)) ≡ occ h (names cs)
names_live T h [] l = refl
names_live T h (c ∷ cs) l =
    elim (cases_lt c.handle T) [
      | inl k ↦ ap (λ t. occ h (names t)) (live_in T c cs k) ∙ ap (λ n. is h c.handle + n) (names_live T h cs l)
      | inr k ↦ ap (λ t. occ h (names t)) (live_out T c cs k) ∙ names_live T h cs l ∙ (omega (arith, is_other h c.handle (omega arith)))
    ]

pub extent_live : (T : ℕ) (cs : List Cell) → extent (live T cs) ≤ extent cs
extent_live T [] = omega arith
extent_live T (c ∷ cs) =
    elim (cases_lt c.handle T) [
      | inl k ↦ omega (arith, ap extent (live_in T c cs k), extent_live T cs)
      | inr k ↦ omega (arith, ap extent (live_out T c cs k), extent_live T cs)
    ]

pub length_le_extent : (cs : List Cell) → length cs ≤ extent cs
length_le_extent [] = omega arith
length_le_extent (c ∷ cs) = omega (arith, length_le_extent cs)

-- places

pub length_laid : (T : ℕ) (t : List ℕ) (o : ℕ) (cs : List Cell) → Placed T t o cs → length (laid cs) ≡ extent cs
length_laid T t o [] p = refl
length_laid T t o (c ∷ cs) p = omega (arith, length-append (encoded c) (laid cs), p.0.wide, length_laid T t (o + span c.size) cs p.1)

pub placed_same : (T : ℕ) (t u : List ℕ) (o : ℕ) (cs : List Cell) → ((h : ℕ) → h < T → 1 ≤ occ h (names cs) → get_or u h 0 ≡ get_or t h 0) →
    Placed T t o cs → Placed T u o cs
placed_same T t u o [] e p = tt
placed_same T t u o (c ∷ cs) e p = (
  record { wide = p.0.wide; at = λ h. e c.handle h (omega (arith, is_same c.handle c.handle refl)) ∙ p.0.at h; counted = p.0.counted },
  placed_same T t u (o + span c.size) cs (λ h k l. e h k (omega arith)) p.1,
)

pub linked_same : (T : ℕ) (t u : List ℕ) (f : ℕ) (fs : List ℕ) → ((h : ℕ) → h < T → 1 ≤ occ h fs → get_or u h 0 ≡ get_or t h 0) →
    Linked T t f fs → Linked T u f fs
linked_same T t u f [] e p = p
linked_same T t u f (x ∷ fs) e p = (
  p.0,
  p.1,
  linked_same T t u (get_or u x 0) fs (λ h k l. e h k (omega arith))
      (let q : get_or t x 0 ≡ get_or u x 0 = sym (e x p.1 (omega (arith, is_same x x refl))) in subst (λ y. Linked T t y fs) q p.2),
)

pub placed_append : (T : ℕ) (t : List ℕ) (o : ℕ) (xs ys : List Cell) → Placed T t o xs → Placed T t (o + extent xs) ys → Placed T t o (xs ++ ys)
placed_append T t o [] ys p q = rw add-zero at q
placed_append T t o (c ∷ xs) ys p q =
    (p.0, placed_append T t (o + span c.size) xs ys p.1 (subst (λ y. Placed T t y ys) (sym (add_assoc o (span c.size) (extent xs))) q))

pub placed_left : (T : ℕ) (t : List ℕ) (o : ℕ) (xs ys : List Cell) → Placed T t o (xs ++ ys) → Placed T t o xs
placed_left T t o [] ys p = tt
placed_left T t o (c ∷ xs) ys p = (p.0, placed_left T t (o + span c.size) xs ys p.1)

pub placed_right : (T : ℕ) (t : List ℕ) (o : ℕ) (xs ys : List Cell) → Placed T t o (xs ++ ys) → Placed T t (o + extent xs) ys
placed_right T t o [] ys p = rw add-zero p
placed_right T t o (c ∷ xs) ys p = subst (λ y. Placed T t y ys) (add_assoc o (span c.size) (extent xs)) (placed_right T t (o + span c.size) xs ys p.1)
