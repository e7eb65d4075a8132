-- Tables hold what was set last.
use Rattle.std.proofs.Common.{◌≡◌, ℕ, Bool, true, false, ◌&&◌, List, [], ◌∷◌, refl}
use Rattle.std.proofs.lemmas.Bool.{and_parts}
use Rattle.language.specs.Text.{pick, same, Value}
use Rattle.language.specs.Meaning.{Item, item_of, set_item, is_item, stands_before}
use Rattle.language.specs.Promise.{ItemsRight}
use Rattle.language.proofs.Lists.{same_refl, same_is}

-- where an item is found, and another under the same name and key is looked for
item_both : (x k : List ℕ) (i : Item) → is_item x k i ≡ true → (i.table ≡ x) × (i.key ≡ k)
item_both x k i e = let t = and_parts (same i.table x) (same i.key k) e in (same_is i.table x t.0, same_is i.key k t.1)

abbrev new_item : List ℕ → List ℕ → Value → Item
new_item x k v = record { table = x; key = k; worth = v }

set_same : (is : List Item) (x k : List ℕ) (v : Value) → item_of (set_item is x k v) x k ≡ v
unfolding set_item item_of
set_same [] x k v = rw (same_refl x, same_refl k)
set_same (i ∷ is) x k v = at_item (is_item x k i) refl (stands_before x k i) (set_same is x k v)
  where
    at_item : (b : Bool) → is_item x k i ≡ b → (c : Bool) → item_of (set_item is x k v) x k ≡ v → item_of (pick b (new_item x k v ∷ is) (pick c (new_item x k v ∷ i ∷ is) (i ∷ set_item is x k v))) x k ≡ v
    at_item true e c r = rw (same_refl x, same_refl k)
    at_item false e true r = rw (same_refl x, same_refl k)
    at_item false e false r = rw e r

set_other : (is : List Item) (x k y j : List ℕ) (v : Value) → same x y && same k j ≡ false → item_of (set_item is x k v) y j ≡ item_of is y j
unfolding set_item item_of
set_other [] x k y j v n = rw n
set_other (i ∷ is) x k y j v n = at_item (is_item x k i) refl (stands_before x k i) (set_other is x k y j v n)
  where
    at_item : (b : Bool) → is_item x k i ≡ b → (c : Bool) → item_of (set_item is x k v) y j ≡ item_of is y j →
        item_of (pick b (new_item x k v ∷ is) (pick c (new_item x k v ∷ i ∷ is) (i ∷ set_item is x k v))) y j ≡ pick (is_item y j i) i.worth (item_of is y j)
    at_item true e c r =
        let t = item_both x k i e in
        let w : is_item y j i ≡ false = rw (t.0, t.1) n in
        rw (n, w)
    at_item false e true r = rw n
    at_item false e false r = rw r

pub items_right : ItemsRight
unfolding ItemsRight
items_right is x k y j v = (set_same is x k v, λ n. set_other is x k y j v n)
