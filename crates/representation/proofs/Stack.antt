-- What the operations do to the stack and to the slots, as moves one after the other.
use Rattle.std.proofs.Common.{◌≡◌, ℕ, zero, suc, ◌+◌, ◌-◌, ◌<◌, ◌≤◌, ◌≢◌, List, [], ◌∷◌, length, get_or, sym, refl, ap, ◌∙◌, subst, arith}
use Rattle.language.specs.Text
use Rattle.language.specs.Text.{each, text}
use Rattle.language.specs.Meaning.{Bind}
use Rattle.store.specs.declared.cells.Value.{Value}
use Rattle.store.specs.declared.cells.Value.TheVariants.{Unset}
use Rattle.store.specs.Model.{occ}
use Rattle.store.specs.Values.{decoded, held_by}
use Rattle.store.specs.Worth.{meant, Plain}
use Rattle.regions.specs.Parts.{Parts}
use Rattle.assembly.specs.Assembly.{literal, Pool}
use Rattle.interp.specs.Turns.{holding, releasing, stacking, worth_in}
use Rattle.interp.specs.Slots.{slotting}
use Rattle.representation.specs.Values.{tops, holders, entry_worth, Holds}
use Rattle.representation.proofs.Cells.{plain_at, held_member}
use Rattle.representation.proofs.Moves.{occ_all, first_of, rest_of, pops, pushes, frees, holds_more, stores}
use Rattle.representation.proofs.Making.{worth_held}

-- how many values there are
tops_length : (said : ℕ → List ℕ) (cs : List Value) (n : ℕ) → length (each (meant said) (tops cs n)) ≡ n
unfolding tops
tops_length said cs zero = refl
tops_length said cs (suc n) = ap suc (tops_length said cs n)

abbrev SomeValue : List Text.Value → Type 0
SomeValue [] = ⊥
SomeValue (u ∷ us) = Unit {0}

module _ {π : Pool} {bs : List Bind} where
  pub depth_is : {hand : List Value} {ws : List Text.Value} {m : Parts} {n : ℕ} {us : List Text.Value} → Holds π hand ws m n us bs → n ≡ length us
  depth_is {hand} {ws} {m} {n} {us} H = sym (tops_length H.said (decoded m.stack) n) ∙ ap length H.on_stack

  -- the top, and the value under it, are worth what they should

  pub top_held : {hand : List Value} {ws : List Text.Value} {m : Parts} {n i : ℕ} {us : List Text.Value} → Holds π hand ws m n us bs → i < n →
      (k : ℕ) → occ k (held_by (get_or (decoded m.stack) i Unset)) ≤ occ k (holders hand m n (length π))
  top_held {hand} {ws} {m} {n} {i} H l k = omega (arith, occ_all k hand m n (length π), held_member k (decoded m.stack) n i l)

  pub top_worth : {hand : List Value} {ws : List Text.Value} {m : Parts} (d : ℕ) {u : Text.Value} {us : List Text.Value} → Holds π hand ws m d (u ∷ us) bs → worth_in m (get_or (decoded m.stack) (d - 1) Unset) ≡ u
  unfolding tops
  top_worth zero H = absurd (subst SomeValue (sym H.on_stack) tt)
  top_worth {hand} {ws} {m} (suc n) H =
      let q : suc n - 1 ≡ n = omega arith in
      rw q (worth_held H (get_or (decoded m.stack) n Unset) (top_held H (omega arith)) ∙ ap first_of H.on_stack)

  pub under_worth : {hand : List Value} {ws : List Text.Value} {m : Parts} (d : ℕ) {u v : Text.Value} {us : List Text.Value} → Holds π hand ws m d (u ∷ v ∷ us) bs → worth_in m (get_or (decoded m.stack) (d - 2) Unset) ≡ v
  unfolding tops
  under_worth zero H = absurd (subst SomeValue (sym H.on_stack) tt)
  under_worth (suc zero) H = absurd (subst SomeValue (ap rest_of (sym H.on_stack)) tt)
  under_worth {hand} {ws} {m} (suc (suc n)) H =
      let q : suc (suc n) - 2 ≡ n = omega arith in
      rw q (worth_held H (get_or (decoded m.stack) n Unset) (top_held H (omega arith)) ∙ ap (λ w. first_of (rest_of w)) H.on_stack)

  -- the top is gone
  pub drops : {hand : List Value} {ws : List Text.Value} {m : Parts} (d : ℕ) {u : Text.Value} {us : List Text.Value} → Holds π hand ws m d (u ∷ us) bs →
      Holds π hand ws (releasing m (get_or (decoded m.stack) (d - 1) Unset)) (d - 1) us bs
  unfolding tops
  drops zero H = absurd (subst SomeValue (sym H.on_stack) tt)
  drops {hand} {ws} {m} (suc n) {u} {us} H =
      let q : suc n - 1 ≡ n = omega arith in
      rw q (frees (get_or (decoded m.stack) n Unset) u (pops u H))

  -- what is in the hand comes in place of the top
  pub replaces : {m : Parts} (d : ℕ) (v : Value) {w u : Text.Value} {us : List Text.Value} → Plain v → Holds π (v ∷ []) (w ∷ []) m d (u ∷ us) bs →
      Holds π [] [] (stacking (releasing m (get_or (decoded m.stack) (d - 1) Unset)) (d - 1) v) d (w ∷ us) bs
  unfolding tops
  replaces zero v p H = absurd (subst SomeValue (sym H.on_stack) tt)
  replaces {m} (suc n) v {w} {u} {us} p H =
      let q : suc n - 1 ≡ n = omega arith in
      rw q (pushes v w p (omega (arith, H.deep)) (frees (get_or (decoded m.stack) n Unset) u (pops u H)))

  -- and in place of the two on top
  pub replaces_two : {m : Parts} (d : ℕ) (v : Value) {w u x : Text.Value} {us : List Text.Value} → Plain v → Holds π (v ∷ []) (w ∷ []) m d (u ∷ x ∷ us) bs →
      Holds π [] [] (stacking (releasing (releasing m (get_or (decoded m.stack) (d - 1) Unset)) (get_or (decoded m.stack) (d - 2) Unset)) (d - 2) v) (d - 2 + 1) (w ∷ us) bs
  unfolding tops
  replaces_two zero v p H = absurd (subst SomeValue (sym H.on_stack) tt)
  replaces_two (suc zero) v p H = absurd (subst SomeValue (ap rest_of (sym H.on_stack)) tt)
  replaces_two {m} (suc (suc n)) v {w} {u} {x} {us} p H =
      let a : suc (suc n) - 1 ≡ suc n = omega arith in
      let c : suc (suc n) - 2 ≡ n = omega arith in
      let e : n + 1 ≡ suc n = omega arith in
      rw (a, c, e) (pushes v w p (omega (arith, H.deep)) (frees (get_or (decoded m.stack) n Unset) x (pops x (frees (get_or (decoded m.stack) (suc n) Unset) u (pops u H)))))

  -- a value that is held comes onto the stack
  pub loads : {m : Parts} {d : ℕ} {us : List Text.Value} (v : Value) (w : Text.Value) → Plain v → d < 16416 → (H : Holds π [] [] m d us bs) →
      ((k : ℕ) → occ k (held_by v) ≤ occ k (holders [] m d (length π))) → meant H.said v ≡ w → Holds π [] [] (stacking (holding m v) d v) (d + 1) (w ∷ us) bs
  loads {m} {d} v w p l H f e = let q : d + 1 ≡ suc d = omega arith in rw q (pushes v w p l (holds_more v w H f e))

  pub slot_held : {m : Parts} {n i : ℕ} {us : List Text.Value} → Holds π [] [] m n us bs → i < length π → (k : ℕ) → occ k (held_by (get_or (decoded m.slots) i Unset)) ≤ occ k (holders [] m n (length π))
  slot_held {m} {n} {i} H l k = omega (arith, occ_all k [] m n (length π), held_member k (decoded m.slots) (length π) i l)

  -- the top goes into a slot too
  pub saves : {m : Parts} (d : ℕ) {u : Text.Value} {us : List Text.Value} (i : ℕ) (cs : List Bind) → i < length π → entry_worth cs (get_or π i (literal (text []))) ≡ u →
      ((k : ℕ) → k < length π → k ≢ i → entry_worth cs (get_or π k (literal (text []))) ≡ entry_worth bs (get_or π k (literal (text [])))) → Holds π [] [] m d (u ∷ us) bs →
      Holds π [] [] (slotting (releasing (holding m (get_or (decoded m.stack) (d - 1) Unset)) (get_or (decoded m.slots) i Unset)) i (get_or (decoded m.stack) (d - 1) Unset)) d (u ∷ us) cs
  unfolding tops
  saves zero i cs l e f H = absurd (subst SomeValue (sym H.on_stack) tt)
  saves {m} (suc n) {u} {us} i cs l e f H =
      let q : suc n - 1 ≡ n = omega arith in
      let v = get_or (decoded m.stack) n Unset in
      rw q (frees (get_or (decoded m.slots) i Unset) (entry_worth bs (get_or π i (literal (text [])))) (stores v u i cs (plain_at m.stack n) l e f (holds_more v u H (top_held H (omega arith)) (ap first_of H.on_stack))))
