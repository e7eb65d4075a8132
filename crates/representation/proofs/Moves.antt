-- The moves: what small parts of an operation do to the values that memory holds and to those in the hand.
use Rattle.std.proofs.Common.{◌≡◌, ℕ, suc, ◌+◌, ◌<◌, ◌≤◌, ◌≢◌, List, [], ◌∷◌, ◌++◌, length, get_or, set, sym, ap, ◌∙◌, subst, inl, inr, arith, length-append, get_or-set_other, get_or-set_same}
use Rattle.std.proofs.lemmas.Bool.{cases_eq}
use Rattle.language.specs.Text
use Rattle.language.specs.Text.{each, text, same}
use Rattle.language.specs.Meaning.{Bind}
use Rattle.store.specs.declared.cells.Value.{Value}
use Rattle.store.specs.declared.cells.Value.TheVariants.{Unset}
use Rattle.store.specs.Space.{Space}
use Rattle.store.specs.Model.{occ}
use Rattle.store.specs.Laws.{Texts}
use Rattle.store.specs.Values.{decoded, saved, held_by, kept}
use Rattle.store.specs.Worth.{meant, Plain}
use Rattle.store.proofs.Basics.{occ_append}
use Rattle.store.proofs.Coding.{length_decoded}
use Rattle.store.proofs.Faces.{faces}
use Rattle.store.proofs.Meanings.{value_laws}
use Rattle.regions.specs.Parts.{Parts, with_texts}
use Rattle.assembly.specs.Assembly.{literal, Pool}
use Rattle.interp.specs.Turns.{holding, releasing, stacking}
use Rattle.interp.specs.Slots.{slotting}
use Rattle.representation.specs.Values.{tops, held_all, stacked, slotted, holders, entry_worth, Holds}
use Rattle.representation.proofs.Cells.{decoded_saved, saved_wide, tops_push, held_member, held_set, held_few, meant_same, all_same}

-- who holds a text, all together
pub occ_all : (h : ℕ) (hand : List Value) (m : Parts) (n k : ℕ) →
    occ h (holders hand m n k) ≡ occ h (held_all hand) + (occ h (held_all (stacked m n)) + occ h (held_all (slotted m k)))
occ_all h hand m n k = rw (occ_append h, occ_append h (held_all (stacked m n)))

-- the hand with one more
pub occ_hand : (h : ℕ) (v : Value) (hand : List Value) → occ h (held_all (v ∷ hand)) ≡ occ h (held_by v) + occ h (held_all hand)
unfolding held_all
occ_hand h v hand = occ_append h (held_by v) (held_all hand)

abbrev pub first_of : List Text.Value → Text.Value
first_of [] = text []
first_of (u ∷ us) = u

abbrev pub rest_of : List Text.Value → List Text.Value
rest_of [] = []
rest_of (u ∷ us) = us

module _ {π : Pool} {hand : List Value} {ws : List Text.Value} {m : Parts} {n : ℕ} {us : List Text.Value} {bs : List Bind} where
  -- other texts, the same for those that hold any
  pub retexts : (H : Holds π hand ws m n us bs) (x : Space) (said : ℕ → List ℕ) → Texts 20480 77822 x (holders hand m n (length π)) said →
      ((k : ℕ) → 1 ≤ occ k (holders hand m n (length π)) → said k ≡ H.said k) → Holds π hand ws (with_texts m x) n us bs
  retexts H x said t e =
      record {
        said = said;
        texts = t;
        long = λ k l. subst (λ b. 9 ≤ length b) (sym (e k l)) (H.long k l);
        in_hand = all_same H.said said hand (λ k l. e k (omega (arith, occ_all k hand m n (length π)))) ∙ H.in_hand;
        on_stack = all_same H.said said (stacked m n) (λ k l. e k (omega (arith, occ_all k hand m n (length π)))) ∙ H.on_stack;
        in_slots = λ i l. meant_same H.said said (get_or (decoded m.slots) i Unset) (λ k o. e k (omega (arith, occ_all k hand m n (length π), held_member k (decoded m.slots) (length π) i l)))
            ∙ H.in_slots i l;
        stack_wide = H.stack_wide;
        slots_wide = H.slots_wide;
        deep = H.deep;
        few = H.few;
      }

  -- a value that holds no text comes into the hand
  pub in_hand_plain : (v : Value) (w : Text.Value) → held_by v ≡ [] → ((said : ℕ → List ℕ) → meant said v ≡ w) → Holds π hand ws m n us bs → Holds π (v ∷ hand) (w ∷ ws) m n us bs
  in_hand_plain v w e f H =
      let o : (k : ℕ) → occ k (holders (v ∷ hand) m n (length π)) ≡ occ k (holders hand m n (length π))
      = λ k. omega (arith, occ_all k (v ∷ hand) m n (length π), occ_all k hand m n (length π), occ_hand k v hand, ap (occ k) e) in
      record {
        said = H.said;
        texts = (faces 20480 77822).reorder m.texts (holders hand m n (length π)) (holders (v ∷ hand) m n (length π)) H.said H.texts (λ k. sym (o k));
        long = λ k l. H.long k (omega (arith, o k));
        in_hand = rw (f H.said, H.in_hand);
        on_stack = H.on_stack;
        in_slots = H.in_slots;
        stack_wide = H.stack_wide;
        slots_wide = H.slots_wide;
        deep = H.deep;
        few = H.few;
      }

  -- the top of the stack comes into the hand
  pub pops : (u : Text.Value) → Holds π hand ws m (suc n) (u ∷ us) bs → Holds π (get_or (decoded m.stack) n Unset ∷ hand) (u ∷ ws) m n us bs
  unfolding tops
  pops u H =
      let v = get_or (decoded m.stack) n Unset in
      let o : (k : ℕ) → occ k (holders (v ∷ hand) m n (length π)) ≡ occ k (holders hand m (suc n) (length π))
      = λ k. omega (arith, occ_all k (v ∷ hand) m n (length π), occ_all k hand m (suc n) (length π), occ_hand k v hand, occ_hand k v (stacked m n)) in
      record {
        said = H.said;
        texts = (faces 20480 77822).reorder m.texts (holders hand m (suc n) (length π)) (holders (v ∷ hand) m n (length π)) H.said H.texts (λ k. sym (o k));
        long = λ k l. H.long k (omega (arith, o k));
        in_hand = rw (ap first_of H.on_stack, H.in_hand);
        on_stack = ap rest_of H.on_stack;
        in_slots = H.in_slots;
        stack_wide = H.stack_wide;
        slots_wide = H.slots_wide;
        deep = omega (arith, H.deep);
        few = H.few;
      }

  -- what is in the hand goes onto the stack
  pub pushes : (v : Value) (w : Text.Value) → Plain v → n < 16416 → Holds π (v ∷ hand) (w ∷ ws) m n us bs → Holds π hand ws (stacking m n v) (suc n) (w ∷ us) bs
  pushes v w p l H =
      let d : decoded (saved m.stack n v) ≡ set (decoded m.stack) n v = decoded_saved m.stack n v p (omega (arith, H.stack_wide)) in
      let t : stacked (stacking m n v) (suc n) ≡ v ∷ stacked m n = ap (λ c. tops c (suc n)) d ∙ tops_push (decoded m.stack) n v (omega (arith, H.stack_wide, length_decoded m.stack)) in
      let o : (k : ℕ) → occ k (holders hand (stacking m n v) (suc n) (length π)) ≡ occ k (holders (v ∷ hand) m n (length π))
      = λ k. omega (arith, occ_all k (v ∷ hand) m n (length π), occ_all k hand (stacking m n v) (suc n) (length π), occ_hand k v hand, occ_hand k v (stacked m n), ap (λ c. occ k (held_all c)) t) in
      record {
        said = H.said;
        texts = (faces 20480 77822).reorder m.texts (holders (v ∷ hand) m n (length π)) (holders hand (stacking m n v) (suc n) (length π)) H.said H.texts (λ k. sym (o k));
        long = λ k q. H.long k (omega (arith, o k));
        in_hand = ap rest_of H.in_hand;
        on_stack = ap (each (meant H.said)) t ∙ rw (ap first_of H.in_hand, H.on_stack);
        in_slots = H.in_slots;
        stack_wide = saved_wide m.stack n v ∙ H.stack_wide;
        slots_wide = H.slots_wide;
        deep = omega arith;
        few = H.few;
      }

  -- what is in the hand is let go
  pub frees : (v : Value) (w : Text.Value) → Holds π (v ∷ hand) (w ∷ ws) m n us bs → Holds π hand ws (releasing m v) n us bs
  frees v w H =
      let o : (k : ℕ) → occ k (holders (v ∷ hand) m n (length π)) ≡ occ k (held_by v ++ holders hand m n (length π))
      = λ k. omega (arith, occ_all k (v ∷ hand) m n (length π), occ_all k hand m n (length π), occ_hand k v hand, occ_append k (held_by v) (holders hand m n (length π))) in
      record {
        said = H.said;
        texts = (value_laws 20480 77822).drops m.texts (holders (v ∷ hand) m n (length π)) (holders hand m n (length π)) H.said v H.texts o;
        long = λ k l. H.long k (omega (arith, o k, occ_append k (held_by v) (holders hand m n (length π))));
        in_hand = ap rest_of H.in_hand;
        on_stack = H.on_stack;
        in_slots = H.in_slots;
        stack_wide = H.stack_wide;
        slots_wide = H.slots_wide;
        deep = H.deep;
        few = H.few;
      }

-- no more than 2^64 hold a text
few_holders : (m : Parts) (n k : ℕ) → length (holders [] m n k) ≤ n + k
unfolding held_all
few_holders m n k = omega (arith, length-append (held_all (stacked m n)) (held_all (slotted m k)), held_few (decoded m.stack) n, held_few (decoded m.slots) k)

module _ {π : Pool} {m : Parts} {n : ℕ} {us : List Text.Value} {bs : List Bind} where
  -- a value that something holds comes into the hand too
  pub holds_more : (v : Value) (w : Text.Value) (H : Holds π [] [] m n us bs) → ((k : ℕ) → occ k (held_by v) ≤ occ k (holders [] m n (length π))) → meant H.said v ≡ w →
      Holds π (v ∷ []) (w ∷ []) (holding m v) n us bs
  holds_more v w H f e =
      let hs = holders [] m n (length π) in
      let t : Texts 20480 77822 (kept 77822 m.texts v) (held_by v ++ hs) H.said
      = (value_laws 20480 77822).keeps m.texts hs H.said v H.texts f (omega (arith, few_holders m n (length π), H.deep, H.few)) in
      let o : (k : ℕ) → occ k (held_by v ++ hs) ≡ occ k (holders (v ∷ []) m n (length π))
      = λ k. omega (arith, occ_append k (held_by v) hs, occ_all k (v ∷ []) m n (length π), occ_all k [] m n (length π), occ_hand k v []) in
      record {
        said = H.said;
        texts = (faces 20480 77822).reorder (kept 77822 m.texts v) (held_by v ++ hs) (holders (v ∷ []) m n (length π)) H.said t o;
        long = λ k l. H.long k (omega (arith, o k, occ_append k (held_by v) hs, f k));
        in_hand = rw e;
        on_stack = H.on_stack;
        in_slots = H.in_slots;
        stack_wide = H.stack_wide;
        slots_wide = H.slots_wide;
        deep = H.deep;
        few = H.few;
      }

module _ {π : Pool} {hand : List Value} {ws : List Text.Value} {m : Parts} {n : ℕ} {us : List Text.Value} {bs : List Bind} where
  -- what is in the hand goes into a slot, and what was there comes into the hand
  pub stores : (v : Value) (w : Text.Value) (i : ℕ) (cs : List Bind) → Plain v → i < length π → entry_worth cs (get_or π i (literal (text []))) ≡ w →
      ((k : ℕ) → k < length π → k ≢ i → entry_worth cs (get_or π k (literal (text []))) ≡ entry_worth bs (get_or π k (literal (text [])))) →
      Holds π (v ∷ hand) (w ∷ ws) m n us bs →
      Holds π (get_or (decoded m.slots) i Unset ∷ hand) (entry_worth bs (get_or π i (literal (text []))) ∷ ws) (slotting m i v) n us cs
  stores v w i cs p l e f H =
      let old = get_or (decoded m.slots) i Unset in
      let inside : i < length (decoded m.slots) = omega (arith, length_decoded m.slots, H.slots_wide, H.few) in
      let d : decoded (saved m.slots i v) ≡ set (decoded m.slots) i v = decoded_saved m.slots i v p (omega (arith, H.slots_wide, H.few)) in
      let o : (k : ℕ) → occ k (holders (old ∷ hand) (slotting m i v) n (length π)) ≡ occ k (holders (v ∷ hand) m n (length π))
      = λ k.
      let q : occ k (held_all (slotted (slotting m i v) (length π))) ≡ occ k (held_all (tops (set (decoded m.slots) i v) (length π))) = ap (λ c. occ k (held_all (tops c (length π)))) d in
      omega (arith, q, occ_all k (v ∷ hand) m n (length π), occ_all k (old ∷ hand) (slotting m i v) n (length π), occ_hand k v hand, occ_hand k old hand, held_set k (decoded m.slots) (length π) i v inside l) in
      record {
        said = H.said;
        texts = (faces 20480 77822).reorder m.texts (holders (v ∷ hand) m n (length π)) (holders (old ∷ hand) (slotting m i v) n (length π)) H.said H.texts (λ k. sym (o k));
        long = λ k q. H.long k (omega (arith, o k));
        in_hand = rw (H.in_slots i l, ap rest_of H.in_hand);
        on_stack = H.on_stack;
        in_slots = λ k q. ap (λ c. meant H.said (get_or c k Unset)) d ∙ (elim (cases_eq k i) [
          | inl z ↦ rw (z, get_or-set_same (decoded m.slots) i v Unset inside) (ap first_of H.in_hand ∙ sym e)
          | inr z ↦ rw (get_or-set_other (decoded m.slots) i k v Unset z) (H.in_slots k q ∙ sym (f k q z))
        ]);
        stack_wide = H.stack_wide;
        slots_wide = saved_wide m.slots i v ∙ H.slots_wide;
        deep = H.deep;
        few = H.few;
      }
