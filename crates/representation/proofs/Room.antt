-- When there is no room for a text: what the variables and the rest of the stack hold is more than may be held then.
use Rattle.std.proofs.Common.{◌≡◌, ℕ, zero, suc, ◌+◌, ◌*◌, ◌<◌, ◌≤◌, Bool, true, false, leb, List, [], ◌∷◌, ◌++◌, length, get_or, sym, refl, ap, subst, le_refl, arith}
use Rattle.std.proofs.lemmas.Bool.{leb-true}
use Rattle.language.specs.Text
use Rattle.language.specs.Text.{pick, each, added_up, plus, minus, text, as_text}
use Rattle.language.specs.Meaning.{Bind, bound, first_or, size_of, binds_size}
use Rattle.semantics.specs.Stack.{val, held}
use Rattle.store.specs.declared.cells.Value.{Value}
use Rattle.store.specs.declared.cells.Value.TheVariants.{Unset, Number, Text as InText, Short as InShort}
use Rattle.store.specs.Space.{span}
use Rattle.store.specs.Model.{occ}
use Rattle.store.specs.Laws.{spans}
use Rattle.store.specs.Values.{decoded, held_by}
use Rattle.store.specs.Worth.{meant}
use Rattle.store.proofs.Basics.{occ_append, is_same}
use Rattle.regions.specs.Parts.{Parts}
use Rattle.assembly.specs.Assembly.{Entry, named, literal, Pool}
use Rattle.representation.specs.Values.{tops, held_all, stacked, slotted, holders, entry_worth, Holds}
use Rattle.representation.specs.Room.{constant_size, Apart, Slight}
use Rattle.representation.proofs.Names.{over, over_add, over_list, set_size, name_size, slots_size}
use Rattle.representation.proofs.Moves.{occ_all, first_of, rest_of}

spans_append : (said : ℕ → List ℕ) (xs ys : List ℕ) → spans said (xs ++ ys) ≡ spans said xs + spans said ys
spans_append said [] ys = omega arith
spans_append said (x ∷ xs) ys = omega (arith, spans_append said xs ys)

-- the words that a value's text would need
abbrev pub word_cost : Text.Value → ℕ
word_cost u = span (length (as_text u))

-- texts in the heap are long
abbrev Long : (ℕ → List ℕ) → List ℕ → Type 0
Long said hs = (k : ℕ) → 1 ≤ occ k hs → 9 ≤ length (said k)

pub value_words : (said : ℕ → List ℕ) (v : Value) → spans said (held_by v) ≤ word_cost (meant said v)
unfolding as_text
value_words said Unset = omega arith
value_words said (Number z) = omega arith
value_words said (InShort b) = omega arith
value_words said (InText h) = omega arith

-- at least five bytes are counted for each word
value_size : (said : ℕ → List ℕ) (v : Value) → Long said (held_by v) → 5 * spans said (held_by v) ≤ size_of (meant said v)
unfolding as_text
value_size said Unset l = omega arith
value_size said (Number z) l = omega arith
value_size said (InShort b) l = omega arith
value_size said (InText h) l = omega (arith, l h.index (omega (arith, is_same h.index h.index refl)))

stack_size : (said : ℕ → List ℕ) (vs : List Value) → Long said (held_all vs) → 5 * spans said (held_all vs) ≤ held (each val (each (meant said) vs))
unfolding held_all
stack_size said [] l = omega arith
stack_size said (v ∷ vs) l =
    omega (arith, spans_append said (held_by v) (held_all vs), value_size said v (λ k o. l k (rw (occ_append k) (omega arith))), stack_size said vs (λ k o. l k (rw (occ_append k) (omega arith))))

-- a slot: what its variable takes, or what its constant would
abbrev slot_cost : List Bind → Entry → ℕ
slot_cost bs e = name_size bs e + constant_size e

var_size : (said : ℕ → List ℕ) (v : Value) (xs : List Text.Value) → Long said (held_by v) → meant said v ≡ first_or (text []) xs → 5 * spans said (held_by v) ≤ set_size xs
unfolding as_text
var_size said Unset xs l e = omega arith
var_size said (Number z) xs l e = omega arith
var_size said (InShort b) xs l e = omega arith
var_size said (InText h) [] l e =
    let q : length (said h.index) ≡ 0 = ap (λ u. length (as_text u)) e in
    absurd (omega (arith, q, l h.index (omega (arith, is_same h.index h.index refl))))
var_size said (InText h) (u ∷ us) l e = omega (arith, value_size said (InText h) l, ap size_of e)

literal_size : (said : ℕ → List ℕ) (v : Value) (u : Text.Value) → Long said (held_by v) → meant said v ≡ u → 5 * spans said (held_by v) ≤ constant_size (literal u)
unfolding as_text
literal_size said Unset u l e = omega arith
literal_size said (Number z) u l e = omega arith
literal_size said (InShort b) u l e = omega arith
literal_size said (InText h) u l e =
    let n = l h.index (omega (arith, is_same h.index h.index refl)) in
    subst (λ w. 5 * spans said (h.index ∷ []) ≤ constant_size (literal w)) e (by (leb (length (said h.index)) 8) refl n)
  where
    by : (t : Bool) → leb (length (said h.index)) 8 ≡ t → 9 ≤ length (said h.index) → 5 * spans said (h.index ∷ []) ≤ pick t 0 (16 + length (said h.index))
    by true q n = absurd (omega (arith, leb-true _ _ q))
    by false q n = omega arith

slot_size : (said : ℕ → List ℕ) (bs : List Bind) (v : Value) (e : Entry) → Long said (held_by v) → meant said v ≡ entry_worth bs e → 5 * spans said (held_by v) ≤ slot_cost bs e
slot_size said bs v (named x) l q = omega (arith, var_size said v (bound bs x) l q)
slot_size said bs v (literal u) l q = omega (arith, literal_size said v u l q)

all_slots : (said : ℕ → List ℕ) (bs : List Bind) (π : Pool) (cs : List Value) (n : ℕ) → n ≤ length π → Long said (held_all (tops cs n)) →
    ((k : ℕ) → k < length π → meant said (get_or cs k Unset) ≡ entry_worth bs (get_or π k (literal (text [])))) →
    5 * spans said (held_all (tops cs n)) ≤ over (λ k. slot_cost bs (get_or π k (literal (text [])))) n
unfolding tops held_all over
all_slots said bs π cs zero h l q = omega arith
all_slots said bs π cs (suc n) h l q =
    omega (
      arith,
      spans_append said (held_by (get_or cs n Unset)) (held_all (tops cs n)),
      slot_size said bs (get_or cs n Unset) (get_or π n (literal (text []))) (λ k o. l k (rw (occ_append k) (omega arith))) (q n (omega arith)),
      all_slots said bs π cs n (omega arith) (λ k o. l k (rw (occ_append k) (omega arith))) q,
    )

abbrev pub SomeValue : List Text.Value → Type 0
SomeValue [] = ⊥
SomeValue (u ∷ us) = Unit {0}

module _ {π : Pool} {m : Parts} {bs : List Bind} (apart : Apart π) (slight : Slight π) where
  -- the slots take a fifth of a word for each byte that is counted for the variables, and little more for the constants
  slots_words : {n : ℕ} {us : List Text.Value} (H : Holds π [] [] m n us bs) → 5 * spans H.said (held_all (slotted m (length π))) ≤ binds_size bs + 10050
  slots_words {n} H =
      let l : Long H.said (held_all (slotted m (length π))) = λ k o. H.long k (omega (arith, occ_all k [] m n (length π))) in
      omega (
        arith,
        all_slots H.said bs π (decoded m.slots) (length π) (le_refl (length π)) l H.in_slots,
        over_add (λ k. name_size bs (get_or π k (literal (text [])))) (λ k. constant_size (get_or π k (literal (text [])))) (length π),
        over_list constant_size π (literal (text [])),
        slots_size bs π apart,
        slight,
      )

  -- no room with one value on top that is not counted
  one_above : {n : ℕ} {u : Text.Value} {us : List Text.Value} (H : Holds π [] [] m (suc n) (u ∷ us) bs) (x : ℕ) → 77822 < spans H.said (holders [] m (suc n) (length π)) + x →
      389110 < 5 * word_cost u + held (each val us) + (binds_size bs + 10050) + 5 * x
  unfolding tops held_all
  one_above {n} {u} {us} H x l =
      let v = get_or (decoded m.stack) n Unset in
      let e : meant H.said v ≡ u = ap first_of H.on_stack in
      let f : each (meant H.said) (stacked m n) ≡ us = ap rest_of H.on_stack in
      let a : spans H.said (held_by v) ≤ word_cost u = subst (λ z. spans H.said (held_by v) ≤ word_cost z) e (value_words H.said v) in
      let b : 5 * spans H.said (held_all (stacked m n)) ≤ held (each val us)
      = subst (λ z. 5 * spans H.said (held_all (stacked m n)) ≤ held (each val z)) f
      (stack_size H.said (stacked m n) (λ k o. H.long k (omega (arith, occ_all k [] m (suc n) (length π), occ_append k (held_by v) (held_all (stacked m n)))))) in
      omega (arith, a, b, slots_words H, spans_append H.said (held_all (stacked m (suc n))) (held_all (slotted m (length π))), spans_append H.said (held_by v) (held_all (stacked m n)))

  -- and with two
  two_above : {n : ℕ} {u v : Text.Value} {us : List Text.Value} (H : Holds π [] [] m (suc (suc n)) (u ∷ v ∷ us) bs) (x : ℕ) → 77822 < spans H.said (holders [] m (suc (suc n)) (length π)) + x →
      389110 < 5 * (word_cost u + word_cost v) + held (each val us) + (binds_size bs + 10050) + 5 * x
  unfolding tops held_all
  two_above {n} {u} {v} {us} H x l =
      let y = get_or (decoded m.stack) (suc n) Unset in
      let z = get_or (decoded m.stack) n Unset in
      let e : meant H.said y ≡ u = ap first_of H.on_stack in
      let g : meant H.said z ≡ v = ap (λ w. first_of (rest_of w)) H.on_stack in
      let f : each (meant H.said) (stacked m n) ≡ us = ap (λ w. rest_of (rest_of w)) H.on_stack in
      let a : spans H.said (held_by y) ≤ word_cost u = subst (λ w. spans H.said (held_by y) ≤ word_cost w) e (value_words H.said y) in
      let c : spans H.said (held_by z) ≤ word_cost v = subst (λ w. spans H.said (held_by z) ≤ word_cost w) g (value_words H.said z) in
      let b : 5 * spans H.said (held_all (stacked m n)) ≤ held (each val us)
      = subst (λ w. 5 * spans H.said (held_all (stacked m n)) ≤ held (each val w)) f
      (stack_size H.said (stacked m n)
      (λ k o. H.long k (omega (arith, occ_all k [] m (suc (suc n)) (length π), occ_append k (held_by y) (held_by z ++ held_all (stacked m n)), occ_append k (held_by z) (held_all (stacked m n)))))) in
      omega (
        arith,
        a,
        b,
        c,
        slots_words H,
        spans_append H.said (held_all (stacked m (suc (suc n)))) (held_all (slotted m (length π))),
        spans_append H.said (held_by y) (held_by z ++ held_all (stacked m n)),
        spans_append H.said (held_by z) (held_all (stacked m n)),
      )

  pub room_one : (d : ℕ) {u : Text.Value} {us : List Text.Value} (H : Holds π [] [] m d (u ∷ us) bs) (x : ℕ) → 77822 < spans H.said (holders [] m d (length π)) + x →
      389110 < 5 * word_cost u + held (each val us) + (binds_size bs + 10050) + 5 * x
  unfolding tops
  room_one zero H x l = absurd (subst SomeValue (sym H.on_stack) tt)
  room_one (suc n) H x l = one_above H x l

  pub room_two : (d : ℕ) {u v : Text.Value} {us : List Text.Value} (H : Holds π [] [] m d (u ∷ v ∷ us) bs) (x : ℕ) → 77822 < spans H.said (holders [] m d (length π)) + x →
      389110 < 5 * (word_cost u + word_cost v) + held (each val us) + (binds_size bs + 10050) + 5 * x
  unfolding tops
  room_two zero H x l = absurd (subst SomeValue (sym H.on_stack) tt)
  room_two (suc zero) H x l = absurd (subst SomeValue (ap rest_of (sym H.on_stack)) tt)
  room_two (suc (suc n)) H x l = two_above H x l

-- 16 are counted for each value
pub held_many : (us : List Text.Value) → 16 * length us ≤ held (each val us)
held_many [] = omega arith
held_many (u ∷ us) = omega (arith, held_many us)
