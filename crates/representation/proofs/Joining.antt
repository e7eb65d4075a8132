-- Two texts as one: too long, short enough for a cell, or a new text.
use Rattle.std.proofs.Common.{◌≡◌, ℕ, zero, suc, ◌+◌, ◌<◌, ◌≤◌, Bool, true, false, ltb, leb, ◌⊎◌, List, [], ◌∷◌, ◌++◌, length, get_or, sym, refl, ap, ◌∙◌, subst, inl, inr, arith, length-append}
use Rattle.std.proofs.lemmas.Bool.{ltb-true, leb-true, leb-false, and_parts}
use Rattle.language.specs.Text
use Rattle.language.specs.Text.{pick, each, every, text, as_text}
use Rattle.language.specs.Program.{Program}
use Rattle.language.specs.Meaning.{State, got, left, wrong, weight, reckon}
use Rattle.semantics.specs.Stack.{val, held, at, land}
use Rattle.semantics.specs.Lines.{Stage}
use Rattle.assembly.specs.Assembly.{op_two, pool}
use Rattle.assembly.specs.Machine.{op_exec}
use Rattle.store.specs.declared.cells.Value.TheVariants.{Text as InText, Short as InShort}
use Rattle.store.specs.Words.{over}
use Rattle.store.specs.Short.{short_of}
use Rattle.store.specs.Space.{Given, span, handle_of, allocated, written}
use Rattle.store.proofs.Shorts.{short_bytes}
use Rattle.store.proofs.Reading.{filled}
use Rattle.regions.specs.Parts.{Parts, with_texts}
use Rattle.interp.specs.Outcomes.{Refuse}
use Rattle.interp.specs.declared.registers.Registers.{Registers}
use Rattle.interp.specs.Turns.{Did, says, top_of, under_of, replaced_two}
use Rattle.interp.specs.Texts.{text_in, putting, joined_in, joined_long, joined_as, joined}
use Rattle.representation.specs.Values.{Holds}
use Rattle.representation.specs.Room.{Apart, Slight}
use Rattle.representation.specs.Relation.{Running}
use Rattle.representation.specs.Outcomes.{Performs}
use Rattle.representation.proofs.Room.{room_two}
use Rattle.representation.proofs.Moves.{in_hand_plain}
use Rattle.representation.proofs.Making.{Taken, Untaken, takes_new, fills}
use Rattle.representation.proofs.Stack.{top_worth, under_worth}
use Rattle.representation.proofs.Fields.{binds_weigh, span_most}
use Rattle.representation.proofs.Running.{kept_row, re_text, replaces_two_so, fails_so}

-- bytes, one by one
pub below_all : (b : List ℕ) → every (λ c. ltb c 256) b ≡ true → (i : ℕ) → get_or b i 0 < 256
below_all [] h i = omega arith
below_all (c ∷ b) h zero = ltb-true c 256 (and_parts (ltb c 256) (every (λ x. ltb x 256) b) h).0
below_all (c ∷ b) h (suc i) = below_all b (and_parts (ltb c 256) (every (λ x. ltb x 256) b) h).1 i

below_both : (a b : List ℕ) → ((i : ℕ) → get_or a i 0 < 256) → ((i : ℕ) → get_or b i 0 < 256) → (i : ℕ) → get_or (a ++ b) i 0 < 256
below_both [] b f h i = h i
below_both (c ∷ a) b f h zero = f 0
below_both (c ∷ a) b f h (suc i) = below_both a b (λ j. f (suc j)) h i

module _ (p : Program) (m : Parts) (r : Registers) (g : Stage) (pc : ℕ) (s : State) (b : List ℕ) (z : Bool) (small : pc ≤ 12291) where
  abbrev Runs : List Text.Value → Type 0
  Runs us = Running p m r g pc us s.vars s.line s.parts s.lines b z

  module _ {u v : Text.Value} {rest : List Text.Value} (apart : Apart (pool p)) (slight : Slight (pool p)) (R : Runs (u ∷ v ∷ rest))
      (below_u : (i : ℕ) → get_or (as_text u) i 0 < 256) (below_v : (i : ℕ) → get_or (as_text v) i 0 < 256) where
    -- what comes of it: both as one text in place of both
    abbrev Joins : Did → Type 0
    Joins d = Performs p (op_two 11) r g pc (u ∷ v ∷ rest) s b z (at (suc pc) (val (text (as_text v ++ as_text u)) ∷ each val rest) s) d

    in_cell : length (as_text v) + length (as_text u) ≤ 8 → Joins (replaced_two m r (InShort (short_of (as_text v ++ as_text u))))
    in_cell l =
        let t = as_text v ++ as_text u in
        replaces_two_so s (op_two 11) R small m.texts (InShort (short_of t)) (text t) tt
        (in_hand_plain (InShort (short_of t)) (text t) refl (λ said. ap text (short_bytes t (omega (arith, length-append (as_text v) (as_text u))) (below_both (as_text v) (as_text u) below_v below_u))) R.holds)

    in_heap : length (as_text v) + length (as_text u) < 65536 → (x : Given) →
        Taken R.holds (length (as_text v) + length (as_text u)) x ⊎ Untaken R.holds (length (as_text v) + length (as_text u)) x →
        Joins (joined_in (with_texts m x.space) r (length (as_text v)) (under_of m r) (top_of m r) x.handle)
    in_heap l x (inr U) =
        let n = length (as_text v) + length (as_text u) in
        let heavy : 262144 < weight s + held (each val rest)
        = omega (arith, room_two apart slight r.depth R.holds (span n) U.full, span_most n l, binds_weigh s) in
        subst (λ h. Joins (joined_in (with_texts m x.space) r (length (as_text v)) (under_of m r) (top_of m r) h)) (sym U.got)
        ((u ∷ v ∷ rest, refl, re_text R x.space U.holds), kept_row r, inr (refl, tt, (heavy, refl)))
    in_heap l x (inl T) =
        let a = as_text v in
        let c = as_text u in
        let h = T.handle in
        let q₁ = with_texts m x.space in
        let e₁ : text_in q₁ (under_of m r) ≡ a = ap as_text (under_worth r.depth T.holds) in
        let H₁ = fills h 0 T.was a T.alone (omega (arith, T.size_is)) below_v T.holds in
        let q₂ = with_texts q₁ (written 77822 x.space h 0 a) in
        let e₂ : text_in q₂ (top_of m r) ≡ c = ap as_text (top_worth r.depth H₁) in
        let H₂ = fills h (length a) (over T.was 0 a) c T.alone (omega (arith, T.size_is, filled.keeps T.was 0 a)) below_u H₁ in
        let q₃ = with_texts q₂ (written 77822 q₂.texts h (length a) c) in
        let H₃ : Holds (pool p) (InText (handle_of h) ∷ []) (text (a ++ c) ∷ []) q₃ r.depth (u ∷ v ∷ rest) s.vars
        = subst (λ t. Holds (pool p) (InText (handle_of h) ∷ []) (text t ∷ []) q₃ r.depth (u ∷ v ∷ rest) s.vars) (filled.both T.was a c T.size_is) H₂ in
        let d : putting (putting q₁ h 0 (under_of m r)) h (length a) (top_of m r) ≡ q₃
        = ap (λ t. putting (with_texts q₁ (written 77822 x.space h 0 t)) h (length a) (top_of m r)) e₁ ∙ ap (λ t. with_texts q₂ (written 77822 q₂.texts h (length a) t)) e₂ in
        subst (λ y. Joins (joined_in q₁ r (length a) (under_of m r) (top_of m r) y)) (sym T.got)
        (subst (λ y. Joins (replaced_two y r (InText (handle_of h)))) (sym d) (replaces_two_so s (op_two 11) R small q₃.texts (InText (handle_of h)) (text (a ++ c)) tt H₃))

    pub join_does : Performs p (op_two 11) r g pc (u ∷ v ∷ rest) s b z (op_exec (pool p) (op_two 11) pc (each val (u ∷ v ∷ rest)) s) (joined m r)
    unfolding joined joined_long reckon
    join_does =
        rw (top_worth r.depth R.holds, under_worth r.depth R.holds)
        (subst (λ n. Performs p (op_two 11) r g pc (u ∷ v ∷ rest) s b z (land (suc pc) (each val rest) (pick (ltb n 65536) (got (text (as_text v ++ as_text u)) s) (left (wrong 7 s))))
        (joined_as m r (as_text v) (as_text u))) (sym (length-append (as_text v) (as_text u)))
        (by_length (ltb (length (as_text v) + length (as_text u)) 65536) (leb (length (as_text v) + length (as_text u)) 8) refl refl))
      where
        by_length : (t k : Bool) → ltb (length (as_text v) + length (as_text u)) 65536 ≡ t → leb (length (as_text v) + length (as_text u)) 8 ≡ k →
            Performs p (op_two 11) r g pc (u ∷ v ∷ rest) s b z (land (suc pc) (each val rest) (pick t (got (text (as_text v ++ as_text u)) s) (left (wrong 7 s))))
            (pick t (pick k (replaced_two m r (InShort (short_of (as_text v ++ as_text u)))) (joined_long m r (length (as_text v)) (length (as_text v) + length (as_text u)))) (says (Refuse 7) m r))
        by_length true true t k = in_cell (leb-true _ 8 k)
        by_length true false t k = in_heap (ltb-true _ 65536 t) (allocated 20480 77822 m.texts (length (as_text v) + length (as_text u)))
            (takes_new R.holds (length (as_text v) + length (as_text u)) (omega (arith, leb-false (length (as_text v) + length (as_text u)) 8 k)))
        by_length false k t l = fails_so s (op_two 11) R 7
