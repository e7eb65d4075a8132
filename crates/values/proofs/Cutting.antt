-- The fields of a text, and where they stand.
use Rattle.std.proofs.Common.{◌≡◌, ℕ, suc, ◌+◌, ◌-◌, ◌<◌, ◌≤◌, Bool, true, false, not, ◌⊎◌, List, [], ◌∷◌, ◌++◌, length, take, drop, ℤ, pos, negsuc, nat_abs, ◌≤ℤ◌, sym, refl, ap, ◌∙◌, inl, inr, append_assoc, append-nil, arith, length-drop}
use Rattle.std.proofs.lemmas.Int.{ints}
use Rattle.std.proofs.lemmas.Bool.{le-leb, lt-leb}
use Rattle.std.proofs.lemmas.List.{drop-drop}
use Rattle.language.specs.Text.{pick, blank, no_blanks, fields_from, each}
use Rattle.language.specs.Meaning.{field_number}
use Rattle.store.specs.declared.place.Place.{Place}
use Rattle.store.specs.Numbers.{number}
use Rattle.values.specs.Texts.{run}
use Rattle.values.specs.Fields.{cut, FieldAt, PlacesTold, FieldsTold}
use Rattle.values.proofs.Reading.{no_blanks_is, run_le}

abbrev solid : ℕ → Bool
solid c = not (blank c)

-- blanks before a field don't matter
skipped : (s : List ℕ) → fields_from [] s ≡ fields_from [] (no_blanks s)
unfolding fields_from no_blanks
skipped [] = refl
skipped (c ∷ cs) = by (blank c) refl (skipped cs)
  where
    by : (b : Bool) → blank c ≡ b → fields_from [] cs ≡ fields_from [] (no_blanks cs) →
        pick b (fields_from [] cs) (fields_from (c ∷ []) cs) ≡ fields_from [] (pick b (no_blanks cs) (c ∷ cs))
    by true e h = h
    by false e h = rw e

-- a field that was begun goes on up to the next blank
begun : (cs : List ℕ) (f : ℕ) (fs : List ℕ) → fields_from (f ∷ fs) cs ≡ ((f ∷ fs) ++ take (run solid cs) cs) ∷ fields_from [] (drop (run solid cs) cs)
unfolding fields_from run
begun [] f fs = ap (λ t. (f ∷ t) ∷ []) (sym (append-nil fs))
begun (c ∷ cs) f fs = by (blank c) refl (begun cs f (fs ++ c ∷ []))
  where
    by : (b : Bool) → blank c ≡ b →
        fields_from (f ∷ (fs ++ c ∷ [])) cs ≡ ((f ∷ (fs ++ c ∷ [])) ++ take (run solid cs) cs) ∷ fields_from [] (drop (run solid cs) cs) →
        pick b ((f ∷ fs) ∷ fields_from [] cs) (fields_from (f ∷ (fs ++ c ∷ [])) cs)
        ≡ ((f ∷ fs) ++ take (pick (not b) (suc (run solid cs)) 0) (c ∷ cs)) ∷ fields_from [] (drop (pick (not b) (suc (run solid cs)) 0) (c ∷ cs))
    by true e h = rw (append-nil fs, e)
    by false e h = h ∙ ap (λ t. (f ∷ t) ∷ fields_from [] (drop (run solid cs) cs)) (append_assoc fs (c ∷ []) (take (run solid cs) cs))

-- a text that begins with no blank begins with a field
field_first : (s : List ℕ) → 0 < run solid s → fields_from [] s ≡ take (run solid s) s ∷ fields_from [] (drop (run solid s) s)
unfolding fields_from run
field_first [] h = absurd (omega arith)
field_first (c ∷ cs) h = by (blank c) h
  where
    by : (b : Bool) → 0 < pick (not b) (suc (run solid cs)) 0 →
        pick b (fields_from [] cs) (fields_from (c ∷ []) cs)
        ≡ take (pick (not b) (suc (run solid cs)) 0) (c ∷ cs) ∷ fields_from [] (drop (pick (not b) (suc (run solid cs)) 0) (c ∷ cs))
    by true l = absurd (omega arith)
    by false l = begun cs c []

no_field : (s : List ℕ) → run solid (no_blanks s) ≡ 0 → fields_from [] s ≡ []
unfolding fields_from no_blanks run
no_field [] h = refl
no_field (c ∷ cs) h = by (blank c) refl h (no_field cs)
  where
    by : (b : Bool) → blank c ≡ b → run solid (pick b (no_blanks cs) (c ∷ cs)) ≡ 0 → (run solid (no_blanks cs) ≡ 0 → fields_from [] cs ≡ []) →
        pick b (fields_from [] cs) (fields_from (c ∷ []) cs) ≡ []
    by true e k i = i k
    by false e k i = absurd (let l : suc (run solid cs) ≡ 0 = rw e at k in omega arith)

module _ (bs : List ℕ) (from start end : ℕ) (begins : start ≡ from + run blank (drop from bs)) (ends : end ≡ start + run solid (drop start bs)) where
  here : no_blanks (drop from bs) ≡ drop start bs
  here = no_blanks_is (drop from bs) ∙ drop-drop (run blank (drop from bs)) from bs ∙ ap (λ i. drop i bs) (sym begins)

  pub field_there : start < end → FieldAt bs from (record { start = start; len = end - start })
  field_there h =
      let r : run solid (drop start bs) ≡ end - start = omega arith in
      let l : run solid (drop start bs) ≤ length bs - start = rw (← length-drop start bs) (run_le solid (drop start bs)) in
      record {
        on = omega arith;
        some = omega arith;
        inside = omega arith;
        fields =
            skipped (drop from bs) ∙ ap (fields_from []) here ∙ field_first (drop start bs) (omega arith)
            ∙ ap (λ n. take n (drop start bs) ∷ fields_from [] (drop n (drop start bs))) r
            ∙ ap (λ t. take (end - start) (drop start bs) ∷ fields_from [] t) (drop-drop (end - start) start bs);
      }

  pub no_field_there : end ≤ start → fields_from [] (drop from bs) ≡ []
  no_field_there h = no_field (drop from bs) (let e : run solid (drop start bs) ≡ 0 = omega arith in ap (run solid) here ∙ e)

-- places that are told one after the other hold the fields
told : (bs : List ℕ) (ps : List Place) (from : ℕ) → PlacesTold bs from ps → each (cut bs) ps ≡ fields_from [] (drop from bs)
told bs [] from h = sym h
told bs (p ∷ ps) from h = ap (λ t. cut bs p ∷ t) (told bs ps (p.start + p.len) h.1) ∙ sym h.0.fields

pub fields_told : FieldsTold
fields_told bs ps h = told bs ps 0 h

-- numbers of fields

pub field_number_not : (z : ℤ) → (z ≤ℤ negsuc 0) ⊎ (pos 1001 ≤ℤ z) → [] ≡ field_number (number z)
unfolding field_number
field_number_not (pos n) (inl h) = absurd (omega (arith, ints))
field_number_not (pos n) (inr h) = rw (lt-leb n 1000 (omega (arith, ints)))
field_number_not (negsuc n) h = refl

pub field_number_so : (z : ℤ) → pos 0 ≤ℤ z → z ≤ℤ pos 1000 → nat_abs z ∷ [] ≡ field_number (number z)
unfolding field_number
field_number_so (pos n) h k = rw (le-leb n 1000 (omega (arith, ints)))
field_number_so (negsuc n) h k = absurd (omega (arith, ints))
