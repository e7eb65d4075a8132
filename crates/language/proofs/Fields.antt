-- Fields that are joined by blanks and cut again are the fields.
use Rattle.std.proofs.Common.{◌≡◌, ℕ, Bool, true, false, ◌&&◌, List, [], ◌∷◌, ◌++◌, sym, refl, ap, ◌∙◌, append_assoc, append-nil}
use Rattle.std.proofs.lemmas.Bool.{and_parts}
use Rattle.language.specs.Text.{pick, none_of, blank, joined, fields_from}
use Rattle.language.specs.Promise.{FieldsAgain, no_gap, full}

flipped : (b : Bool) → pick b false true ≡ true → b ≡ false
flipped true e = sym e
flipped false e = refl

-- bytes without a blank go on a field that was begun
field_goes_on : (acc g rest : List ℕ) → no_gap g ≡ true → fields_from acc (g ++ rest) ≡ fields_from (acc ++ g) rest
unfolding fields_from no_gap
field_goes_on acc [] rest e = ap (λ x. fields_from x rest) (sym (append-nil acc))
field_goes_on [] (c ∷ g) rest e =
    let t = and_parts (pick (blank c) false true) (no_gap g) e in
    rw (flipped (blank c) t.0) (field_goes_on (c ∷ []) g rest t.1)
field_goes_on (f ∷ fs) (c ∷ g) rest e =
    let t = and_parts (pick (blank c) false true) (no_gap g) e in
    rw (flipped (blank c) t.0) (field_goes_on ((f ∷ fs) ++ c ∷ []) g rest t.1 ∙ ap (λ x. fields_from x rest) (append_assoc (f ∷ fs) (c ∷ []) g))

full_field : (f : List ℕ) → (no_gap f && pick (none_of f) false true) ≡ true → (no_gap f ≡ true) × (none_of f ≡ false)
full_field f e = let t = and_parts (no_gap f) (pick (none_of f) false true) e in (t.0, flipped (none_of f) t.1)

last_field : (f : List ℕ) → none_of f ≡ false → fields_from f [] ≡ f ∷ []
unfolding fields_from
last_field [] e = cc
last_field (c ∷ cs) e = refl

next_field : (f rest : List ℕ) → none_of f ≡ false → fields_from f (32 ∷ rest) ≡ f ∷ fields_from [] rest
unfolding fields_from
next_field [] rest e = cc
next_field (c ∷ cs) rest e = refl

pub fields_again : FieldsAgain
unfolding FieldsAgain full joined fields_from
fields_again [] e = refl
fields_again (f ∷ []) e =
    let t = full_field f (and_parts (no_gap f && pick (none_of f) false true) true e).0 in
    ap (λ x. fields_from [] x) (sym (append-nil f)) ∙ (field_goes_on [] f [] t.0 ∙ last_field f t.1)
fields_again (f ∷ g ∷ fs) e =
    let s = and_parts (no_gap f && pick (none_of f) false true) (full (g ∷ fs)) e in
    let t = full_field f s.0 in
    field_goes_on [] f (32 ∷ joined (g ∷ fs)) t.0 ∙ (next_field f (joined (g ∷ fs)) t.1 ∙ ap (λ x. f ∷ x) (fields_again (g ∷ fs) s.1))
