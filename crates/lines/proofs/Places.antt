-- The places of fields.
use Rattle.std.proofs.Common.{◌≡◌, ℕ, ◌-◌, ◌<◌, ◌≤◌, ◌⊎◌, List, get_or, inl, inr}
use Rattle.std.proofs.lemmas.Bool.{lt-ltb, le-ltb, eq-eqb, ne_eqb, cases_eq}
use Rattle.regions.specs.Places.{place_of}
use Rattle.lines.specs.declared.line.Line.{Line}
use Rattle.lines.specs.Lines.{place, within, nth_place}

pub nth_none : (ws : List ℕ) (l : Line) (n : ℕ) → (n ≡ 0) ⊎ (l.fields < n) → nth_place ws l n ≡ place l.place.start 0
unfolding nth_place
nth_none ws l n (inl h) = rw (eq-eqb n 0 h)
nth_none ws l n (inr h) =
    elim (cases_eq n 0) [
      | inl e ↦ rw (eq-eqb n 0 e)
      | inr e ↦ rw (ne_eqb n 0 e, lt-ltb l.fields n h)
    ]

pub nth_some : (ws : List ℕ) (l : Line) (n : ℕ) → (n ≡ 0 → ⊥) → n ≤ l.fields → nth_place ws l n ≡ within l.place.start (place_of (get_or ws (n - 1) 0))
unfolding nth_place
nth_some ws l n e h = rw (ne_eqb n 0 e, le-ltb l.fields n h)
