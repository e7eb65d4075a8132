-- How far a print has come when byte 10 was its last.
use Rattle.std.proofs.Common.{◌≡◌, ℕ, ◌+◌, ◌-◌, ◌<◌, ◌≤◌, min, Bool, ltb, leb, List, [], ◌∷◌, ◌++◌, length, take, drop, sym, refl, ap, ◌∙◌, inl, inr, arith, length-append}
use Rattle.std.proofs.lemmas.Bool.{cases_lt, lt-ltb, le-ltb, le-leb, lt-leb}
use Rattle.language.specs.Text.{or}
use Rattle.store.specs.Words.{over}
use Rattle.rows.specs.declared.Printed.{Printed}
use Rattle.rows.specs.Pens.{Writing, put}
use Rattle.rows.specs.Rows.{over_row, went}
use Rattle.rows.proofs.Putting.{put_put, row_length}

same_printed : (a b c d : ℕ) (x y : Bool) → a ≡ b → c ≡ d → x ≡ y → ◌≡◌ {A = Printed} (record { done = a; used = c; finished = x }) (record { done = b; used = d; finished = y })
same_printed a b c d x y p q r = cc

abbrev starting : List ℕ → ℕ → ℕ → Writing
starting d used done = record { row = d; at = used; skip = done }

put_at : (d : List ℕ) (used done : ℕ) (bs : List ℕ) → (put (starting d used done) bs).at ≡ used + min (length bs - done) (length d - used)
unfolding put
put_at d used done bs = refl

put_skip : (d : List ℕ) (used done : ℕ) (bs : List ℕ) → (put (starting d used done) bs).skip ≡ done - length bs
unfolding put
put_skip d used done bs = refl

put_row : (d : List ℕ) (used done : ℕ) (bs : List ℕ) → (put (starting d used done) bs).row ≡ over d used (drop done bs)
unfolding put
put_row d used done bs = refl

-- w is where the print of j stands that began so
module _ (d : List ℕ) (used done : ℕ) (j : List ℕ) (w : Writing) (e : w ≡ put (starting d used done) j) where
  pub begins : used ≤ w.at
  begins = omega (arith, ap (λ (x : Writing). x.at) e, put_at d used done j)

  ends : put w (10 ∷ []) ≡ put (starting d used done) (j ++ 10 ∷ [])
  ends = ap (λ x. put x (10 ∷ [])) e ∙ put_put (starting d used done) j (10 ∷ [])

  end_at : (put w (10 ∷ [])).at ≡ used + min (length j + 1 - done) (length d - used)
  end_at = omega (arith, ap (λ (x : Writing). x.at) ends, put_at d used done (j ++ 10 ∷ []), length-append j (10 ∷ []))

  pub ended_fits : (N : ℕ) → done < N → length j + 1 < N → done + ((put w (10 ∷ [])).at - used) < N
  ended_fits N h l = omega (arith, end_at)

  -- the row, before the rest of what was lent
  pub ended_row : (out r b : List ℕ) (v : Writing) → v ≡ put w (10 ∷ []) → d ≡ take 4096 out → b ≡ drop 4096 out → r ≡ v.row → r ++ b ≡ over_row out used (drop done (j ++ 10 ∷ []))
  unfolding over_row
  ended_row out r b v p q s t =
      let u : r ≡ over d used (drop done (j ++ 10 ∷ [])) = t ∙ ap (λ (x : Writing). x.row) (p ∙ ends) ∙ put_row d used done (j ++ 10 ∷ []) in
      rw (← q, ← s, u)

  finished_is : or (ltb 0 w.skip) (ltb w.at (length w.row)) ≡ leb (length (j ++ 10 ∷ [])) (done + min (length (j ++ 10 ∷ []) - done) (length d - used))
  finished_is =
      let a : w.at ≡ used + min (length j - done) (length d - used) = ap (λ (x : Writing). x.at) e ∙ put_at d used done j in
      let k : w.skip ≡ done - length j = ap (λ (x : Writing). x.skip) e ∙ put_skip d used done j in
      let l : length w.row ≡ length d = ap (λ (x : Writing). length x.row) e ∙ row_length (starting d used done) j in
      let m = length-append j (10 ∷ []) in
      let p : List ℕ = j ++ 10 ∷ [] in
      let n : ℕ = done + min (length p - done) (length d - used) in
      elim (cases_lt 0 w.skip) [
        | inl h ↦ ap (λ x. or x (ltb w.at (length w.row))) (lt-ltb 0 w.skip h) ∙ sym (le-leb (length p) n (omega arith))
        | inr h ↦ ap (λ x. or x (ltb w.at (length w.row))) (le-ltb 0 w.skip h) ∙ (elim (cases_lt w.at (length w.row)) [
          | inl i ↦ lt-ltb w.at (length w.row) i ∙ sym (le-leb (length p) n (omega arith))
          | inr i ↦ le-ltb w.at (length w.row) i ∙ sym (lt-leb (length p) n (omega arith))
        ])
      ]

  pub ended : length d ≡ 4096 → (r : Printed) (v : Writing) → v ≡ put w (10 ∷ []) → r.done ≡ done + (v.at - used) → r.used ≡ v.at →
      r.finished ≡ or (ltb 0 w.skip) (ltb w.at (length w.row)) → r ≡ went (j ++ 10 ∷ []) done used
  unfolding went
  ended l r v o p q s =
      let m = length-append j (10 ∷ []) in
      let a : v.at ≡ (put w (10 ∷ [])).at = ap (λ (x : Writing). x.at) o in
      same_printed _ _ _ _ _ _ (omega (arith, end_at)) (omega (arith, end_at))
      (s ∙ finished_is ∙ ap (λ k. leb (length (j ++ 10 ∷ [])) (done + min (length (j ++ 10 ∷ []) - done) (k - used))) l)
