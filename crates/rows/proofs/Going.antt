-- A print that goes on over several rows.
use Rattle.std.proofs.Common.{◌≡◌, ℕ, ◌+◌, ◌-◌, ◌<◌, ◌≤◌, min, false, List, [], ◌∷◌, ◌++◌, length, take, drop, sym, refl, ap, ◌∙◌, inl, inr, append_assoc, arith, length-drop, take-append-drop, length-take, take-add}
use lib.Seq.{paste}
use Rattle.std.proofs.lemmas.List.{append-nil, take_at, drop_at, take-take, drop-append-le, length-take-le}
use Rattle.std.proofs.lemmas.List.Edits.{drop-paste, length-paste}
use Rattle.std.proofs.lemmas.Bool.{cases_lt, leb-false}
use Rattle.rows.specs.Rows.{over_row, fitting, went}
use Rattle.rows.specs.Laws.{Row, all_new, done_by, Wide, Roomy}
use Rattle.rows.proofs.Putting.{over_past}

-- a row that has no room stays as it is
row_past : (d : List ℕ) (at : ℕ) (s : List ℕ) → length (take 4096 d) ≤ at → over_row d at s ≡ d
unfolding over_row
row_past d at s h = ap (λ x. x ++ drop 4096 d) (over_past (take 4096 d) at s h) ∙ take-append-drop 4096 d

-- where there is room: what was there, what is new, and what lies behind it
row_parts : (d : List ℕ) (at : ℕ) (s : List ℕ) (n : ℕ) → n ≡ min (length s) (length (take 4096 d) - at) →
    over_row d at s ≡ take at (take 4096 d) ++ (take n s ++ (drop (at + n) (take 4096 d) ++ drop 4096 d))
unfolding over_row
row_parts d at s n e =
    let x : List ℕ = take 4096 d in
    ap (λ k. paste x at s k ++ drop 4096 d) (sym e)
    ∙ append_assoc (take at x ++ take n s) (drop (at + n) x) (drop 4096 d)
    ∙ append_assoc (take at x) (take n s) (drop (at + n) x ++ drop 4096 d)

pub kept : (d : List ℕ) (at : ℕ) (s : List ℕ) → take at (over_row d at s) ≡ take at d
kept d at s =
    let x : List ℕ = take 4096 d in
    elim (cases_lt at (length x)) [
      | inr h ↦ ap (take at) (row_past d at s h)
      | inl h ↦
          ap (take at) (row_parts d at s (min (length s) (length x - at)) refl)
          ∙ take_at (take at x) _ at (length-take-le at x (omega arith))
          ∙ take-take at 4096 d (omega (arith, length-take 4096 d))
    ]

pub put_new : (d : List ℕ) (at : ℕ) (p : List ℕ) (done : ℕ) → 4096 ≤ length d → take (at + fitting p done at - at) (drop at (over_row d at (drop done p))) ≡ take (fitting p done at) (drop done p)
put_new d at p done w =
    let x : List ℕ = take 4096 d in
    let s : List ℕ = drop done p in
    let n : ℕ = fitting p done at in
    let l : length x ≡ 4096 = length-take-le 4096 d w in
    let e : at + n - at ≡ n = omega arith in
    let f : n ≡ min (length s) (length x - at) = omega (arith, length-drop done p) in
    ap (λ k. take k (drop at (over_row d at s))) e ∙ (elim (cases_lt at 4096) [
      | inr h ↦ let z : n ≡ 0 = omega arith in ap (λ k. take k (drop at (over_row d at s))) z ∙ sym (ap (λ k. take k s) z)
      | inl h ↦
          ap (λ y. take n (drop at y)) (row_parts d at s n f)
          ∙ ap (take n) (drop_at (take at x) (take n s ++ (drop (at + n) x ++ drop 4096 d)) at (length-take-le at x (omega arith)))
          ∙ take_at (take n s) (drop (at + n) x ++ drop 4096 d) n (length-take-le n s (omega arith))
    ])

pub kept_behind : (d : List ℕ) (at : ℕ) (p : List ℕ) (done : ℕ) → 4096 ≤ length d → drop (at + fitting p done at) (over_row d at (drop done p)) ≡ drop (at + fitting p done at) d
unfolding over_row
kept_behind d at p done w =
    let x : List ℕ = take 4096 d in
    let s : List ℕ = drop done p in
    let n : ℕ = fitting p done at in
    let l : length x ≡ 4096 = length-take-le 4096 d w in
    let f : n ≡ min (length s) (length x - at) = omega (arith, length-drop done p) in
    elim (cases_lt at 4096) [
      | inr h ↦ ap (drop (at + n)) (row_past d at s (omega arith))
      | inl h ↦
          let o : length (paste x at s n) ≡ length x = length-paste x at s n (omega arith) (omega arith) in
          ap (λ k. drop (at + n) (paste x at s k ++ drop 4096 d)) (sym f)
          ∙ drop-append-le (at + n) (paste x at s n) (drop 4096 d) (omega arith)
          ∙ ap (λ y. y ++ drop 4096 d) (drop-paste x at s n (omega arith) (omega arith))
          ∙ sym (drop-append-le (at + n) x (drop 4096 d) (omega arith))
          ∙ ap (drop (at + n)) (take-append-drop 4096 d)
    ]

pub in_order : (p : List ℕ) (done : ℕ) (rs : List Row) → Wide rs → done ≤ length p → take done p ++ all_new p done rs ≡ take (done_by p done rs) p
unfolding all_new done_by went
in_order p done [] w h = append-nil (take done p)
in_order p done (r ∷ rs) w h =
    let n : ℕ = fitting p done r.used in
    ap (λ x. take done p ++ (x ++ all_new p (done + n) rs)) (put_new r.bytes r.used p done w.0)
    ∙ sym (append_assoc (take done p) (take n (drop done p)) (all_new p (done + n) rs))
    ∙ ap (λ x. x ++ all_new p (done + n) rs) (sym (take-add done n p))
    ∙ in_order p (done + n) rs w.1 (omega arith)

pub gets_on : (p : List ℕ) (done used : ℕ) → used < 4096 → (went p done used).finished ≡ false → done < (went p done used).done
unfolding went
gets_on p done used h e = omega (arith, leb-false (length p) (done + fitting p done used) e)

pub comes_out : (p : List ℕ) (done : ℕ) (rs : List Row) → Roomy rs → length p ≤ done + length rs → length p ≤ done_by p done rs
unfolding done_by went
comes_out p done [] w h = omega arith
comes_out p done (r ∷ rs) w h = let room = w.0 in comes_out p (done + fitting p done r.used) rs w.1 (omega arith)
