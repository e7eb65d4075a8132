-- Seven words written one after the other are a cell.
use Rattle.std.proofs.Common.{◌≡◌, ℕ, ◌+◌, ◌*◌, ◌<◌, ◌≤◌, ◌≢◌, List, length, get_or, set, refl, ◌∙◌, arith, length-set, get_or-set_other, get_or-set_same}
use Rattle.std.proofs.lemmas.List.{get_or_past}
use Rattle.lexer.specs.Memory.{cell, Stored}
use Rattle.lexer.specs.declared.cells.Cell.{Cell}

pub cell_out : (m : List ℕ) (i : ℕ) (d : Cell) → length m ≡ 179200 → 25600 ≤ i → d.kind ≡ 0 → d.flag ≡ 0 → d.first ≡ 0 → d.second ≡ 0 → d.third ≡ 0 → d.fourth ≡ 0 → d.fifth ≡ 0 → d ≡ cell m i
unfolding cell
cell_out m i d l h k f a b c x y =
    let z : Cell = record { kind = 0; flag = 0; first = 0; second = 0; third = 0; fourth = 0; fifth = 0 } in
    let e : record { kind = d.kind; flag = d.flag; first = d.first; second = d.second; third = d.third; fourth = d.fourth; fifth = d.fifth } ≡ z = rw (k, f, a, b, c, x, y) refl in
    let e0 = get_or_past m (7 * i) 0 (omega arith) in
    let e1 = get_or_past m (7 * i + 1) 0 (omega arith) in
    let e2 = get_or_past m (7 * i + 2) 0 (omega arith) in
    let e3 = get_or_past m (7 * i + 3) 0 (omega arith) in
    let e4 = get_or_past m (7 * i + 4) 0 (omega arith) in
    let e5 = get_or_past m (7 * i + 5) 0 (omega arith) in
    let e6 = get_or_past m (7 * i + 6) 0 (omega arith) in
    e ∙ rw (e0, e1, e2, e3, e4, e5, e6) refl

-- the words from b on, written in order
abbrev pub written : List ℕ → ℕ → Cell → List ℕ
written m b c = set (set (set (set (set (set (set m b c.kind) (b + 1) c.flag) (b + 2) c.first) (b + 3) c.second) (b + 4) c.third) (b + 5) c.fourth) (b + 6) c.fifth

out : (m : List ℕ) (b k : ℕ) (c : Cell) → k ≢ b → k ≢ b + 1 → k ≢ b + 2 → k ≢ b + 3 → k ≢ b + 4 → k ≢ b + 5 → k ≢ b + 6 → get_or (written m b c) k 0 ≡ get_or m k 0
out m b k c p0 p1 p2 p3 p4 p5 p6 =
    get_or-set_other _ (b + 6) k _ 0 p6 ∙ get_or-set_other _ (b + 5) k _ 0 p5 ∙ get_or-set_other _ (b + 4) k _ 0 p4 ∙ get_or-set_other _ (b + 3) k _ 0 p3 ∙ get_or-set_other _ (b + 2) k _ 0 p2 ∙ get_or-set_other _ (b + 1) k _ 0 p1 ∙ get_or-set_other _ (b) k _ 0 p0

pub stored : (m : List ℕ) (i : ℕ) (c : Cell) → 7 * i + 6 < length m → Stored m (written m (7 * i) c) i c
unfolding cell
stored m i c h =
    let b : ℕ = 7 * i in
    let s0 : List ℕ = set m (b) c.kind in
    let s1 : List ℕ = set s0 (b + 1) c.flag in
    let s2 : List ℕ = set s1 (b + 2) c.first in
    let s3 : List ℕ = set s2 (b + 3) c.second in
    let s4 : List ℕ = set s3 (b + 4) c.third in
    let s5 : List ℕ = set s4 (b + 5) c.fourth in
    let s6 : List ℕ = set s5 (b + 6) c.fifth in
    let l0 : length s0 ≡ length m = length-set m (b) c.kind in
    let l1 : length s1 ≡ length s0 = length-set s0 (b + 1) c.flag in
    let l2 : length s2 ≡ length s1 = length-set s1 (b + 2) c.first in
    let l3 : length s3 ≡ length s2 = length-set s2 (b + 3) c.second in
    let l4 : length s4 ≡ length s3 = length-set s3 (b + 4) c.third in
    let l5 : length s5 ≡ length s4 = length-set s4 (b + 5) c.fourth in
    let e0 : get_or s6 (b) 0 ≡ c.kind = get_or-set_other s5 (b + 6) (b) _ 0 (λ e. omega arith) ∙ get_or-set_other s4 (b + 5) (b) _ 0 (λ e. omega arith) ∙ get_or-set_other s3 (b + 4) (b) _ 0 (λ e. omega arith) ∙ get_or-set_other s2 (b + 3) (b) _ 0 (λ e. omega arith) ∙ get_or-set_other s1 (b + 2) (b) _ 0 (λ e. omega arith) ∙ get_or-set_other s0 (b + 1) (b) _ 0 (λ e. omega arith) ∙ get_or-set_same m (b) _ 0 (omega arith) in
    let e1 : get_or s6 (b + 1) 0 ≡ c.flag = get_or-set_other s5 (b + 6) (b + 1) _ 0 (λ e. omega arith) ∙ get_or-set_other s4 (b + 5) (b + 1) _ 0 (λ e. omega arith) ∙ get_or-set_other s3 (b + 4) (b + 1) _ 0 (λ e. omega arith) ∙ get_or-set_other s2 (b + 3) (b + 1) _ 0 (λ e. omega arith) ∙ get_or-set_other s1 (b + 2) (b + 1) _ 0 (λ e. omega arith) ∙ get_or-set_same s0 (b + 1) _ 0 (omega arith) in
    let e2 : get_or s6 (b + 2) 0 ≡ c.first = get_or-set_other s5 (b + 6) (b + 2) _ 0 (λ e. omega arith) ∙ get_or-set_other s4 (b + 5) (b + 2) _ 0 (λ e. omega arith) ∙ get_or-set_other s3 (b + 4) (b + 2) _ 0 (λ e. omega arith) ∙ get_or-set_other s2 (b + 3) (b + 2) _ 0 (λ e. omega arith) ∙ get_or-set_same s1 (b + 2) _ 0 (omega arith) in
    let e3 : get_or s6 (b + 3) 0 ≡ c.second = get_or-set_other s5 (b + 6) (b + 3) _ 0 (λ e. omega arith) ∙ get_or-set_other s4 (b + 5) (b + 3) _ 0 (λ e. omega arith) ∙ get_or-set_other s3 (b + 4) (b + 3) _ 0 (λ e. omega arith) ∙ get_or-set_same s2 (b + 3) _ 0 (omega arith) in
    let e4 : get_or s6 (b + 4) 0 ≡ c.third = get_or-set_other s5 (b + 6) (b + 4) _ 0 (λ e. omega arith) ∙ get_or-set_other s4 (b + 5) (b + 4) _ 0 (λ e. omega arith) ∙ get_or-set_same s3 (b + 4) _ 0 (omega arith) in
    let e5 : get_or s6 (b + 5) 0 ≡ c.fourth = get_or-set_other s5 (b + 6) (b + 5) _ 0 (λ e. omega arith) ∙ get_or-set_same s4 (b + 5) _ 0 (omega arith) in
    let e6 : get_or s6 (b + 6) 0 ≡ c.fifth = get_or-set_same s5 (b + 6) _ 0 (omega arith) in
    record {
      here = rw (e0, e1, e2, e3, e4, e5, e6) refl;
      others = λ j n.
          let q0 = out m b (7 * j) c (λ e. n (omega arith)) (λ e. omega arith) (λ e. omega arith) (λ e. omega arith) (λ e. omega arith) (λ e. omega arith) (λ e. omega arith) in
          let q1 = out m b (7 * j + 1) c (λ e. omega arith) (λ e. n (omega arith)) (λ e. omega arith) (λ e. omega arith) (λ e. omega arith) (λ e. omega arith) (λ e. omega arith) in
          let q2 = out m b (7 * j + 2) c (λ e. omega arith) (λ e. omega arith) (λ e. n (omega arith)) (λ e. omega arith) (λ e. omega arith) (λ e. omega arith) (λ e. omega arith) in
          let q3 = out m b (7 * j + 3) c (λ e. omega arith) (λ e. omega arith) (λ e. omega arith) (λ e. n (omega arith)) (λ e. omega arith) (λ e. omega arith) (λ e. omega arith) in
          let q4 = out m b (7 * j + 4) c (λ e. omega arith) (λ e. omega arith) (λ e. omega arith) (λ e. omega arith) (λ e. n (omega arith)) (λ e. omega arith) (λ e. omega arith) in
          let q5 = out m b (7 * j + 5) c (λ e. omega arith) (λ e. omega arith) (λ e. omega arith) (λ e. omega arith) (λ e. omega arith) (λ e. n (omega arith)) (λ e. omega arith) in
          let q6 = out m b (7 * j + 6) c (λ e. omega arith) (λ e. omega arith) (λ e. omega arith) (λ e. omega arith) (λ e. omega arith) (λ e. omega arith) (λ e. n (omega arith)) in
          rw (q0, q1, q2, q3, q4, q5, q6) refl;
    }
