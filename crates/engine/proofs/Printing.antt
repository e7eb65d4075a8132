-- Values that a print lets go, and what it puts into the row.
use Rattle.std.proofs.Common.{◌≡◌, ℕ, zero, suc, ◌+◌, ◌-◌, ◌<◌, get_or, sym, ap, ◌∙◌, arith}
use Rattle.store.specs.declared.cells.Value.{Value}
use Rattle.store.specs.declared.cells.Value.TheVariants.{Unset}
use Rattle.store.specs.Values.{decoded, let_go}
use Rattle.regions.specs.Parts.{Parts, with_texts}
use Rattle.engine.specs.Prints.{released}

released_first : (p : Parts) (d n : ℕ) → 0 < n → released p d n ≡ released (with_texts p (let_go 20480 77822 p.texts (get_or (decoded p.stack) (d - 1) Unset))) (d - 1) (n - 1)
unfolding released
released_first p d zero h = absurd (omega arith)
released_first p d (suc n) h = let e : suc n - 1 ≡ n = omega arith in ap (released (with_texts p (let_go 20480 77822 p.texts (get_or (decoded p.stack) (d - 1) Unset))) (d - 1)) (sym e)

-- one more is let go
pub released_next : (p q : Parts) (d n i : ℕ) (v : Value) → i < n → v ≡ get_or (decoded p.stack) (d - (i + 1)) Unset → q ≡ with_texts p (let_go 20480 77822 p.texts v) →
    released p (d - i) (n - i) ≡ released q (d - (i + 1)) (n - (i + 1))
released_next p q d n i v h e f =
    let a : (d - i) - 1 ≡ d - (i + 1) = omega arith in
    let b : (n - i) - 1 ≡ n - (i + 1) = omega arith in
    released_first p (d - i) (n - i) (omega arith)
    ∙ ap (λ x. released (with_texts p (let_go 20480 77822 p.texts (get_or (decoded p.stack) x Unset))) x ((n - i) - 1)) a
    ∙ ap (λ x. released (with_texts p (let_go 20480 77822 p.texts (get_or (decoded p.stack) (d - (i + 1)) Unset))) (d - (i + 1)) x) b
    ∙ ap (λ x. released (with_texts p (let_go 20480 77822 p.texts x)) (d - (i + 1)) (n - (i + 1))) (sym e)
    ∙ ap (λ x. released x (d - (i + 1)) (n - (i + 1))) (sym f)

pub released_none : (p : Parts) (d n : ℕ) → n ≡ 0 → released p d n ≡ p
unfolding released
released_none p d n e = ap (released p d) e
