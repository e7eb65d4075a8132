use Rattle.std.proofs.Common.{◌≡◌, ◌+◌, ◌%◌, ◌^◌, ◌<◌, ◌≤◌, [], ◌∷◌, length, drop}
use Rattle.language.specs.Text.{digits}
use Rattle.store.proofs.decimal.put_digits.Given as goal

abbrev pub invariant-loop-m : goal.invariant-loop-m
invariant-loop-m l =
    (1 ≤ l.k) × (l.k ≤ 19) × (length l.row ≡ 20) × (l.m < 10 ^ l.k)
    × (digits 20 l.n [] ≡ digits (l.k + 1) l.m (drop (l.k + 1) l.row))
    × (drop l.k l.row ≡ (48 + l.m % 10) ∷ drop (l.k + 1) l.row)

abbrev pub decreases-loop-m : goal.decreases-loop-m
decreases-loop-m l = l.k
