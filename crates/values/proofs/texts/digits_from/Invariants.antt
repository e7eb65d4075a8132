use Rattle.std.proofs.Common.{◌≡◌, ◌+◌, ◌-◌, ◌^◌, ◌<◌, take, drop}
use Rattle.language.specs.Text.{leading, digit}
use Rattle.values.specs.Texts.{run}
use Rattle.values.proofs.texts.digits_from.Given as goal

abbrev pub invariant-loop-k : goal.invariant-loop-k
invariant-loop-k g l =
    (l.n < 10 ^ l.k)
    × (leading 0 (take 18 (drop l.from (g.T.Bytes.bytes l.t))) ≡ leading l.n (take (18 - l.k) (drop l.k (drop l.from (g.T.Bytes.bytes l.t)))))
    × (run digit (drop l.from (g.T.Bytes.bytes l.t)) ≡ l.k + run digit (drop l.k (drop l.from (g.T.Bytes.bytes l.t))))
