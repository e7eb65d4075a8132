use Rattle.std.proofs.Common.{ap, ◌∙◌, arith}
use Rattle.std.proofs.lemmas.Int.{ints}
use Rattle.language.specs.Text.{within}
use Rattle.store.specs.Numbers.{number}
use Rattle.values.proofs.Reckoning.{difference_is}
use Rattle.values.proofs.numbers.subtract.Goals as goal

pub returns : goal.returns
returns c = rw (difference_is c.args.a c.args.b) (c.in_bounds.ensures ∙ ap (λ z. within (number z)) (omega (arith, ints)))
