use Rattle.std.proofs.Common.{◌≡◌, ◌^◌, ◌<◌, drop}
use Rattle.language.specs.Text.{leading}
use Rattle.lexer.proofs.tokens.value.Given as goal

abbrev pub invariant-loop-c : goal.invariant-loop-c
invariant-loop-c l = record { worth : leading l.n (drop l.c-index l.digits) ≡ leading 0 l.digits; small : l.n < 10 ^ l.c-index }
