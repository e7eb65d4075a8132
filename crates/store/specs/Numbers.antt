-- The specification's number for a number of the code. Assumes nothing: these are definitions.
use Rattle.std.specs.Prelude.{ℤ, pos, negsuc}
use Rattle.language.specs.Text.{Value, plus, minus}

abbrev pub number : ℤ → Value
number (pos n) = plus n
number (negsuc n) = minus n
