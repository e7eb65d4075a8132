-- What the code's arithmetic answers, as what the language has in its place.
use Rattle.std.specs.Prelude.{ℕ, ℤ, Some, None, Ok, Err, Option, Result}
use Rattle.values.specs.declared.numbers.Trouble.{Trouble}
use Rattle.values.specs.declared.numbers.Trouble.TheVariants.{ByZero, TooLarge}
use Rattle.values.specs.declared.numbers.Arithmetic.{Arithmetic}
use Rattle.values.specs.declared.numbers.Arithmetic.TheVariants.{Add, Subtract, Multiply, Divide, Remainder}
use Rattle.language.specs.Text.{Num, too_large, fine}
use Rattle.store.specs.Numbers.{number}
use Rattle.language.specs.Meaning.{State, Got, got, left, wrong}

-- arithmetic that answers with no number came to one that is too large
abbrev pub judged : Option ℤ → Num
judged (Some z) = fine (number z)
judged None = too_large

-- a division by 0 is wrong 4, and a number out of bounds is wrong 3
abbrev pub divided : Result ℤ Trouble → State → Got
divided (Ok z) s = got (number z) s
divided (Err ByZero) s = left (wrong 4 s)
divided (Err TooLarge) s = left (wrong 3 s)

-- the operator's number
abbrev pub operation : Arithmetic → ℕ
operation Add = 6
operation Subtract = 7
operation Multiply = 8
operation Divide = 9
operation Remainder = 10
