-- Values that are compared, and what an order says of two.
use Rattle.std.specs.Prelude.{◌≡◌, ℕ, Bool, List, ℤ, pos, Some, None, Option}
use Rattle.std.specs.declared.cmp.Ordering.{Ordering}
use Rattle.std.specs.Ordering.{is_lt, is_gt}
use Rattle.values.specs.declared.compare.Operand.{Operand}
use Rattle.values.specs.declared.compare.Operand.TheVariants.{Number, Text}
use Rattle.values.specs.declared.compare.Comparison.{Comparison}
use Rattle.values.specs.declared.compare.Comparison.TheVariants.{Equal, Unequal, Less, AtMost, Above, AtLeast}
use Rattle.language.specs.Text.{Value, text}
use Rattle.store.specs.Words.{bytes_of}
use Rattle.store.specs.declared.cells.Value.{Value as Cell}
use Rattle.store.specs.declared.cells.Value.TheVariants.{Unset, Short as InShort, Number as InNumber, Text as InText}
use Rattle.values.specs.Texts.{plain}
use Rattle.store.specs.Numbers.{number}

-- which of the two comes before the other
pub record Ordered {A : Type 0} (before : A → A → Bool) (a b : A) (r : Ordering) : Type 0 where
  pub first : is_lt r ≡ before a b
  pub second : is_gt r ≡ before b a

-- what is compared, as a value; `bytes` says which bytes a text has
abbrev pub worth : {T : Type 0} → (T → List ℕ) → Operand T → Value
worth bytes (Number n) = number n
worth bytes (Text t) = text (bytes t.now)

-- the operator's number
abbrev pub operator : Comparison → ℕ
operator Equal = 2
operator Unequal = 3
operator Less = 4
operator AtMost = 5
operator Above = 13
operator AtLeast = 14

-- what digits are worth, as a number with a sign
abbrev pub upwards : Option ℕ → Option ℤ
upwards (Some n) = Some (pos n)
upwards None = None

-- the number as which a value is compared, where that is seen at once: a number is itself, and a short text may have digits alone
abbrev pub plain_number : Cell → Option ℤ
plain_number Unset = None
plain_number (InNumber n) = Some n
plain_number (InShort b) = upwards (plain (bytes_of b.len b.word))
plain_number (InText h) = None
