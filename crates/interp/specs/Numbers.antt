-- What operators on numbers and comparisons do. Assumes nothing: these are definitions.
use Rattle.std.specs.Prelude.{◌≡◌, ℕ, Bool, pos, negsuc}
use Rattle.language.specs.Text
use Rattle.language.specs.Text.{plus, minus, text, truth}
use Rattle.language.specs.Meaning.{State, Got, got, left, reckon, reckon_one}
use Rattle.values.specs.declared.compare.Comparison.{Comparison}
use Rattle.values.specs.Compare.{operator}
use Rattle.values.specs.declared.numbers.Trouble.{Trouble}
use Rattle.values.specs.declared.numbers.Trouble.TheVariants.{ByZero, TooLarge}
use Rattle.store.specs.declared.cells.Value.{Value}
use Rattle.store.specs.declared.cells.Value.TheVariants.{Number}
use Rattle.regions.specs.Parts.{Parts}
use Rattle.interp.specs.declared.Refusal.{Refusal}
use Rattle.interp.specs.Outcomes.{Turn, Refuse}
use Rattle.interp.specs.declared.registers.Registers.{Registers}
use Rattle.interp.specs.Turns.{Did, says, top_of, under_of, worth_in, replaced, replaced_two}
use Rattle.interp.specs.Jumps.{ended, nothing_done}

abbrev pub refusal_of : Trouble → Refusal
refusal_of ByZero = Refusal.ByZero
refusal_of TooLarge = Refusal.OutOfBounds

abbrev pub troubled : Trouble → Turn
troubled ByZero = Refuse 4
troubled TooLarge = Refuse 3

-- what an operator has as its result: a number is put down, and an error is refused; operators on numbers have no text as their result
abbrev pub settled : (Value → Did) → (Turn → Did) → Got → Did
settled put stop (got (plus n) s) = put (Number (pos n))
settled put stop (got (minus n) s) = put (Number (negsuc n))
settled put stop (got (text b) s) = stop (Refuse 2)
settled put stop (left w) = stop (ended w)

-- operator k of the language on the two on top, and on the top

unfoldable pub figured : ℕ → Parts → Registers → Did
figured k p r = settled (replaced_two p r) (λ t. says t p r) (reckon k (worth_in p (under_of p r)) (worth_in p (top_of p r)) nothing_done)

unfoldable pub figured_one : ℕ → Parts → Registers → Did
figured_one k p r = settled (replaced p r) (λ t. says t p r) (reckon_one k (worth_in p (top_of p r)) nothing_done)

-- b is what the comparison c has as its result, as a condition
unfoldable pub Compares : Comparison → Bool → Text.Value → Text.Value → Type 0
Compares c b v w = (s : State) → got (truth b) s ≡ reckon (operator c) v w s
