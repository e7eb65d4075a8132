-- That the tokens of a text are in an area has one proof at most, so a reader of expressions can carry it. Assumes nothing: what is stated is proved here.
use Rattle.std.specs.Prelude.{◌≡◌, ℕ, zero, suc, Bool, List, []}
use Rattle.std.specs.Coded.{Coded-set, code_by, coded×, coded_ℕ, coded_bool, coded_list, le_prop}
use mathlib.Core.Path.{refl}
use Rattle.language.specs.Program
use Rattle.language.specs.Program.{word, number, quoted, sign, bad}
use Rattle.lexer.specs.Marks.{TokenSays}
use Rattle.lexer.specs.Places.{Ready}
use Rattle.lexer.specs.declared.tokens.Token.{Token}
use Rattle.lexer.specs.declared.tokens.Token.TheVariants.{Name as AName, Keyword as AKeyword, Number, Quoted, Sign, Bad}

-- a token of the text as two numbers and bytes, and back
abbrev to_parts : Program.Token → ℕ × (ℕ × List ℕ)
to_parts (word b) = (0, (0, b))
to_parts (number n) = (1, (n, []))
to_parts (quoted b) = (2, (0, b))
to_parts (sign d) = (3, (d, []))
to_parts bad = (4, (0, []))

abbrev from_parts : ℕ × (ℕ × List ℕ) → Program.Token
from_parts (zero, (n, b)) = word b
from_parts (suc zero, (n, b)) = number n
from_parts (suc (suc zero), (n, b)) = quoted b
from_parts (suc (suc (suc zero)), (n, b)) = sign n
from_parts (suc (suc (suc (suc k))), (n, b)) = bad

from_parts-to_parts : (t : Program.Token) → from_parts (to_parts t) ≡ t
from_parts-to_parts (word b) = refl
from_parts-to_parts (number n) = refl
from_parts-to_parts (quoted b) = refl
from_parts-to_parts (sign d) = refl
from_parts-to_parts bad = refl

Token-set : IsSet Program.Token
Token-set = Coded-set (code_by (ℕ × (ℕ × List ℕ)) (coded× coded_ℕ (coded× coded_ℕ (coded_list coded_ℕ))) to_parts from_parts from_parts-to_parts)

Bool-set : IsSet Bool
Bool-set = Coded-set coded_bool

number-set : IsSet ℕ
number-set = Coded-set coded_ℕ

TokenSays-prop : (bs : List ℕ) (t : Token) (s : Program.Token) → IsProp (TokenSays bs t s)
TokenSays-prop bs (AName x) s = hlevel (Token-set, Bool-set, le_prop)
TokenSays-prop bs (AKeyword k) s = hlevel (Token-set, Bool-set, le_prop)
TokenSays-prop bs (Number n) s = hlevel (Token-set, Bool-set, le_prop)
TokenSays-prop bs (Quoted q) s = hlevel (Token-set, Bool-set, le_prop)
TokenSays-prop bs (Sign d) s = hlevel (Token-set, Bool-set, le_prop)
TokenSays-prop bs Bad s = hlevel (Token-set, Bool-set, le_prop)

pub Ready-prop : (bs m : List ℕ) (n : ℕ) → IsProp (Ready bs m n)
Ready-prop bs m n = hlevel (TokenSays-prop, number-set, le_prop)
