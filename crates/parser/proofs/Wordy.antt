-- Reserved words where an operand is to be read.
use Rattle.std.proofs.Common.{◌≡◌, ℕ, ◌≤◌, false, List, ◌∷◌, refl}
use Rattle.language.specs.Program.{Token, word, none, sees}
use Rattle.lexer.specs.Marks.{spelled}
use Rattle.parser.specs.Levels.{Enough}
use Rattle.parser.specs.Frames.{Begun, low, before}
use Rattle.lexer.specs.declared.tokens.Keyword.{Keyword}
use Rattle.lexer.specs.declared.tokens.Keyword.TheVariants.{Begin, End, Function, If, Else, While, For, In, Print, Next, Exit, Delete, Return, Length, Upper, Index, Substr, Split, Swap}
use Rattle.parser.proofs.Operands.{bare_length, bare_upper, bare_index, bare_part, bare_split, bare_swap, op_begin, op_end, op_function, op_if, op_else, op_while, op_for, op_in, op_print, op_next, op_exit, op_delete, op_return}

pub bare_word : (N : ℕ) (fs : List Begun) → low fs ≤ 8 → (k : Keyword) (us : List Token) → Enough N (word (spelled k) ∷ us) → sees 40 us ≡ false → before N fs (word (spelled k) ∷ us) ≡ none
unfolding spelled
bare_word N fs l Begin us e t = op_begin N fs l us e
bare_word N fs l End us e t = op_end N fs l us e
bare_word N fs l Function us e t = op_function N fs l us e
bare_word N fs l If us e t = op_if N fs l us e
bare_word N fs l Else us e t = op_else N fs l us e
bare_word N fs l While us e t = op_while N fs l us e
bare_word N fs l For us e t = op_for N fs l us e
bare_word N fs l In us e t = op_in N fs l us e
bare_word N fs l Print us e t = op_print N fs l us e
bare_word N fs l Next us e t = op_next N fs l us e
bare_word N fs l Exit us e t = op_exit N fs l us e
bare_word N fs l Delete us e t = op_delete N fs l us e
bare_word N fs l Return us e t = op_return N fs l us e
bare_word N fs l Length us e t = bare_length N fs l us e t
bare_word N fs l Upper us e t = bare_upper N fs l us e t
bare_word N fs l Index us e t = bare_index N fs l us e t
bare_word N fs l Substr us e t = bare_part N fs l us e t
bare_word N fs l Split us e t = bare_split N fs l us e t
bare_word N fs l Swap us e t = bare_swap N fs l us e t

pub other_word : (N : ℕ) (fs : List Begun) → low fs ≤ 8 → (k : Keyword) (us : List Token) → Enough N (word (spelled k) ∷ us) →
    (k ≡ Length → ⊥) → (k ≡ Upper → ⊥) → (k ≡ Index → ⊥) → (k ≡ Substr → ⊥) → (k ≡ Split → ⊥) → (k ≡ Swap → ⊥) → before N fs (word (spelled k) ∷ us) ≡ none
unfolding spelled
other_word N fs l Begin us e p q r s t u = op_begin N fs l us e
other_word N fs l End us e p q r s t u = op_end N fs l us e
other_word N fs l Function us e p q r s t u = op_function N fs l us e
other_word N fs l If us e p q r s t u = op_if N fs l us e
other_word N fs l Else us e p q r s t u = op_else N fs l us e
other_word N fs l While us e p q r s t u = op_while N fs l us e
other_word N fs l For us e p q r s t u = op_for N fs l us e
other_word N fs l In us e p q r s t u = op_in N fs l us e
other_word N fs l Print us e p q r s t u = op_print N fs l us e
other_word N fs l Next us e p q r s t u = op_next N fs l us e
other_word N fs l Exit us e p q r s t u = op_exit N fs l us e
other_word N fs l Delete us e p q r s t u = op_delete N fs l us e
other_word N fs l Return us e p q r s t u = op_return N fs l us e
other_word N fs l Length us e p q r s t u = absurd (p refl)
other_word N fs l Upper us e p q r s t u = absurd (q refl)
other_word N fs l Index us e p q r s t u = absurd (r refl)
other_word N fs l Substr us e p q r s t u = absurd (s refl)
other_word N fs l Split us e p q r s t u = absurd (t refl)
other_word N fs l Swap us e p q r s t u = absurd (u refl)
