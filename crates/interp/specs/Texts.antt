-- Texts of values, and what joining two does. Assumes nothing: these are definitions.
use Rattle.std.specs.Prelude.{ℕ, ◌+◌, List, ◌++◌, length, Some, None, Option, nat_le, nat_lt}
use Rattle.language.specs.Text.{pick, as_text}
use Rattle.store.specs.declared.texts.Handle.{Handle}
use Rattle.store.specs.declared.cells.Value.{Value}
use Rattle.store.specs.declared.cells.Value.TheVariants.{Text as InText, Short as InShort}
use Rattle.store.specs.Short.{short_of}
use Rattle.store.specs.Space.{allocated, written}
use Rattle.regions.specs.Parts.{Parts, with_texts}
use Rattle.interp.specs.Outcomes.{Refuse}
use Rattle.interp.specs.declared.registers.Registers.{Registers}
use Rattle.interp.specs.Turns.{Did, says, top_of, under_of, worth_in, replaced_two}

-- the text of a value
abbrev pub text_in : Parts → Value → List ℕ
text_in p v = as_text (worth_in p v)

-- the text of v goes into the text h, from its byte `at` on
abbrev pub putting : Parts → ℕ → ℕ → Value → Parts
putting p h at v = with_texts p (written 77822 p.texts h at (text_in p v))

-- v, which has m bytes, and w go into a new text, if there is one
abbrev pub joined_in : Parts → Registers → ℕ → Value → Value → Option Handle → Did
joined_in p r m v w None = says (Refuse 8) p r
joined_in p r m v w (Some h) = replaced_two (putting (putting p h.index 0 v) h.index m w) r (InText h)

unfoldable pub joined_long : Parts → Registers → ℕ → ℕ → Did
joined_long p r m size =
    joined_in (with_texts p (allocated 20480 77822 p.texts size).space) r m (under_of p r) (top_of p r) (allocated 20480 77822 p.texts size).handle

-- two texts as one: too long a one is refused, a short one needs no room
abbrev pub joined_as : Parts → Registers → List ℕ → List ℕ → Did
joined_as p r a b =
    pick (nat_lt (length a + length b) 65536)
    (pick (nat_le (length a + length b) 8) (replaced_two p r (InShort (short_of (a ++ b)))) (joined_long p r (length a) (length a + length b)))
    (says (Refuse 7) p r)

unfoldable pub joined : Parts → Registers → Did
joined p r = joined_as p r (text_in p (under_of p r)) (text_in p (top_of p r))
