-- What memory holds of values: those on the stack, those in the slots, and those that an operation has in its hand between taking them from somewhere
-- and putting them elsewhere. Each holds its text. Assumes nothing: these are definitions.
use Rattle.std.specs.Prelude.{◌≡◌, ℕ, zero, suc, ◌<◌, ◌≤◌, List, [], ◌∷◌, ◌++◌, length, slice_index_or}
use Rattle.language.specs.Text
use Rattle.language.specs.Text.{each, text}
use Rattle.language.specs.Meaning.{Bind, bound, first_or}
use Rattle.store.specs.declared.cells.Value.{Value}
use Rattle.store.specs.declared.cells.Value.TheVariants.{Unset}
use Rattle.store.specs.Model.{occ}
use Rattle.store.specs.Laws.{Texts}
use Rattle.store.specs.Values.{decoded, held_by}
use Rattle.store.specs.Worth.{meant}
use Rattle.regions.specs.Parts.{Parts}
use Rattle.assembly.specs.Assembly.{Entry, named, literal, Pool}

-- the first n cells, from the last of them down: of a stack, from its top
unfoldable pub tops : List Value → ℕ → List Value
tops cs zero = []
tops cs (suc n) = slice_index_or cs n Unset ∷ tops cs n

-- the handles that values hold
unfoldable pub held_all : List Value → List ℕ
held_all [] = []
held_all (v ∷ vs) = held_by v ++ held_all vs

-- the values on a stack of this depth, and those in so many slots
abbrev pub stacked : Parts → ℕ → List Value
stacked m n = tops (decoded m.stack) n

abbrev pub slotted : Parts → ℕ → List Value
slotted m k = tops (decoded m.slots) k

-- all who hold a text: what is in the hand, on the stack and in the slots
abbrev pub holders : List Value → Parts → ℕ → ℕ → List ℕ
holders hand m n k = held_all hand ++ (held_all (stacked m n) ++ held_all (slotted m k))

-- what an entry of the pool is worth where variables have these values
abbrev pub entry_worth : List Bind → Entry → Text.Value
entry_worth bs (named x) = first_or (text []) (bound bs x)
entry_worth bs (literal v) = v

-- Memory holds the values ws in the hand and us on the stack, both from the top; variables and constants stand in the slots of the pool. Texts in the heap
-- have at least nine bytes: shorter ones lie in their cells.
pub record Holds (π : Pool) (hand : List Value) (ws : List Text.Value) (m : Parts) (n : ℕ) (us : List Text.Value) (bs : List Bind) : Type 0 where
  pub said : ℕ → List ℕ
  pub texts : Texts 20480 77822 m.texts (holders hand m n (length π)) said
  pub long : (k : ℕ) → 1 ≤ occ k (holders hand m n (length π)) → 9 ≤ length (said k)
  pub in_hand : each (meant said) hand ≡ ws
  pub on_stack : each (meant said) (stacked m n) ≡ us
  pub in_slots : (k : ℕ) → k < length π → meant said (slice_index_or (decoded m.slots) k Unset) ≡ entry_worth bs (slice_index_or π k (literal (text [])))
  pub stack_wide : length m.stack ≡ 32832
  pub slots_wide : length m.slots ≡ 8192
  pub deep : n ≤ 16416
  pub few : length π ≤ 4096
