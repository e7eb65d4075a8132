-- What constants take of the room for texts. Assumes nothing: these are definitions.
use Rattle.std.specs.Prelude.{◌≡◌, ℕ, ◌+◌, ◌<◌, ◌≤◌, List, [], length, nat_le, slice_index_or}
use Rattle.language.specs.Text.{pick, added_up, plus, minus, text}
use Rattle.assembly.specs.Assembly.{Entry, named, literal, Pool}

-- what would be counted of a constant that lies in the heap: 16, and its bytes
abbrev pub constant_size : Entry → ℕ
constant_size (named x) = 0
constant_size (literal (plus n)) = 0
constant_size (literal (minus n)) = 0
constant_size (literal (text b)) = pick (nat_le (length b) 8) 0 (16 + length b)

-- a name has one slot
abbrev pub Apart : Pool → Type 0
Apart π = (j k : ℕ) (x : List ℕ) → j < length π → k < length π → slice_index_or π j (literal (text [])) ≡ named x → slice_index_or π k (literal (text [])) ≡ named x → j ≡ k

-- constants are few: nothing counts them, and the texts' room has slack for them
abbrev pub Slight : Pool → Type 0
Slight π = added_up constant_size π ≤ 10050
