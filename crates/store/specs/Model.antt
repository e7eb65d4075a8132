-- The texts that a region holds: what the laws speak of. Assumes nothing: these are definitions.
use Rattle.std.specs.Prelude.{◌≡◌, ℕ, ◌+◌, ◌-◌, ◌/◌, ◌<◌, ◌≤◌, cond, List, [], ◌∷◌, ◌++◌, length, take, ◌==◌, nat_lt, slice_index, slice_set}
use Rattle.store.specs.Words.{unpacked}
use Rattle.store.specs.Space.{Space, span}

-- a text: its handle, how many hold it, its length in bytes, and its bytes, eight to a word
pub record Cell : Type 0 where
  pub handle : ℕ
  pub count : ℕ
  pub size : ℕ
  pub words : List ℕ

abbrev pub encoded : Cell → List ℕ
encoded c = c.count ∷ c.size ∷ c.handle ∷ c.words

abbrev pub laid : List Cell → List ℕ
laid [] = []
laid (c ∷ cs) = encoded c ++ laid cs

-- those that are somebody's
abbrev pub live : ℕ → List Cell → List Cell
live T [] = []
live T (c ∷ cs) = cond (nat_lt c.handle T) (c ∷ live T cs) (live T cs)

abbrev pub extent : List Cell → ℕ
extent [] = 0
extent (c ∷ cs) = span c.size + extent cs

abbrev pub names : List Cell → List ℕ
names [] = []
names (c ∷ cs) = c.handle ∷ names cs

-- how often h stands in a list
abbrev pub is : ℕ → ℕ → ℕ
is h x = cond (h == x) 1 0

abbrev pub occ : ℕ → List ℕ → ℕ
occ h [] = 0
occ h (x ∷ xs) = is h x + occ h xs

-- a cell is as wide as it says; and if it's somebody's, the table has its place, and it has a holder
pub record Sits (T : ℕ) (t : List ℕ) (o : ℕ) (c : Cell) : Type 0 where
  pub wide : length c.words ≡ c.size / 8 + 1
  pub at : c.handle < T → slice_index t c.handle ≡ o
  pub counted : c.handle < T → 1 ≤ c.count

abbrev pub Placed : ℕ → List ℕ → ℕ → List Cell → Type 0
Placed T t o [] = Unit {0}
Placed T t o (c ∷ cs) = Sits T t o c × Placed T t (o + span c.size) cs

-- the handles that aren't in use, each with the next in the table
abbrev pub Linked : ℕ → List ℕ → ℕ → List ℕ → Type 0
Linked T t f [] = T ≤ f
Linked T t f (h ∷ hs) = (f ≡ h) × (h < T) × Linked T t (slice_index t h) hs

pub record Laid (T W : ℕ) (s : Space) (bs : List Cell) (fs : List ℕ) : Type 0 where
  pub front : take s.top s.heap ≡ laid bs
  pub within : s.top ≤ W
  pub wide : length s.heap ≡ W
  pub tall : length s.table ≡ T
  pub placed : Placed T s.table 0 bs
  pub linked : Linked T s.table s.free fs
  pub once : (h : ℕ) → h < T → occ h fs + occ h (names bs) ≤ 1
  pub all : length fs + length (live T bs) ≡ T

-- the space holds just the texts H
abbrev pub Store : ℕ → ℕ → Space → List Cell → Type 0
Store T W s H = (bs : List Cell) × (fs : List ℕ) × Laid T W s bs fs × (live T bs ≡ H)

-- the cell of h is changed by f
abbrev pub on : ℕ → (Cell → Cell) → List Cell → List Cell
on h f [] = []
on h f (c ∷ cs) = cond (h == c.handle) (f c) c ∷ on h f cs

abbrev pub without : ℕ → List Cell → List Cell
without h [] = []
without h (c ∷ cs) = cond (h == c.handle) (without h cs) (c ∷ without h cs)

abbrev pub counted_as : ℕ → Cell → Cell
counted_as n c = record { handle = c.handle; count = n; size = c.size; words = c.words }

abbrev pub more : Cell → Cell
more c = counted_as (c.count + 1) c

abbrev pub fewer : Cell → Cell
fewer c = counted_as (c.count - 1) c

abbrev pub nobody's : ℕ → Cell → Cell
nobody's T c = record { handle = T; count = c.count; size = c.size; words = c.words }

-- what h is in H; a text without holders if it isn't there
abbrev pub look : ℕ → List Cell → Cell
look h [] = record { handle = h; count = 0; size = 0; words = [] }
look h (c ∷ cs) = cond (h == c.handle) c (look h cs)

-- the holders hs are just those that are counted
abbrev pub Held : List Cell → List ℕ → Type 0
Held H hs = (h : ℕ) → (look h H).count ≡ occ h hs

-- one holder of h less: with none left, h is given back
abbrev pub let_go : ℕ → List Cell → List Cell
let_go h H = cond (nat_lt 1 (look h H).count) (on h fewer H) (without h H)

abbrev pub with_word : ℕ → ℕ → Cell → Cell
with_word k v c = record { handle = c.handle; count = c.count; size = c.size; words = slice_set c.words k v }

-- what is counted for the holders: 16 and the bytes of its text for each
abbrev pub held_bytes : List Cell → List ℕ → ℕ
held_bytes H [] = 0
held_bytes H (h ∷ hs) = 16 + (look h H).size + held_bytes H hs

abbrev pub bytes : Cell → List ℕ
bytes c = take c.size (unpacked c.words)
