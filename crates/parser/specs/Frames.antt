-- Reading expressions with a stack of what was begun: frames, what they still mean, and how they are kept. Assumes nothing: these are definitions.
use Rattle.std.specs.Prelude.{◌≡◌, ℕ, zero, suc, ◌+◌, ◌-◌, ◌*◌, ◌<◌, ◌≤◌, Bool, true, false, List, [], ◌∷◌, Some, None, Option, ◌==◌, ◌≢◌}
use Rattle.language.specs.Text.{pick, Pattern}
use Rattle.language.specs.Program
use Rattle.language.specs.Program.{Term, Terms, no_terms, term_and, item, field, un, bin, put_in, call, part, split, swap, none, got, with_got, Reads, past, sees, rest, name_of, pattern_here, can_set, term, args}
use Rattle.lexer.specs.Memory.{cell, Kept}
use Rattle.parser.specs.Nodes.{operator_of, operator_number, prefix_of, prefix_number, Tree, TermsAt, Made}
use Rattle.lexer.specs.Places.{Named, PatternAt}
pub use Rattle.lexer.specs.Places.{fuel, toks, Ready}
use Rattle.parser.specs.Levels.{at, from}
use Rattle.lexer.specs.declared.cells.Cell.{Cell}
use Rattle.parser.specs.declared.nodes.TermNode.{TermNode}
use Rattle.parser.specs.declared.frames.Frame.{Frame}
use Rattle.parser.specs.declared.frames.Frame.TheVariants.{Infix, Prefixed, Dollar, Assigning, Group, Indexing, Measuring, IndexFirst, IndexSecond, PartFirst, PartSecond, PartThird, SplitFirst, SwapFirst, SwapSecond, Arguments}
use Rattle.parser.specs.declared.frames.Spot.{Spot}
use Rattle.parser.specs.declared.frames.Turn.{Turn}
use Rattle.parser.specs.declared.frames.Turn.TheVariants.{Operand, After, Done}

-- what was begun, and waits for an operand
pub data Begun : Type 0 where
  in_bin : ℕ → ℕ → Term → Begun  -- at a level, by an operator, behind its left side
  in_un : ℕ → Begun  -- ! or -
  in_field : Begun  -- $
  in_set : Term → Begun  -- behind a = of this place
  in_brackets : Begun  -- (
  in_item : List ℕ → Begun  -- t[
  in_measure : ℕ → Begun  -- length( or upper(
  in_index : Begun  -- index(
  in_index_of : Term → Begun
  in_part : Begun  -- substr(
  in_part_of : Term → Begun
  in_part_at : Term → Term → Begun
  in_split : Begun  -- split(
  in_swap : Pattern → Begun  -- swap("p",
  in_swap_by : Pattern → Term → Begun
  in_call : List ℕ → Terms → Begun  -- f( with these arguments so far

-- the expressions of the first list, then those of the second
unfoldable pub joined_terms : Terms → Terms → Terms
joined_terms no_terms ys = ys
joined_terms (term_and t xs) ys = term_and t (joined_terms xs ys)

-- the loosest level that may go on within what was begun last
abbrev pub low : List Begun → ℕ
low [] = 0
low (in_bin k o l ∷ fs) = suc k
low (in_un o ∷ fs) = 8
low (in_field ∷ fs) = 8
low (_ ∷ fs) = 0

-- below which level it goes on once both sides are there: a comparison has two sides only
abbrev pub high_of : ℕ → ℕ
high_of k = pick (k == 4) 4 (suc k)

-- what goes on behind an operand from below level h down to level r, and then R
abbrev pub onward : ℕ → ℕ → (Term → List Program.Token → Reads Term) → ℕ → Term → List Program.Token → Reads Term
onward N r R h a us = with_got (from N r h a us) R

-- what the grammar makes of the rest once the operand that was waited for is there
unfoldable pub resume : ℕ → List Begun → Term → List Program.Token → Reads Term
resume N [] a us = got a us
resume N (in_bin k o l ∷ fs) b us = onward N (low fs) (λ c vs. resume N fs c vs) (high_of k) (bin o l b) us
resume N (in_un o ∷ fs) a us = onward N (low fs) (λ c vs. resume N fs c vs) 8 (un o a) us
resume N (in_field ∷ fs) a us = onward N (low fs) (λ c vs. resume N fs c vs) 8 (field a) us
resume N (in_set l ∷ fs) b us = onward N (low fs) (λ c vs. resume N fs c vs) 0 (put_in l b) us
resume N (in_brackets ∷ fs) a us = past 41 us (λ vs. onward N (low fs) (λ c ws. resume N fs c ws) 8 a vs)
resume N (in_item x ∷ fs) a us = past 93 us (λ vs. onward N (low fs) (λ c ws. resume N fs c ws) 8 (item x a) vs)
resume N (in_measure o ∷ fs) a us = past 41 us (λ vs. onward N (low fs) (λ c ws. resume N fs c ws) 8 (un o a) vs)
resume N (in_index ∷ fs) a us = past 44 us (λ vs. with_got (term N vs) (λ b ws. past 41 ws (λ xs. onward N (low fs) (λ c ys. resume N fs c ys) 8 (bin 12 a b) xs)))
resume N (in_index_of a ∷ fs) b us = past 41 us (λ vs. onward N (low fs) (λ c ws. resume N fs c ws) 8 (bin 12 a b) vs)
resume N (in_part ∷ fs) a us =
    past 44 us (λ vs. with_got (term N vs) (λ b ws. past 44 ws (λ xs. with_got (term N xs) (λ d ys. past 41 ys (λ zs. onward N (low fs) (λ c qs. resume N fs c qs) 8 (part a b d) zs)))))
resume N (in_part_of a ∷ fs) b us = past 44 us (λ vs. with_got (term N vs) (λ d ws. past 41 ws (λ xs. onward N (low fs) (λ c ys. resume N fs c ys) 8 (part a b d) xs)))
resume N (in_part_at a b ∷ fs) d us = past 41 us (λ vs. onward N (low fs) (λ c ws. resume N fs c ws) 8 (part a b d) vs)
resume N (in_split ∷ fs) a us =
    past 44 us (λ vs. with_got (name_of vs) (λ x ws. past 44 ws (λ xs. with_got (pattern_here xs) (λ p ys. past 41 ys (λ zs. onward N (low fs) (λ c qs. resume N fs c qs) 8 (split a x p) zs)))))
resume N (in_swap p ∷ fs) a us =
    past 44 us (λ vs. with_got (term N vs) (λ b ws. pick (can_set b) (past 41 ws (λ xs. onward N (low fs) (λ c ys. resume N fs c ys) 8 (swap p a b) xs)) none))
resume N (in_swap_by p a ∷ fs) b us = pick (can_set b) (past 41 us (λ vs. onward N (low fs) (λ c ws. resume N fs c ws) 8 (swap p a b) vs)) none
resume N (in_call x xs ∷ fs) a us =
    pick (sees 44 us) (with_got (args N (rest us)) (λ ys vs. past 41 vs (λ ws. onward N (low fs) (λ c zs. resume N fs c zs) 8 (call x (joined_terms xs (term_and a ys))) ws)))
    (past 41 us (λ vs. onward N (low fs) (λ c ws. resume N fs c ws) 8 (call x (joined_terms xs (term_and a no_terms))) vs))

-- what the grammar makes of the rest where an operand is to be read, and behind one
abbrev pub before : ℕ → List Begun → List Program.Token → Reads Term
before N fs ts = with_got (at N (low fs) ts) (λ a us. resume N fs a us)

abbrev pub behind : ℕ → List Begun → ℕ → Term → List Program.Token → Reads Term
behind N fs h a us = onward N (low fs) (λ b vs. resume N fs b vs) h a us

-- the frame in a cell
unfoldable pub frame_of : Cell → Frame
frame_of c =
    pick (c.kind == 100) (Infix c.first (operator_of c.second) c.third) (pick (c.kind == 101) (Prefixed (prefix_of c.first)) (pick (c.kind == 102) Dollar (pick (c.kind == 103) (Assigning c.first) (pick (c.kind == 105) (Indexing (record { start = c.first; len = c.second })) (pick (c.kind == 106) (Measuring (prefix_of c.first)) (pick (c.kind == 107) IndexFirst (pick (c.kind == 108) (IndexSecond c.first) (pick (c.kind == 109) PartFirst (pick (c.kind == 110) (PartSecond c.first) (pick (c.kind == 111) (PartThird c.first c.second) (pick (c.kind == 112) SplitFirst (pick (c.kind == 113) (SwapFirst c.first) (pick (c.kind == 114) (SwapSecond c.first c.second) (pick (c.kind == 115) (Arguments (record { start = c.first; len = c.second }) c.third) Group))))))))))))))

-- the frame that the code has is what was begun
unfoldable pub FrameSays : List ℕ → List ℕ → ℕ → Frame → Begun → Type 0
FrameSays bs m n (Infix l o i) f = (k : ℕ) × (a : Term) × (l ≡ suc k) × (k ≤ 7) × Tree bs m n i a × (f ≡ in_bin k (operator_number o) a)
FrameSays bs m n (Prefixed p) f = f ≡ in_un (prefix_number p)
FrameSays bs m n Dollar f = f ≡ in_field
FrameSays bs m n (Assigning i) f = (a : Term) × Tree bs m n i a × (f ≡ in_set a)
FrameSays bs m n Group f = f ≡ in_brackets
FrameSays bs m n (Indexing v) f = (x : List ℕ) × Named bs v x × (f ≡ in_item x)
FrameSays bs m n (Measuring p) f = (f ≡ in_measure (prefix_number p)) × (2 ≤ prefix_number p)
FrameSays bs m n IndexFirst f = f ≡ in_index
FrameSays bs m n (IndexSecond i) f = (a : Term) × Tree bs m n i a × (f ≡ in_index_of a)
FrameSays bs m n PartFirst f = f ≡ in_part
FrameSays bs m n (PartSecond i) f = (a : Term) × Tree bs m n i a × (f ≡ in_part_of a)
FrameSays bs m n (PartThird i j) f = (a : Term) × (b : Term) × Tree bs m n i a × Tree bs m n j b × (f ≡ in_part_at a b)
FrameSays bs m n SplitFirst f = f ≡ in_split
FrameSays bs m n (SwapFirst q) f = (p : Pattern) × PatternAt bs q p × (f ≡ in_swap p)
FrameSays bs m n (SwapSecond q i) f = (p : Pattern) × (a : Term) × PatternAt bs q p × Tree bs m n i a × (f ≡ in_swap_by p a)
FrameSays bs m n (Arguments v l) f = (x : List ℕ) × (ts : Terms) × Named bs v x × TermsAt bs m n l ts × (f ≡ in_call x ts)

-- the frames below d are what was begun, the last one first; frames begin at cell 21120
unfoldable pub Stack : List ℕ → List ℕ → ℕ → ℕ → List Begun → Type 0
Stack bs m n zero [] = Unit {0}
Stack bs m n zero (f ∷ fs) = ⊥
Stack bs m n (suc d) [] = ⊥
Stack bs m n (suc d) (f ∷ fs) = FrameSays bs m n (frame_of (cell m (21120 + d))) f × Stack bs m n d fs

-- an operand is to be read, and then the whole comes to g
pub record Before (bs m : List ℕ) (s : Spot) (g : Reads Term) : Type 0 where
  pub begun : List Begun
  pub stack : Stack bs m s.nodes s.depth begun
  pub means : before (fuel bs) begun (toks bs s.place) ≡ g

-- an operand was read, and then the whole comes to g
pub record Behind (bs m : List ℕ) (s : Spot) (i h : ℕ) (g : Reads Term) : Type 0 where
  pub begun : List Begun
  pub operand : Term
  pub stack : Stack bs m s.nodes s.depth begun
  pub tree : Tree bs m s.nodes i operand
  pub high : h ≤ 8
  pub means : behind (fuel bs) begun h operand (toks bs s.place) ≡ g

-- an operand was read, and nothing more binds to it
pub record Ended (bs m : List ℕ) (s : Spot) (i : ℕ) (g : Reads Term) : Type 0 where
  pub begun : List Begun
  pub operand : Term
  pub stack : Stack bs m s.nodes s.depth begun
  pub tree : Tree bs m s.nodes i operand
  pub means : resume (fuel bs) begun operand (toks bs s.place) ≡ g

-- an expression was read
pub record Whole (bs m : List ℕ) (s : Spot) (i : ℕ) (g : Reads Term) : Type 0 where
  pub operand : Term
  pub tree : Tree bs m s.nodes i operand
  pub means : got operand (toks bs s.place) ≡ g

-- what a turn came to; there is none where there is no expression
abbrev pub Met : List ℕ → List ℕ → Option Turn → Reads Term → Type 0
Met bs m (Some (Operand s)) g = Before bs m s g
Met bs m (Some (After s i h)) g = Behind bs m s i h g
Met bs m (Some (Done s i)) g = Whole bs m s i g
Met bs m None g = none ≡ g

-- there is room: three nodes for a token that was read, and a frame
pub record Room (count n extra : ℕ) (s : Spot) : Type 0 where
  pub within : s.place ≤ count
  pub few : count ≤ 4096
  pub frames : s.depth + extra ≤ s.place
  pub low : 8448 ≤ n
  pub grown : n ≤ s.nodes
  pub nodes : s.nodes + s.depth + extra ≤ 8448 + 3 * s.place

abbrev pub Roomy : ℕ → ℕ → Option Turn → Type 0
Roomy count n (Some (Operand s)) = Room count n 0 s
Roomy count n (Some (After s i h)) = Room count n 1 s
Roomy count n (Some (Done s i)) = Room count n 1 s
Roomy count n None = Unit {0}

-- how much is left to do
abbrev pub effort : ℕ → Spot → ℕ
effort count s = 6 * (count - s.place) + 2 * s.depth

abbrev pub Falls : ℕ → ℕ → Option Turn → Type 0
Falls count e (Some (Operand s)) = effort count s < e
Falls count e (Some (After s i h)) = effort count s + 3 < e
Falls count e (Some (Done s i)) = Unit {0}
Falls count e None = Unit {0}

-- from n nodes and this much to do: each node that was written is paid for by what is less to do
abbrev pub Spends : ℕ → ℕ → ℕ → Option Turn → Type 0
Spends count n e (Some (Operand s)) = 2 * s.nodes + effort count s ≤ 2 * n + e
Spends count n e (Some (After s i h)) = 2 * s.nodes + effort count s + 2 ≤ 2 * n + e
Spends count n e (Some (Done s i)) = 2 * s.nodes + effort count s + 2 ≤ 2 * n + e
Spends count n e None = Unit {0}

-- a turn from where the whole comes to each g of P: nodes below n are kept, there is room, less is left to do, and the whole still comes to g
pub record Goes (bs m m₁ : List ℕ) (count n e : ℕ) (P : Reads Term → Type 0) (r : Option Turn) : Type 0 where
  pub kept : Kept 0 n m m₁
  pub room : Roomy count n r
  pub falls : Falls count e r
  pub meets : (g : Reads Term) → P g → Met bs m₁ r g

-- such a turn; and what is less to do pays for the nodes that it wrote
pub record Pays (bs m m₁ : List ℕ) (count n e : ℕ) (P : Reads Term → Type 0) (r : Option Turn) : Type 0 where
  pub goes : Goes bs m m₁ count n e P r
  pub spends : Spends count n e r

-- a frame was pushed, and nothing else written
pub record Pushed (m m₁ : List ℕ) (s : Spot) (f : Frame) (eaten : ℕ) (r : Turn) : Type 0 where
  pub is : r ≡ Operand (record { place = s.place + eaten; depth = s.depth + 1; nodes = s.nodes })
  pub here : frame_of (cell m₁ (21120 + s.depth)) ≡ f
  pub others : (j : ℕ) → (j ≢ 21120 + s.depth) → cell m₁ j ≡ cell m j

-- a node was written, and nothing else; what follows may bind to it up to level h
pub record Grown (m m₁ : List ℕ) (s : Spot) (x : TermNode) (p : Bool) (eaten h : ℕ) (r : Turn) : Type 0 where
  pub is : r ≡ After (record { place = s.place + eaten; depth = s.depth; nodes = s.nodes + 1 }) s.nodes h
  pub made : Made m m₁ s.nodes x p

-- the loosest level that may go on within a frame
abbrev pub frame_low : Frame → ℕ
frame_low (Infix l o i) = l
frame_low (Prefixed p) = 8
frame_low Dollar = 8
frame_low _ = 0

-- a sign closes: a node is written behind it; without it there is no turn
abbrev pub Closing : List ℕ → List ℕ → Spot → TermNode → Bool → Option Turn → Bool → Type 0
Closing m m₁ s x p r true = (t : Turn) × (r ≡ Some t) × Grown m m₁ s x p 1 8 t
Closing m m₁ s x p r false = (r ≡ None) × (m₁ ≡ m)

-- a comma: a frame is pushed behind it; without it there is no turn
abbrev pub Parting : List ℕ → List ℕ → Spot → Frame → Option Turn → Bool → Type 0
Parting m m₁ s f r true = (t : Turn) × (r ≡ Some t) × Pushed m m₁ s f 1 t
Parting m m₁ s f r false = (r ≡ None) × (m₁ ≡ m)

-- the frame on top is this one
pub record OnTop (m : List ℕ) (s : Spot) (f : Frame) : Type 0 where
  pub deep : 1 ≤ s.depth
  pub is : f ≡ frame_of (cell m (21120 + (s.depth - 1)))
