-- Expressions as nodes in cells: how a cell is read, and which expression a node is. Assumes nothing: these are definitions.
use Rattle.std.specs.Prelude.{◌≡◌, ℕ, ◌<◌, ◌≤◌, Bool, true, false, not, ◌&&◌, List, ◌==◌, ◌≢◌, nat_le}
use Rattle.language.specs.Text.{pick}
use Rattle.language.specs.Program.{Term, num, txt, var, item, field, un, bin, like, there, put_in, call, part, split, swap, Terms, no_terms, term_and}
use Rattle.language.specs.Known.{plain_term, plain_terms}
use Rattle.lexer.specs.Memory.{cell}
use Rattle.lexer.specs.declared.cells.Cell.{Cell}
pub use Rattle.lexer.specs.Places.{Named, QuotedAt, PatternAt}
use Rattle.lexer.specs.declared.tokens.Name.{Name}
use Rattle.parser.specs.declared.nodes.Prefix.{Prefix}
use Rattle.parser.specs.declared.nodes.Prefix.TheVariants.{Not as PNot, Negative as PNegative, Length as PLength, Upper as PUpper}
use Rattle.parser.specs.declared.nodes.Operator.{Operator}
use Rattle.parser.specs.declared.nodes.Operator.TheVariants.{Or as OOr, And as OAnd, Equal as OEqual, Unequal as OUnequal, Less as OLess, AtMost as OAtmost, Plus as OPlus, Minus as OMinus, Times as OTimes, Over as OOver, Rest as ORest, Join as OJoin, Index as OIndex, More as OMore, AtLeast as OAtleast}
use Rattle.parser.specs.declared.nodes.TermNode.{TermNode}
use Rattle.parser.specs.declared.nodes.TermNode.TheVariants.{Number, Text, Variable, Item, Field, Unary, Binary, Like, There, Assign, Call, Part, Split, Swap}
use Rattle.parser.specs.declared.nodes.ListNode.{ListNode}
use Rattle.parser.specs.declared.nodes.ListNode.TheVariants.{Empty, More as Longer}

-- the operators by their numbers
abbrev pub operator_number : Operator → ℕ
operator_number OOr = 0
operator_number OAnd = 1
operator_number OEqual = 2
operator_number OUnequal = 3
operator_number OLess = 4
operator_number OAtmost = 5
operator_number OPlus = 6
operator_number OMinus = 7
operator_number OTimes = 8
operator_number OOver = 9
operator_number ORest = 10
operator_number OJoin = 11
operator_number OIndex = 12
operator_number OMore = 13
operator_number OAtleast = 14

abbrev pub prefix_number : Prefix → ℕ
prefix_number PNot = 0
prefix_number PNegative = 1
prefix_number PLength = 2
prefix_number PUpper = 3

abbrev pub operator_of : ℕ → Operator
operator_of n =
    pick (n == 0) OOr (pick (n == 1) OAnd (pick (n == 2) OEqual (pick (n == 3) OUnequal (pick (n == 4) OLess (pick (n == 5) OAtmost (pick (n == 6) OPlus (pick (n == 7) OMinus (pick (n == 8) OTimes (pick (n == 9) OOver (pick (n == 10) ORest (pick (n == 11) OJoin (pick (n == 12) OIndex (pick (n == 13) OMore OAtleast)))))))))))))

abbrev pub prefix_of : ℕ → Prefix
prefix_of n = pick (n == 0) PNot (pick (n == 1) PNegative (pick (n == 2) PLength PUpper))

-- the node in a cell
unfoldable pub term_of : Cell → TermNode
term_of c =
    pick (c.kind == 11) (Text c.first) (pick (c.kind == 12) (Variable (record { start = c.first; len = c.second })) (pick (c.kind == 13) (Item (record { start = c.first; len = c.second }) c.third) (pick (c.kind == 14) (Field c.first) (pick (c.kind == 15) (Unary (prefix_of c.first) c.second) (pick (c.kind == 16) (Binary (operator_of c.first) c.second c.third) (pick (c.kind == 17) (Like c.first c.second) (pick (c.kind == 18) (There c.first (record { start = c.second; len = c.third })) (pick (c.kind == 19) (Assign c.first c.second) (pick (c.kind == 20) (Call (record { start = c.first; len = c.second }) c.third) (pick (c.kind == 21) (Part c.first c.second c.third) (pick (c.kind == 22) (Split c.first (record { start = c.second; len = c.third }) c.fourth) (pick (c.kind == 23) (Swap c.first c.second c.third) (Number c.first)))))))))))))

-- the list in a cell
unfoldable pub list_of : Cell → ListNode
list_of c = pick (c.kind == 31) (Longer c.first c.second) Empty

-- a truth as a number
abbrev pub bit : Bool → ℕ
bit true = 1
bit false = 0

-- the node i, among those up to n, is this one, and its flag says whether it is of the core; nodes begin at cell 8448
pub record At (m : List ℕ) (n i : ℕ) (x : TermNode) (p : Bool) : Type 0 where
  pub low : 8448 ≤ i
  pub below : i < n
  pub is : term_of (cell m i) ≡ x
  pub plain : (cell m i).flag ≡ bit p

-- the same of a list
pub record ListAt (m : List ℕ) (n i : ℕ) (x : ListNode) : Type 0 where
  pub low : 8448 ≤ i
  pub below : i < n
  pub is : list_of (cell m i) ≡ x

unfoldable mutual
  -- node i, among those up to n, is this expression of the text
  pub Tree : List ℕ → List ℕ → ℕ → ℕ → Term → Type 0
  Tree bs m n i (num k) = At m n i (Number k) true
  Tree bs m n i (txt b) = (q : ℕ) × At m n i (Text q) true × QuotedAt bs q b
  Tree bs m n i (var x) = (v : Name) × At m n i (Variable v) true × Named bs v x
  Tree bs m n i (item x a) = (v : Name) × (j : ℕ) × At m n i (Item v j) false × Named bs v x × Tree bs m n j a
  Tree bs m n i (field a) = (j : ℕ) × At m n i (Field j) (plain_term a) × Tree bs m n j a
  Tree bs m n i (un o a) = (p : Prefix) × (j : ℕ) × At m n i (Unary p j) (nat_le o 1 && plain_term a) × (prefix_number p ≡ o) × Tree bs m n j a
  Tree bs m n i (bin o a b) =
      (p : Operator) × (j : ℕ) × (k : ℕ) × At m n i (Binary p j k) (not (o == 12) && (plain_term a && plain_term b)) × (operator_number p ≡ o) × Tree bs m n j a × Tree bs m n k b
  Tree bs m n i (like a p) = (j : ℕ) × (q : ℕ) × At m n i (Like j q) false × Tree bs m n j a × PatternAt bs q p
  Tree bs m n i (there a x) = (j : ℕ) × (v : Name) × At m n i (There j v) false × Tree bs m n j a × Named bs v x
  Tree bs m n i (put_in a b) = (j : ℕ) × (k : ℕ) × At m n i (Assign j k) (plain_term a && plain_term b) × Tree bs m n j a × Tree bs m n k b
  Tree bs m n i (call x ts) =
      (v : Name) × (l : ℕ) × (e : ℕ) × At m n i (Call v l) false × Named bs v x × ListAt m n e Empty × ((cell m l).flag ≡ bit (plain_terms ts)) × Chain bs m n l e ts
  Tree bs m n i (part a b c) = (j : ℕ) × (k : ℕ) × (l : ℕ) × At m n i (Part j k l) false × Tree bs m n j a × Tree bs m n k b × Tree bs m n l c
  Tree bs m n i (split a x p) = (j : ℕ) × (v : Name) × (q : ℕ) × At m n i (Split j v q) false × Tree bs m n j a × Named bs v x × PatternAt bs q p
  Tree bs m n i (swap p a b) = (q : ℕ) × (j : ℕ) × (k : ℕ) × At m n i (Swap q j k) false × PatternAt bs q p × Tree bs m n j a × Tree bs m n k b

  -- the list that ends in node i goes on behind node e with these expressions
  pub Chain : List ℕ → List ℕ → ℕ → ℕ → ℕ → Terms → Type 0
  Chain bs m n i e no_terms = i ≡ e
  Chain bs m n i e (term_and t ts) = (j : ℕ) × (k : ℕ) × ListAt m n j (Longer e k) × Tree bs m n k t × Chain bs m n i j ts

-- the list that ends in node i is of these expressions
pub record TermsAt (bs m : List ℕ) (n i : ℕ) (ts : Terms) : Type 0 where
  pub first : ℕ
  pub empty : ListAt m n first Empty
  pub plain : (cell m i).flag ≡ bit (plain_terms ts)
  pub chain : Chain bs m n i first ts

-- a node was written, and nothing else
pub record Made (m m₁ : List ℕ) (i : ℕ) (x : TermNode) (p : Bool) : Type 0 where
  pub here : term_of (cell m₁ i) ≡ x
  pub plain : (cell m₁ i).flag ≡ bit p
  pub others : (j : ℕ) → (j ≢ i) → cell m₁ j ≡ cell m j

-- a list was written, and nothing else
pub record Listed (m m₁ : List ℕ) (i : ℕ) (x : ListNode) (p : Bool) : Type 0 where
  pub here : list_of (cell m₁ i) ≡ x
  pub plain : (cell m₁ i).flag ≡ bit p
  pub others : (j : ℕ) → (j ≢ i) → cell m₁ j ≡ cell m j

-- the node is a place, which can be assigned to
abbrev pub a_place : TermNode → Bool
a_place (Variable v) = true
a_place (Item v j) = true
a_place (Field j) = true
a_place _ = false
