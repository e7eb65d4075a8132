-- What reading an expression comes to. Assumes nothing: these are definitions.
use Rattle.std.specs.Prelude.{◌≡◌, ℕ, ◌+◌, ◌*◌, ◌<◌, ◌≤◌, List, Some, None, Option}
use Rattle.language.specs.Program.{Term, term, got, none}
use Rattle.lexer.specs.Memory.{Kept}
use Rattle.parser.specs.Nodes.{Tree}
use Rattle.lexer.specs.Places.{fuel, toks}
use Rattle.parser.specs.Frames.{effort}
use Rattle.parser.specs.declared.frames.Turn.{Turn}
use Rattle.parser.specs.declared.frames.Turn.TheVariants.{Operand, After, Done}
use Rattle.parser.specs.declared.expressions.Parsed.{Parsed}

-- there is room to begin at a place, with the first free cell
pub record Start (count place nodes : ℕ) : Type 0 where
  pub few : count ≤ 4096
  pub within : place ≤ count
  pub low : 8448 ≤ nodes
  pub room : nodes ≤ 8448 + 3 * place

-- how far reading went: at least one token, with less than three nodes for each
pub record Onward (count place nodes : ℕ) (r : Parsed) : Type 0 where
  pub on : place < r.place
  pub within : r.place ≤ count
  pub grown : nodes ≤ r.nodes
  pub room : r.nodes + 1 ≤ 8448 + 3 * r.place

-- the nodes that were written are paid for by the expression's own tokens, three for each
abbrev pub Paid : ℕ → ℕ → Option Parsed → Type 0
Paid place nodes (Some r) = r.nodes + 1 + 3 * place ≤ nodes + 3 * r.place
Paid place nodes None = Unit {0}

pub record TermGot (bs m₁ : List ℕ) (count place nodes : ℕ) (r : Parsed) : Type 0 where
  pub operand : Term
  pub tree : Tree bs m₁ r.nodes r.node operand
  pub means : term (fuel bs) (toks bs place) ≡ got operand (toks bs r.place)
  pub onward : Onward count place nodes r

abbrev pub TermCame : List ℕ → List ℕ → ℕ → ℕ → ℕ → Option Parsed → Type 0
TermCame bs m₁ count place nodes (Some r) = TermGot bs m₁ count place nodes r
TermCame bs m₁ count place nodes None = term (fuel bs) (toks bs place) ≡ none

-- an expression was read, or there is none; cells below the first free one are kept
pub record TermRead (bs m m₁ : List ℕ) (count place nodes : ℕ) (r : Option Parsed) : Type 0 where
  pub kept : Kept 0 nodes m m₁
  pub came : TermCame bs m₁ count place nodes r

-- what is left to do in a turn
abbrev pub left : ℕ → Turn → ℕ
left count (Operand s) = effort count s + 1
left count (After s i h) = effort count s + 4
left count (Done s i) = 0
