-- What a reader of expressions keeps, and what its turns come to. Assumes nothing: these are definitions.
use Rattle.std.specs.Prelude.{◌≡◌, ℕ, ◌+◌, Option}
use Rattle.parser.specs.Frames.{Before, Behind, Ended, effort, Pays}
use Rattle.parser.specs.declared.expressions.Reader.{Reader}
use Rattle.parser.specs.declared.frames.Spot.{Spot}
use Rattle.parser.specs.declared.frames.Turn.{Turn}

-- it reads the same text in the same area, of as many tokens
pub record Same (r r₁ : Reader) : Type 0 where
  pub text : r₁.text.now ≡ r.text.now
  pub area : r₁.work.ghost_name ≡ r.work.ghost_name
  pub count : r₁.count ≡ r.count

-- a turn from where an operand is to be read
abbrev pub Begins : Reader → Reader → Spot → Option Turn → Type 0
Begins r r₁ s t = Pays r.text.now r.work.now r₁.work.now r.count s.nodes (effort r.count s) (Before r.text.now r.work.now s) t

-- a turn behind the operand in node i, to which up to level h may bind
abbrev pub Follows : Reader → Reader → Spot → ℕ → ℕ → Option Turn → Type 0
Follows r r₁ s i h t = Pays r.text.now r.work.now r₁.work.now r.count s.nodes (effort r.count s + 3) (Behind r.text.now r.work.now s i h) t

-- a turn from where nothing more binds to the operand in node i
abbrev pub Finishes : Reader → Reader → Spot → ℕ → Option Turn → Type 0
Finishes r r₁ s i t = Pays r.text.now r.work.now r₁.work.now r.count s.nodes (effort r.count s + 3) (Ended r.text.now r.work.now s i) t
