-- At which level a token binds, and by which operator. Assumes nothing: these are definitions.
use Rattle.std.specs.Prelude.{◌≡◌, ℕ, zero, suc, ◌+◌, ◌<◌, ◌≤◌, Bool, true, false, List, Some, ◌==◌}
use Rattle.language.specs.Text.{pick, or}
use Rattle.language.specs.Program
use Rattle.language.specs.Program.{sees}
use Rattle.lexer.specs.Memory.{cell}
use Rattle.lexer.specs.Marks.{Seen}
use Rattle.parser.specs.Nodes.{bit, term_of, a_place}
use Rattle.parser.specs.Frames.{frame_of, frame_low}
use Rattle.lexer.specs.Places.{toks}
use Rattle.parser.specs.declared.frames.Spot.{Spot}
use Rattle.lexer.specs.declared.tokens.Keyword.{Keyword}
use Rattle.lexer.specs.declared.tokens.Keyword.TheVariants.{In, Length, Upper, Index, Substr, Split, Swap}
use Rattle.lexer.specs.declared.tokens.Token.{Token}
use Rattle.lexer.specs.declared.tokens.Token.TheVariants.{Name as AName, Keyword as AKeyword, Number, Quoted, Sign, Bad}
use Rattle.parser.specs.declared.nodes.Operator.{Operator}
use Rattle.parser.specs.declared.nodes.Operator.TheVariants.{Or as OOr, And as OAnd, Equal as OEqual, Unequal as OUnequal, Less as OLess, AtMost as OAtmost, Plus as OPlus, Minus as OMinus, Times as OTimes, Over as OOver, Rest as ORest, Join as OJoin, More as OMore, AtLeast as OAtleast}

-- 0 if it does not bind, else one more than the level
abbrev pub sign_level : ℕ → Bool → ℕ
sign_level d p =
    pick (d == 61) (bit p) (pick (d == 6) 2 (pick (d == 5) 3 (pick (or (d == 126) (d == 7)) 4 (pick (or (d == 1) (or (d == 2) (or (d == 3) (or (d == 4) (or (d == 60) (d == 62)))))) 5 (pick (or (d == 36) (or (d == 40) (d == 33))) 6 (pick (or (d == 43) (d == 45)) 7 (pick (or (d == 42) (or (d == 47) (d == 37))) 8 0)))))))

abbrev pub keyword_level : Keyword → ℕ
keyword_level In = 4
keyword_level Length = 6
keyword_level Upper = 6
keyword_level Index = 6
keyword_level Substr = 6
keyword_level Split = 6
keyword_level Swap = 6
keyword_level _ = 0

abbrev pub level_at : Token → Bool → ℕ
level_at (AName x) p = 6
level_at (AKeyword k) p = keyword_level k
level_at (Number n) p = 6
level_at (Quoted q) p = 6
level_at (Sign d) p = sign_level d p
level_at Bad p = 0

abbrev pub sign_operator : ℕ → Operator
sign_operator d =
    pick (d == 6) OOr (pick (d == 5) OAnd (pick (d == 1) OEqual (pick (d == 2) OUnequal (pick (d == 60) OLess (pick (d == 3) OAtmost (pick (d == 62) OMore (pick (d == 4) OAtleast (pick (d == 43) OPlus (pick (d == 45) OMinus (pick (d == 42) OTimes (pick (d == 47) OOver (pick (d == 37) ORest OJoin))))))))))))

abbrev pub operator_at : Token → Operator
operator_at (Sign d) = sign_operator d
operator_at _ = OJoin

-- the loosest level that may go on within what was begun last
abbrev pub low_at : List ℕ → ℕ → ℕ
low_at m zero = 0
low_at m (suc d) = frame_low (frame_of (cell m (21120 + d)))

-- the token binds at this level to the operand in node i, to which up to level h may bind
pub record Binds (bs m : List ℕ) (s : Spot) (i h : ℕ) (t : Token) (l : ℕ) : Type 0 where
  pub seen : Seen bs (Some t) (toks bs s.place)
  pub level_is : l ≡ level_at t (a_place (term_of (cell m i)))
  pub tighter : low_at m s.depth < l
  pub within : l ≤ h

-- ~ or !~, which is negated
abbrev pub LikeSign : List Program.Token → Bool → Type 0
LikeSign us false = sees 126 us ≡ true
LikeSign us true = (sees 126 us ≡ false) × (sees 7 us ≡ true)
