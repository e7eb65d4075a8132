-- Tokens as the code has them, what they stand for, and how they are kept in cells. Assumes nothing: these are definitions.
use Rattle.std.specs.Prelude.{◌≡◌, ℕ, suc, ◌+◌, ◌%◌, ◌<◌, ◌≤◌, false, List, [], ◌∷◌, length, take, drop, Some, None, Option, ◌==◌, slice_index_or}
use Rattle.language.specs.Text.{pick, any, same}
use Rattle.language.specs.Program
use Rattle.language.specs.Program.{word, number, quoted, sign, bad, quote_part, tokens, cut_up, rest, kept_word, w_begin, w_end, w_function, w_if, w_else, w_while, w_for, w_in, w_print, w_next, w_exit, w_delete, w_return, w_length, w_upper, w_index, w_substr, w_split, w_swap}
use Rattle.lexer.specs.Memory.{cell}
use Rattle.lexer.specs.declared.cells.Cell.{Cell}
use Rattle.lexer.specs.declared.tokens.Name.{Name}
use Rattle.lexer.specs.declared.tokens.Keyword.{Keyword}
use Rattle.lexer.specs.declared.tokens.Keyword.TheVariants.{Begin, End, Function, If, Else, While, For, In, Print, Next, Exit, Delete, Return, Length, Upper, Index, Substr, Split, Swap}
use Rattle.lexer.specs.declared.tokens.Token.{Token}
use Rattle.lexer.specs.declared.tokens.Token.TheVariants.{Name as AName, Keyword as AKeyword, Number, Quoted, Sign, Bad}
use Rattle.lexer.specs.declared.tokens.Piece.{Piece}

-- a reserved word's bytes
unfoldable pub spelled : Keyword → List ℕ
spelled Begin = w_begin
spelled End = w_end
spelled Function = w_function
spelled If = w_if
spelled Else = w_else
spelled While = w_while
spelled For = w_for
spelled In = w_in
spelled Print = w_print
spelled Next = w_next
spelled Exit = w_exit
spelled Delete = w_delete
spelled Return = w_return
spelled Length = w_length
spelled Upper = w_upper
spelled Index = w_index
spelled Substr = w_substr
spelled Split = w_split
spelled Swap = w_swap

-- which reserved word a word is, if it is one
abbrev pub KeywordIs : List ℕ → Option Keyword → Type 0
KeywordIs w (Some k) = w ≡ spelled k
KeywordIs w None = kept_word w ≡ false

-- which function that is built in a word names, if it does
abbrev pub BuiltInIs : List ℕ → Option Keyword → Type 0
BuiltInIs w (Some k) = w ≡ spelled k
BuiltInIs w None = any (same w) (w_length ∷ w_upper ∷ w_index ∷ w_substr ∷ w_split ∷ w_swap ∷ []) ≡ false

-- the bytes of a name in the text
unfoldable pub bytes_of : List ℕ → Name → List ℕ
bytes_of bs x = take x.len (drop x.start bs)

-- the token that the code has stands for this one
abbrev pub TokenSays : List ℕ → Token → Program.Token → Type 0
TokenSays bs (AName x) s = (s ≡ word (bytes_of bs x)) × (kept_word (bytes_of bs x) ≡ false) × (x.start + x.len ≤ length bs)
TokenSays bs (AKeyword k) s = s ≡ word (spelled k)
TokenSays bs (Number n) s = s ≡ number n
TokenSays bs (Quoted q) s = (s ≡ quoted (quote_part (drop q bs))) × (q ≤ length bs)
TokenSays bs (Sign d) s = s ≡ sign d
TokenSays bs Bad s = s ≡ bad

-- the first of these tokens is what the code has; none, if there is none
abbrev pub Seen : List ℕ → Option Token → List Program.Token → Type 0
Seen bs None us = us ≡ []
Seen bs (Some (AName x)) us = (us ≡ word (bytes_of bs x) ∷ rest us) × (kept_word (bytes_of bs x) ≡ false) × (x.start + x.len ≤ length bs)
Seen bs (Some (AKeyword k)) us = us ≡ word (spelled k) ∷ rest us
Seen bs (Some (Number n)) us = us ≡ number n ∷ rest us
Seen bs (Some (Quoted q)) us = (us ≡ quoted (quote_part (drop q bs)) ∷ rest us) × (q ≤ length bs)
Seen bs (Some (Sign d)) us = us ≡ sign d ∷ rest us
Seen bs (Some Bad) us = us ≡ bad ∷ rest us

-- what the tokens from a place on are: those from where a piece ends, and before them its token, if it has one
abbrev pub PieceGives : List ℕ → ℕ → Option Token → ℕ → Type 0
PieceGives bs i None to = (m : ℕ) → tokens (suc m) (drop i bs) ≡ tokens m (drop to bs)
PieceGives bs i (Some t) to = (s : Program.Token) × TokenSays bs t s × ((m : ℕ) → tokens (suc m) (drop i bs) ≡ s ∷ tokens m (drop to bs))

-- what stands at a place of the text: nothing that counts, or a token, and where it ends
pub record PieceSays (bs : List ℕ) (i : ℕ) (p : Piece) : Type 0 where
  pub onward : i < p.end
  pub inside : p.end ≤ length bs
  pub gives : PieceGives bs i p.token p.end

-- the reserved word with this number
abbrev pub keyword_at : ℕ → Keyword
keyword_at n =
    pick (n == 0) Begin (pick (n == 1) End (pick (n == 2) Function (pick (n == 3) If (pick (n == 4) Else (pick (n == 5) While (pick (n == 6) For
    (pick (n == 7) In (pick (n == 8) Print (pick (n == 9) Next (pick (n == 10) Exit (pick (n == 11) Delete (pick (n == 12) Return (pick (n == 13) Length
    (pick (n == 14) Upper (pick (n == 15) Index (pick (n == 16) Substr (pick (n == 17) Split Swap)))))))))))))))))

-- the token in a cell
unfoldable pub token_of : Cell → Token
token_of c =
    pick (c.kind == 1) (AName (record { start = c.first; len = c.second })) (pick (c.kind == 2) (AKeyword (keyword_at c.first))
    (pick (c.kind == 3) (Number c.first) (pick (c.kind == 4) (Quoted c.first) (pick (c.kind == 5) (Sign (c.first % 256)) Bad))))

-- the first n cells are the tokens of the text
pub record TokensIn (bs m : List ℕ) (n : ℕ) : Type 0 where
  pub count : n ≡ length (cut_up bs)
  pub few : n ≤ length bs
  pub each : (k : ℕ) → k < n → TokenSays bs (token_of (cell m k)) (slice_index_or (cut_up bs) k bad)
