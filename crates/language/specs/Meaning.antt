-- What a program does with a list of lines, and how many bytes are to be held on the way. Assumes nothing: these are definitions.
-- It goes from the state over variables, tables, fields, operators and built-in functions to expressions, statements, rules and whole runs;
-- outcome, at its end, is the meaning of a program on all bytes; so_far is what the lines do that are whole among those that have come.
-- Words: Term = expression; Deed = statement; Bind = a variable and its value; Item = an entry of a table; worth = value; parts = the fields of
-- the line; frames = local variables of running functions; Got = the result of an expression; Went = how doing statements ended; wrong k = error k.
-- heavy is the most that was to be held so far, in bytes; h is what the surrounding expressions and statements hold beside the state, in bytes.
-- eval, does and what uses them have a first number (fuel) that bounds how deep they go; if it isn't enough, they end as unfinished.
use Rattle.std.specs.Prelude.{ℕ, zero, suc, ◌+◌, ◌-◌, ◌*◌, Bool, false, not, ◌&&◌, leb, List, [], ◌∷◌, ◌++◌, length, take, drop, ◌==◌, nat_eq, nat_le, nat_lt, slice_range}
use Rattle.language.specs.Text.{pick, or, any, each, those, added_up, none_of, same, earlier, Value, plus, minus, text, as_text, number_of, Num, too_large, fine, within, sum, opposite, product, quotient, is_zero, less, alike, holds, truth, Pattern, matches, ends, greatest, Swapped, swap_from, fields_from, joined}
use Rattle.language.specs.Program.{Term, Terms, num, txt, var, item, field, un, bin, like, there, put_in, call, part, split, swap, no_terms, term_and, Deed, Deeds, value, print, when, while, each_key, next_line, exit, forget, give, no_deeds, deed_and, Rule, Fun, Program}

-- THE STATE, and how things can end

-- a variable and its value
pub record Bind : Type 0 where
  pub name : List ℕ
  pub worth : Value

-- an entry of a table: the table's name, the key, and the value there
pub record Item : Type 0 where
  pub table : List ℕ
  pub key : List ℕ
  pub worth : Value

-- what a run has at one time
pub record State : Type 0 where
  pub vars : List Bind  -- the global variables that were set
  pub items : List Item  -- the entries of all tables, rising by the table's name, then by key
  pub line : List ℕ  -- the current line, $0
  pub parts : List (List ℕ)  -- its fields, $1 first; NF is how many they are
  pub lines : ℕ  -- how many lines there were with this one, NR
  pub frames : List (List Bind)  -- the local variables of each running function, the innermost function first
  pub out : List ℕ  -- all that was written so far
  pub heavy : ℕ  -- the most that was to be held at any time so far, in bytes

-- how doing statements ended, with the state then
pub data Went : Type 0 where
  went : State → Went  -- all were done
  nexted : State → Went  -- by next
  stopped : ℕ → State → Went  -- by exit, with a number from 0 to 255
  given : Value → State → Went  -- by return, with a value
  -- by an error: 3 a number out of bounds, 4 a division by 0, 5 no such function or too many arguments, 6 NR or NF would be set,
  -- 7 a text or line of more than 65,535 bytes, 9 the number of a field or of exit out of bounds (1, 2 and 8 are a machine's own: Promise)
  wrong : ℕ → State → Went
  unfinished : State → Went  -- the bound on the depth was reached; a greater one may go on

-- the result of an expression
pub data Got : Type 0 where
  got : Value → State → Got  -- its value, and the state afterwards
  left : Went → Got  -- it has no value, because things ended this way within it

-- WHAT IS HELD, in bytes

-- a value: 16, and the bytes of its text
abbrev pub size_of : Value → ℕ
size_of v = 16 + length (as_text v)

-- variables: each 16, its name's bytes, and its value
unfoldable pub binds_size : List Bind → ℕ
binds_size bs = added_up (λ b. 16 + length b.name + size_of b.worth) bs

-- what a state holds: variables; entries of tables, each 32, the bytes of the table's name and of the key, and the value; the line's bytes;
-- fields, each 16 and its bytes; frames, each 64 and its variables. What was written isn't held
unfoldable pub weight : State → ℕ
weight s =
    binds_size s.vars + added_up (λ i. 32 + length i.table + length i.key + size_of i.worth) s.items
    + length s.line + added_up (λ p. 16 + length p) s.parts + added_up (λ f. 64 + binds_size f) s.frames

-- the larger of two numbers
abbrev pub larger : ℕ → ℕ → ℕ
larger a b = pick (nat_lt a b) b a

-- the state, with heavy raised, if need be, to what is held now: by the state, and h beside it
abbrev pub note : ℕ → State → State
note h s = record { vars = s.vars; items = s.items; line = s.line; parts = s.parts; lines = s.lines; frames = s.frames; out = s.out; heavy = larger s.heavy (weight s + h) }

-- the same for the state after an expression that has a value
abbrev pub noted : ℕ → Got → Got
noted h (got v s) = got v (note h s)
noted h (left w) = left w

-- the state before anything is done
abbrev pub at_first : State
at_first = record { vars = []; items = []; line = []; parts = []; lines = 0; frames = []; out = []; heavy = 0 }

-- VARIABLES

-- the value of x among these variables, as a list of one; empty if it isn't there; of two x the first counts
unfoldable pub bound : List Bind → List ℕ → List Value
bound [] x = []
bound (b ∷ bs) x = pick (same b.name x) (b.worth ∷ []) (bound bs x)

-- the variables with x set to v; a new one comes last
unfoldable pub set_bound : List Bind → List ℕ → Value → List Bind
set_bound [] x v = record { name = x; worth = v } ∷ []
set_bound (b ∷ bs) x v = pick (same b.name x) (record { name = x; worth = v } ∷ bs) (b ∷ set_bound bs x v)

-- the first value of the list, or d if it is empty
abbrev pub first_or : Value → List Value → Value
first_or d [] = d
first_or d (v ∷ vs) = v

-- the innermost frame; empty if no function runs
abbrev pub top : List (List Bind) → List Bind
top [] = []
top (f ∷ fs) = f

-- all frames but the innermost
abbrev pub below : List (List Bind) → List (List Bind)
below [] = []
below (f ∷ fs) = fs

-- the name NR in bytes
abbrev pub w_nr : List ℕ
w_nr = 78 ∷ 82 ∷ []

-- the name NF in bytes
abbrev pub w_nf : List ℕ
w_nf = 78 ∷ 70 ∷ []

-- what x is worth: in the innermost frame, if that has it; else NR and NF as counted; else the global variable, empty text if it was never set
unfoldable pub var_of : State → List ℕ → Value
var_of s x =
    pick (none_of (bound (top s.frames) x))
    (pick (same x w_nr) (plus s.lines) (pick (same x w_nf) (plus (length s.parts)) (first_or (text []) (bound s.vars x))))
    (first_or (text []) (bound (top s.frames) x))

-- the state with other global variables
abbrev pub with_vars : State → List Bind → State
with_vars s bs = record { vars = bs; items = s.items; line = s.line; parts = s.parts; lines = s.lines; frames = s.frames; out = s.out; heavy = s.heavy }

-- the state with other entries of tables
abbrev pub with_items : State → List Item → State
with_items s is = record { vars = s.vars; items = is; line = s.line; parts = s.parts; lines = s.lines; frames = s.frames; out = s.out; heavy = s.heavy }

-- the state with another line and other fields
abbrev pub with_line : State → List ℕ → List (List ℕ) → State
with_line s l ps = record { vars = s.vars; items = s.items; line = l; parts = ps; lines = s.lines; frames = s.frames; out = s.out; heavy = s.heavy }

-- the state with other frames
abbrev pub with_frames : State → List (List Bind) → State
with_frames s fs = record { vars = s.vars; items = s.items; line = s.line; parts = s.parts; lines = s.lines; frames = fs; out = s.out; heavy = s.heavy }

-- the state with so many bytes written behind what was written before
abbrev pub with_out : State → List ℕ → State
with_out s bs = record { vars = s.vars; items = s.items; line = s.line; parts = s.parts; lines = s.lines; frames = s.frames; out = s.out ++ bs; heavy = s.heavy }

-- sets x to v, in the innermost frame if that has x, else as a global variable; the result is v; to set NR or NF globally is wrong 6
unfoldable pub set_var : State → List ℕ → Value → Got
set_var s x v =
    pick (none_of (bound (top s.frames) x))
    (pick (or (same x w_nr) (same x w_nf)) (left (wrong 6 s)) (got v (with_vars s (set_bound s.vars x v))))
    (got v (with_frames s (set_bound (top s.frames) x v ∷ below s.frames)))

-- TABLES

-- this entry is that of table x at key k
abbrev pub is_item : List ℕ → List ℕ → Item → Bool
is_item x k i = same i.table x && same i.key k

-- what table x has at key k; the empty text if there is no such entry
unfoldable pub item_of : List Item → List ℕ → List ℕ → Value
item_of [] x k = text []
item_of (i ∷ is) x k = pick (is_item x k i) i.worth (item_of is x k)

-- table x at key k comes before this entry in the order of entries
abbrev pub stands_before : List ℕ → List ℕ → Item → Bool
stands_before x k i = pick (same x i.table) (earlier k i.key) (earlier x i.table)

-- the entries with table x at key k set to v; a new one is put in its place in the order
unfoldable pub set_item : List Item → List ℕ → List ℕ → Value → List Item
set_item [] x k v = record { table = x; key = k; worth = v } ∷ []
set_item (i ∷ is) x k v =
    pick (is_item x k i) (record { table = x; key = k; worth = v } ∷ is)
    (pick (stands_before x k i) (record { table = x; key = k; worth = v } ∷ i ∷ is) (i ∷ set_item is x k v))

-- the keys of table x, in the order of entries
abbrev pub keys_of : List Item → List ℕ → List (List ℕ)
keys_of is x = each (λ i. i.key) (those (λ i. same i.table x) is)

-- FIELDS of the line, and bounds on results

-- the kth field, counted from 1; the empty text if there is none
unfoldable pub nth_part : List (List ℕ) → ℕ → List ℕ
nth_part [] k = []
nth_part (p ∷ ps) zero = []
nth_part (p ∷ ps) (suc zero) = p
nth_part (p ∷ ps) (suc (suc k)) = nth_part ps (suc k)

-- the fields with the kth set to b; where fields before it are missing, empty ones are put in; n bounds how many fields are gone through
unfoldable pub set_part : ℕ → List (List ℕ) → ℕ → List ℕ → List (List ℕ)
set_part zero ps k b = ps
set_part (suc n) [] zero b = []
set_part (suc n) [] (suc zero) b = b ∷ []
set_part (suc n) [] (suc (suc k)) b = [] ∷ set_part n [] (suc k) b
set_part (suc n) (p ∷ ps) zero b = p ∷ ps
set_part (suc n) (p ∷ ps) (suc zero) b = b ∷ ps
set_part (suc n) (p ∷ ps) (suc (suc k)) b = p ∷ set_part n ps (suc k) b

-- at most 65,535 bytes; a longer text is wrong 7
abbrev pub short : List ℕ → Bool
short b = nat_lt (length b) 65536

-- the result of arithmetic; out of bounds is wrong 3
unfoldable pub as_got : Num → State → Got
as_got too_large s = left (wrong 3 s)
as_got (fine v) s = got v s

-- a text as a result; wrong 7 if it is too long
abbrev pub text_got : List ℕ → State → Got
text_got b s = pick (short b) (got (text b) s) (left (wrong 7 s))

-- a number as that of a field, 0 to 1,000, in a list of one; otherwise empty
unfoldable pub field_number : Value → List ℕ
field_number (plus n) = pick (nat_le n 1000) (n ∷ []) []
field_number (minus n) = []
field_number (text b) = []

-- the value of $k: the line for 0, otherwise the kth field; no such number is wrong 9
unfoldable pub field_got : State → List ℕ → Got
field_got s [] = left (wrong 9 s)
field_got s (zero ∷ ks) = got (text s.line) s
field_got s (suc k ∷ ks) = got (text (nth_part s.parts (suc k))) s

-- sets $k to v, with v as the result; no such number is wrong 9;
-- $0 becomes v's text and is cut into fields anew; with another field set, the line becomes all fields with a blank between (too long: wrong 7)
unfoldable pub store_field : State → Value → List ℕ → Got
store_field s v [] = left (wrong 9 s)
store_field s v (zero ∷ ks) = got v (with_line s (as_text v) (fields_from [] (as_text v)))
store_field s v (suc k ∷ ks) =
    pick (short (joined (set_part 1001 s.parts (suc k) (as_text v))))
    (got v (with_line s (joined (set_part 1001 s.parts (suc k) (as_text v))) (set_part 1001 s.parts (suc k) (as_text v)))) (left (wrong 7 s))

-- OPERATORS AND BUILT-IN FUNCTIONS, their operands worked out

-- a / b of numbers, rounded towards 0; by 0, wrong 4
abbrev pub quotient_got : Value → Value → State → Got
quotient_got a b s = pick (is_zero b) (left (wrong 4 s)) (as_got (within (quotient a b)) s)

-- a % b of numbers: the remainder, with the sign of a; by 0, wrong 4
abbrev pub left_over_got : Value → Value → State → Got
left_over_got a b s = pick (is_zero b) (left (wrong 4 s)) (as_got (within (sum a (opposite (product b (quotient a b))))) s)

-- where t stands first in bs, looking at the first n positions, of which the first counts as i; 0 if it stands at none of them
unfoldable pub place_in : ℕ → List ℕ → List ℕ → ℕ → ℕ
place_in zero t bs i = 0
place_in (suc n) t bs i = pick (same t (take (length t) bs)) i (place_in n t (drop 1 bs) (suc i))

-- index(bs, t): where t stands first in bs, counted from 1; 0 if it doesn't; the empty text stands at 1
abbrev pub place_of : List ℕ → List ℕ → ℕ
place_of bs t = place_in (suc (length bs) - length t) t bs 1

-- binary operators, by their numbers in bin: 2 to 5, 13 and 14 compare, 6 to 10 are arithmetic, 11 is concatenation, 12 index;
-- 0 and 1 (|| and &&) don't come here
unfoldable pub reckon : ℕ → Value → Value → State → Got
reckon k a b s =
    pick (k == 2) (got (truth (alike a b)) s) (pick (k == 3) (got (truth (not (alike a b))) s) (pick (k == 4) (got (truth (less a b)) s) (pick (k == 5) (got (truth (not (less b a))) s)
    (pick (k == 6) (as_got (within (sum (number_of a) (number_of b))) s) (pick (k == 7) (as_got (within (sum (number_of a) (opposite (number_of b)))) s)
    (pick (k == 8) (as_got (within (product (number_of a) (number_of b))) s) (pick (k == 9) (quotient_got (number_of a) (number_of b) s)
    (pick (k == 10) (left_over_got (number_of a) (number_of b) s) (pick (k == 11) (text_got (as_text a ++ as_text b) s)
    (pick (k == 12) (got (plus (place_of (as_text a) (as_text b))) s) (pick (k == 13) (got (truth (less b a)) s) (got (truth (not (less a b))) s))))))))))))

-- the capital of a letter a to z; any other byte is itself
abbrev pub capital : ℕ → ℕ
capital c = pick (nat_le 97 c && nat_le c 122) (c - 32) c

-- unary operators, by their numbers in un: 0 not, 1 opposite, 2 length in bytes, 3 (any other) with capitals
unfoldable pub reckon_one : ℕ → Value → State → Got
reckon_one k a s =
    pick (k == 0) (got (truth (not (holds a))) s) (pick (k == 1) (as_got (within (opposite (number_of a))) s)
    (pick (k == 2) (got (plus (length (as_text a))) s) (got (text (each capital (as_text a))) s)))

-- substr(b, i, n): n bytes of b from position i, counted from 1; positions before the first count, but have no bytes; empty if n is below 1
unfoldable pub cut_from : Value → Value → List ℕ → List ℕ
cut_from (plus i) (plus n) b = pick (i == 0) (take (n - 1) b) (take n (drop (i - 1) b))
cut_from (plus i) (minus n) b = []
cut_from (plus i) (text t) b = []
cut_from (minus i) (plus n) b = take (n - (i + 2)) b
cut_from (minus i) (minus n) b = []
cut_from (minus i) (text t) b = []
cut_from (text t) v b = []

-- the first match with bytes that begins at one of the n positions from i on: its beginning and its longest end; empty if there is none
unfoldable pub first_full : List ℕ → Pattern → ℕ → ℕ → List ℕ
first_full bs p i zero = []
first_full bs p i (suc n) = pick (nat_lt i (greatest 0 (ends bs p i))) (i ∷ greatest 0 (ends bs p i) ∷ []) (first_full bs p (suc i) n)

-- the piece from position a up to a match, and what go gives from the end of that match on; without a match, all from a on is the last piece
abbrev pub pieces_at : (ℕ → List (List ℕ)) → List ℕ → ℕ → List ℕ → List (List ℕ)
pieces_at go bs a [] = drop a bs ∷ []
pieces_at go bs a (i ∷ []) = drop a bs ∷ []
pieces_at go bs a (i ∷ j ∷ ks) = slice_range bs a i ∷ go j

-- the pieces between matches with bytes, from position a on; n bounds how many cuts there are;
-- matches are looked for in the whole text, so that ^ matches at its beginning only
unfoldable pub pieces : ℕ → Pattern → List ℕ → ℕ → List (List ℕ)
pieces zero p bs a = drop a bs ∷ []
pieces (suc n) p bs a = pieces_at (λ j. pieces n p bs j) bs a (first_full bs p a (suc (length bs)))

-- split: the pieces of a text between matches with bytes; the empty text has none
abbrev pub cut_by : Pattern → List ℕ → List (List ℕ)
cut_by p [] = []
cut_by p (c ∷ cs) = pieces (suc (length (c ∷ cs))) p (c ∷ cs) 0

-- the entries with the texts put into table x at keys i, i + 1, i + 2, …
unfoldable pub numbered : ℕ → List ℕ → List (List ℕ) → List Item → List Item
numbered i x [] is = is
numbered i x (b ∷ bs) is = numbered (suc i) x bs (set_item is x (as_text (plus i)) (text b))

-- the entries of all tables but x
abbrev pub without_table : List ℕ → List Item → List Item
without_table x is = those (λ i. not (same i.table x)) is

-- EXPRESSIONS

-- goes on with the value and the state of an expression; one that was left stays so
abbrev pub then_got : Got → (Value → State → Got) → Got
then_got (got v s) f = f v s
then_got (left w) f = left w

-- how expressions are worked out: given what is held beside the state, the expression, and the state
abbrev pub Ev : Type 0
Ev = ℕ → Term → State → Got

-- how statements are done, likewise
abbrev pub Ex : Type 0
Ex = ℕ → Deeds → State → Went

-- the result of several expressions
pub data Gots : Type 0 where
  gots : List Value → State → Gots  -- their values in order, and the state afterwards
  lefts : Went → Gots  -- one of them was left

-- goes on with the values to one result
abbrev pub then_gots : Gots → (List Value → State → Got) → Got
then_gots (gots vs s) f = f vs s
then_gots (lefts w) f = left w

-- goes on from one expression to several
abbrev pub and_gots : Got → (Value → State → Gots) → Gots
and_gots (got v s) f = f v s
and_gots (left w) f = lefts w

-- a value put before those of the others
abbrev pub more_gots : Value → Gots → Gots
more_gots v (gots vs s) = gots (v ∷ vs) s
more_gots v (lefts w) = lefts w

-- expressions worked out from left to right; each value is held while the later ones are worked out
unfoldable pub eval_all : Ev → ℕ → Terms → State → Gots
eval_all ev h no_terms s = gots [] s
eval_all ev h (term_and t ts) s = and_gots (ev h t s) (λ v s₁. more_gots v (eval_all ev (h + size_of v) ts s₁))

-- works out what a place needs: the key of an entry, the number of a field; a variable needs nothing, and has the empty text for it;
-- in a program that was read only places stand here (can_set); other expressions are wrong 9, here and in the next two
unfoldable pub place_got : Ev → ℕ → Term → State → Got
place_got ev h (num n) s = left (wrong 9 s)
place_got ev h (txt b) s = left (wrong 9 s)
place_got ev h (var x) s = got (text []) s
place_got ev h (item x k) s = ev h k s
place_got ev h (field k) s = ev h k s
place_got ev h (un k a) s = left (wrong 9 s)
place_got ev h (bin k a b) s = left (wrong 9 s)
place_got ev h (like a p) s = left (wrong 9 s)
place_got ev h (there a x) s = left (wrong 9 s)
place_got ev h (put_in a b) s = left (wrong 9 s)
place_got ev h (call x ts) s = left (wrong 9 s)
place_got ev h (part a b c) s = left (wrong 9 s)
place_got ev h (split a x p) s = left (wrong 9 s)
place_got ev h (swap p a b) s = left (wrong 9 s)

-- what stands in a place, given what it needs
unfoldable pub in_place : Term → Value → State → Got
in_place (num n) k s = left (wrong 9 s)
in_place (txt b) k s = left (wrong 9 s)
in_place (var x) k s = got (var_of s x) s
in_place (item x t) k s = got (item_of s.items x (as_text k)) s
in_place (field t) k s = field_got s (field_number (number_of k))
in_place (un j a) k s = left (wrong 9 s)
in_place (bin j a b) k s = left (wrong 9 s)
in_place (like a p) k s = left (wrong 9 s)
in_place (there a x) k s = left (wrong 9 s)
in_place (put_in a b) k s = left (wrong 9 s)
in_place (call x ts) k s = left (wrong 9 s)
in_place (part a b c) k s = left (wrong 9 s)
in_place (split a x p) k s = left (wrong 9 s)
in_place (swap p a b) k s = left (wrong 9 s)

-- sets a place to v, given what it needs; the result is v
unfoldable pub put_place : Term → Value → Value → State → Got
put_place (num n) k v s = left (wrong 9 s)
put_place (txt b) k v s = left (wrong 9 s)
put_place (var x) k v s = set_var s x v
put_place (item x t) k v s = got v (with_items s (set_item s.items x (as_text k) v))
put_place (field t) k v s = store_field s v (field_number (number_of k))
put_place (un j a) k v s = left (wrong 9 s)
put_place (bin j a b) k v s = left (wrong 9 s)
put_place (like a p) k v s = left (wrong 9 s)
put_place (there a x) k v s = left (wrong 9 s)
put_place (put_in a b) k v s = left (wrong 9 s)
put_place (call x ts) k v s = left (wrong 9 s)
put_place (part a b c) k v s = left (wrong 9 s)
put_place (split a x p) k v s = left (wrong 9 s)
put_place (swap p a b) k v s = left (wrong 9 s)

-- the first function of that name, as a list of one; empty if there is none
unfoldable pub fun_of : List Fun → List ℕ → List Fun
fun_of [] x = []
fun_of (f ∷ fs) x = pick (same f.name x) (f ∷ []) (fun_of fs x)

-- a function's frame: its parameters with the values in order; those without a value have the empty text
unfoldable pub framed : List (List ℕ) → List Value → List Bind
framed [] vs = []
framed (x ∷ xs) [] = record { name = x; worth = text [] } ∷ framed xs []
framed (x ∷ xs) (v ∷ vs) = record { name = x; worth = v } ∷ framed xs vs

-- the state without the innermost frame
abbrev pub unframed : State → State
unframed s = with_frames s (below s.frames)

-- the result of a call, by how the function's body ended: its return's value, or the empty text; next, exit and errors leave the call, too
abbrev pub called : Went → Got
called (went s) = got (text []) (unframed s)
called (nexted s) = left (nexted s)
called (stopped k s) = left (stopped k s)
called (given v s) = got v (unframed s)
called (wrong k s) = left (wrong k s)
called (unfinished s) = left (unfinished s)

-- calls a function that was looked up; wrong 5 if there was none, or if there are more values than parameters
abbrev pub call_by : Ex → ℕ → List Fun → List Value → State → Got
call_by ex h [] vs s = left (wrong 5 s)
call_by ex h (f ∷ fs) vs s =
    pick (nat_le (length vs) (length f.params)) (called (ex h f.deeds (with_frames s (framed f.params vs ∷ s.frames)))) (left (wrong 5 s))

-- the result of swap: how many matches were replaced; the place is set only if there was one; a new text that is too long is wrong 7
abbrev pub swap_got : Term → Value → Value → Value → Swapped → State → Got
swap_got b k old new r s =
    pick (r.times == 0) (got (plus 0) s) (pick (short r.bytes) (then_got (put_place b k (text r.bytes) s) (λ v s₁. got (plus r.times) s₁)) (left (wrong 7 s)))

-- the text of old with all matches replaced by the text of new
abbrev pub swapped : Pattern → Value → Value → Swapped
swapped p new old = swap_from (2 * length (as_text old) + 2) (as_text old) p (as_text new) 0 false

-- one expression, with ev for the expressions in it and ex for the bodies of functions that it calls;
-- of && and || the second operand is worked out only if it matters; of a = b first b, then what the place needs
unfoldable pub eval_by : Ev → Ex → List Fun → ℕ → Term → State → Got
eval_by ev ex fs h (num n) s = as_got (within (plus n)) s
eval_by ev ex fs h (txt b) s = got (text b) s
eval_by ev ex fs h (var x) s = got (var_of s x) s
eval_by ev ex fs h (item x k) s = then_got (ev h k s) (λ v s₁. got (item_of s₁.items x (as_text v)) s₁)
eval_by ev ex fs h (field k) s = then_got (ev h k s) (λ v s₁. field_got s₁ (field_number (number_of v)))
eval_by ev ex fs h (un k a) s = then_got (ev h a s) (λ v s₁. reckon_one k v s₁)
eval_by ev ex fs h (bin k a b) s =
    then_got (ev h a s) (λ v s₁.
    pick (k == 0) (pick (holds v) (got (plus 1) s₁) (then_got (ev h b s₁) (λ u s₂. got (truth (holds u)) s₂)))
    (pick (k == 1) (pick (holds v) (then_got (ev h b s₁) (λ u s₂. got (truth (holds u)) s₂)) (got (plus 0) s₁))
    (then_got (ev (h + size_of v) b s₁) (λ u s₂. reckon k v u s₂))))
eval_by ev ex fs h (like a p) s = then_got (ev h a s) (λ v s₁. got (truth (matches (as_text v) p)) s₁)
eval_by ev ex fs h (there a x) s = then_got (ev h a s) (λ v s₁. got (truth (any (is_item x (as_text v)) s₁.items)) s₁)
eval_by ev ex fs h (put_in a b) s = then_got (ev h b s) (λ v s₁. then_got (place_got ev (h + size_of v) a s₁) (λ k s₂. put_place a k v s₂))
eval_by ev ex fs h (call x ts) s = then_gots (eval_all ev h ts s) (λ vs s₁. call_by ex h (fun_of fs x) vs s₁)
eval_by ev ex fs h (part a b c) s =
    then_got (ev h a s) (λ v s₁. then_got (ev (h + size_of v) b s₁) (λ u s₂. then_got (ev (h + size_of v + size_of u) c s₂) (λ w s₃.
    got (text (cut_from (number_of u) (number_of w) (as_text v))) s₃)))
eval_by ev ex fs h (split a x p) s =
    then_got (ev h a s) (λ v s₁. got (plus (length (cut_by p (as_text v)))) (with_items s₁ (numbered 1 x (cut_by p (as_text v)) (without_table x s₁.items))))
eval_by ev ex fs h (swap p a b) s =
    then_got (ev h a s) (λ v s₁. then_got (place_got ev (h + size_of v) b s₁) (λ k s₂. then_got (in_place b k s₂) (λ o s₃. swap_got b k o v (swapped p v o) s₃)))

-- STATEMENTS

-- goes on with the value and the state of an expression; if it was left, so is the statement
abbrev pub got_then : Got → (Value → State → Went) → Went
got_then (got v s) f = f v s
got_then (left w) f = w

-- goes on if all was done; any other end stays
abbrev pub went_then : Went → (State → Went) → Went
went_then (went s) f = f s
went_then (nexted s) f = nexted s
went_then (stopped k s) f = stopped k s
went_then (given v s) f = given v s
went_then (wrong k s) f = wrong k s
went_then (unfinished s) f = unfinished s

-- what print writes of values: their texts with one blank between, and byte 10
abbrev pub printed : List Value → List ℕ
printed vs = joined (each as_text vs) ++ 10 ∷ []

-- writes the values, if all were worked out
abbrev pub print_gots : Gots → Went
print_gots (gots vs s) = went (with_out s (printed vs))
print_gots (lefts w) = w

-- print: the line if there are no expressions, else their values; and byte 10
abbrev pub print_by : Ev → ℕ → Terms → State → Went
print_by ev h no_terms s = went (with_out s (s.line ++ 10 ∷ []))
print_by ev h (term_and t ts) s = print_gots (eval_all ev h (term_and t ts) s)

-- for each key, x is set to it and the body is done; meanwhile 16 more are held, and the keys still to come, each 16 and its bytes
unfoldable pub over_keys : Ex → ℕ → List ℕ → Deeds → List (List ℕ) → State → Went
over_keys ex h x ds [] s = went s
over_keys ex h x ds (k ∷ ks) s =
    got_then (set_var s x (text k)) (λ v s₁. went_then (ex (16 + h + added_up (λ j. 16 + length j) ks) ds s₁) (λ s₂. over_keys ex h x ds ks s₂))

-- exit with a number from 0 to 255; any other is wrong 9
abbrev pub exit_with : Value → State → Went
exit_with (plus n) s = pick (nat_lt n 256) (stopped n s) (wrong 9 s)
exit_with (minus n) s = wrong 9 s
exit_with (text b) s = wrong 9 s

-- one statement, with ev for expressions and ex for statements in it; the bodies of if, while and for are done with 16 more held;
-- a loop over keys takes the keys that are there when it begins
unfoldable pub deed_by : Ev → Ex → ℕ → Deed → State → Went
deed_by ev ex h (value t) s = got_then (ev h t s) (λ v s₁. went s₁)
deed_by ev ex h (print ts) s = print_by ev h ts s
deed_by ev ex h (when c a b) s = got_then (ev h c s) (λ v s₁. pick (holds v) (ex (16 + h) a s₁) (ex (16 + h) b s₁))
deed_by ev ex h (while c a) s =
    got_then (ev h c s) (λ v s₁. pick (holds v) (went_then (ex (16 + h) a s₁) (λ s₂. ex h (deed_and (while c a) no_deeds) s₂)) (went s₁))
deed_by ev ex h (each_key x y a) s = over_keys ex h x a (keys_of s.items y) s
deed_by ev ex h next_line s = nexted s
deed_by ev ex h (exit t) s = got_then (ev h t s) (λ v s₁. exit_with (number_of v) s₁)
deed_by ev ex h (forget x t) s = got_then (ev h t s) (λ v s₁. went (with_items s₁ (those (λ i. not (is_item x (as_text v) i)) s₁.items)))
deed_by ev ex h (give t) s = got_then (ev h t s) (λ v s₁. given v s₁)

-- statements one after the other, as long as each is done
unfoldable pub deeds_by : Ev → Ex → ℕ → Deeds → State → Went
deeds_by ev ex h no_deeds s = went s
deeds_by ev ex h (deed_and d ds) s = went_then (deed_by ev ex h d s) (λ s₁. ex h ds s₁)

-- EXPRESSIONS AND STATEMENTS TOGETHER, by depth n, with the functions fs of the program and h bytes held beside the state

unfoldable mutual
  -- an expression; what is held is noted before and after it; expressions in it, and bodies of functions that it calls, have 16 more held
  pub eval : ℕ → List Fun → ℕ → Term → State → Got
  eval zero fs h t s = left (unfinished s)
  eval (suc n) fs h t s = noted h (eval_by (λ j u r. eval n fs (16 + j) u r) (λ j ds r. does n fs (16 + j) ds r) fs h t (note h s))

  -- statements; what is held is noted before each of them and behind the last
  pub does : ℕ → List Fun → ℕ → Deeds → State → Went
  does zero fs h ds s = unfinished s
  does (suc n) fs h ds s = deeds_by (λ j u r. eval n fs j u r) (λ j es r. does n fs j es r) h ds (note h s)

-- RULES AND WHOLE RUNS: n bounds how deep each rule's condition and statements go

-- the rules of a kind: 0 BEGIN, 1 END
abbrev pub of_kind : ℕ → List Rule → List Rule
of_kind k rs = those (λ r. nat_eq r.kind k) rs

-- rules done by f in order, as long as each is done
unfoldable pub rules_go : (Rule → State → Went) → List Rule → State → Went
rules_go f [] s = went s
rules_go f (r ∷ rs) s = went_then (f r s) (λ s₁. rules_go f rs s₁)

-- how a group of rules ended: next, and return outside of a function, end only the group; frames that were left are dropped
abbrev pub settled : Went → Went
settled (went s) = went (with_frames s [])
settled (nexted s) = went (with_frames s [])
settled (stopped k s) = stopped k s
settled (given v s) = went (with_frames s [])
settled (wrong k s) = wrong k s
settled (unfinished s) = unfinished s

-- one rule: its statements, for kind 3 only if its condition holds
abbrev pub by_rule : ℕ → List Fun → Rule → State → Went
by_rule n fs r s =
    pick (r.kind == 3) (got_then (eval n fs 0 r.test s) (λ v s₁. pick (holds v) (does n fs 0 r.deeds s₁) (went s₁))) (does n fs 0 r.deeds s)

-- the rules for lines: those without a condition and those with one
abbrev pub for_lines : List Rule → List Rule
for_lines rs = those (λ r. leb 2 r.kind) rs

-- the BEGIN rules, from the state at first
unfoldable pub begun : ℕ → Program → Went
begun n p = settled (rules_go (by_rule n p.funs) (of_kind 0 p.rules) at_first)

-- one line: it becomes the current line, is cut into fields and counted, and the rules for lines are done; wrong 7 if it is too long
unfoldable pub lined : ℕ → Program → List ℕ → State → Went
lined n p l s =
    pick (short l)
    (settled (rules_go (by_rule n p.funs) (for_lines p.rules)
    (note 0 (record { vars = s.vars; items = s.items; line = l; parts = fields_from [] l; lines = suc s.lines; frames = []; out = s.out; heavy = s.heavy }))))
    (wrong 7 s)

-- lines one after the other, as long as each is done
unfoldable pub over_lines : ℕ → Program → List (List ℕ) → State → Went
over_lines n p [] s = went s
over_lines n p (l ∷ ls) s = went_then (lined n p l s) (λ s₁. over_lines n p ls s₁)

-- the END rules
unfoldable pub ended : ℕ → Program → State → Went
ended n p s = settled (rules_go (by_rule n p.funs) (of_kind 1 p.rules) s)

-- the lines that end in byte 10, without it; the first argument is the part of a line that was begun before
unfoldable pub whole_lines : List ℕ → List ℕ → List (List ℕ)
whole_lines l [] = []
whole_lines l (c ∷ cs) = pick (c == 10) (l ∷ whole_lines [] cs) (whole_lines (l ++ c ∷ []) cs)

-- what stands behind the last byte 10, as a list of one line; empty if that has no bytes; the first argument is as before
unfoldable pub last_line : List ℕ → List ℕ → List (List ℕ)
last_line [] [] = []
last_line (b ∷ bs) [] = (b ∷ bs) ∷ []
last_line [] (c ∷ cs) = pick (c == 10) (last_line [] cs) (last_line (c ∷ []) cs)
last_line (b ∷ bs) (c ∷ cs) = pick (c == 10) (last_line [] cs) (last_line ((b ∷ bs) ++ c ∷ []) cs)

-- the BEGIN rules and all lines that are whole, when so many bytes have come
unfoldable pub so_far : ℕ → Program → List ℕ → Went
so_far n p bs = went_then (begun n p) (λ s. over_lines n p (whole_lines [] bs) s)

-- THE WHOLE RUN on all bytes: BEGIN rules, whole lines, the last line if it has no byte 10, END rules; exit and errors end it at once
unfoldable pub outcome : ℕ → Program → List ℕ → Went
outcome n p bs = went_then (so_far n p bs) (λ s. went_then (over_lines n p (last_line [] bs) s) (λ s₁. ended n p s₁))

-- the state in which something ended
abbrev pub state_of : Went → State
state_of (went s) = s
state_of (nexted s) = s
state_of (stopped k s) = s
state_of (given v s) = s
state_of (wrong k s) = s
state_of (unfinished s) = s
