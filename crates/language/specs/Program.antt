-- How a program is read from its text; the page ends in reads, which all of it is for. Assumes nothing: these are definitions.
-- It goes from the syntax tree over tokens and patterns to expressions by levels of precedence, statements, and whole programs.
-- Words: Term = expression; Deed = statement; Rule = a condition with a body; Fun = a function's definition; a name is a list of bytes;
-- sign = a token that is an operator or punctuation; item = an entry of a table; kept word = reserved word.
-- Got is what reading came to: none = it failed; got a ts = a was read, and ts is what is left. Reads is the same over tokens.
-- Functions that read call each other with a first number that gets less by one (fuel); at 0 they fail. It bounds how deep reading goes.
use Rattle.std.specs.Prelude.{ℕ, zero, suc, ◌+◌, ◌*◌, Bool, true, false, not, ◌&&◌, List, [], ◌∷◌, ◌++◌, length, ◌==◌, nat_eq, nat_le, slice_index}
use Rattle.language.specs.Text.{pick, or, any, none_of, same, digit, leading, Pattern, nothing, byte, both, either, some, at_start, at_end, Span}

-- THE SYNTAX TREE

mutual
  -- expressions; names of variables, tables and functions are their bytes
  pub data Term : Type 0 where
    num : ℕ → Term  -- a number
    txt : List ℕ → Term  -- a quoted text
    var : List ℕ → Term  -- a variable, by its name
    item : List ℕ → Term → Term  -- t[k]: an entry of a table, by the table's name and a key
    field : Term → Term  -- $n: the line or a field of it
    un : ℕ → Term → Term  -- by number: 0 !a, 1 -a, 2 length(a), 3 upper(a)
    -- by number: 0 a || b, 1 a && b, 2 a == b, 3 a != b, 4 a < b, 5 a <= b, 6 a + b, 7 a - b, 8 a * b, 9 a / b, 10 a % b,
    -- 11 a b (concatenation), 12 index(a, b), 13 a > b, 14 a >= b
    bin : ℕ → Term → Term → Term
    like : Term → Pattern → Term  -- a ~ "p"; a !~ "p" is read as !(a ~ "p")
    there : Term → List ℕ → Term  -- k in t: the table has such a key
    put_in : Term → Term → Term  -- a = b: assignment to a place
    call : List ℕ → Terms → Term  -- f(a, b): a function of the program
    part : Term → Term → Term → Term  -- substr(a, i, n)
    split : Term → List ℕ → Pattern → Term  -- split(a, t, "p"): into the table of that name
    swap : Pattern → Term → Term → Term  -- swap("p", a, b): in the place b, what matches is replaced by a

  -- lists of expressions
  pub data Terms : Type 0 where
    no_terms : Terms
    term_and : Term → Terms → Terms

mutual
  -- statements
  pub data Deed : Type 0 where
    value : Term → Deed  -- a; (an expression, worked out for what it sets or calls)
    print : Terms → Deed  -- print; (no expressions) or print a, b;
    when : Term → Deeds → Deeds → Deed  -- if (c) s else r (without else the third is empty)
    while : Term → Deeds → Deed  -- while (c) s
    each_key : List ℕ → List ℕ → Deeds → Deed  -- for (x in t) s, with the names x and t in this order
    next_line : Deed  -- next;
    exit : Term → Deed  -- exit a; (exit; is read as exit 0;)
    forget : List ℕ → Term → Deed  -- delete t[k];
    give : Term → Deed  -- return a; (return; is read as return "";)

  -- lists of statements; a block is the list of its statements
  pub data Deeds : Type 0 where
    no_deeds : Deeds
    deed_and : Deed → Deeds → Deeds

-- a rule of a program
pub record Rule : Type 0 where
  pub kind : ℕ  -- 0 BEGIN, 1 END, 2 for every line, 3 for every line for which its condition holds
  pub test : Term  -- the condition; only that of kind 3 counts, the others have the number 1
  pub deeds : Deeds  -- the body

-- a function's definition
pub record Fun : Type 0 where
  pub name : List ℕ
  pub params : List (List ℕ)  -- the names of its parameters
  pub deeds : Deeds  -- the body

-- a program: its rules and its functions, each in the order in which they stand
pub record Program : Type 0 where
  pub rules : List Rule
  pub funs : List Fun

-- a list of expressions as Terms
abbrev pub terms_of : List Term → Terms
terms_of [] = no_terms
terms_of (t ∷ ts) = term_and t (terms_of ts)

-- the statements of the first list, then those of the second
unfoldable pub joined_deeds : Deeds → Deeds → Deeds
joined_deeds no_deeds ds = ds
joined_deeds (deed_and d es) ds = deed_and d (joined_deeds es ds)

-- TOKENS

-- tokens of a program's text
pub data Token : Type 0 where
  word : List ℕ → Token  -- a name or a reserved word
  number : ℕ → Token  -- 1 to 18 digits
  quoted : List ℕ → Token  -- "…", as the bytes that are meant
  sign : ℕ → Token  -- by number: a sign of one byte is that byte; 1 ==, 2 !=, 3 <=, 4 >=, 5 &&, 6 ||, 7 !~
  bad : Token  -- what is no token; nothing is read behind it, and with it no text is a program

-- a letter a to z or A to Z, or _
abbrev pub letter : ℕ → Bool
letter c = or (nat_le 97 c && nat_le c 122) (or (nat_le 65 c && nat_le c 90) (c == 95))

-- the letters and digits at the beginning of a text
unfoldable pub word_part : List ℕ → List ℕ
word_part [] = []
word_part (c ∷ cs) = pick (or (letter c) (digit c)) (c ∷ word_part cs) []

-- what follows them
unfoldable pub after_word : List ℕ → List ℕ
after_word [] = []
after_word (c ∷ cs) = pick (or (letter c) (digit c)) (after_word cs) (c ∷ cs)

-- the digits at the beginning of a text
unfoldable pub digits_part : List ℕ → List ℕ
digits_part [] = []
digits_part (c ∷ cs) = pick (digit c) (c ∷ digits_part cs) []

-- what follows them
unfoldable pub past_digits : List ℕ → List ℕ
past_digits [] = []
past_digits (c ∷ cs) = pick (digit c) (past_digits cs) (c ∷ cs)

-- what follows the first end of a line (byte 10); empty if there is none
unfoldable pub past_line : List ℕ → List ℕ
past_line [] = []
past_line (c ∷ cs) = pick (c == 10) cs (past_line cs)

-- the byte that is meant by \ and this byte in quotes: \n is byte 10, any other byte is itself
abbrev pub meant : ℕ → ℕ
meant c = pick (c == 110) 10 c

-- the bytes meant by a quoted text, of what follows the opening quote, up to the closing one
unfoldable pub quote_part : List ℕ → List ℕ
quote_part [] = []
quote_part (c ∷ []) = pick (c == 34) [] (c ∷ [])
quote_part (c ∷ d ∷ cs) = pick (c == 34) [] (pick (c == 92) (meant d ∷ quote_part cs) (c ∷ quote_part (d ∷ cs)))

-- there is a closing quote
unfoldable pub quote_ends : List ℕ → Bool
quote_ends [] = false
quote_ends (c ∷ []) = c == 34
quote_ends (c ∷ d ∷ cs) = pick (c == 34) true (pick (c == 92) (quote_ends cs) (quote_ends (d ∷ cs)))

-- what follows the closing quote
unfoldable pub past_quote : List ℕ → List ℕ
past_quote [] = []
past_quote (c ∷ []) = []
past_quote (c ∷ d ∷ cs) = pick (c == 34) (d ∷ cs) (pick (c == 92) (past_quote cs) (past_quote (d ∷ cs)))

-- the text begins with the byte d
abbrev pub next_is : ℕ → List ℕ → Bool
next_is d [] = false
next_is d (c ∷ cs) = c == d

-- the text without its first byte
abbrev pub less_one : List ℕ → List ℕ
less_one [] = []
less_one (c ∷ cs) = cs

-- a byte that is a sign by itself: ! $ % ( ) * + , - / ; < = > [ ] { } ~
abbrev pub a_sign : ℕ → Bool
a_sign c = any (nat_eq c) (33 ∷ 36 ∷ 37 ∷ 40 ∷ 41 ∷ 42 ∷ 43 ∷ 44 ∷ 45 ∷ 47 ∷ 59 ∷ 60 ∷ 61 ∷ 62 ∷ 91 ∷ 93 ∷ 123 ∷ 125 ∷ 126 ∷ [])

-- the number, 1 to 7, of the sign that a byte and the next one make together; 0 if they make none
unfoldable pub pair_sign : ℕ → List ℕ → ℕ
pair_sign c cs =
    pick (c == 61 && next_is 61 cs) 1 (pick (c == 33 && next_is 61 cs) 2 (pick (c == 60 && next_is 61 cs) 3 (pick (c == 62 && next_is 61 cs) 4
    (pick (c == 38 && next_is 38 cs) 5 (pick (c == 124 && next_is 124 cs) 6 (pick (c == 33 && next_is 126 cs) 7 0))))))

-- what may stand between tokens: blank, tab, end of a line
abbrev pub gap : ℕ → Bool
gap c = or (c == 32) (or (c == 10) (c == 9))

-- the tokens of a text, n steps of reading at most; from # to the end of the line is a comment; a sign of two bytes goes before one of one;
-- a number of more than 18 digits, a quote that isn't closed, and any other byte are bad
unfoldable pub tokens : ℕ → List ℕ → List Token
tokens zero cs = []
tokens (suc n) [] = []
tokens (suc n) (c ∷ cs) =
    pick (gap c) (tokens n cs)
    (pick (c == 35) (tokens n (past_line cs))
    (pick (letter c) (word (word_part (c ∷ cs)) ∷ tokens n (after_word cs))
    (pick (digit c) (pick (nat_le (length (digits_part (c ∷ cs))) 18) (number (leading 0 (c ∷ cs)) ∷ tokens n (past_digits cs)) (bad ∷ []))
    (pick (c == 34) (pick (quote_ends cs) (quoted (quote_part cs) ∷ tokens n (past_quote cs)) (bad ∷ []))
    (pick (pair_sign c cs == 0) (pick (a_sign c) (sign c ∷ tokens n cs) (bad ∷ []))
    (sign (pair_sign c cs) ∷ tokens n (less_one cs)))))))

-- all tokens of a text: each step takes at least one byte, so one step more than bytes is enough
abbrev pub cut_up : List ℕ → List Token
cut_up cs = tokens (suc (length cs)) cs

-- READING PATTERNS, from the bytes of a quoted text; and what reading comes to

-- what reading came to, over bytes or tokens T
pub data Got (T A : Type 0) : Type 0 where
  none : Got T A  -- failed
  got : A → List T → Got T A  -- what was read, and what is left to read

-- goes on with what was read and what is left; a failure stays one
abbrev pub with_got : {T A B : Type 0} → Got T A → (A → List T → Got T B) → Got T B
with_got none f = none
with_got (got a ts) f = f a ts

-- the pattern of just this byte
abbrev pub one_of : ℕ → Pattern
one_of c = byte (record { low = c; high = c } ∷ []) true

-- the pattern of any one byte: in none of no spans
abbrev pub any_byte : Pattern
any_byte = byte [] false

-- the spans of a set, of what follows [ or [^, up to the closing ]; ss are those read so far, first says that there are none yet;
-- a ] that stands first is itself; a-c is a span unless the - stands last; \ is itself; without a closing ] it fails
unfoldable pub spans : ℕ → List Span → Bool → List ℕ → Got ℕ (List Span)
spans zero ss first cs = none
spans (suc n) ss first [] = none
spans (suc n) ss first (c ∷ cs) =
    pick (c == 93 && pick first false true) (got ss cs)
    (pick (next_is 45 cs && pick (next_is 93 (less_one cs)) false (pick (none_of (less_one cs)) false true))
    (spans n (ss ++ record { low = c; high = slice_index (less_one cs) 0 } ∷ []) false (less_one (less_one cs)))
    (spans n (ss ++ record { low = c; high = c } ∷ []) false cs))

-- a pattern with a mark: * none or more, + one or more, otherwise (?) one or none
abbrev pub repeated : ℕ → Pattern → Pattern
repeated c p = pick (c == 42) (some p) (pick (c == 43) (both p (some p)) (either p nothing))

unfoldable mutual
  -- a pattern: rows with | between; reading stops before a ) or at the end
  pub pattern : ℕ → List ℕ → Got ℕ Pattern
  pattern zero cs = none
  pattern (suc n) cs = with_got (row n nothing cs) (λ p ds. pick (next_is 124 ds) (with_got (pattern n (less_one ds)) (λ q es. got (either p q) es)) (got p ds))

  -- atoms with their marks, one after the other, behind p, up to | or ) or the end
  pub row : ℕ → Pattern → List ℕ → Got ℕ Pattern
  row zero p cs = none
  row (suc n) p [] = got p []
  row (suc n) p (c ∷ cs) =
      pick (or (c == 124) (c == 41)) (got p (c ∷ cs)) (with_got (atom n (c ∷ cs)) (λ q ds. with_got (marks n q ds) (λ r es. row n (both p r) es)))

  -- p with all the marks * + ? that follow, one upon the other
  pub marks : ℕ → Pattern → List ℕ → Got ℕ Pattern
  marks zero p cs = none
  marks (suc n) p [] = got p []
  marks (suc n) p (c ∷ cs) = pick (or (c == 42) (or (c == 43) (c == 63))) (marks n (repeated c p) cs) (got p (c ∷ cs))

  -- one atom: ( ) around a pattern, . for any byte, ^ and $, \ and a byte for that byte, [ ] or [^ ], or else the byte itself;
  -- it fails on a mark, on \ at the end, and without a closing ) or ]
  pub atom : ℕ → List ℕ → Got ℕ Pattern
  atom zero cs = none
  atom (suc n) [] = none
  atom (suc n) (c ∷ cs) =
      pick (or (c == 42) (or (c == 43) (c == 63))) none
      (pick (c == 40) (with_got (pattern n cs) (λ p ds. pick (next_is 41 ds) (got p (less_one ds)) none))
      (pick (c == 46) (got any_byte cs) (pick (c == 94) (got at_start cs) (pick (c == 36) (got at_end cs)
      (pick (c == 92) (pick (none_of cs) none (got (one_of (slice_index cs 0)) (less_one cs)))
      (pick (c == 91) (pick (next_is 94 cs) (with_got (spans n [] true (less_one cs)) (λ ss ds. got (byte ss false) ds)) (with_got (spans n [] true cs) (λ ss ds. got (byte ss true) ds)))
      (got (one_of c) cs)))))))

-- a pattern of which nothing is left to read, as a list of one; otherwise none
unfoldable pub whole_pattern : Got ℕ Pattern → List Pattern
whole_pattern none = []
whole_pattern (got p []) = p ∷ []
whole_pattern (got p (c ∷ cs)) = []

-- the pattern that a text is, as a list of one; empty if it is none; the depth of reading is bounded by 4 for each byte and 4 more
abbrev pub pattern_of : List ℕ → List Pattern
pattern_of bs = whole_pattern (pattern (4 * length bs + 4) bs)

-- READING TOKENS: helpers and reserved words

-- the token is the sign with this number
abbrev pub is_sign : ℕ → Token → Bool
is_sign c (word w) = false
is_sign c (number n) = false
is_sign c (quoted b) = false
is_sign c (sign d) = c == d
is_sign c bad = false

-- the token is this word
abbrev pub is_word : List ℕ → Token → Bool
is_word v (word w) = same v w
is_word v (number n) = false
is_word v (quoted b) = false
is_word v (sign d) = false
is_word v bad = false

-- the next token is the sign with this number
abbrev pub sees : ℕ → List Token → Bool
sees c [] = false
sees c (t ∷ ts) = is_sign c t

-- the next token is this word
abbrev pub sees_word : List ℕ → List Token → Bool
sees_word v [] = false
sees_word v (t ∷ ts) = is_word v t

-- all tokens but the first
abbrev pub rest : List Token → List Token
rest [] = []
rest (t ∷ ts) = ts

-- what reading tokens came to
abbrev pub Reads : Type 0 → Type 0
Reads A = Got Token A

-- goes on behind the sign with this number; fails if that isn't the next token
abbrev pub past : {A : Type 0} → ℕ → List Token → (List Token → Reads A) → Reads A
past c ts f = pick (sees c ts) (f (rest ts)) none

-- the reserved words in bytes; each definition is named after the word that it spells
abbrev pub w_begin : List ℕ
w_begin = 66 ∷ 69 ∷ 71 ∷ 73 ∷ 78 ∷ []

abbrev pub w_end : List ℕ
w_end = 69 ∷ 78 ∷ 68 ∷ []

abbrev pub w_function : List ℕ
w_function = 102 ∷ 117 ∷ 110 ∷ 99 ∷ 116 ∷ 105 ∷ 111 ∷ 110 ∷ []

abbrev pub w_if : List ℕ
w_if = 105 ∷ 102 ∷ []

abbrev pub w_else : List ℕ
w_else = 101 ∷ 108 ∷ 115 ∷ 101 ∷ []

abbrev pub w_while : List ℕ
w_while = 119 ∷ 104 ∷ 105 ∷ 108 ∷ 101 ∷ []

abbrev pub w_for : List ℕ
w_for = 102 ∷ 111 ∷ 114 ∷ []

abbrev pub w_in : List ℕ
w_in = 105 ∷ 110 ∷ []

abbrev pub w_print : List ℕ
w_print = 112 ∷ 114 ∷ 105 ∷ 110 ∷ 116 ∷ []

abbrev pub w_next : List ℕ
w_next = 110 ∷ 101 ∷ 120 ∷ 116 ∷ []

abbrev pub w_exit : List ℕ
w_exit = 101 ∷ 120 ∷ 105 ∷ 116 ∷ []

abbrev pub w_delete : List ℕ
w_delete = 100 ∷ 101 ∷ 108 ∷ 101 ∷ 116 ∷ 101 ∷ []

abbrev pub w_return : List ℕ
w_return = 114 ∷ 101 ∷ 116 ∷ 117 ∷ 114 ∷ 110 ∷ []

abbrev pub w_length : List ℕ
w_length = 108 ∷ 101 ∷ 110 ∷ 103 ∷ 116 ∷ 104 ∷ []

abbrev pub w_upper : List ℕ
w_upper = 117 ∷ 112 ∷ 112 ∷ 101 ∷ 114 ∷ []

abbrev pub w_index : List ℕ
w_index = 105 ∷ 110 ∷ 100 ∷ 101 ∷ 120 ∷ []

abbrev pub w_substr : List ℕ
w_substr = 115 ∷ 117 ∷ 98 ∷ 115 ∷ 116 ∷ 114 ∷ []

abbrev pub w_split : List ℕ
w_split = 115 ∷ 112 ∷ 108 ∷ 105 ∷ 116 ∷ []

abbrev pub w_swap : List ℕ
w_swap = 115 ∷ 119 ∷ 97 ∷ 112 ∷ []

-- all reserved words
abbrev pub kept_words : List (List ℕ)
kept_words = w_begin ∷ w_end ∷ w_function ∷ w_if ∷ w_else ∷ w_while ∷ w_for ∷ w_in ∷ w_print ∷ w_next ∷ w_exit ∷ w_delete ∷ w_return ∷ w_length ∷ w_upper ∷ w_index ∷ w_substr ∷ w_split ∷ w_swap ∷ []

-- the word is reserved
abbrev pub kept_word : List ℕ → Bool
kept_word w = any (same w) kept_words

-- a name: a word that isn't reserved
abbrev pub name_of : List Token → Reads (List ℕ)
name_of [] = none
name_of (word w ∷ ts) = pick (kept_word w) none (got w ts)
name_of (number n ∷ ts) = none
name_of (quoted b ∷ ts) = none
name_of (sign d ∷ ts) = none
name_of (bad ∷ ts) = none

-- the pattern that was read, if there is one, with these tokens left
abbrev pub first_pattern : List Pattern → List Token → Reads Pattern
first_pattern [] ts = none
first_pattern (p ∷ ps) ts = got p ts

-- a pattern, written as a quoted text
abbrev pub pattern_here : List Token → Reads Pattern
pattern_here [] = none
pattern_here (word w ∷ ts) = none
pattern_here (number n ∷ ts) = none
pattern_here (quoted b ∷ ts) = first_pattern (pattern_of b) ts
pattern_here (sign d ∷ ts) = none
pattern_here (bad ∷ ts) = none

-- a place, which can be assigned to: a variable, an entry of a table, a field
abbrev pub can_set : Term → Bool
can_set (num n) = false
can_set (txt b) = false
can_set (var x) = true
can_set (item x k) = true
can_set (field k) = true
can_set (un k a) = false
can_set (bin k a b) = false
can_set (like a p) = false
can_set (there a x) = false
can_set (put_in a b) = false
can_set (call x ts) = false
can_set (part a b c) = false
can_set (split a x p) = false
can_set (swap p a b) = false

-- a further operand of a concatenation can begin here: a name, a built-in function, a number, a text, $, ( or !, but not -
abbrev pub begins_joined : List Token → Bool
begins_joined [] = false
begins_joined (word w ∷ ts) = or (not (kept_word w)) (any (same w) (w_length ∷ w_upper ∷ w_index ∷ w_substr ∷ w_split ∷ w_swap ∷ []))
begins_joined (number n ∷ ts) = true
begins_joined (quoted b ∷ ts) = true
begins_joined (sign d ∷ ts) = or (d == 36) (or (d == 40) (d == 33))
begins_joined (bad ∷ ts) = false

-- the operator's number in bin if the next token is a comparison; otherwise 0
unfoldable pub compare_sign : List Token → ℕ
compare_sign ts = pick (sees 1 ts) 2 (pick (sees 2 ts) 3 (pick (sees 60 ts) 4 (pick (sees 3 ts) 5 (pick (sees 62 ts) 13 (pick (sees 4 ts) 14 0)))))

-- EXPRESSIONS: one function for each level of precedence, from what binds least; more-… goes on behind the operand a that was read

unfoldable mutual
  -- assignment, from the right: a place, =, an expression; or the next level alone
  pub term : ℕ → List Token → Reads Term
  term zero ts = none
  term (suc n) ts = with_got (ors n ts) (λ a us. pick (sees 61 us && can_set a) (with_got (term n (rest us)) (λ b vs. got (put_in a b) vs)) (got a us))

  -- ||, from the left
  pub ors : ℕ → List Token → Reads Term
  ors zero ts = none
  ors (suc n) ts = with_got (ands n ts) (λ a us. more_ors n a us)

  -- further operands of ||
  pub more_ors : ℕ → Term → List Token → Reads Term
  more_ors zero a ts = none
  more_ors (suc n) a ts = pick (sees 6 ts) (with_got (ands n (rest ts)) (λ b us. more_ors n (bin 0 a b) us)) (got a ts)

  -- &&, from the left
  pub ands : ℕ → List Token → Reads Term
  ands zero ts = none
  ands (suc n) ts = with_got (likes n ts) (λ a us. more_ands n a us)

  -- further operands of &&
  pub more_ands : ℕ → Term → List Token → Reads Term
  more_ands zero a ts = none
  more_ands (suc n) a ts = pick (sees 5 ts) (with_got (likes n (rest ts)) (λ b us. more_ands n (bin 1 a b) us)) (got a ts)

  -- ~ and !~ with a pattern, in with a table's name: one of them at most
  pub likes : ℕ → List Token → Reads Term
  likes zero ts = none
  likes (suc n) ts =
      with_got (compares n ts) (λ a us.
      pick (sees 126 us) (with_got (pattern_here (rest us)) (λ p vs. got (like a p) vs))
      (pick (sees 7 us) (with_got (pattern_here (rest us)) (λ p vs. got (un 0 (like a p)) vs))
      (pick (sees_word w_in us) (with_got (name_of (rest us)) (λ x vs. got (there a x) vs)) (got a us))))

  -- the comparisons == != < <= > >=, one of them at most
  pub compares : ℕ → List Token → Reads Term
  compares zero ts = none
  compares (suc n) ts =
      with_got (joins n ts) (λ a us. pick (compare_sign us == 0) (got a us) (with_got (joins n (rest us)) (λ b vs. got (bin (compare_sign us) a b) vs)))

  -- concatenation, from the left: operands without a sign between
  pub joins : ℕ → List Token → Reads Term
  joins zero ts = none
  joins (suc n) ts = with_got (sums n ts) (λ a us. more_joins n a us)

  -- further operands of a concatenation
  pub more_joins : ℕ → Term → List Token → Reads Term
  more_joins zero a ts = none
  more_joins (suc n) a ts = pick (begins_joined ts) (with_got (sums n ts) (λ b us. more_joins n (bin 11 a b) us)) (got a ts)

  -- + and -, from the left
  pub sums : ℕ → List Token → Reads Term
  sums zero ts = none
  sums (suc n) ts = with_got (products n ts) (λ a us. more_sums n a us)

  -- further operands of + and -
  pub more_sums : ℕ → Term → List Token → Reads Term
  more_sums zero a ts = none
  more_sums (suc n) a ts =
      pick (sees 43 ts) (with_got (products n (rest ts)) (λ b us. more_sums n (bin 6 a b) us))
      (pick (sees 45 ts) (with_got (products n (rest ts)) (λ b us. more_sums n (bin 7 a b) us)) (got a ts))

  -- * / %, from the left
  pub products : ℕ → List Token → Reads Term
  products zero ts = none
  products (suc n) ts = with_got (unary n ts) (λ a us. more_products n a us)

  -- further operands of * / %
  pub more_products : ℕ → Term → List Token → Reads Term
  more_products zero a ts = none
  more_products (suc n) a ts =
      pick (sees 42 ts) (with_got (unary n (rest ts)) (λ b us. more_products n (bin 8 a b) us))
      (pick (sees 47 ts) (with_got (unary n (rest ts)) (λ b us. more_products n (bin 9 a b) us))
      (pick (sees 37 ts) (with_got (unary n (rest ts)) (λ b us. more_products n (bin 10 a b) us)) (got a ts)))

  -- ! and - before an operand
  pub unary : ℕ → List Token → Reads Term
  unary zero ts = none
  unary (suc n) ts =
      pick (sees 33 ts) (with_got (unary n (rest ts)) (λ a us. got (un 0 a) us)) (pick (sees 45 ts) (with_got (unary n (rest ts)) (λ a us. got (un 1 a) us)) (primary n ts))

  -- a number, a text, ( ), $ before an operand of unary, a built-in function, t[k], f(…), or a variable;
  -- a name before [ is always a table's, before ( always a function's
  pub primary : ℕ → List Token → Reads Term
  primary zero ts = none
  primary (suc n) [] = none
  primary (suc n) (number k ∷ ts) = got (num k) ts
  primary (suc n) (quoted b ∷ ts) = got (txt b) ts
  primary (suc n) (sign d ∷ ts) =
      pick (d == 40) (with_got (term n ts) (λ a us. past 41 us (λ vs. got a vs))) (pick (d == 36) (with_got (unary n ts) (λ a us. got (field a) us)) none)
  primary (suc n) (bad ∷ ts) = none
  primary (suc n) (word w ∷ ts) =
      pick (same w w_length) (past 40 ts (λ us. with_got (term n us) (λ a vs. past 41 vs (λ ws. got (un 2 a) ws))))
      (pick (same w w_upper) (past 40 ts (λ us. with_got (term n us) (λ a vs. past 41 vs (λ ws. got (un 3 a) ws))))
      (pick (same w w_index) (past 40 ts (λ us. with_got (term n us) (λ a vs. past 44 vs (λ ws. with_got (term n ws) (λ b xs. past 41 xs (λ ys. got (bin 12 a b) ys))))))
      (pick (same w w_substr) (past 40 ts (λ us. with_got (term n us) (λ a vs. past 44 vs (λ ws. with_got (term n ws) (λ b xs. past 44 xs (λ ys. with_got (term n ys) (λ c zs. past 41 zs (λ qs. got (part a b c) qs))))))))
      (pick (same w w_split) (past 40 ts (λ us. with_got (term n us) (λ a vs. past 44 vs (λ ws. with_got (name_of ws) (λ x xs. past 44 xs (λ ys. with_got (pattern_here ys) (λ p zs. past 41 zs (λ qs. got (split a x p) qs))))))))
      (pick (same w w_swap) (past 40 ts (λ us. with_got (pattern_here us) (λ p vs. past 44 vs (λ ws. with_got (term n ws) (λ a xs. past 44 xs (λ ys. with_got (term n ys) (λ b zs. pick (can_set b) (past 41 zs (λ qs. got (swap p a b) qs)) none)))))))
      (pick (kept_word w) none
      (pick (sees 91 ts) (with_got (term n (rest ts)) (λ a us. past 93 us (λ vs. got (item w a) vs)))
      (pick (sees 40 ts) (pick (sees 41 (rest ts)) (got (call w no_terms) (rest (rest ts))) (with_got (args n (rest ts)) (λ xs us. past 41 us (λ vs. got (call w xs) vs))))
      (got (var w) ts)))))))))

  -- one or more expressions with commas between
  pub args : ℕ → List Token → Reads Terms
  args zero ts = none
  args (suc n) ts = with_got (term n ts) (λ a us. pick (sees 44 us) (with_got (args n (rest us)) (λ xs vs. got (term_and a xs) vs)) (got (term_and a no_terms) us))

-- STATEMENTS

-- a statement as a list of one
abbrev pub one_deed : Deed → Deeds
one_deed d = deed_and d no_deeds

-- the statement, if ; is the next token
abbrev pub closed : Deed → List Token → Reads Deeds
closed d ts = past 59 ts (λ us. got (one_deed d) us)

unfoldable mutual
  -- one statement, or those of a block; else belongs to the nearest if
  pub deed : ℕ → List Token → Reads Deeds
  deed zero ts = none
  deed (suc n) ts =
      pick (sees 123 ts) (block n (rest ts))
      (pick (sees_word w_if ts) (past 40 (rest ts) (λ us. with_got (term n us) (λ c vs. past 41 vs (λ ws. with_got (deed n ws) (λ a xs.
      pick (sees_word w_else xs) (with_got (deed n (rest xs)) (λ b ys. got (one_deed (when c a b)) ys)) (got (one_deed (when c a no_deeds)) xs))))))
      (pick (sees_word w_while ts) (past 40 (rest ts) (λ us. with_got (term n us) (λ c vs. past 41 vs (λ ws. with_got (deed n ws) (λ a xs. got (one_deed (while c a)) xs)))))
      (pick (sees_word w_for ts) (past 40 (rest ts) (λ us. with_got (name_of us) (λ x vs. pick (sees_word w_in vs) (with_got (name_of (rest vs)) (λ y ws. past 41 ws (λ xs. with_got (deed n xs) (λ a ys. got (one_deed (each_key x y a)) ys)))) none)))
      (pick (sees_word w_print ts) (pick (sees 59 (rest ts)) (closed (print no_terms) (rest ts)) (with_got (args n (rest ts)) (λ xs us. closed (print xs) us)))
      (pick (sees_word w_next ts) (closed next_line (rest ts))
      (pick (sees_word w_exit ts) (pick (sees 59 (rest ts)) (closed (exit (num 0)) (rest ts)) (with_got (term n (rest ts)) (λ a us. closed (exit a) us)))
      (pick (sees_word w_return ts) (pick (sees 59 (rest ts)) (closed (give (txt [])) (rest ts)) (with_got (term n (rest ts)) (λ a us. closed (give a) us)))
      (pick (sees_word w_delete ts) (with_got (name_of (rest ts)) (λ x us. past 91 us (λ vs. with_got (term n vs) (λ a ws. past 93 ws (λ xs. closed (forget x a) xs)))))
      (with_got (term n ts) (λ a us. closed (value a) us))))))))))

  -- the statements of a block, of what follows {, up to and with the closing }
  pub block : ℕ → List Token → Reads Deeds
  block zero ts = none
  block (suc n) ts = pick (sees 125 ts) (got no_deeds (rest ts)) (with_got (deed n ts) (λ a us. with_got (block n us) (λ b vs. got (joined_deeds a b) vs)))

-- WHOLE PROGRAMS

-- one or more names with commas between
unfoldable pub names : ℕ → List Token → Reads (List (List ℕ))
names zero ts = none
names (suc n) ts = with_got (name_of ts) (λ x us. pick (sees 44 us) (with_got (names n (rest us)) (λ xs vs. got (x ∷ xs) vs)) (got (x ∷ []) us))

-- a function's parameters, perhaps none, up to the closing ), which is left to read
abbrev pub params_of : ℕ → List Token → Reads (List (List ℕ))
params_of n ts = pick (sees 41 ts) (got [] ts) (names n ts)

-- the program with this rule put first
abbrev pub with_rule : Rule → Program → Program
with_rule r p = record { rules = r ∷ p.rules; funs = p.funs }

-- the program with this function put first
abbrev pub with_fun : Fun → Program → Program
with_fun f p = record { rules = p.rules; funs = f ∷ p.funs }

-- a rule of kind k with condition t and the body d, then the rest of the program, read by f
abbrev pub ruled : ℕ → Term → Reads Deeds → (List Token → Reads Program) → Reads Program
ruled k t d f = with_got d (λ a us. with_got (f us) (λ p vs. got (with_rule (record { kind = k; test = t; deeds = a }) p) vs))

-- rules and functions in any order, up to the end of the tokens
unfoldable pub program : ℕ → List Token → Reads Program
program zero ts = none
program (suc n) [] = got (record { rules = []; funs = [] }) []
program (suc n) (t ∷ ts) =
    pick (is_word w_function t) (with_got (name_of ts) (λ x us. past 40 us (λ vs. with_got (params_of n vs) (λ ps ws. past 41 ws (λ xs. past 123 xs (λ ys. with_got (block n ys) (λ a zs.
    with_got (program n zs) (λ p qs. got (with_fun (record { name = x; params = ps; deeds = a }) p) qs))))))))
    (pick (is_word w_begin t) (past 123 ts (λ us. ruled 0 (num 1) (block n us) (program n)))
    (pick (is_word w_end t) (past 123 ts (λ us. ruled 1 (num 1) (block n us) (program n)))
    (pick (is_sign 123 t) (ruled 2 (num 1) (block n ts) (program n))
    (with_got (term n (t ∷ ts)) (λ c us. past 123 us (λ vs. ruled 3 c (block n vs) (program n)))))))

-- the program, as a list of one, if reading came to one and nothing is left; otherwise none
unfoldable pub whole_program : Reads Program → List Program
whole_program none = []
whole_program (got p []) = p ∷ []
whole_program (got p (t ∷ ts)) = []

-- THE PROGRAM THAT A TEXT IS, as a list of one; empty if the text is no program;
-- the depth of reading is bounded by 16 for each token and 16 more
abbrev pub reads : List ℕ → List Program
reads bs = whole_program (program (16 * length (cut_up bs) + 16) (cut_up bs))
