-- Texts, values, and patterns of texts: what the other pages stand on. Assumes nothing: these are definitions.
-- A text is a list of bytes, that is, of numbers below 256; a position in it counts bytes from 0.
-- The page goes from helpers on lists over values (numbers and texts), arithmetic and comparing to patterns, replacing, and fields of a line.
-- Words: pick = if-then-else; each, those, flat = map, filter, concat-map; Value = a number or a text; a value "holds" if it counts as true
-- and "looks" if it looks like a number; Num = the result of arithmetic with its bounds; Pattern = regular expression; Span = range of bytes;
-- ends = the positions at which matches end; swap = replace all matches.
use Rattle.std.specs.Prelude.{ℕ, zero, suc, ◌+◌, ◌-◌, ◌*◌, ◌/◌, ◌%◌, Bool, true, false, not, ◌&&◌, List, [], ◌∷◌, ◌++◌, length, take, drop, ◌==◌, nat_eq, nat_le, nat_lt}

-- HELPERS: conditions and lists

-- if-then-else: the first of the two if the condition is true, otherwise the second
abbrev pub pick : {A : Type 0} → Bool → A → A → A
pick true a b = a
pick false a b = b

-- at least one of the two is true
abbrev pub or : Bool → Bool → Bool
or true b = true
or false b = b

-- all elements meet the condition; true of the empty list
abbrev pub every : {A : Type 0} → (A → Bool) → List A → Bool
every p [] = true
every p (x ∷ xs) = p x && every p xs

-- at least one element meets the condition; false of the empty list
abbrev pub any : {A : Type 0} → (A → Bool) → List A → Bool
any p [] = false
any p (x ∷ xs) = or (p x) (any p xs)

-- map: the function applied to each element, in order
abbrev pub each : {A B : Type 0} → (A → B) → List A → List B
each f [] = []
each f (x ∷ xs) = f x ∷ each f xs

-- filter: the elements that meet the condition, in order
abbrev pub those : {A : Type 0} → (A → Bool) → List A → List A
those p [] = []
those p (x ∷ xs) = pick (p x) (x ∷ those p xs) (those p xs)

-- concat-map: the lists that the function gives for each element, one after the other
abbrev pub flat : {A B : Type 0} → (A → List B) → List A → List B
flat f [] = []
flat f (x ∷ xs) = f x ++ flat f xs

-- the sum of the numbers that the function gives for each element; 0 for the empty list
abbrev pub added_up : {A : Type 0} → (A → ℕ) → List A → ℕ
added_up f [] = 0
added_up f (x ∷ xs) = f x + added_up f xs

-- the list is empty
abbrev pub none_of : {A : Type 0} → List A → Bool
none_of [] = true
none_of (x ∷ xs) = false

-- the two lists have the same numbers in the same order
unfoldable pub same : List ℕ → List ℕ → Bool
same [] [] = true
same [] (y ∷ ys) = false
same (x ∷ xs) [] = false
same (x ∷ xs) (y ∷ ys) = x == y && same xs ys

-- the first comes strictly before the second, byte by byte (lexicographic order); a text comes before any longer one that begins with it
unfoldable pub earlier : List ℕ → List ℕ → Bool
earlier [] [] = false
earlier [] (y ∷ ys) = true
earlier (x ∷ xs) [] = false
earlier (x ∷ xs) (y ∷ ys) = pick (nat_lt x y) true (x == y && earlier xs ys)

-- VALUES: numbers and texts, and each taken as the other

-- a value of the language: a whole number of either sign, or a text
pub data Value : Type 0 where
  plus : ℕ → Value  -- the number n
  minus : ℕ → Value  -- the number -(n + 1), so that 0 is written in one way only
  text : List ℕ → Value  -- a text, as its bytes

-- byte 32 (blank) or byte 9 (tab)
abbrev pub blank : ℕ → Bool
blank c = or (c == 32) (c == 9)

-- the third number lies between the first and the second, both included
abbrev pub between : ℕ → ℕ → ℕ → Bool
between a b c = nat_le a c && nat_le c b

-- a byte from 0 to 9 in ASCII (48 to 57)
abbrev pub digit : ℕ → Bool
digit c = between 48 57 c

-- the decimal digits of m, put before ds; at most n of them, the last ones
unfoldable pub digits : ℕ → ℕ → List ℕ → List ℕ
digits zero m ds = ds
digits (suc n) m ds = pick (nat_lt m 10) ((48 + m) ∷ ds) (digits n (m / 10) ((48 + m % 10) ∷ ds))

-- the text of a value: a number's decimal digits without leading zeros, "-" before them if it is below 0 (up to 20 digits); a text is itself
unfoldable pub as_text : Value → List ℕ
as_text (plus n) = digits 20 n []
as_text (minus n) = 45 ∷ digits 20 (suc n) []
as_text (text b) = b

-- a text without the blanks and tabs at its beginning
unfoldable pub no_blanks : List ℕ → List ℕ
no_blanks [] = []
no_blanks (c ∷ cs) = pick (blank c) (no_blanks cs) (c ∷ cs)

-- the digits at the beginning of a text, read as decimal digits that follow those of n; n itself if there are none
unfoldable pub leading : ℕ → List ℕ → ℕ
leading n [] = n
leading n (c ∷ cs) = pick (digit c) (leading (10 * n + (c - 48)) cs) n

-- what follows the digits at the beginning of a text
unfoldable pub after_digits : List ℕ → List ℕ
after_digits [] = []
after_digits (c ∷ cs) = pick (digit c) (after_digits cs) (c ∷ cs)

-- a text begins with a digit
abbrev pub starts_digit : List ℕ → Bool
starts_digit [] = false
starts_digit (c ∷ cs) = digit c

-- the number -n
abbrev pub negative : ℕ → Value
negative zero = plus 0
negative (suc n) = minus n

-- the number with which a text begins: perhaps a minus, then digits; 0 without digits; of more than 18 digits the first 18 count
unfoldable pub signed : List ℕ → Value
signed [] = plus 0
signed (c ∷ cs) = pick (c == 45) (negative (leading 0 (take 18 cs))) (plus (leading 0 (take 18 (c ∷ cs))))

-- a value taken as a number: a number is itself; of a text, the number with which it begins after blanks and tabs, or 0
unfoldable pub number_of : Value → Value
number_of (plus n) = plus n
number_of (minus n) = minus n
number_of (text b) = signed (no_blanks b)

-- 1 to 18 digits, and behind them nothing but blanks and tabs
unfoldable pub only_digits : List ℕ → Bool
only_digits cs = (starts_digit cs && none_of (no_blanks (after_digits cs))) && nat_le (length cs) (18 + length (after_digits cs))

-- a text without the minus at its beginning, if there is one
unfoldable pub unsigned : List ℕ → List ℕ
unsigned [] = []
unsigned (c ∷ cs) = pick (c == 45) cs (c ∷ cs)

-- looks like a number: each number does; a text, if all of it is blanks, perhaps a minus, 1 to 18 digits, blanks (tabs count as blanks)
unfoldable pub looks : Value → Bool
looks (plus n) = true
looks (minus n) = true
looks (text b) = only_digits (unsigned (no_blanks b))

-- ARITHMETIC: operands have been through number_of; the cases for texts only make the functions total

-- 2^62: numbers go from -2^62 to 2^62 - 1
abbrev pub limit : ℕ
limit = 4611686018427387904

-- the result of arithmetic, its bounds checked
pub data Num : Type 0 where
  too_large : Num  -- at or above 2^62, or below -2^62
  fine : Value → Num  -- within the bounds

-- checks the bounds of a number; a text passes
unfoldable pub within : Value → Num
within (plus n) = pick (nat_lt n limit) (fine (plus n)) too_large
within (minus n) = pick (nat_lt n limit) (fine (minus n)) too_large
within (text b) = fine (text b)

-- the difference a - b, which may be below 0
abbrev pub apart : ℕ → ℕ → Value
apart a b = pick (nat_le b a) (plus (a - b)) (minus (b - a - 1))

-- the sum, a + b, without bounds, as are the next three
unfoldable pub sum : Value → Value → Value
sum (plus a) (plus b) = plus (a + b)
sum (plus a) (minus b) = apart a (suc b)
sum (plus a) (text b) = plus a
sum (minus a) (plus b) = apart b (suc a)
sum (minus a) (minus b) = minus (suc (a + b))
sum (minus a) (text b) = minus a
sum (text a) v = plus 0

-- the opposite, -a
unfoldable pub opposite : Value → Value
opposite (plus n) = negative n
opposite (minus n) = plus (suc n)
opposite (text b) = plus 0

-- the product, a * b
unfoldable pub product : Value → Value → Value
product (plus a) (plus b) = plus (a * b)
product (plus a) (minus b) = negative (a * suc b)
product (plus a) (text b) = plus 0
product (minus a) (plus b) = negative (suc a * b)
product (minus a) (minus b) = plus (suc a * suc b)
product (minus a) (text b) = plus 0
product (text a) v = plus 0

-- the quotient, a / b, rounded towards 0; for divisors other than 0, which those who use it check with is_zero
unfoldable pub quotient : Value → Value → Value
quotient (plus a) (plus b) = plus (a / b)
quotient (plus a) (minus b) = negative (a / suc b)
quotient (plus a) (text b) = plus 0
quotient (minus a) (plus b) = negative (suc a / b)
quotient (minus a) (minus b) = plus (suc a / suc b)
quotient (minus a) (text b) = plus 0
quotient (text a) v = plus 0

-- the number is 0
abbrev pub is_zero : Value → Bool
is_zero (plus n) = n == 0
is_zero (minus n) = false
is_zero (text b) = true

-- a < b, of numbers
unfoldable pub less_number : Value → Value → Bool
less_number (plus a) (plus b) = nat_lt a b
less_number (plus a) (minus b) = false
less_number (plus a) (text b) = false
less_number (minus a) (plus b) = true
less_number (minus a) (minus b) = nat_lt b a
less_number (minus a) (text b) = true
less_number (text a) v = false

-- COMPARING, and what counts as true

-- a < b: as numbers if both look like numbers, otherwise as texts, byte by byte
unfoldable pub less : Value → Value → Bool
less a b = pick (looks a && looks b) (less_number (number_of a) (number_of b)) (earlier (as_text a) (as_text b))

-- a and b are equal: neither is less than the other
unfoldable pub alike : Value → Value → Bool
alike a b = not (less a b) && not (less b a)

-- counts as true: a number other than 0, or a text that isn't empty (so the text "0" does)
unfoldable pub holds : Value → Bool
holds (plus n) = not (n == 0)
holds (minus n) = true
holds (text b) = not (none_of b)

-- 1 for true, 0 for false
abbrev pub truth : Bool → Value
truth true = plus 1
truth false = plus 0

-- PATTERNS: regular expressions over bytes, and where they match

-- a range of bytes, both ends included; empty if low is above high
pub record Span : Type 0 where
  pub low : ℕ
  pub high : ℕ

-- a pattern, as read from its text
pub data Pattern : Type 0 where
  nothing : Pattern  -- the empty text
  byte : List Span → Bool → Pattern  -- one byte: in one of the spans if the flag is true, in none of them if it is false
  both : Pattern → Pattern → Pattern  -- concatenation: a match of the first, then one of the second
  either : Pattern → Pattern → Pattern  -- alternation: a match of the first or of the second
  some : Pattern → Pattern  -- repetition: none or more matches, one after the other
  at_start : Pattern  -- the empty text, at the beginning of the whole text
  at_end : Pattern  -- the empty text, at the end of the whole text

-- the byte lies in at least one of the spans
abbrev pub in_spans : List Span → ℕ → Bool
in_spans ss c = any (λ s. between s.low s.high c) ss

-- the number k is in the list
abbrev pub has : List ℕ → ℕ → Bool
has ks k = any (nat_eq k) ks

-- the numbers ks, and behind them those of js that aren't there yet, each once
unfoldable pub with_all : List ℕ → List ℕ → List ℕ
with_all [] ks = ks
with_all (j ∷ js) ks = with_all js (pick (has ks j) ks (ks ++ j ∷ []))

-- the byte at position i, as a list of one; empty behind the end
abbrev pub byte_at : List ℕ → ℕ → List ℕ
byte_at bs i = take 1 (drop i bs)

-- where a match of one byte ends that begins at i, given the byte there (a list of one or none): at i + 1, or nowhere
abbrev pub one_byte : List Span → Bool → ℕ → List ℕ → List ℕ
one_byte ss v i [] = []
one_byte ss v i (c ∷ cs) = pick (pick v (in_spans ss c) (not (in_spans ss c))) (suc i ∷ []) []

-- all positions that are reached from those in ks by at most n steps of f
unfoldable pub again : (ℕ → List ℕ) → ℕ → List ℕ → List ℕ
again f zero ks = ks
again f (suc n) ks = again f n (with_all (flat f ks) ks)

-- all positions at which a match of the pattern ends that begins at position i; empty if there is no such match;
-- a repetition has at most as many steps as the text has bytes
unfoldable pub ends : List ℕ → Pattern → ℕ → List ℕ
ends bs nothing i = i ∷ []
ends bs (byte ss v) i = one_byte ss v i (byte_at bs i)
ends bs (both p q) i = with_all (flat (λ j. ends bs q j) (ends bs p i)) []
ends bs (either p q) i = with_all (ends bs q i) (with_all (ends bs p i) [])
ends bs (some p) i = again (λ j. ends bs p j) (length bs) (i ∷ [])
ends bs at_start i = pick (i == 0) (i ∷ []) []
ends bs at_end i = pick (i == length bs) (i ∷ []) []

-- the largest of m and the numbers in the list
unfoldable pub greatest : ℕ → List ℕ → ℕ
greatest m [] = m
greatest m (k ∷ ks) = greatest (pick (nat_lt m k) k m) ks

-- the first match that begins at one of the n positions from i on, as the list of its beginning and its longest end; empty if there is none
unfoldable pub first_match : List ℕ → Pattern → ℕ → ℕ → List ℕ
first_match bs p i zero = []
first_match bs p i (suc n) = pick (none_of (ends bs p i)) (first_match bs p (suc i) n) (i ∷ greatest 0 (ends bs p i) ∷ [])

-- the pattern matches somewhere in the text, be it an empty match at its end
abbrev pub matches : List ℕ → Pattern → Bool
matches bs p = not (none_of (first_match bs p 0 (suc (length bs))))

-- REPLACING all matches in a text

-- what replacing came to, from some position on
pub record Swapped : Type 0 where
  pub bytes : List ℕ  -- the text with the replacements
  pub times : ℕ  -- how many matches were replaced

-- one more replacement, by t, before what the rest came to
abbrev pub with_swap : List ℕ → Swapped → Swapped
with_swap t s = record { bytes = t ++ s.bytes; times = suc s.times }

-- the byte at position i kept, before what the rest came to; at the end of the text there is no rest: no bytes, no replacements
abbrev pub one_on : List ℕ → ℕ → Swapped → Swapped
one_on bs i s = pick (nat_lt i (length bs)) (record { bytes = byte_at bs i ++ s.bytes; times = s.times }) (record { bytes = []; times = 0 })

-- from position i on, all matches that don't overlap replaced by t: from the left, the longest each; an empty match right after another match
-- is passed over, and just says that a match with bytes ended at i; n bounds the steps, and what is left after them is kept as it is
unfoldable pub swap_from : ℕ → List ℕ → Pattern → List ℕ → ℕ → Bool → Swapped
swap_from zero bs p t i just = record { bytes = drop i bs; times = 0 }
swap_from (suc n) bs p t i just =
    pick (none_of (ends bs p i)) (one_on bs i (swap_from n bs p t (suc i) false))
    (pick (greatest 0 (ends bs p i) == i)
    (pick just (one_on bs i (swap_from n bs p t (suc i) false)) (with_swap t (one_on bs i (swap_from n bs p t (suc i) false))))
    (with_swap t (swap_from n bs p t (greatest 0 (ends bs p i)) true)))

-- FIELDS of a line

-- the fields of a text: what stands between blanks and tabs; the first argument is the part of a field that was begun before it
unfoldable pub fields_from : List ℕ → List ℕ → List (List ℕ)
fields_from [] [] = []
fields_from (f ∷ fs) [] = (f ∷ fs) ∷ []
fields_from [] (c ∷ cs) = pick (blank c) (fields_from [] cs) (fields_from (c ∷ []) cs)
fields_from (f ∷ fs) (c ∷ cs) = pick (blank c) ((f ∷ fs) ∷ fields_from [] cs) (fields_from ((f ∷ fs) ++ c ∷ []) cs)

-- the texts with one blank (byte 32) between each two
unfoldable pub joined : List (List ℕ) → List ℕ
joined [] = []
joined (f ∷ []) = f
joined (f ∷ g ∷ fs) = f ++ 32 ∷ joined (g ∷ fs)
