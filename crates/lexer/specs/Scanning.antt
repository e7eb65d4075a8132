-- Reading a pattern byte by byte. Assumes nothing: these are definitions.
use Rattle.std.specs.Prelude.{◌≡◌, ℕ, suc, ◌+◌, ◌*◌, ◌<◌, ◌≤◌, Bool, true, false, ◌&&◌, List, [], ◌∷◌, ◌++◌, length, drop, Some, None, Option, ◌==◌, slice_index}
use Rattle.language.specs.Text.{pick, or, none_of, Pattern, both, either, Span}
use Rattle.language.specs.Program.{Got, got, none, with_got, quote_part, spans, next_is, less_one, pattern, row, marks, atom, whole_pattern}
use Rattle.lexer.specs.declared.patterns.Meant.{Meant}
use Rattle.lexer.specs.declared.patterns.Scan.{Scan}

-- the bytes that are meant from a place on
abbrev pub from_on : List ℕ → ℕ → List ℕ
from_on bs i = quote_part (drop i bs)

abbrev pub MeantIs : List ℕ → ℕ → Option Meant → Type 0
MeantIs bs i None = from_on bs i ≡ []
MeantIs bs i (Some m) = (from_on bs i ≡ m.byte ∷ from_on bs m.next) × (i < m.next) × (m.next ≤ length bs)

-- a span of a set whose first byte c was read, with the bytes cs behind it
abbrev pub span_on : ℕ → List Span → ℕ → List ℕ → Got ℕ (List Span)
span_on n ss c cs =
    pick (next_is 45 cs && pick (next_is 93 (less_one cs)) false (pick (none_of (less_one cs)) false true))
    (spans n (ss ++ record { low = c; high = slice_index (less_one cs) 0 } ∷ []) false (less_one (less_one cs)))
    (spans n (ss ++ record { low = c; high = c } ∷ []) false cs)

pub record SpanSays (bs : List ℕ) (i r : ℕ) : Type 0 where
  pub onward : i ≤ r
  pub inside : i ≤ length bs → r ≤ length bs
  pub goes : (n : ℕ) (ss : List Span) (c : ℕ) → (ts : List Span) × (span_on n ss c (from_on bs i) ≡ spans n ts false (from_on bs r))
  pub shorter : length (from_on bs r) ≤ length (from_on bs i)

-- where a set ends, with fuel enough
abbrev pub SetEnds : List ℕ → ℕ → Option ℕ → Type 0
SetEnds bs i (Some r) = (i < r) × (r ≤ length bs) × ((n : ℕ) → length (from_on bs i) ≤ n → (ss : List Span) × (spans n [] true (from_on bs i) ≡ got ss (from_on bs r))) × (length (from_on bs r) ≤ length (from_on bs i))
SetEnds bs i None = (n : ℕ) → length (from_on bs i) ≤ n → spans n [] true (from_on bs i) ≡ none

-- where an atom ends that begins with this byte and is no bracket
abbrev pub AtomSays : List ℕ → Meant → Option ℕ → Type 0
AtomSays bs m (Some r) = (m.next ≤ r) × (r ≤ length bs) × (length (from_on bs r) ≤ length (from_on bs m.next)) × ((n : ℕ) → length (from_on bs m.next) ≤ n → (p : Pattern) × (atom (suc n) (m.byte ∷ from_on bs m.next) ≡ got p (from_on bs r)))
AtomSays bs m None = (n : ℕ) → length (from_on bs m.next) ≤ n → atom (suc n) (m.byte ∷ from_on bs m.next) ≡ none

-- * + or ?
abbrev pub a_mark : ℕ → Bool
a_mark c = or (c == 42) (or (c == 43) (c == 63))

-- what was begun: a pattern before |, or a row before an open bracket
pub data Begun : Type 0 where
  in_either : Pattern → Begun
  in_group : Pattern → Begun

abbrev pub groups : List Begun → ℕ
groups [] = 0
groups (in_either p ∷ fs) = groups fs
groups (in_group p ∷ fs) = suc (groups fs)

-- what the rest gives once a pattern was read
abbrev pub resume : ℕ → List Begun → Pattern → List ℕ → Got ℕ Pattern
resume N [] p ds = got p ds
resume N (in_either p ∷ fs) q ds = resume N fs (either p q) ds
resume N (in_group p ∷ fs) q ds =
    pick (next_is 41 ds) (with_got (marks N q (less_one ds)) (λ r es. with_got (row N (both p r) es) (λ s gs.
    pick (next_is 124 gs) (with_got (pattern N (less_one gs)) (λ t hs. resume N fs (either s t) hs)) (resume N fs s gs)))) none

-- the same once a row was read; in a row; and where marks may follow
abbrev pub bar : ℕ → List Begun → Pattern → List ℕ → Got ℕ Pattern
bar N fs s gs = pick (next_is 124 gs) (with_got (pattern N (less_one gs)) (λ t hs. resume N fs (either s t) hs)) (resume N fs s gs)

abbrev pub row_on : ℕ → List Begun → Pattern → List ℕ → Got ℕ Pattern
row_on N fs p cs = with_got (row N p cs) (λ s gs. bar N fs s gs)

abbrev pub marks_on : ℕ → List Begun → Pattern → Pattern → List ℕ → Got ℕ Pattern
marks_on N fs p q cs = with_got (marks N q cs) (λ r es. row_on N fs (both p r) es)

-- the rest gives g; the flag says whether marks may follow
abbrev pub Means : ℕ → List Begun → Bool → List ℕ → Got ℕ Pattern → Type 0
Means N fs false cs g = (p : Pattern) × (row_on N fs p cs ≡ g)
Means N fs true cs g = (p : Pattern) × (q : Pattern) × (marks_on N fs p q cs ≡ g)

-- how far a scan has come
pub record Scans (bs : List ℕ) (from : ℕ) (s : Scan) : Type 0 where
  pub begun : List Begun
  pub nested_is : groups begun ≡ s.nested
  pub shorter : length (from_on bs s.at) ≤ length (from_on bs from)
  pub inside : s.at ≤ length bs
  pub means : Means (4 * length (from_on bs from) + 4) begun s.marks (from_on bs s.at) (pattern (4 * length (from_on bs from) + 4) (from_on bs from))

-- what a byte more makes of a scan
abbrev pub Scanned : List ℕ → ℕ → Meant → Option Scan → Type 0
Scanned bs from m (Some s) = Scans bs from s × (m.next ≤ s.at)
Scanned bs from m None = none_of (whole_pattern (pattern (4 * length (from_on bs from) + 4) (from_on bs from))) ≡ true

-- at most one bracket more is open
abbrev pub Opened : Scan → Option Scan → Type 0
Opened s (Some t) = t.nested ≤ s.nested + 1
Opened s None = Unit {0}

-- a byte that is no mark, no bracket ( ) and no |
pub record PlainByte (c : ℕ) : Type 0 where
  pub not_star : c ≡ 42 → ⊥
  pub not_plus : c ≡ 43 → ⊥
  pub not_once : c ≡ 63 → ⊥
  pub not_open : c ≡ 40 → ⊥
