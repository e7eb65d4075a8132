-- Worked examples: programs, and what they write on the same two lines.
use Rattle.std.specs.Prelude.{◌≡◌, ℕ, ◌+◌, List, [], ◌∷◌, codes}
use Rattle.language.specs.Program.{Program, reads}
use Rattle.language.specs.Meaning.{Went, went, nexted, stopped, given, wrong, unfinished, outcome}

pub record Example : Type 0 where
  pub program : List ℕ
  pub written : List ℕ

-- the list that they are run over
abbrev pub two_lines : List ℕ
two_lines = codes "ab 3\na  b 12\n"

abbrev pub examples : List Example
examples =
    record { program = codes "{ print NF, $2; }"; written = codes "2 3\n3 b\n" }
    ∷ record { program = codes "{ $5 = \"z\"; print NF, $0; }"; written = codes "5 ab 3   z\n5 a b 12  z\n" }
    ∷ record { program = codes "{ n = n + $NF; } END { print n, n / 4, -n % 4; }"; written = codes "15 3 -3\n" }
    ∷ record { program = codes "$1 ~ \"^a.$\" { print \"two\"; next; } { print \"else\"; }"; written = codes "two\nelse\n" }
    ∷ record { program = codes "{ t[$1] = t[$1] $NF; } END { for (k in t) print k, t[k]; }"; written = codes "a 12\nab 3\n" }
    ∷ record { program = codes "BEGIN { print \"007\" == 7, \"007x\" < 7, substr(\"milk\", 2, 2), index(\"milk\", \"k\"); }"; written = codes "1 1 il 4\n" }
    ∷ record { program = codes "BEGIN { x = \"banana\"; print swap(\"a*n\", \"<>\", x), x; }"; written = codes "2 b<><>a\n" }
    ∷ record { program = codes "BEGIN { print split(\"1,2,,3\", t, \",\"), t[3] \"|\" t[4]; }"; written = codes "4 |3\n" }
    ∷ record { program = codes "function f(a) { if (a < 2) return 1; return a * f(a - 1); } BEGIN { print f(5); }"; written = codes "120\n" }
    ∷ []

-- what a run that ended by itself has written; nothing, if it did not
abbrev pub all_written : Went → List (List ℕ)
all_written (went s) = s.out ∷ []
all_written (nexted s) = []
all_written (stopped k s) = []
all_written (given v s) = []
all_written (wrong k s) = []
all_written (unfinished s) = []

-- the same of what a text reads as: nothing, if that isn't one program
abbrev pub came_to : ℕ → List Program → List ℕ → List (List ℕ)
came_to f [] bs = []
came_to f (p ∷ []) bs = all_written (outcome f p bs)
came_to f (p ∷ q ∷ ps) bs = []

abbrev pub Each : {A : Type 0} → (A → Type 0) → List A → Type 0
Each P [] = Unit {0}
Each P (x ∷ xs) = P x × Each P xs

-- Each example's text is a program that writes just that and ends, at a depth of 60 and at any greater one.
abbrev pub Worked : Type 0
Worked = Each (λ x. (k : ℕ) → came_to (k + 60) (reads x.program) two_lines ≡ x.written ∷ []) examples
