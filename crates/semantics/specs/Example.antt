-- A small program, its code, and what the machine writes.
use Rattle.std.specs.Prelude.{◌≡◌, [], ◌∷◌, codes}
use Rattle.language.specs.Program.{num, field, bin, no_terms, term_and, print, no_deeds, deed_and, Program, reads}
use Rattle.semantics.specs.Stack.{note_all, note_below, push_number, load_field, apply_two, print_values, end_rules}
use Rattle.semantics.specs.Code.{program_code}
use Rattle.semantics.specs.Lines.{run, run_state}

-- { print $1 + 2; }
abbrev pub small_program : Program
small_program = record { rules = record { kind = 2; test = num 1; deeds = deed_and (print (term_and (bin 6 (field (num 1)) (num 2)) no_terms)) no_deeds } ∷ []; funs = [] }

-- the rules before the first line, for each line, and after the last each end where they have nothing more to do
abbrev pub SmallExample : Type 0
SmallExample =
    (reads (codes "{ print $1 + 2; }") ≡ small_program ∷ [])
    × (program_code small_program
    ≡ end_rules
    ∷ note_all 0 ∷ note_all 0
    ∷ note_all 16 ∷ note_all 32 ∷ push_number 1 ∷ note_below 32 ∷ load_field ∷ note_below 16
    ∷ note_all 16 ∷ push_number 2 ∷ note_below 16
    ∷ apply_two 6 ∷ note_below 0 ∷ print_values 1 ∷ note_all 0 ∷ end_rules
    ∷ end_rules ∷ [])
    × ((run_state (run small_program (codes "40 apples\n") 24)).out ≡ codes "42\n")
