-- A worked example: a program's text, its operations, its pool and where its stages begin.
use Rattle.std.specs.Prelude.{◌≡◌, ℕ, List, [], ◌∷◌, codes}
use Rattle.language.specs.Text.{each, plus, text}
use Rattle.language.specs.Program.{reads}
use Rattle.semantics.specs.Code.{Entries}
use Rattle.assembly.specs.Assembly.{op_load, op_save, op_line_count, op_get_field, op_two, op_jump_unless, op_drop, op_print_values, op_end, named, literal, Made, assemble, entries}

-- its text
abbrev pub example : List ℕ
example = codes "NR > 1 { s = s + $1; } END { print s, \"!\"; }"

-- nothing at the beginning; the rule for each line, whose test jumps over its statement; the rule for the end
abbrev pub example_made : Made
example_made = record {
  ops =
      op_end
      ∷ op_line_count ∷ op_load 0 ∷ op_two 13 ∷ op_jump_unless 11 ∷ op_load 1 ∷ op_load 2 ∷ op_get_field ∷ op_two 6 ∷ op_save 1 ∷ op_drop ∷ op_end
      ∷ op_load 1 ∷ op_load 3 ∷ op_print_values 2 ∷ op_end ∷ [];
  pool = literal (plus 1) ∷ named (codes "s") ∷ literal (plus 1) ∷ literal (text (codes "!")) ∷ [];
}

-- where its stages begin
abbrev pub example_entries : Entries
example_entries = record { at_begin = 0; at_line = 1; at_end = 12 }

-- this is what is assembled
abbrev pub Worked : Type 0
Worked = (each assemble (reads example) ≡ example_made ∷ []) × (each entries (reads example) ≡ example_entries ∷ [])
