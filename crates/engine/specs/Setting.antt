-- What the setting of a field does: the value stays on the stack, and the field's number goes. Where it is refused, nothing is changed. Assumes
-- nothing: these are definitions.
use Rattle.std.specs.Prelude.{ℕ, List, [], ◌∷◌, length, Some, None, Option, ◌==◌, nat_lt}
use Rattle.language.specs.Text.{pick, number_of, fields_from}
use Rattle.language.specs.Meaning.{field_number}
use Rattle.regions.specs.Parts.{Parts}
use Rattle.lines.specs.declared.line.Line.{Line}
use Rattle.lines.specs.Building.{built, after_set, after_line, line_of}
use Rattle.interp.specs.Outcomes.{Refuse}
use Rattle.interp.specs.declared.registers.Registers.{Registers}
use Rattle.interp.specs.Turns.{Did, says, top_of, under_of, worth_in, dropped}
use Rattle.interp.specs.Texts.{text_in}

-- registers with another current line
abbrev pub with_line : Registers → Line → Registers
with_line r l =
    record {
      pc = r.pc;
      depth = r.depth;
      running = r.running;
      stage = r.stage;
      count = r.count;
      line = l;
      input = r.input;
      at_line = r.at_line;
      at_end = r.at_end;
      print = r.print;
      used = r.used;
    }

-- the line was made anew
abbrev pub relined : Parts → Registers → Line → Did
relined p r l = dropped p (with_line r l)

-- $0 becomes the text t: too long a line is refused with 7, more fields than there is room for with 8
unfoldable pub line_set : Parts → Registers → List ℕ → Did
line_set p r t =
    pick (nat_lt 65535 (length t)) (says (Refuse 7) p r)
    (pick (nat_lt 16448 (length (fields_from [] t))) (says (Refuse 8) p r) (relined (after_line p r.line t) r (line_of p r.line t)))

-- the line with one field changed, if it isn't too long
abbrev pub nth_set_by : Parts → Registers → Parts → Option Line → Did
nth_set_by p r q None = says (Refuse 7) p r
nth_set_by p r q (Some l) = relined q r l

-- field k, which isn't 0, becomes the text t
unfoldable pub nth_set : Parts → Registers → ℕ → List ℕ → Did
nth_set p r k t = nth_set_by p r (after_set p r.line k t) (built p r.line k (length t))

-- the field with this number, if it is one
abbrev pub field_set_by : Parts → Registers → List ℕ → List ℕ → Did
field_set_by p r t [] = says (Refuse 9) p r
field_set_by p r t (k ∷ ks) = pick (k == 0) (line_set p r t) (nth_set p r k t)

unfoldable pub field_set : Parts → Registers → Did
field_set p r = field_set_by p r (text_in p (under_of p r)) (field_number (number_of (worth_in p (top_of p r))))
