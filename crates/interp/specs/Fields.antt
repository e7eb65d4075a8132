-- What the operations on fields do. Assumes nothing: these are definitions.
use Rattle.std.specs.Prelude.{ℕ, List, [], ◌∷◌, Some, None, Option, ◌==◌}
use Rattle.language.specs.Text.{pick, number_of}
use Rattle.language.specs.Meaning.{field_number}
use Rattle.store.specs.declared.cells.Value.{Value}
use Rattle.store.specs.Words.{window}
use Rattle.store.specs.Values.{Made, made}
use Rattle.regions.specs.Parts.{Parts, with_texts}
use Rattle.store.specs.declared.place.Place.{Place}
use Rattle.lines.specs.declared.line.Line.{Line}
use Rattle.lines.specs.Lines.{nth_place}
use Rattle.interp.specs.Outcomes.{Refuse}
use Rattle.interp.specs.declared.registers.Registers.{Registers}
use Rattle.interp.specs.Turns.{Did, says, top_of, worth_in, replaced}

-- where field k is, given the words of the region of fields; field 0 is the line
unfoldable pub field_place : List ℕ → Line → ℕ → Place
field_place ws l k = pick (k == 0) l.place (nth_place ws l k)

-- the bytes at a place of the region of lines
abbrev pub bytes_in : Parts → Place → List ℕ
bytes_in p q = window q.start q.len p.lines

-- a new value comes in place of the top, if there is one
abbrev pub put_new : Parts → Registers → Option Value → Did
put_new p r None = says (Refuse 8) p r
put_new p r (Some v) = replaced p r v

abbrev pub field_put : Parts → Registers → Made → Did
field_put p r m = put_new (with_texts p m.space) r m.value

-- the field with this number, if it is one
abbrev pub field_by : Parts → Registers → List ℕ → Did
field_by p r [] = says (Refuse 9) p r
field_by p r (k ∷ ks) = field_put p r (made 20480 77822 p.texts (bytes_in p (field_place p.fields r.line k)))

unfoldable pub field_got : Parts → Registers → Did
field_got p r = field_by p r (field_number (number_of (worth_in p (top_of p r))))
