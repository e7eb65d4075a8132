-- What a turn does to the regions and the registers, and what it prints. Assumes nothing: these are definitions.
use Rattle.std.specs.Prelude.{ℕ, List, Some, None, Option}
use Rattle.language.specs.Text.{pick}
use Rattle.regions.specs.Parts.{Parts}
use Rattle.rows.specs.Rows.{over_row}
use Rattle.interp.specs.declared.ops.Op.{Op}
use Rattle.interp.specs.declared.ops.Op.TheVariants.{SetField, PrintLine, PrintValues}
use Rattle.interp.specs.declared.registers.Registers.{Registers}
use Rattle.interp.specs.Between.{line_next}
use Rattle.interp.specs.Dispatch as Quiet
use Rattle.interp.specs.Dispatch.{fetched}
use Rattle.interp.specs.Turns.{Did}
use Rattle.engine.specs.Prints.{few, line_text, values_text, line_printed, values_printed}
use Rattle.engine.specs.Setting.{field_set}

-- what an operation does: prints and the setting of fields are done here, the others as interp does them
abbrev pub performed : Op → Parts → Registers → Did
performed SetField p r = field_set p r
performed PrintLine p r = line_printed p r
performed (PrintValues n) p r = values_printed p r (few n)
performed op p r = Quiet.performed op p r

-- what it prints, if it is a print
abbrev pub text_printed : Op → Parts → Registers → Option (List ℕ)
text_printed PrintLine p r = Some (line_text p r)
text_printed (PrintValues n) p r = Some (values_text p r (few n))
text_printed op p r = None

-- one turn: an operation of the code, or what comes between two runs through it

unfoldable pub turned : Parts → Registers → Did
turned p r = pick r.running (performed (fetched p r) p r) (line_next p r)

unfoldable pub turned_text : Parts → Registers → Option (List ℕ)
turned_text p r = pick r.running (text_printed (fetched p r) p r) None

-- what is lent for a row, of which so many bytes are used, once that is put behind them, as much of it as there is room for
abbrev pub lent_after : List ℕ → ℕ → Option (List ℕ) → List ℕ
lent_after out used None = out
lent_after out used (Some b) = over_row out used b
