-- What the operations on slots and counts do. Assumes nothing: these are definitions.
use Rattle.std.specs.Prelude.{ℕ, slice_index_or}
use Rattle.std.proofs.Common.{to_z}
use Rattle.std.specs.Int.{w64}
use Rattle.store.specs.declared.cells.Value.{Value}
use Rattle.store.specs.declared.cells.Value.TheVariants.{Unset, Number}
use Rattle.store.specs.Values.{decoded, saved}
use Rattle.regions.specs.Parts.{Parts, with_slots}
use Rattle.interp.specs.Outcomes.{On}
use Rattle.interp.specs.declared.registers.Registers.{Registers}
use Rattle.interp.specs.Turns.{Did, says, placed, after, top_of, holding, releasing, pushed}

abbrev pub slot_of : Parts → ℕ → Value
slot_of p i = slice_index_or (decoded p.slots) i Unset

abbrev pub slotting : Parts → ℕ → Value → Parts
slotting p i v = with_slots p (saved p.slots i v)

unfoldable pub loaded : Parts → Registers → ℕ → Did
loaded p r i = pushed p r (slot_of p i)

unfoldable pub kept_in : Parts → Registers → ℕ → Did
kept_in p r i = says On (slotting (releasing (holding p (top_of p r)) (slot_of p i)) i (top_of p r)) (placed r (after r.pc) r.depth)

unfoldable pub line_counted : Parts → Registers → Did
line_counted p r = pushed p r (Number (to_z w64 r.count))

unfoldable pub fields_counted : Parts → Registers → Did
fields_counted p r = pushed p r (Number (to_z w64 r.line.fields))
