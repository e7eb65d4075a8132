use Rattle.std.proofs.Common.{◌≡◌, sym, ap, ◌∙◌, w64, to_z, of_z, rules}
use Rattle.store.specs.declared.cells.Value.TheVariants.{Number}
use Rattle.interp.specs.Slots.{kept_in}
use Rattle.interp.proofs.Loose.{number_saved}
use Rattle.interp.proofs.slots.save_slot.Goals as goal

pub returns-in-Number : goal.returns-in-Number
returns-in-Number c =
    let e : to_z w64 (of_z w64 c.in-Number.n) ≡ c.in-Number.n = search rules in
    c.save_number.ensures ∙ number_saved _ _ c.args.i c.top-v.result _ c.top-v.ensures (c.in-Number.is ∙ ap Number (sym e))

pub returns : goal.returns
unfolding kept_in
returns c = search rules
