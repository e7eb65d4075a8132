use Rattle.std.proofs.Common.{set, ap, ◌∙◌}
use Rattle.regions.specs.Parts.{parts}
use Rattle.regions.proofs.Regions.{parts_fields}
use Rattle.regions.proofs.fields.set_field.Goals as goal

pub returns : goal.returns
unfolding parts
returns c = parts_fields c.args.mem.now _ _ c.told-mem c.put.auto.region (c.put.ensures ∙ ap (set (parts c.args.mem.now).fields c.args.i) c.word_of.ensures)
