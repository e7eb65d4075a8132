use Rattle.std.proofs.Common.{ap}
use Rattle.regions.specs.Parts.{parts}
use Rattle.regions.proofs.Regions.{parts_texts}
use Rattle.regions.proofs.texts.new_value.Goals as goal

pub returns : goal.returns
unfolding parts
returns g c =
    record {
      memory = parts_texts c.args.mem.now _ _ c.told-mem c.new_text.auto.texts (ap (λ x. x.space) c.new_text.ensures);
      value = ap (λ x. x.value) c.new_text.ensures;
    }
