use Rattle.std.proofs.Common.{ap}
use Rattle.regions.specs.Parts.{parts}
use Rattle.regions.proofs.Regions.{parts_texts}
use Rattle.regions.proofs.texts.new_handle.Goals as goal

pub returns : goal.returns
unfolding parts
returns c =
    record {
      memory = parts_texts c.args.mem.now _ _ c.told-mem c.allocate.auto.texts (ap (λ x. x.space) c.allocate.ensures);
      handle = ap (λ x. x.handle) c.allocate.ensures;
    }
