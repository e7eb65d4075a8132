use Rattle.std.proofs.Common.{ap}
use Rattle.regions.specs.Parts.{parts}
use Rattle.regions.specs.Places.{place_of}
use Rattle.regions.proofs.fields.field_at.Goals as goal

pub returns : goal.returns
unfolding parts place_of
returns c = ap place_of c.word-w.ensures
