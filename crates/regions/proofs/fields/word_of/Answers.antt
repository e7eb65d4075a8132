use Rattle.std.proofs.Common.{rules}
use Rattle.regions.specs.Places.{place_word}
use Rattle.regions.proofs.fields.word_of.Goals as goal

pub returns : goal.returns
unfolding place_word
returns c = search rules
