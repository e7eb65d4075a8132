use Rattle.regions.specs.Places.{PlacesComeBack}
use Rattle.regions.proofs.Places.{come_back}
use Rattle.regions.proofs.fields.places_come_back.Goals as goal

pub returns : goal.returns
unfolding PlacesComeBack
returns c = come_back
