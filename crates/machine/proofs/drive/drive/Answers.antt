use Rattle.std.proofs.Common.{◌∙◌}
use Rattle.machine.specs.Entry.{own}
use Rattle.machine.proofs.drive.drive.Goals as goal

pub run-requires-clause-start : goal.run-requires-clause-start
unfolding own
run-requires-clause-start g c κs within =
    let h = rw c.unwrap.ensures at c.try_from.ensures.1 in
    h.same ∙ c.as_mut_slice.ensures.value ∙ c.in-Ok.ensures.items_if_clones_equal (λ y e. e)
