use Rattle.std.proofs.Common.{ap, ◌∙◌}
use Rattle.language.specs.Text.{truth}
use Rattle.language.specs.Meaning.{got, reckon}
use Rattle.values.proofs.Comparing.{equal_is, unequal_is, at_most_is, at_least_is}
use Rattle.values.proofs.compare.compare.Goals as goal

pub returns-in-Equal : goal.returns-in-Equal
unfolding reckon
returns-in-Equal g c = λ s. rw c.in-Equal.is (ap (λ b. got (truth b) s) (c.is_eq.ensures ∙ equal_is _ _ _ c.order-found.ensures))

pub returns-in-Unequal : goal.returns-in-Unequal
unfolding reckon
returns-in-Unequal g c = λ s. rw c.in-Unequal.is (ap (λ b. got (truth b) s) (c.is_ne.ensures ∙ unequal_is _ _ _ c.order-found.ensures))

pub returns-in-Less : goal.returns-in-Less
unfolding reckon
returns-in-Less g c = λ s. rw c.in-Less.is (ap (λ b. got (truth b) s) (c.is_lt.ensures ∙ c.order-found.ensures.first))

pub returns-in-AtMost : goal.returns-in-AtMost
unfolding reckon
returns-in-AtMost g c = λ s. rw c.in-AtMost.is (ap (λ b. got (truth b) s) (c.is_le.ensures ∙ at_most_is _ _ _ c.order-found.ensures))

pub returns-in-Above : goal.returns-in-Above
unfolding reckon
returns-in-Above g c = λ s. rw c.in-Above.is (ap (λ b. got (truth b) s) (c.is_gt.ensures ∙ c.order-found.ensures.second))

pub returns-in-AtLeast : goal.returns-in-AtLeast
unfolding reckon
returns-in-AtLeast g c = λ s. rw c.in-AtLeast.is (ap (λ b. got (truth b) s) (c.is_ge.ensures ∙ at_least_is _ _ _ c.order-found.ensures))
