use Rattle.std.proofs.Common.{ap, ◌∙◌}
use Rattle.language.specs.Text.{as_text}
use Rattle.rows.specs.Pens.{writing, put}
use Rattle.rows.proofs.Putting.{put_none}
use Rattle.rows.proofs.write_value.Goals as goal

pub returns-in-Unset-clause-written : goal.returns-in-Unset-clause-written
unfolding as_text
returns-in-Unset-clause-written c = rw c.in-Unset.is (put_none (writing c.args.pen.now))

pub returns-in-Short-clause-written : goal.returns-in-Short-clause-written
unfolding as_text
returns-in-Short-clause-written c = rw c.in-Short.is c.text-in-Short.ensures.written

pub returns-in-Text-clause-written : goal.returns-in-Text-clause-written
unfolding as_text
returns-in-Text-clause-written c = rw c.in-Text.is (c.packed.ensures.written ∙ ap (put _) c.text_view.ensures)
