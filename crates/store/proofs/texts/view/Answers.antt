use Rattle.std.proofs.Common.{ap, ◌∙◌}
use Rattle.store.specs.Words.{window}
use Rattle.store.specs.Space.{space, bytes_at, text_of}
use Rattle.store.proofs.Parts.{heap_part}
use Rattle.store.proofs.texts.view.Goals as goal

pub returns : goal.returns
unfolding text_of
returns c =
    c.window_of.ensures ∙ ap (window c.start.result c.len.result) (heap_part 20480 77822 c.args.texts.now c.requires)
    ∙ ap (λ k. window k c.len.result (space 20480 c.args.texts.now).heap) c.start.ensures
    ∙ ap (λ k. window (bytes_at 77822 (space 20480 c.args.texts.now) c.args.h.index) k (space 20480 c.args.texts.now).heap) c.len.ensures
