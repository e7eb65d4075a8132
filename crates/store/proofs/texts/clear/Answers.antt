use Rattle.std.proofs.Common.{◌+◌, ◌-◌, sym, ap, ◌∙◌, arith}
use Rattle.store.specs.Space.{space, with_table, with_top, with_free, chained, emptied}
use Rattle.store.proofs.Emptying.{chained_more, chained_done}
use Rattle.store.proofs.texts.clear.Goals as goal

pub loop-h-preserved : goal.loop-h-preserved
loop-h-preserved c =
    c.loop-h.invariant
    ∙ ap (with_table (space 20480 c.loop-h.texts)) (chained_more 20480 c.loop-h.h (space 20480 c.loop-h.texts).table (omega arith))
    ∙ ap (λ x. with_table x (chained (20480 - (c.loop-h.h + 1)) (c.loop-h.h + 1) x.table)) (sym c.set_entry.ensures)

pub returns : goal.returns
unfolding emptied
returns c =
    c.set_top.ensures ∙ ap (λ x. with_top x 0) c.set_free.ensures
    ∙ ap (λ x. with_top (with_free x 0) 0)
    (sym (c.loop-h.invariant ∙ ap (with_table (space 20480 c.loop-h.texts)) (chained_done 20480 c.loop-h.h (space 20480 c.loop-h.texts).table (omega arith))))
