use Rattle.std.proofs.Common.{refl, ap, ◌∙◌, arith, take_all}
use Rattle.store.specs.Words.{window, put_bytes}
use Rattle.store.specs.Space.{written}
use Rattle.regions.specs.Parts.{parts, with_texts}
use Rattle.interp.proofs.Copying.{window_size, grown, taken_on}
use Rattle.interp.proofs.fields.copy_line.Goals as goal

pub loop-at-init : goal.loop-at-init
unfolding written put_bytes
loop-at-init c = refl

pub loop-at-preserved : goal.loop-at-preserved
loop-at-preserved c =
    let p = parts c.args.mem.now in
    let w = window c.args.place.start c.args.place.len p.lines in
    let l = window_size c.args.mem.now c.args.place.start c.args.place.len c.told-mem in
    grown _ _ _ c.args.h.index c.args.place.start c.args.place.len c.loop-at.at c.min-len.result c.loop-at.invariant c.copy_chunk.ensures (omega arith) (omega arith)
    ∙ ap (λ x. with_texts p (written 77822 p.texts c.args.h.index 0 x)) (taken_on c.loop-at.at c.min-len.result c.len_at-n.result w (omega arith) (omega arith))

pub returns : goal.returns
returns c =
    let p = parts c.args.mem.now in
    let l = window_size c.args.mem.now c.args.place.start c.args.place.len c.told-mem in
    c.loop-at.invariant
    ∙ ap (λ x. with_texts p (written 77822 p.texts c.args.h.index 0 x)) (take_all _ (window c.args.place.start c.args.place.len p.lines) (omega arith))

pub returns-2 : goal.returns-2
returns-2 c =
    let p = parts c.args.mem.now in
    let l = window_size c.args.mem.now c.args.place.start c.args.place.len c.told-mem in
    grown _ _ _ c.args.h.index c.args.place.start c.args.place.len c.loop-at.at c.min-len.result c.loop-at.invariant c.copy_chunk.ensures (omega arith) (omega arith)
    ∙ ap (λ x. with_texts p (written 77822 p.texts c.args.h.index 0 x)) (take_all _ (window c.args.place.start c.args.place.len p.lines) (omega arith))
