use Rattle.std.proofs.Common.{◌≡◌, ℕ, ◌+◌, ◌≤◌, take, length, refl, ap, ◌∙◌, arith, take_all}
use Rattle.store.specs.Words.{put_bytes}
use Rattle.store.specs.Space.{text_of}
use Rattle.regions.specs.Parts.{Parts, parts, with_lines}
use Rattle.engine.proofs.Laying.{laid_more, text_most}
use Rattle.engine.proofs.setting.lay_text.Goals as goal

-- all bytes of a text
all_laid : (p : Parts) (h to k : ℕ) → length (text_of 77822 p.texts h) ≤ k →
    with_lines p (put_bytes p.lines to (take k (text_of 77822 p.texts h))) ≡ with_lines p (put_bytes p.lines to (text_of 77822 p.texts h))
all_laid p h to k e = ap (λ x. with_lines p (put_bytes p.lines to x)) (take_all k (text_of 77822 p.texts h) e)

pub loop-at-init : goal.loop-at-init
unfolding put_bytes
loop-at-init c = refl

pub overflow_add-to : goal.overflow_add-to
overflow_add-to c =
    let l = text_most c.args.mem.now c.args.h.index c.told-mem in
    record { fits = omega (arith, ap length c.text_view.ensures, c.len-n.ensures) }

pub loop-at-preserved : goal.loop-at-preserved
loop-at-preserved c =
    let l = ap length c.text_view.ensures in
    laid_more _ _ _ c.args.h.index c.args.to c.loop-at.at c.loop-at.invariant c.lay_chunk.ensures (omega arith)

pub returns-2 : goal.returns-2
returns-2 c =
    let l = ap length c.text_view.ensures in
    laid_more _ _ _ c.args.h.index c.args.to c.loop-at.at c.loop-at.invariant c.lay_chunk.ensures (omega arith)
    ∙ all_laid (parts c.args.mem.now) c.args.h.index c.args.to (c.loop-at.at + 64) (omega arith)
