use Rattle.std.proofs.Common.{ℕ, List, take, drop, replicate, refl, ap, ◌∙◌}
use Rattle.store.specs.Words.{put_bytes}
use Rattle.regions.specs.Parts.{parts, with_lines}
use Rattle.engine.proofs.Laying.{chunk}
use Rattle.engine.proofs.setting.lay_chunk.Goals as goal

pub returns : goal.returns
returns c =
    let f : List ℕ → List ℕ = λ x. take 64 (drop c.args.at x) in
    c.put_text.ensures
    ∙ ap (λ x. with_lines (parts c.args.mem.now) (put_bytes (parts c.args.mem.now).lines c.args.to x))
    (chunk (replicate 64 0) _ _ c.args.at _ refl c.copy_out-n.ensures.count c.copy_out-n.ensures.copied ∙ ap f c.text_view.ensures)
