use Rattle.std.proofs.Common.{◌≡◌, ℕ, List, length, Some, None, sym, ap, ◌∙◌}
use Rattle.store.specs.Words.{put_bytes}
use Rattle.regions.specs.Parts.{Parts, parts, with_lines}
use Rattle.lines.specs.Building.{built, after_built, filled, filled_if, after_set}
use Rattle.lines.proofs.building.set_line_field.Goals as goal

pub returns-in_err-new : goal.returns-in_err-new
unfolding after_set
returns-in_err-new g c =
    let p : Parts = parts c.args.mem.now in
    let v : List ℕ = g.T.Bytes.bytes c.args.value.now in
    let b : None ≡ built p c.args.line c.args.n (length v) = sym c.in_err-new.was ∙ c.build.ensures.line ∙ ap (built p c.args.line c.args.n) c.len.ensures in
    record {
      filled =
          c.build.ensures.laid ∙ ap (after_built p c.args.line c.args.n) c.len.ensures
          ∙ ap (λ x. filled_if x (after_built p c.args.line c.args.n (length v)) c.args.n v) b;
      line = c.from_residual.ensures ∙ b;
    }

pub returns : goal.returns
unfolding after_set
returns g c =
    let p : Parts = parts c.args.mem.now in
    let q : Parts = parts c.build.new.mem in
    let v : List ℕ = g.T.Bytes.bytes c.args.value.now in
    let b : Some c.in_ok-new.new ≡ built p c.args.line c.args.n (length v) = sym c.in_ok-new.was ∙ c.build.ensures.line ∙ ap (built p c.args.line c.args.n) c.len.ensures in
    record {
      filled =
          c.put_text.ensures ∙ ap (λ x. with_lines q (put_bytes q.lines x.start v)) c.nth_field-gap.ensures
          ∙ ap (λ x. filled x c.in_ok-new.new c.args.n v) (c.build.ensures.laid ∙ ap (after_built p c.args.line c.args.n) c.len.ensures)
          ∙ ap (λ x. filled_if x (after_built p c.args.line c.args.n (length v)) c.args.n v) b;
      line = b;
    }
