use Rattle.std.proofs.Common.{◌≡◌, ℕ, List, length, ap, ◌∙◌}
use Rattle.store.specs.Words.{window, put_bytes}
use Rattle.regions.specs.Parts.{Parts, parts, with_fields, with_lines}
use Rattle.lines.specs.Building.{buffer_of, with_text, after_line, line_of}
use Rattle.lines.specs.Cutting.{recut_of}
use Rattle.lines.specs.Scanning.{line_at}
use Rattle.lines.proofs.building.set_line.Goals as goal

pub returns : goal.returns
unfolding with_text after_line line_of
returns g c =
    let p : Parts = parts c.args.mem.now in
    let q : Parts = parts c.put_text.new.mem in
    let v : List ℕ = g.T.Bytes.bytes c.args.value.now in
    let b : ℕ = buffer_of c.args.line in
    let t : Parts = with_lines p (put_bytes p.lines b v) in
    let e : q ≡ t = c.put_text.ensures ∙ ap (λ x. with_lines p (put_bytes p.lines x v)) c.free_buffer.ensures in
    record {
      cut =
          c.recut-fields.ensures.noted
          ∙ ap (λ x. with_fields x (recut_of x.fields (window c.free_buffer.result c.len.result x.lines)).words) e
          ∙ ap (λ x. with_fields t (recut_of p.fields (window x c.len.result t.lines)).words) c.free_buffer.ensures
          ∙ ap (λ x. with_fields t (recut_of p.fields (window b x t.lines)).words) c.len.ensures;
      line =
          ap (λ x. line_at x c.len.result c.recut-fields.result) c.free_buffer.ensures
          ∙ ap (λ x. line_at b x c.recut-fields.result) c.len.ensures
          ∙ ap (line_at b (length v))
          (c.recut-fields.ensures.count
          ∙ ap (λ x. (recut_of x.fields (window c.free_buffer.result c.len.result x.lines)).cut.fields) e
          ∙ ap (λ x. (recut_of p.fields (window x c.len.result t.lines)).cut.fields) c.free_buffer.ensures
          ∙ ap (λ x. (recut_of p.fields (window b x t.lines)).cut.fields) c.len.ensures);
    }
