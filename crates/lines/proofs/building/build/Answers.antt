use Rattle.std.proofs.Common.{◌≡◌, ℕ, ◌-◌, max, true, false, leb, List, Some, None, sym, ap, ◌∙◌}
use Rattle.std.proofs.lemmas.Bool.{leb-true}
use Rattle.language.specs.Text.{pick}
use Rattle.regions.specs.Parts.{Parts, parts}
use Rattle.lines.specs.Building.{buffer_of, pieces, all_pieces, total, laid, built, after_built}
use Rattle.lines.specs.Scanning.{line_at}
use Rattle.lines.proofs.Pieces.{none_then, some_then}
use Rattle.lines.proofs.building.build.Goals as goal

pub lay-requires : goal.lay-requires
lay-requires c =
    let ws : List ℕ = (parts c.args.mem.now).fields in
    let t : ℕ = total (pieces ws c.args.line c.args.n c.args.len c.max-fields.result 0) in
    leb-true t 65536 (some_then (leb t 65536) t c.in_ok-bytes.bytes (sym c.total.ensures ∙ c.in_ok-bytes.was)).0

pub returns-in_err-bytes : goal.returns-in_err-bytes
unfolding built after_built
returns-in_err-bytes c =
    let p : Parts = parts c.args.mem.now in
    let l = c.args.line in
    let e = c.max-fields.ensures in
    let t : ℕ = total (pieces p.fields l c.args.n c.args.len c.max-fields.result 0) in
    let u : ℕ = total (all_pieces p.fields l c.args.n c.args.len) in
    let f : leb u 65536 ≡ false = ap (λ m. leb (total (pieces p.fields l c.args.n c.args.len m 0)) 65536) (sym e) ∙ none_then (leb t 65536) t (sym c.total.ensures ∙ c.in_err-bytes.was) in
    record {
      laid = ap (λ b. pick b (laid p (buffer_of l) 0 0 (all_pieces p.fields l c.args.n c.args.len)) p) (sym f);
      line = c.from_residual.ensures ∙ ap (λ b. pick b (Some (line_at (buffer_of l) (u - 1) (max l.fields c.args.n))) None) (sym f);
    }

pub returns : goal.returns
unfolding built after_built
returns c =
    let p : Parts = parts c.args.mem.now in
    let l = c.args.line in
    let e = c.max-fields.ensures in
    let t : ℕ = total (pieces p.fields l c.args.n c.args.len c.max-fields.result 0) in
    let u : ℕ = total (all_pieces p.fields l c.args.n c.args.len) in
    let same : t ≡ u = ap (λ m. total (pieces p.fields l c.args.n c.args.len m 0)) e in
    let s = some_then (leb t 65536) t c.in_ok-bytes.bytes (sym c.total.ensures ∙ c.in_ok-bytes.was) in
    let f : leb u 65536 ≡ true = ap (λ x. leb x 65536) (sym same) ∙ s.0 in
    let n : c.saturating_sub.result ≡ u - 1 = c.saturating_sub.ensures ∙ ap (λ x. x - 1) (sym s.1 ∙ same) in
    record {
      laid =
          c.lay.ensures ∙ ap (λ m. laid p (buffer_of l) 0 0 (pieces p.fields l c.args.n c.args.len m 0)) e
          ∙ ap (λ b. pick b (laid p (buffer_of l) 0 0 (all_pieces p.fields l c.args.n c.args.len)) p) (sym f);
      line =
          ap (λ x. Some (line_at x c.saturating_sub.result c.max-fields.result)) c.free_buffer.ensures
          ∙ ap (λ x. Some (line_at (buffer_of l) x c.max-fields.result)) n
          ∙ ap (λ x. Some (line_at (buffer_of l) (u - 1) x)) e
          ∙ ap (λ b. pick b (Some (line_at (buffer_of l) (u - 1) (max l.fields c.args.n))) None) (sym f);
    }
