use Rattle.std.proofs.Common.{◌≡◌, ℕ, ◌+◌, ◌-◌, min, true, false, List, length, Some, None, sym, ap, ◌∙◌, arith}
use Rattle.language.specs.Text.{pick, none_of}
use Rattle.regions.specs.Parts.{Parts, parts, with_fields}
use Rattle.regions.proofs.Regions.{lines_length}
use Rattle.lines.specs.declared.input.Input.{Input}
use Rattle.lines.specs.Cutting.{fresh_cut, closed_words, closed_count}
use Rattle.lines.specs.Scanning.{waiting, input_of, line_at, last_words, after_last, last_of}
use Rattle.lines.proofs.Passing.{window_length}
use Rattle.lines.proofs.Waiting.{none_there, some_there}
use Rattle.lines.proofs.input.last_line.Goals as goal

pub returns-then-len-eq0 : goal.returns-then-len-eq0
unfolding last_words after_last last_of
returns-then-len-eq0 c =
    let i : Input = c.args.input.now in
    let p : Parts = parts c.args.mem.now in
    let k = c.len_at-len.ensures ∙ ap (λ q. min q.len (200704 - q.start)) c.waits.ensures in
    let w : List ℕ = waiting i p.lines in
    let t = window_length i.from (i.to - i.from) p.lines (lines_length c.args.mem.now c.told-mem) in
    let e : none_of w ≡ true = none_there w (omega arith) in
    record {
      noted = ap (λ b. with_fields p (pick b p.fields (closed_words p.fields i.cut))) (sym e);
      input = ap (λ b. pick b i (input_of (i.from + length w) i.to fresh_cut i.ended)) (sym e);
      line = ap (λ b. pick b None (Some (line_at i.from (length w) (closed_count i.cut)))) (sym e);
    }

pub returns : goal.returns
unfolding last_words after_last last_of
returns c =
    let i : Input = c.args.input.now in
    let p : Parts = parts c.args.mem.now in
    let k = c.len_at-len.ensures ∙ ap (λ q. min q.len (200704 - q.start)) c.waits.ensures in
    let w : List ℕ = waiting i p.lines in
    let t : c.len_at-len.result ≡ length w = k ∙ sym (window_length i.from (i.to - i.from) p.lines (lines_length c.args.mem.now c.told-mem)) in
    let e : none_of w ≡ false = some_there w (λ h. omega arith) in
    record {
      noted = c.close-fields.ensures.noted ∙ ap (λ b. with_fields p (pick b p.fields (closed_words p.fields i.cut))) (sym e);
      input =
          ap (λ n. input_of (i.from + n) i.to c.fresh-input.result i.ended) t ∙ ap (λ x. input_of (i.from + length w) i.to x i.ended) c.fresh-input.ensures
          ∙ ap (λ b. pick b i (input_of (i.from + length w) i.to fresh_cut i.ended)) (sym e);
      line =
          ap (λ n. Some (line_at i.from n c.close-fields.result)) t ∙ ap (λ k. Some (line_at i.from (length w) k)) c.close-fields.ensures.count
          ∙ ap (λ b. pick b None (Some (line_at i.from (length w) (closed_count i.cut)))) (sym e);
    }
