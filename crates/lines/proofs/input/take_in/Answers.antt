use Rattle.std.proofs.Common.{◌≡◌, ℕ, ◌-◌, min, List, length, take, sym, ap, ◌∙◌, arith, length-take}
use Rattle.store.specs.Words.{put_bytes}
use Rattle.regions.specs.Parts.{Parts, parts, with_lines}
use Rattle.regions.proofs.Regions.{lines_length}
use Rattle.lines.specs.declared.input.Input.{Input}
use Rattle.lines.specs.Scanning.{waiting, that_fits, taken_lines, after_taken, input_of}
use Rattle.lines.proofs.Passing.{window_length}
use Rattle.lines.proofs.Waiting.{window_all, take_min}
use Rattle.lines.proofs.input.take_in.Goals as goal

pub returns : goal.returns
unfolding taken_lines after_taken
returns c =
    let i : Input = c.args.input.now in
    let p : Parts = parts c.args.mem.now in
    let m : ℕ = i.to - i.from in
    let n : ℕ = c.len_at-n.result in
    let l = lines_length c.args.mem.now c.told-mem in
    let k : n ≡ min m (200704 - i.from) = c.len_at-n.ensures ∙ ap (λ q. min q.len (200704 - q.start)) c.waits.ensures in
    let w : List ℕ = waiting i p.lines in
    let t : length w ≡ n = window_length i.from m p.lines l ∙ sym k in
    let bs : List ℕ = c.args.piece.now in
    let z : c.min-k.result - 0 ≡ min (length bs) (69632 - length w) = omega arith in
    let y : take (c.min-k.result - 0) bs ≡ that_fits w bs = take_min (69632 - length w) (c.min-k.result - 0) bs z in
    let s : parts c.move_lines.new.mem ≡ with_lines p (put_bytes p.lines 0 w) = c.move_lines.ensures ∙ ap (λ x. with_lines p (put_bytes p.lines 0 x)) (window_all i.from m n p.lines l k) in
    record {
      lines =
          c.put_text.ensures
          ∙ ap (λ q. with_lines q (put_bytes q.lines n (take (c.min-k.result - 0) bs))) s
          ∙ ap (λ x. with_lines p (put_bytes (put_bytes p.lines 0 w) n x)) y
          ∙ ap (λ x. with_lines p (put_bytes (put_bytes p.lines 0 w) x (that_fits w bs))) (sym t);
      input = ap (λ x. input_of 0 x i.cut i.ended) (omega (arith, length-take (69632 - length w) bs));
    }
