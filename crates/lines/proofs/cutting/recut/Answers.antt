use Rattle.std.proofs.Common.{◌≡◌, ℕ, ◌+◌, List, length, drop, slice_index, sym, refl, ap, ◌∙◌, arith}
use Rattle.store.specs.Words.{unpacked, window}
use Rattle.regions.specs.Parts.{Parts, parts, with_fields}
use Rattle.regions.proofs.Regions.{lines_length}
use Rattle.lines.specs.Cutting.{cuts_of, pass_all, closed, closed_count, recut_of}
use Rattle.lines.proofs.Passing.{window_length, pass_at, pass_turn, pass_end, fields_only, byte_of}
use Rattle.lines.proofs.cutting.recut.Goals as goal

pub pass-cut-requires : goal.pass-cut-requires
pass-cut-requires c = omega (arith, c.loop-i.invariant.2, c.len_at-n.ensures)

pub loop-i-init : goal.loop-i-init
loop-i-init c =
    let e = c.fresh-cut.ensures in
    let w : List ℕ = window c.args.place.start c.args.place.len (parts c.args.mem.now).lines in
    (sym (ap (λ x. pass_all (drop x.at w) (cuts_of (parts c.args.mem.now).fields x)) e), refl, ap (λ x. x.at) e)

pub loop-i-preserved : goal.loop-i-preserved
loop-i-preserved c =
    let o : Parts = parts c.args.mem.now in
    let p : Parts = parts c.loop-i.mem in
    let q : Parts = parts c.pass-cut.new.mem in
    let i = c.loop-i.invariant in
    let s : ℕ = c.args.place.start in
    let n : ℕ = c.args.place.len in
    let w : List ℕ = window s n o.lines in
    let t : length w ≡ c.len_at-n.result = window_length s n o.lines (lines_length c.args.mem.now c.told-mem) ∙ sym c.len_at-n.ensures in
    let e = byte_of o.lines p.lines s n c.loop-i.cut.at c.byte_within-b.result (c.byte_within-b.ensures ∙ ap (λ k. slice_index (unpacked p.lines) (s + k)) (sym i.2)) (ap (λ x. x.lines) i.1) (omega arith) in (
      i.0 ∙ pass_turn w p.fields q.fields c.loop-i.cut c.pass-cut.result c.byte_within-b.result (omega arith) e (ap (λ x. x.fields) c.pass-cut.ensures.noted) c.pass-cut.ensures.cut,
      fields_only o p q _ _ i.1 c.pass-cut.ensures.noted,
      omega (arith, ap (λ x. x.at) c.pass-cut.ensures.cut, pass_at c.byte_within-b.result (cuts_of p.fields c.loop-i.cut), i.2),
    )

pub returns : goal.returns
unfolding recut_of
returns c =
    let o : Parts = parts c.args.mem.now in
    let p : Parts = parts c.loop-i.mem in
    let q : Parts = parts c.close.new.mem in
    let i = c.loop-i.invariant in
    let s : ℕ = c.args.place.start in
    let n : ℕ = c.args.place.len in
    let w : List ℕ = window s n o.lines in
    let t : length w ≡ c.len_at-n.result = window_length s n o.lines (lines_length c.args.mem.now c.told-mem) ∙ sym c.len_at-n.ensures in
    let e = i.0 ∙ pass_end w (cuts_of p.fields c.loop-i.cut) (omega arith) in
    record {
      noted = fields_only o p q _ _ i.1 c.close.ensures.noted ∙ ap (with_fields o) (ap (λ x. x.fields) c.close.ensures.noted ∙ ap (λ x. (closed x).words) (sym e));
      count = c.close.ensures.count ∙ ap (λ x. closed_count x.cut) (sym e);
    }
