use Rattle.std.proofs.Common.{◌≡◌, ℕ, List, length, sym, ap, ◌∙◌, arith}
use Rattle.store.specs.Words.{window}
use Rattle.regions.specs.Parts.{Parts, parts, with_fields}
use Rattle.regions.proofs.Regions.{lines_length}
use Rattle.std.proofs.lemmas.Bool.{false≢true}
use Rattle.lines.specs.Cutting.{Cuts, cuts_of, cut_of, pass_other}
use Rattle.lines.proofs.Passing.{window_length, passes_other, above_blank, pass_at, scan_turn, scan_stop, scan_end, fields_only, byte_of}
use Rattle.lines.proofs.input.scan_on.Goals as goal

pub loop-c-smaller : goal.loop-c-smaller
loop-c-smaller c = omega (arith, ap (λ x. x.at) c.pass-c.ensures.cut, pass_at c.byte_within-b.result (cuts_of (parts c.loop-c.mem).fields c.loop-c.c))

pub loop-c-preserved : goal.loop-c-preserved
loop-c-preserved c =
    let o : Parts = parts c.args.mem.now in
    let p : Parts = parts c.loop-c.mem in
    let q : Parts = parts c.pass-c.new.mem in
    let i = c.loop-c.invariant in
    let w : List ℕ = window c.args.from c.args.n o.lines in
    let u = window_length c.args.from c.args.n o.lines (lines_length c.args.mem.now c.told-mem) in
    let t : length w ≡ c.args.n = omega arith in
    let e = byte_of o.lines p.lines c.args.from c.args.n c.loop-c.c.at c.byte_within-b.result c.byte_within-b.ensures (ap (λ x. x.lines) i.1) (omega arith) in (
      i.0 ∙ scan_turn w p.fields q.fields c.loop-c.c c.pass-c.result c.byte_within-b.result (omega arith) e (λ h. omega arith) (ap (λ x. x.fields) c.pass-c.ensures.noted) c.pass-c.ensures.cut,
      fields_only o p q _ _ i.1 c.pass-c.ensures.noted,
    )

pub loop-c-preserved-then-b-gt32 : goal.loop-c-preserved-then-b-gt32
loop-c-preserved-then-b-gt32 c =
    let o : Parts = parts c.args.mem.now in
    let p : Parts = parts c.loop-c.mem in
    let i = c.loop-c.invariant in
    let w : List ℕ = window c.args.from c.args.n o.lines in
    let u = window_length c.args.from c.args.n o.lines (lines_length c.args.mem.now c.told-mem) in
    let t : length w ≡ c.args.n = omega arith in
    let s : Cuts = cuts_of p.fields c.loop-c.c in
    let b : ℕ = c.byte_within-b.result in
    let e = byte_of o.lines p.lines c.args.from c.args.n c.loop-c.c.at b c.byte_within-b.ensures (ap (λ x. x.lines) i.1) (omega arith) in
    let f = passes_other b s (above_blank b c.if-b-gt32.true) in
    (i.0 ∙ scan_turn w p.fields p.fields c.loop-c.c (pass_other s).cut b (omega arith) e (λ h. omega arith) (ap (λ x. x.words) (sym f)) (ap (λ x. x.cut) (sym f)), i.1)

pub returns-then-b-eq10 : goal.returns-then-b-eq10
returns-then-b-eq10 c =
    let o : Parts = parts c.args.mem.now in
    let p : Parts = parts c.loop-c.mem in
    let q : Parts = parts c.close.new.mem in
    let i = c.loop-c.invariant in
    let w : List ℕ = window c.args.from c.args.n o.lines in
    let u = window_length c.args.from c.args.n o.lines (lines_length c.args.mem.now c.told-mem) in
    let t : length w ≡ c.args.n = omega arith in
    let b = byte_of o.lines p.lines c.args.from c.args.n c.loop-c.c.at c.byte_within-b.result c.byte_within-b.ensures (ap (λ x. x.lines) i.1) (omega arith) in
    let e = i.0 ∙ scan_stop w (cuts_of p.fields c.loop-c.c) c.byte_within-b.result (omega arith) b (omega arith) in
    record {
      noted = fields_only o p q _ _ i.1 c.close.ensures.noted ∙ ap (with_fields o) (ap (λ x. x.fields) c.close.ensures.noted ∙ ap (λ x. x.cuts.words) (sym e));
      cut = ap (cut_of c.loop-c.c.at c.loop-c.c.since) c.close.ensures.count ∙ ap (λ x. x.cuts.cut) (sym e);
      found = ap (λ x. x.found) (sym e);
      inside = λ h. omega arith;
    }

pub returns : goal.returns
returns c =
    let o : Parts = parts c.args.mem.now in
    let p : Parts = parts c.loop-c.mem in
    let i = c.loop-c.invariant in
    let w : List ℕ = window c.args.from c.args.n o.lines in
    let u = window_length c.args.from c.args.n o.lines (lines_length c.args.mem.now c.told-mem) in
    let t : length w ≡ c.args.n = omega arith in
    let e = i.0 ∙ scan_end w (cuts_of p.fields c.loop-c.c) (omega arith) in
    record {
      noted = i.1 ∙ ap (λ x. with_fields o x.cuts.words) (sym e);
      cut = ap (λ x. x.cuts.cut) (sym e);
      found = ap (λ x. x.found) (sym e);
      inside = λ h. absurd (false≢true h);
    }
