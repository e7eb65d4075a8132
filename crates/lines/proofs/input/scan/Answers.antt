use Rattle.std.proofs.Common.{◌≡◌, ℕ, ◌+◌, ◌-◌, min, true, false, drop, sym, ap, ◌∙◌, arith, Some}
use Rattle.store.specs.Words.{window}
use Rattle.regions.specs.Parts.{Parts, parts, with_fields}
use Rattle.regions.proofs.Regions.{lines_length}
use Rattle.lines.specs.declared.input.Input.{Input}
use Rattle.lines.specs.Cutting.{cuts_of}
use Rattle.lines.specs.Scanning.{Scanned, scan_on, scan_of, input_of, line_at}
use Rattle.lines.proofs.Waiting.{window_all, after_found, after_part, found_whole, found_part}
use Rattle.lines.proofs.input.scan.Goals as goal

-- a scan of all that waits
scan_all : (p : Parts) (i : Input) (n : ℕ) → window i.from n p.lines ≡ window i.from (i.to - i.from) p.lines →
    scan_on (drop i.cut.at (window i.from n p.lines)) (cuts_of p.fields i.cut) ≡ scan_of p i
unfolding scan_of
scan_all p i n e = ap (λ w. scan_on (drop i.cut.at w) (cuts_of p.fields i.cut)) e

pub scan_on-requires : goal.scan_on-requires
scan_on-requires c =
    omega (arith, c.len_at-n.ensures ∙ ap (λ p. min p.len (200704 - p.start)) c.waits.ensures)

pub returns-then-scan_on : goal.returns-then-scan_on
returns-then-scan_on c =
    let i : Input = c.args.input.now in
    let p : Parts = parts c.args.mem.now in
    let k = c.len_at-n.ensures ∙ ap (λ q. min q.len (200704 - q.start)) c.waits.ensures in
    let e = scan_all p i c.len_at-n.result (window_all i.from (i.to - i.from) c.len_at-n.result p.lines (lines_length c.args.mem.now c.told-mem) k) in
    let s : Scanned = scan_of p i in
    let t : c.scan_on.new.cut ≡ s.cuts.cut = c.scan_on.ensures.cut ∙ ap (λ x. x.cuts.cut) e in
    let a : i.from + (c.scan_on.new.cut.at + 1) ≡ i.from + c.scan_on.new.cut.at + 1 = omega arith in
    let f : s.found ≡ true = sym (c.scan_on.ensures.found ∙ ap (λ x. x.found) e) ∙ c.if-scan_on.true in
    record {
      noted = c.scan_on.ensures.noted ∙ ap (λ x. with_fields p x.cuts.words) e;
      input = ap (λ n. input_of n i.to c.fresh-input.result i.ended) a ∙ ap (λ x. input_of (i.from + x.at + 1) i.to c.fresh-input.result i.ended) t ∙ ap (λ x. input_of (i.from + s.cuts.cut.at + 1) i.to x i.ended) c.fresh-input.ensures ∙ sym (after_found i s f);
      found = ap (λ x. Some (line_at i.from x.at x.fields)) t ∙ sym (found_whole i s f);
    }

pub returns-else-scan_on : goal.returns-else-scan_on
returns-else-scan_on c =
    let i : Input = c.args.input.now in
    let p : Parts = parts c.args.mem.now in
    let k = c.len_at-n.ensures ∙ ap (λ q. min q.len (200704 - q.start)) c.waits.ensures in
    let e = scan_all p i c.len_at-n.result (window_all i.from (i.to - i.from) c.len_at-n.result p.lines (lines_length c.args.mem.now c.told-mem) k) in
    let s : Scanned = scan_of p i in
    let t : c.scan_on.new.cut ≡ s.cuts.cut = c.scan_on.ensures.cut ∙ ap (λ x. x.cuts.cut) e in
    let f : s.found ≡ false = sym (c.scan_on.ensures.found ∙ ap (λ x. x.found) e) ∙ c.if-scan_on.false in
    record {
      noted = c.scan_on.ensures.noted ∙ ap (λ x. with_fields p x.cuts.words) e;
      input = ap (λ x. input_of i.from i.to x i.ended) t ∙ sym (after_part i s f);
      found = sym (found_part i s f);
    }
