use Rattle.std.proofs.Common.{◌+◌, sym, ap, ◌∙◌}
use Rattle.regions.specs.Parts.{parts, with_fields}
use Rattle.lines.specs.Cutting.{cut_of, cuts_of}
use Rattle.lines.proofs.Passing.{passes_blank, passes_other}
use Rattle.lines.proofs.cutting.pass.Goals as goal

pub returns-then-is_blank : goal.returns-then-is_blank
returns-then-is_blank c =
    let p = parts c.args.mem.now in
    let i = c.args.cut.at + 1 in
    let e = passes_blank c.args.b (cuts_of p.fields c.args.cut) (sym c.is_blank.ensures ∙ c.if-is_blank.true) in
    record {
      noted = c.close-fields.ensures.noted ∙ ap (λ x. with_fields p x.words) (sym e);
      cut = ap (cut_of i i) c.close-fields.ensures.count ∙ ap (λ x. x.cut) (sym e);
    }

pub returns-else-is_blank : goal.returns-else-is_blank
returns-else-is_blank c =
    let p = parts c.args.mem.now in
    let e = passes_other c.args.b (cuts_of p.fields c.args.cut) (sym c.is_blank.ensures ∙ c.if-is_blank.false) in
    record { noted = ap (λ x. with_fields p x.words) (sym e); cut = ap (λ x. x.cut) (sym e) }
