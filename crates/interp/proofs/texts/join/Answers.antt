use Rattle.std.proofs.Common.{◌++◌, length, ap, ◌∙◌, arith}
use Rattle.store.specs.Words.{bytes_of}
use Rattle.store.proofs.Packing.{length_bytes}
use Rattle.regions.specs.Parts.{parts}
use Rattle.interp.specs.Texts.{text_in}
use Rattle.interp.proofs.Joining.{joined_far, joined_wide, joined_near}
use Rattle.interp.proofs.Loose.{released}
use Rattle.interp.proofs.texts.join.Goals as goal

pub returns-then-size-gt-LONGEST : goal.returns-then-size-gt-LONGEST
returns-then-size-gt-LONGEST c =
    joined_far (parts c.args.mem.now) c.args.regs.now c.under-first.result c.top-second.result _ _ _
    (record {
      first = c.under-first.ensures;
      second = c.top-second.ensures;
      left = c.text_len-m.ensures;
      right = c.text_len.ensures;
      both = c.saturating_add-size.ensures;
    })
    c.if-size-gt-LONGEST.true

pub returns-then-size-gt-LONGEST-2 : goal.returns-then-size-gt-LONGEST-2
returns-then-size-gt-LONGEST-2 c =
    c.join_long.ensures
    ∙ joined_wide (parts c.args.mem.now) c.args.regs.now c.under-first.result c.top-second.result _ _ _
    (record {
      first = c.under-first.ensures;
      second = c.top-second.ensures;
      left = c.text_len-m.ensures;
      right = c.text_len.ensures;
      both = c.saturating_add-size.ensures;
    })
    c.if-size-gt-LONGEST.false c.if-size-gt-LONGEST-2.true

pub join_shorts-short-requires : goal.join_shorts-short-requires
join_shorts-short-requires c =
    let a = ap length c.as_short.ensures in
    let b = ap length c.as_short-2.ensures in
    let m = length_bytes c.as_short.result.len c.as_short.result.word in
    let n = length_bytes c.as_short-2.result.len c.as_short-2.result.word in
    omega (arith, a, b, m, n, c.text_len-m.ensures, c.text_len.ensures, c.saturating_add-size.ensures, c.if-size-gt-LONGEST-2.false)

pub returns : goal.returns
returns c =
    c.cover_two.ensures
    ∙ released (parts c.args.mem.now) (parts c.release_value.new.mem) (parts c.release_value-2.new.mem) c.args.regs.now c.under-first.result c.top-second.result _ c.under-first.ensures c.top-second.ensures c.release_value.ensures c.release_value-2.ensures
    ∙ joined_near (parts c.args.mem.now) c.args.regs.now c.under-first.result c.top-second.result _ _ _ c.join_shorts-short.result
    (record {
      first = c.under-first.ensures;
      second = c.top-second.ensures;
      left = c.text_len-m.ensures;
      right = c.text_len.ensures;
      both = c.saturating_add-size.ensures;
    })
    c.if-size-gt-LONGEST-2.false
    (c.join_shorts-short.ensures
    ∙ ap (λ x. x ++ bytes_of c.as_short-2.result.len c.as_short-2.result.word) c.as_short.ensures
    ∙ ap (λ x. text_in (parts c.args.mem.now) c.under-first.result ++ x) c.as_short-2.ensures)
