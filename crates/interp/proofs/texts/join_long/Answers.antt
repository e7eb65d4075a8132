use Rattle.std.proofs.Common.{sym, ap, ◌∙◌}
use Rattle.store.specs.declared.cells.Value.TheVariants.{Text as InText}
use Rattle.store.specs.Space.{allocated}
use Rattle.regions.specs.Parts.{parts, with_texts}
use Rattle.interp.specs.Outcomes.{Refuse}
use Rattle.interp.specs.Turns.{says, top_of, under_of}
use Rattle.interp.specs.Texts.{joined_in, joined_long}
use Rattle.interp.proofs.Refusing.{refused_for}
use Rattle.interp.proofs.Joining.{Built, built_under, built_top, joined_built}
use Rattle.interp.proofs.Loose.{released}
use Rattle.interp.proofs.texts.join_long.Goals as goal

pub returns : goal.returns
returns c =
    let b : Built (parts c.args.mem.now) (parts c.new_handle.new.mem) (parts c.put_text.new.mem) (parts c.put_text-2.new.mem) c.args.regs.now
    c.args.m c.args.size c.under-first.result c.top-second.result c.in_ok-handle.handle =
    record {
      first = c.under-first.ensures;
      second = c.top-second.ensures;
      given = c.new_handle.ensures.memory;
      handle = sym c.in_ok-handle.ensures.ok_part ∙ c.new_handle.ensures.handle;
      one = c.put_text.ensures;
      two = c.put_text-2.ensures;
    } in
    c.cover_two.ensures
    ∙ released (parts c.put_text-2.new.mem) (parts c.release_value.new.mem) (parts c.release_value-2.new.mem) c.args.regs.now c.under-first.result c.top-second.result (InText c.in_ok-handle.handle)
    (built_under _ _ _ _ _ _ _ _ _ _ b) (built_top _ _ _ _ _ _ _ _ _ _ b) c.release_value.ensures c.release_value-2.ensures
    ∙ joined_built _ _ _ _ _ _ _ _ _ _ b

pub returns-in_err-handle : goal.returns-in_err-handle
unfolding joined_long
returns-in_err-handle c =
    let p = parts c.args.mem.now in
    let r = c.args.regs.now in
    ap (λ t. says t (parts c.new_handle.new.mem) r) (refused_for _ _ _ _ c.from_residual.ensures.1 c.in_err-handle.ensures.value c.in_err-handle.ensures.ok_part)
    ∙ ap (λ x. says (Refuse 8) x r) c.new_handle.ensures.memory
    ∙ ap (joined_in (with_texts p (allocated 20480 77822 p.texts c.args.size).space) r c.args.m (under_of p r) (top_of p r))
    (sym c.in_err-handle.ensures.ok_part ∙ c.new_handle.ensures.handle)
