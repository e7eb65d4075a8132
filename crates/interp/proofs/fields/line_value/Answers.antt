use Rattle.std.proofs.Common.{◌≡◌, ◌≤◌, length, ap, ◌∙◌, arith}
use Rattle.store.specs.Words.{window}
use Rattle.regions.specs.Parts.{parts}
use Rattle.interp.proofs.Copying.{window_size, line_short, line_long, line_none}
use Rattle.interp.proofs.fields.line_value.Goals as goal

pub short_packed-requires : goal.short_packed-requires
short_packed-requires c =
    omega (arith, ap length c.line_window.ensures, window_size c.args.mem.now c.args.place.start c.args.place.len c.told-mem, c.len_at-n.ensures, c.if-n-le-LONGEST.true)

pub returns-then-n-le-LONGEST : goal.returns-then-n-le-LONGEST
returns-then-n-le-LONGEST c =
    let l : length (window c.args.place.start c.args.place.len (parts c.args.mem.now).lines) ≤ 8 =
    omega (arith, window_size c.args.mem.now c.args.place.start c.args.place.len c.told-mem, c.len_at-n.ensures, c.if-n-le-LONGEST.true) in
    let m = line_short (parts c.args.mem.now) (window c.args.place.start c.args.place.len (parts c.args.mem.now).lines) c.short_packed.result l (c.short_packed.ensures ∙ c.line_window.ensures) in
    record { memory = m.memory; value = m.value }

pub returns : goal.returns
returns c =
    let e : c.len_at-n.result ≡ length (window c.args.place.start c.args.place.len (parts c.args.mem.now).lines) =
    omega (arith, window_size c.args.mem.now c.args.place.start c.args.place.len c.told-mem, c.len_at-n.ensures) in
    let m = line_long (parts c.args.mem.now) (parts c.new_handle.new.mem) (parts c.copy_line.new.mem) c.in_ok-handle.handle c.args.place.start c.args.place.len c.len_at-n.result
    e c.if-n-le-LONGEST.false c.new_handle.ensures.memory c.in_ok-handle.ensures.handle c.copy_line.ensures in
    record { memory = m.memory; value = m.value }

pub returns-in_err-handle : goal.returns-in_err-handle
returns-in_err-handle c =
    let e : c.len_at-n.result ≡ length (window c.args.place.start c.args.place.len (parts c.args.mem.now).lines) =
    omega (arith, window_size c.args.mem.now c.args.place.start c.args.place.len c.told-mem, c.len_at-n.ensures) in
    let m = line_none (parts c.args.mem.now) (parts c.new_handle.new.mem) (window c.args.place.start c.args.place.len (parts c.args.mem.now).lines) c.len_at-n.result
    e c.if-n-le-LONGEST.false c.new_handle.ensures.memory c.in_err-handle.ensures.handle in
    record { memory = m.memory; value = c.from_residual.ensures ∙ m.value }
