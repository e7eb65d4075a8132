use Rattle.std.proofs.Common.{sym, ap, ◌∙◌}
use Rattle.engine.specs.Scenes.{taken_in}
use Rattle.engine.specs.Steps.{told_of}
use Rattle.engine.proofs.Stepping.{piece_begun, end_begun, next_begun}
use Rattle.engine.proofs.steps.begin.Goals as goal

pub returns-in-Piece : goal.returns-in-Piece
returns-in-Piece c =
    let h = piece_begun c.args.mem.now c.args.out.now c.take_in.new.mem c.in-Piece.piece.now c.load_registers-regs.result c.take_in.new.input
    c.requires (c.take_in.array_long ∙ sym c.told-mem) c.load_registers-regs.ensures c.take_in.ensures.lines c.take_in.ensures.input in
    record { scene = h.scene_is ∙ ap (λ e. taken_in c.args.mem.now (told_of e)) (sym c.in-Piece.is); row = h.behind }

pub returns-in-NoMore : goal.returns-in-NoMore
returns-in-NoMore c =
    let h = end_begun c.args.mem.now c.args.out.now c.load_registers-regs.result c.requires c.load_registers-regs.ensures in
    record { scene = h.scene_is ∙ ap (λ e. taken_in c.args.mem.now (told_of e)) (sym c.in-NoMore.is); row = h.behind }

pub returns-in-Next : goal.returns-in-Next
returns-in-Next c =
    let h = next_begun c.args.mem.now c.args.out.now c.resume.new.mem c.load_registers-regs.result c.resume.new.regs c.resume.new.out
    c.requires (c.resume.array_long ∙ sym c.told-mem) c.load_registers-regs.ensures c.resume.ensures.memory c.resume.ensures.regs c.resume.ensures.row in
    record { scene = h.scene_is ∙ ap (λ e. taken_in c.args.mem.now (told_of e)) (sym c.in-Next.is); row = h.behind }
