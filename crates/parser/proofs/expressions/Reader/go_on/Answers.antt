use Rattle.std.proofs.Common.{◌+◌, sym, ap, ◌∙◌, arith}
use Rattle.parser.specs.Frames.{Behind, Ended, effort}
use Rattle.parser.specs.Precedence.{level_at}
use Rattle.parser.proofs.Joints.{binds_from, ends_from, ends_last}
use Rattle.parser.proofs.Moves.{goes_after, nothing_written}
use Rattle.parser.proofs.expressions.Reader.go_on.Goals.{in-Some+else-binds, in_default}
use Rattle.parser.proofs.expressions.Reader.go_on.Goals as goal

pub returns-then-binds-clause-pays : goal.returns-then-binds-clause-pays
returns-then-binds-clause-pays c =
    c.bind.ensures.pays c.args.high
    (binds_from c.args.self.now.text.now c.args.self.now.work.now c.args.s c.args.node c.args.high c.in-Some.token c.level-level.result (c.in-Some.ensures c.args.self.now.text.now c.args.self.now.ready.tokens)
    (c.level-level.ensures ∙ ap (level_at c.in-Some.token) c.is_place.ensures) (sym c.if-binds.ensures))

pub returns-clause-pays : goal.returns-clause-pays
returns-clause-pays c =
    let bs = c.args.self.now.text.now in
    let m = c.args.self.now.work.now in
    let s = c.args.s in
    let e = effort c.args.self.now.count s + 3 in
    let after = goes_after bs m m c.finish.new.self.work.now c.args.self.now.count s.nodes s.nodes e e (Behind bs m s c.args.node c.args.high) (Ended bs m s c.args.node) c.finish.result (omega arith) c.requires.room.low (omega arith) (nothing_written s.nodes m) in
    elim c.match-peek.branch [
      | in-Some+else-binds w ↦ after (λ g y. ends_from bs m s c.args.node c.args.high w.in-Some.token w.level-level.result g (w.in-Some.ensures bs c.args.self.now.ready.tokens) (w.level-level.ensures ∙ ap (level_at w.in-Some.token) w.is_place.ensures) (sym w.if-binds.ensures) y) (rw w.self-is at c.finish.ensures.pays)
      | in_default w ↦ after (λ g y. ends_last bs m s c.args.node c.args.high g (w.in_default.ensures bs c.args.self.now.ready.tokens) y) (rw w.self-is at c.finish.ensures.pays)
    ]
