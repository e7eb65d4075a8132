use Rattle.std.proofs.Common.{sym}
use Rattle.parser.proofs.Calls.{argument_more, argument_last}
use Rattle.parser.proofs.expressions.Reader.finish_argument.Goals as goal

pub returns-then-is_sign-clause-pays : goal.returns-then-is_sign-clause-pays
returns-then-is_sign-clause-pays c =
    let bs = c.args.self.now.text.now in
    let m = c.args.self.now.work.now in
    let a = c.args in
    let w = c.put_list in
    let q = c.both_plain-plain in
    argument_more bs m w.new.self.work.now a.self.now.count a.s a.node a.x a.list q.result c.requires.room c.args.self.now.ready.tokens c.requires.here w.ensures.listed q.ensures c.push.new.self.work.now c.push.result (sym (rw w.ensures.same.text at c.if-is_sign.ensures)) c.push.ensures.pushed

pub returns-else-is_sign-clause-pays : goal.returns-else-is_sign-clause-pays
returns-else-is_sign-clause-pays c =
    let bs = c.args.self.now.text.now in
    let m = c.args.self.now.work.now in
    let a = c.args in
    let w = c.put_list in
    let q = c.both_plain-plain in
    argument_last bs m w.new.self.work.now a.self.now.count a.s a.node a.x a.list q.result c.requires.room c.args.self.now.ready.tokens c.requires.here w.ensures.listed q.ensures c.close.new.self.work.now c.close.result (sym (rw w.ensures.same.text at c.if-is_sign.ensures)) (rw w.ensures.same.text at c.close.ensures.closes)
