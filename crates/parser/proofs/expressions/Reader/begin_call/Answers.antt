use Rattle.std.proofs.Common.{sym}
use Rattle.parser.proofs.Calls.{call_none, call_some}
use Rattle.parser.proofs.expressions.Reader.begin_call.Goals as goal

pub returns-then-is_sign-clause-pays : goal.returns-then-is_sign-clause-pays
returns-then-is_sign-clause-pays c =
    let bs = c.args.self.now.text.now in
    let m = c.args.self.now.work.now in
    let w = c.put_list in
    call_none bs m w.new.self.work.now c.args.self.now.count c.args.s c.args.x c.requires.room c.args.self.now.ready.tokens c.requires.here w.ensures.listed c.make.new.self.work.now c.make.result (sym (rw w.ensures.same.text at c.if-is_sign.ensures)) c.make.ensures.grown

pub returns-else-is_sign-clause-pays : goal.returns-else-is_sign-clause-pays
returns-else-is_sign-clause-pays c =
    let bs = c.args.self.now.text.now in
    let m = c.args.self.now.work.now in
    let w = c.put_list in
    call_some bs m w.new.self.work.now c.args.self.now.count c.args.s c.args.x c.requires.room c.args.self.now.ready.tokens c.requires.here w.ensures.listed c.push.new.self.work.now c.push.result (sym (rw w.ensures.same.text at c.if-is_sign.ensures)) c.push.ensures.pushed
