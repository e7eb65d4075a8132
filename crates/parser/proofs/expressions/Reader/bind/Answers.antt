use Rattle.std.proofs.Common.{◌<◌, sym, refl, ap, subst, arith}
use Rattle.parser.specs.Nodes.{operator_number}
use Rattle.parser.specs.Frames.{in_bin, FrameSays}
use Rattle.parser.specs.Precedence.{Binds}
use Rattle.parser.proofs.Joints.{bind_set, bind_join, bind_operator}
use Rattle.parser.proofs.Precedences.{level_ahead}
use Rattle.parser.proofs.expressions.Reader.bind.Goals as goal

pub returns-in-1-clause-pays : goal.returns-in-1-clause-pays
unfolding FrameSays
returns-in-1-clause-pays c = λ h b.
    let bs = c.args.self.now.text.now in
    let m = c.args.self.now.work.now in
    let s = c.args.s in
    let a : s.place < c.args.self.now.count = level_ahead bs m c.args.self.now.count s c.args.node h c.args.token c.args.level c.args.self.now.ready.tokens b in
    bind_set bs m c.push.new.self.work.now c.args.self.now.count s c.args.node h c.args.level c.args.token c.requires.room b _ c.push.result c.push.ensures.pushed (omega arith) c.in-1.is (λ a t. (a, t, refl))

pub returns-then-is_sign-clause-pays : goal.returns-then-is_sign-clause-pays
returns-then-is_sign-clause-pays c = λ h b. c.bind_like.ensures.pays h c.args.token (subst (λ l. Binds c.args.self.now.text.now c.args.self.now.work.now c.args.s c.args.node h c.args.token l) c.in-4.is b)

pub returns-then-is_sign-2-clause-pays : goal.returns-then-is_sign-2-clause-pays
returns-then-is_sign-2-clause-pays c = λ h b. c.bind_like-then-is_sign-2.ensures.pays h c.args.token (subst (λ l. Binds c.args.self.now.text.now c.args.self.now.work.now c.args.s c.args.node h c.args.token l) c.in-4.is b)

pub returns-else-is_sign-2-clause-pays : goal.returns-else-is_sign-2-clause-pays
returns-else-is_sign-2-clause-pays c = λ h b. c.bind_in.ensures.pays h c.args.token (subst (λ l. Binds c.args.self.now.text.now c.args.self.now.work.now c.args.s c.args.node h c.args.token l) c.in-4.is b)

pub returns-in-6-clause-pays : goal.returns-in-6-clause-pays
unfolding FrameSays
returns-in-6-clause-pays c = λ h b.
    bind_join c.args.self.now.text.now c.args.self.now.work.now c.push-in-6.new.self.work.now c.args.self.now.count c.args.s c.args.node h c.args.level c.args.token c.requires.room b _ c.push-in-6.result c.push-in-6.ensures.pushed c.in-6.is (λ a t. (5, a, c.in-6.is, omega arith, t, refl))

pub returns-in_default-clause-pays : goal.returns-in_default-clause-pays
unfolding FrameSays
returns-in_default-clause-pays c = λ h b.
    let bs = c.args.self.now.text.now in
    let m = c.args.self.now.work.now in
    let s = c.args.s in
    let a : s.place < c.args.self.now.count = level_ahead bs m c.args.self.now.count s c.args.node h c.args.token c.args.level c.args.self.now.ready.tokens b in
    bind_operator bs m c.push-in_default.new.self.work.now c.args.self.now.count s c.args.node h c.args.level c.args.token c.requires.room b _ c.push-in_default.result c.push-in_default.ensures.pushed (omega arith) (λ e. omega arith) (λ e. omega arith) (λ e. omega arith)
    (λ k a e l t. (k, a, e, l, t, ap (λ o. in_bin k (operator_number o) a) (sym c.operator.ensures)))
