use Rattle.std.proofs.Common.{sym, ◌∙◌, arith}
use Rattle.lexer.proofs.Reach.{ready_kept}
use Rattle.parser.proofs.expressions.Reader.push.Goals as goal

pub invariant_of-self : goal.invariant_of-self
invariant_of-self c =
    let a = c.args.self.now in
    let w = c.push in
    let r = a.ready in
    record { ready = ready_kept a.text.now a.work.now w.new.work a.count a.count (omega arith) (w.ensures.long ∙ sym r.long) (λ j p q. w.ensures.pushed.others j (λ z. omega (arith, r.short, r.tokens.few))) r }
