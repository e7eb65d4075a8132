use Rattle.std.proofs.Common.{◌≡◌, ◌+◌, ◌<◌, false, refl, ap, ◌∙◌, arith}
use Rattle.language.specs.Program.{there, got, name_of}
use Rattle.lexer.specs.Places.{toks}
use Rattle.lexer.proofs.Reach.{name_ahead}
use Rattle.parser.proofs.Moves.{made_there}
use Rattle.parser.proofs.Joints.{bind_once, bind_none, in_more}
use Rattle.parser.proofs.expressions.Reader.bind_in.Goals as goal

pub returns-in_err-x-clause-pays : goal.returns-in_err-x-clause-pays
returns-in_err-x-clause-pays c = λ h t b.
    let bs = c.args.self.now.text.now in
    let m = c.args.self.now.work.now in
    let s = c.args.s in
    rw c.from_residual.ensures (bind_none bs m m c.args.self.now.count s c.args.node h 4 t c.requires.room b (λ a x. there a x) name_of refl (in_more bs s.place c.requires.no_like c.requires.no_unlike) (c.in_err-x.ensures bs c.args.self.now.ready.tokens))

pub returns-clause-pays : goal.returns-clause-pays
returns-clause-pays c = λ h t b.
    let bs = c.args.self.now.text.now in
    let m = c.args.self.now.work.now in
    let s = c.args.s in
    let p = s.place in
    let room = c.requires.room in
    let q = c.in_ok-x.ensures bs c.args.self.now.ready.tokens in
    let z : p + 1 + 1 ≡ p + 2 = omega arith in
    let g : name_of (toks bs (p + 1)) ≡ got q.0 (toks bs (p + 2)) = q.2 ∙ ap (λ i. got q.0 (toks bs i)) z in
    let a : p + 1 < c.args.self.now.count = name_ahead bs m c.args.self.now.count (p + 1) c.args.self.now.ready.tokens q.2 in
    bind_once bs m c.make.new.self.work.now c.args.self.now.count s c.args.node h 4 t room b _ false c.make.result q.0 (λ a x. there a x) name_of c.make.ensures.grown (omega arith) refl
    (λ a t. made_there bs m c.make.new.self.work.now s.nodes room.low c.args.node c.in_ok-x.x a q.0 t q.1 c.make.ensures.grown.made)
    (in_more bs p c.requires.no_like c.requires.no_unlike) g
