use Rattle.std.proofs.Common.{◌≡◌, ◌+◌, ◌<◌, true, false, refl, ap, ◌∙◌, subst, arith}
use Rattle.language.specs.Text.{pick}
use Rattle.language.specs.Program.{un, like, got, pattern_here}
use Rattle.lexer.specs.Places.{toks}
use Rattle.lexer.proofs.Reach.{pattern_ahead}
use Rattle.parser.specs.Precedence.{LikeSign}
use Rattle.parser.proofs.Moves.{made_like, made_un}
use Rattle.parser.proofs.Joints.{bind_once, bind_none, bind_once_more, like_on, not_plain}
use Rattle.parser.proofs.expressions.Reader.bind_like.Goals as goal

pub returns-in_err-q-clause-pays : goal.returns-in_err-q-clause-pays
returns-in_err-q-clause-pays c = λ h t b.
    let bs = c.args.self.now.text.now in
    let m = c.args.self.now.work.now in
    let s = c.args.s in
    rw c.from_residual.ensures (bind_none bs m m c.args.self.now.count s c.args.node h 4 t c.requires.room b (λ a x. pick c.args.negated (un 0 (like a x)) (like a x)) pattern_here refl (like_on bs s.place c.args.negated c.requires.here) c.in_err-q.ensures)

pub returns-then-not-negated-clause-pays : goal.returns-then-not-negated-clause-pays
returns-then-not-negated-clause-pays c = λ h t b.
    let bs = c.args.self.now.text.now in
    let m = c.args.self.now.work.now in
    let s = c.args.s in
    let p = s.place in
    let room = c.requires.room in
    let q = c.in_ok-q.ensures in
    let z : p + 1 + 1 ≡ p + 2 = omega arith in
    let g : pattern_here (toks bs (p + 1)) ≡ got q.0 (toks bs (p + 2)) = q.2 ∙ ap (λ i. got q.0 (toks bs i)) z in
    let a : p + 1 < c.args.self.now.count = pattern_ahead bs m c.args.self.now.count (p + 1) c.args.self.now.ready.tokens q.2 in
    let l : LikeSign (toks bs p) false = subst (λ x. LikeSign (toks bs p) x) c.if-not-negated.true c.requires.here in
    bind_once bs m c.make.new.self.work.now c.args.self.now.count s c.args.node h 4 t room b _ false c.make.result q.0 (λ a x. like a x) pattern_here c.make.ensures.grown (omega arith) refl
    (λ a t. made_like bs m c.make.new.self.work.now s.nodes room.low c.args.node c.in_ok-q.q a q.0 t q.1 c.make.ensures.grown.made)
    (like_on bs p false l) g

pub returns-clause-pays : goal.returns-clause-pays
returns-clause-pays c = λ h t b.
    let bs = c.args.self.now.text.now in
    let m = c.args.self.now.work.now in
    let s = c.args.s in
    let p = s.place in
    let room = c.requires.room in
    let n = s.nodes in
    let m₁ = c.put_term.new.self.work.now in
    let w = c.make-2 in
    let q = c.in_ok-q.ensures in
    let z : p + 1 + 1 ≡ p + 2 = omega arith in
    let g : pattern_here (toks bs (p + 1)) ≡ got q.0 (toks bs (p + 2)) = q.2 ∙ ap (λ i. got q.0 (toks bs i)) z in
    let a : p + 1 < c.args.self.now.count = pattern_ahead bs m c.args.self.now.count (p + 1) c.args.self.now.ready.tokens q.2 in
    let l : LikeSign (toks bs p) true = subst (λ x. LikeSign (toks bs p) x) c.if-not-negated.false c.requires.here in
    bind_once_more bs m m₁ w.new.self.work.now c.args.self.now.count s c.args.node h 4 t room b _ false w.result q.0 (λ a x. un 0 (like a x)) pattern_here
    (λ j h. c.put_term.ensures.made.others j h) w.ensures.grown (omega arith) refl
    (λ a t. made_un bs m₁ w.new.self.work.now (n + 1) (omega (arith, room.low)) _ n false (like a q.0) (not_plain a q.0) (made_like bs m m₁ n room.low c.args.node c.in_ok-q.q a q.0 t q.1 c.put_term.ensures.made) w.ensures.grown.made)
    (like_on bs p true l) g
