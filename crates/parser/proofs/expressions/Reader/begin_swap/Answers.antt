use Rattle.std.proofs.Common.{◌≡◌, ◌+◌, ◌<◌, true, false, ◌∷◌, sym, refl, ap, ◌∙◌, arith}
use Rattle.language.specs.Program.{rest, sees, none, pattern_here, got}
use Rattle.parser.specs.Frames.{in_swap, before, FrameSays}
use Rattle.lexer.specs.Places.{fuel, toks}
use Rattle.lexer.proofs.Reach.{sees_ahead, rest_toks, rest_two}
use Rattle.parser.proofs.Openings.{enough_here, begin_push, begin_fail}
use Rattle.parser.proofs.Operands.{op_swap, op_swap_none, op_swap_open}
use Rattle.parser.proofs.expressions.Reader.begin_swap.Goals as goal

pub returns-then-is_sign-clause-pays : goal.returns-then-is_sign-clause-pays
unfolding FrameSays
returns-then-is_sign-clause-pays c =
    let bs = c.args.self.now.text.now in
    let p = c.args.s.place in
    let k = c.args.self.now.ready.tokens in
    let e = c.requires.here in
    let o : sees 40 (rest (toks bs p)) ≡ true = ap (sees 40) (rest_toks bs p) ∙ c.requires.opens in
    let q = c.in_ok-q.ensures in
    let t : sees 44 (toks bs (p + 3)) ≡ true = sym c.if-is_sign.ensures in
    let a : p + 3 < c.args.self.now.count = sees_ahead bs c.args.self.now.work.now c.args.self.now.count (p + 3) 44 k t in
    let z : p + 2 + 1 ≡ p + 3 = omega arith in
    let y : p + 3 + 1 ≡ p + 4 = omega arith in
    let g : pattern_here (rest (rest (toks bs p))) ≡ got q.0 (toks bs (p + 3)) = ap pattern_here (ap rest (rest_toks bs p) ∙ rest_two bs p) ∙ q.2 ∙ ap (λ i. got q.0 (toks bs i)) z in
    begin_push bs c.args.self.now.work.now c.push.new.self.work.now c.args.self.now.count c.args.s c.requires.room _ 4 c.push.result c.push.ensures.pushed (omega arith) (omega arith) (in_swap q.0)
    (q.0, q.1, refl)
    (λ fs l. ap (λ us. before (fuel bs) fs us) e ∙ op_swap (fuel bs) fs l (rest (toks bs p)) (toks bs (p + 3)) q.0 (enough_here bs p e) o g t
    ∙ ap (λ us. before (fuel bs) (in_swap q.0 ∷ fs) us) (rest_toks bs (p + 3) ∙ ap (toks bs) y))

pub returns-else-is_sign-clause-pays : goal.returns-else-is_sign-clause-pays
returns-else-is_sign-clause-pays c =
    let bs = c.args.self.now.text.now in
    let p = c.args.s.place in
    let e = c.requires.here in
    let o : sees 40 (rest (toks bs p)) ≡ true = ap (sees 40) (rest_toks bs p) ∙ c.requires.opens in
    let q = c.in_ok-q.ensures in
    let t : sees 44 (toks bs (p + 3)) ≡ false = sym c.if-is_sign.ensures in
    let z : p + 2 + 1 ≡ p + 3 = omega arith in
    let g : pattern_here (rest (rest (toks bs p))) ≡ got q.0 (toks bs (p + 3)) = ap pattern_here (ap rest (rest_toks bs p) ∙ rest_two bs p) ∙ q.2 ∙ ap (λ i. got q.0 (toks bs i)) z in
    begin_fail bs c.args.self.now.work.now c.args.self.now.count c.args.s
    (λ fs l. ap (λ us. before (fuel bs) fs us) e ∙ op_swap_open (fuel bs) fs l (rest (toks bs p)) (toks bs (p + 3)) q.0 (enough_here bs p e) o g t)

pub returns-in_err-q-clause-pays : goal.returns-in_err-q-clause-pays
returns-in_err-q-clause-pays c =
    let bs = c.args.self.now.text.now in
    let p = c.args.s.place in
    let e = c.requires.here in
    let o : sees 40 (rest (toks bs p)) ≡ true = ap (sees 40) (rest_toks bs p) ∙ c.requires.opens in
    let g : pattern_here (rest (rest (toks bs p))) ≡ none = ap pattern_here (ap rest (rest_toks bs p) ∙ rest_two bs p) ∙ c.in_err-q.ensures in
    rw c.from_residual.ensures (begin_fail bs c.args.self.now.work.now c.args.self.now.count c.args.s
    (λ fs l. ap (λ us. before (fuel bs) fs us) e ∙ op_swap_none (fuel bs) fs l (rest (toks bs p)) (enough_here bs p e) o g))
