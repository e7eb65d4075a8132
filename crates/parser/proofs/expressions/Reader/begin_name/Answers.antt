use Rattle.std.proofs.Common.{◌≡◌, ◌+◌, ◌<◌, true, false, ◌∷◌, sym, refl, ap, ◌∙◌, arith}
use Rattle.language.specs.Program.{word, rest, sees, var}
use Rattle.lexer.specs.Marks.{bytes_of}
use Rattle.lexer.specs.Places.{fuel, toks}
use Rattle.parser.specs.Frames.{in_item, before, behind, FrameSays}
use Rattle.lexer.proofs.Reach.{ahead, sees_ahead, rest_toks, rest_two}
use Rattle.parser.proofs.Moves.{made_var}
use Rattle.parser.proofs.Openings.{enough_here, begin_push, begin_make}
use Rattle.parser.proofs.Operands.{op_item, op_var}
use Rattle.parser.proofs.expressions.Reader.begin_name.Goals as goal

pub returns-then-is_sign-clause-pays : goal.returns-then-is_sign-clause-pays
unfolding FrameSays
returns-then-is_sign-clause-pays c =
    let bs = c.args.self.now.text.now in
    let p = c.args.s.place in
    let x = bytes_of bs c.args.x in
    let k = c.args.self.now.ready.tokens in
    let here = c.requires.here in
    let t : sees 91 (toks bs (p + 1)) ≡ true = sym c.if-is_sign.ensures in
    let a : p + 1 < c.args.self.now.count = sees_ahead bs c.args.self.now.work.now c.args.self.now.count (p + 1) 91 k t in
    begin_push bs c.args.self.now.work.now c.push.new.self.work.now c.args.self.now.count c.args.s c.requires.room _ 2 c.push.result c.push.ensures.pushed (omega arith) (omega arith) (in_item x)
    (x, record { inside = here.inside; is = refl }, refl)
    (λ fs l. ap (λ us. before (fuel bs) fs us) here.is ∙ op_item (fuel bs) fs l x (rest (toks bs p)) (enough_here bs p here.is) here.fresh (ap (sees 91) (rest_toks bs p) ∙ t)
    ∙ ap (λ us. before (fuel bs) (in_item x ∷ fs) us) (ap rest (rest_toks bs p) ∙ rest_two bs p))

pub returns-else-is_sign-2-clause-pays : goal.returns-else-is_sign-2-clause-pays
returns-else-is_sign-2-clause-pays c =
    let bs = c.args.self.now.text.now in
    let p = c.args.s.place in
    let x = bytes_of bs c.args.x in
    let k = c.args.self.now.ready.tokens in
    let here = c.requires.here in
    let t : sees 91 (toks bs (p + 1)) ≡ false = sym c.if-is_sign.ensures in
    let u : sees 40 (toks bs (p + 1)) ≡ false = sym c.if-is_sign-2.ensures in
    let a : p < c.args.self.now.count = ahead bs c.args.self.now.work.now c.args.self.now.count p (word x) (rest (toks bs p)) k here.is in
    begin_make bs c.args.self.now.work.now c.make.new.self.work.now c.args.self.now.count c.args.s c.requires.room _ true 1 c.make.result c.make.ensures.grown (omega arith) (omega arith) (var x)
    (made_var bs c.args.self.now.work.now c.make.new.self.work.now c.args.s.nodes c.requires.room.low c.args.x x (record { inside = here.inside; is = refl }) c.make.ensures.grown.made)
    (λ fs l. ap (λ us. before (fuel bs) fs us) here.is ∙ op_var (fuel bs) fs l x (rest (toks bs p)) (enough_here bs p here.is) here.fresh (ap (sees 91) (rest_toks bs p) ∙ t) (ap (sees 40) (rest_toks bs p) ∙ u)
    ∙ ap (λ us. behind (fuel bs) fs 8 (var x) us) (rest_toks bs p))
