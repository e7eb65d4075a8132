use Rattle.std.proofs.Common.{◌<◌, true, drop, refl, ap, ◌∙◌, arith}
use Rattle.language.specs.Program.{number, quoted, bad, rest, none, num, txt, quote_part}
use Rattle.parser.specs.Frames.{before, behind}
use Rattle.lexer.specs.Places.{fuel, toks}
use Rattle.lexer.proofs.Reach.{ahead}
use Rattle.parser.proofs.Moves.{made_num, made_txt}
use Rattle.parser.proofs.Openings.{first_token, begin_make, begin_fail}
use Rattle.parser.proofs.Operands.{op_number, op_text, op_over, op_bad}
use Rattle.parser.proofs.expressions.Reader.begin.Goals as goal

pub returns-in-Number-clause-pays : goal.returns-in-Number-clause-pays
returns-in-Number-clause-pays c =
    let bs = c.args.self.now.text.now in
    let p = c.args.s.place in
    let k = c.in-Number.n in
    let e = rw c.in-Number.is at (c.in_ok-n.ensures bs c.args.self.now.ready.tokens) in
    let a : p < c.args.self.now.count = ahead bs c.args.self.now.work.now c.args.self.now.count p (number k) (rest (toks bs p)) c.args.self.now.ready.tokens e in
    begin_make bs c.args.self.now.work.now c.make.new.self.work.now c.args.self.now.count c.args.s c.requires.room _ true 1 c.make.result c.make.ensures.grown (omega arith) (omega arith) (num k)
    (made_num bs c.args.self.now.work.now c.make.new.self.work.now c.args.s.nodes c.requires.room.low k c.make.ensures.grown.made)
    (λ fs l. first_token bs p (number k) (λ us. before (fuel bs) fs us) (λ us. behind (fuel bs) fs 8 (num k) us) e (op_number (fuel bs) fs l k))

pub returns-in-Quoted-clause-pays : goal.returns-in-Quoted-clause-pays
returns-in-Quoted-clause-pays c =
    let bs = c.args.self.now.text.now in
    let p = c.args.s.place in
    let q = c.in-Quoted.start in
    let b = quote_part (drop q bs) in
    let e = rw c.in-Quoted.is at (c.in_ok-n.ensures bs c.args.self.now.ready.tokens) in
    let a : p < c.args.self.now.count = ahead bs c.args.self.now.work.now c.args.self.now.count p (quoted b) (rest (toks bs p)) c.args.self.now.ready.tokens e.0 in
    begin_make bs c.args.self.now.work.now c.make-in-Quoted.new.self.work.now c.args.self.now.count c.args.s c.requires.room _ true 1 c.make-in-Quoted.result c.make-in-Quoted.ensures.grown (omega arith) (omega arith) (txt b)
    (made_txt bs c.args.self.now.work.now c.make-in-Quoted.new.self.work.now c.args.s.nodes c.requires.room.low q b (record { inside = e.1; is = refl }) c.make-in-Quoted.ensures.grown.made)
    (λ fs l. first_token bs p (quoted b) (λ us. before (fuel bs) fs us) (λ us. behind (fuel bs) fs 8 (txt b) us) e.0 (op_text (fuel bs) fs l b))

pub returns-in_err-n-clause-pays : goal.returns-in_err-n-clause-pays
returns-in_err-n-clause-pays c =
    let bs = c.args.self.now.text.now in
    let e = c.in_err-n.ensures bs c.args.self.now.ready.tokens in
    rw c.from_residual.ensures (begin_fail bs c.args.self.now.work.now c.args.self.now.count c.args.s
    (λ fs l. ap (λ us. before (fuel bs) fs us) e ∙ op_over (fuel bs) fs l (omega arith)))

pub returns-in-Bad-clause-pays : goal.returns-in-Bad-clause-pays
returns-in-Bad-clause-pays c =
    let bs = c.args.self.now.text.now in
    let p = c.args.s.place in
    let e = rw c.in-Bad.is at (c.in_ok-n.ensures bs c.args.self.now.ready.tokens) in
    begin_fail bs c.args.self.now.work.now c.args.self.now.count c.args.s
    (λ fs l. first_token bs p bad (λ us. before (fuel bs) fs us) (λ us. none) e (op_bad (fuel bs) fs l))
