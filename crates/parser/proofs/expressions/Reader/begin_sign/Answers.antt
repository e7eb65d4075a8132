use Rattle.std.proofs.Common.{◌≡◌, ℕ, List, ◌∷◌, refl, subst, arith, ne_eqb}
use Rattle.language.specs.Program.{sign, rest, none}
use Rattle.parser.specs.Frames.{in_un, in_brackets, in_field, before, FrameSays}
use Rattle.lexer.specs.Places.{fuel, toks}
use Rattle.parser.proofs.Openings.{first_token, begin_sign, begin_fail}
use Rattle.parser.proofs.Operands.{op_not, op_minus, op_group, op_field, op_no_sign}
use Rattle.parser.proofs.expressions.Reader.begin_sign.Goals as goal

here : (bs : List ℕ) (p d e : ℕ) → d ≡ e → toks bs p ≡ sign d ∷ rest (toks bs p) → toks bs p ≡ sign e ∷ rest (toks bs p)
here bs p d e q h = subst (λ x. toks bs p ≡ sign x ∷ rest (toks bs p)) q h

pub returns-in-33-clause-pays : goal.returns-in-33-clause-pays
unfolding FrameSays
returns-in-33-clause-pays c =
    let bs = c.args.self.now.text.now in
    begin_sign bs c.args.self.now.work.now c.push.new.self.work.now c.args.self.now.count c.args.s c.requires.room 33 _ c.push.result c.args.self.now.ready.tokens c.push.ensures.pushed (here bs c.args.s.place c.args.d 33 c.in-33.is c.requires.here) (in_un 0) refl (op_not (fuel bs))

pub returns-in-45-clause-pays : goal.returns-in-45-clause-pays
unfolding FrameSays
returns-in-45-clause-pays c =
    let bs = c.args.self.now.text.now in
    begin_sign bs c.args.self.now.work.now c.push-in-45.new.self.work.now c.args.self.now.count c.args.s c.requires.room 45 _ c.push-in-45.result c.args.self.now.ready.tokens c.push-in-45.ensures.pushed (here bs c.args.s.place c.args.d 45 c.in-45.is c.requires.here) (in_un 1) refl (op_minus (fuel bs))

pub returns-in-40-clause-pays : goal.returns-in-40-clause-pays
unfolding FrameSays
returns-in-40-clause-pays c =
    let bs = c.args.self.now.text.now in
    begin_sign bs c.args.self.now.work.now c.push-in-40.new.self.work.now c.args.self.now.count c.args.s c.requires.room 40 _ c.push-in-40.result c.args.self.now.ready.tokens c.push-in-40.ensures.pushed (here bs c.args.s.place c.args.d 40 c.in-40.is c.requires.here) in_brackets refl (op_group (fuel bs))

pub returns-in-36-clause-pays : goal.returns-in-36-clause-pays
unfolding FrameSays
returns-in-36-clause-pays c =
    let bs = c.args.self.now.text.now in
    begin_sign bs c.args.self.now.work.now c.push-in-36.new.self.work.now c.args.self.now.count c.args.s c.requires.room 36 _ c.push-in-36.result c.args.self.now.ready.tokens c.push-in-36.ensures.pushed (here bs c.args.s.place c.args.d 36 c.in-36.is c.requires.here) in_field refl (op_field (fuel bs))

pub returns-in_default-clause-pays : goal.returns-in_default-clause-pays
returns-in_default-clause-pays c =
    let bs = c.args.self.now.text.now in
    let p = c.args.s.place in
    let d = c.args.d in
    begin_fail bs c.args.self.now.work.now c.args.self.now.count c.args.s
    (λ fs l. first_token bs p (sign d) (λ us. before (fuel bs) fs us) (λ us. none) c.requires.here (λ us e. op_no_sign (fuel bs) fs l d us e (ne_eqb 33 d (λ z. omega arith)) (ne_eqb 45 d (λ z. omega arith)) (ne_eqb d 40 (λ z. omega arith)) (ne_eqb d 36 (λ z. omega arith))))
