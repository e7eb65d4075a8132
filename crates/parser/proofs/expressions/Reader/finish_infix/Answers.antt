use Rattle.std.proofs.Common.{◌≡◌, not, ◌&&◌, eqb, ◌∷◌, sym, ap, ◌∙◌, ap₂, arith}
use Rattle.language.specs.Program.{bin}
use Rattle.language.specs.Known.{plain_term}
use Rattle.parser.specs.Nodes.{operator_number}
use Rattle.parser.specs.declared.frames.Frame.TheVariants.{Infix}
use Rattle.parser.specs.Frames.{resume, behind, FrameSays, high_of}
use Rattle.lexer.specs.Places.{fuel, toks}
use Rattle.parser.proofs.Moves.{plain_is, made_bin}
use Rattle.parser.proofs.Endings.{high_is, high_small, end_grown}
use Rattle.parser.proofs.expressions.Reader.finish_infix.Goals as goal

pub returns-clause-pays : goal.returns-clause-pays
unfolding resume FrameSays
returns-clause-pays c =
    let bs = c.args.self.now.text.now in
    let m = c.args.self.now.work.now in
    let s = c.args.s in
    let w = c.make in
    end_grown bs m w.new.self.work.now c.args.self.now.count s c.args.node (Infix c.args.level c.args.o c.args.left) c.args.self.now.ready.tokens c.requires.room c.requires.here _ c.infix_plain-plain.result c.high_of.result w.result w.ensures.grown
    (λ a t b x.
    let e : c.infix_plain-plain.result ≡ (not (eqb (operator_number c.args.o) 12) && (plain_term x.1 && plain_term a)) = c.infix_plain-plain.ensures ∙ ap₂ (λ u v. not (eqb (operator_number c.args.o) 12) && (u && v)) (plain_is bs m s.nodes c.args.left x.1 x.4) (plain_is bs m s.nodes c.args.node a t) in
    let h : c.high_of.result ≡ high_of x.0 = c.high_of.ensures ∙ high_is x.0 c.args.level x.2 in (
      bin (operator_number c.args.o) x.1 a,
      made_bin bs m w.new.self.work.now s.nodes c.requires.room.low c.args.o c.args.left c.args.node c.infix_plain-plain.result x.1 a e x.4 t,
      (let u = high_small x.0 x.3 in omega (arith, h)),
      (λ fs. ap (λ u. behind (fuel bs) fs u (bin (operator_number c.args.o) x.1 a) (toks bs s.place)) h ∙ ap (λ h. resume (fuel bs) (h ∷ fs) a (toks bs s.place)) (sym x.5)),
    ))
