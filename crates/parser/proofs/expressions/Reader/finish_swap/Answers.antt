use Rattle.std.proofs.Common.{◌≡◌, true, false, ◌∷◌, sym, ap, ◌∙◌}
use Rattle.language.specs.Program.{swap, none, past, can_set}
use Rattle.parser.specs.declared.frames.Frame.TheVariants.{SwapSecond}
use Rattle.parser.specs.Frames.{resume, behind, FrameSays}
use Rattle.lexer.specs.Places.{fuel, toks}
use Rattle.lexer.proofs.Picks.{picked, left_out}
use Rattle.parser.proofs.Moves.{place_is, made_swap}
use Rattle.parser.proofs.Endings.{end_fail, end_close}
use Rattle.parser.proofs.expressions.Reader.finish_swap.Goals as goal

pub returns-then-not-is_place-clause-pays : goal.returns-then-not-is_place-clause-pays
unfolding FrameSays resume
returns-then-not-is_place-clause-pays c =
    let bs = c.args.self.now.text.now in
    let m = c.args.self.now.work.now in
    let s = c.args.s in
    end_fail bs m c.args.self.now.count s c.args.node (SwapSecond c.args.q c.args.by) c.requires.here (λ a t b x fs.
    let z : can_set a ≡ false = sym (place_is bs m s.nodes c.args.node a t) ∙ sym c.if-not-is_place.ensures in
    sym (left_out (can_set a) (past 41 (toks bs s.place) (λ us. behind (fuel bs) fs 8 (swap x.0 x.1 a) us)) none z) ∙ ap (λ h. resume (fuel bs) (h ∷ fs) a (toks bs s.place)) (sym x.4))

pub returns-clause-pays : goal.returns-clause-pays
unfolding FrameSays resume
returns-clause-pays c =
    let bs = c.args.self.now.text.now in
    let m = c.args.self.now.work.now in
    let m₁ = c.close.new.self.work.now in
    let s = c.args.s in
    let k = c.args.self.now.ready.tokens in
    let room = c.requires.room in
    end_close bs m m₁ c.args.self.now.count s c.args.node (SwapSecond c.args.q c.args.by) k room c.requires.here _ 41 c.close.result c.close.ensures.closes (λ a t b x.
    let z : can_set a ≡ true = sym (place_is bs m s.nodes c.args.node a t) ∙ sym c.if-not-is_place.ensures in (
      swap x.0 x.1 a,
      made_swap bs m m₁ s.nodes room.low c.args.q c.args.by c.args.node x.0 x.1 a x.2 x.3 t,
      (λ fs. sym (picked (can_set a) (past 41 (toks bs s.place) (λ us. behind (fuel bs) fs 8 (swap x.0 x.1 a) us)) none z) ∙ ap (λ h. resume (fuel bs) (h ∷ fs) a (toks bs s.place)) (sym x.4)),
    ))
