use Rattle.std.proofs.Common.{◌≡◌, ◌+◌, true, ◌∷◌, sym, ap, ◌∙◌, arith}
use Rattle.language.specs.Program.{split, got, sees, name_of}
use Rattle.parser.specs.declared.frames.Frame.TheVariants.{SplitFirst}
use Rattle.parser.specs.Frames.{resume, FrameSays}
use Rattle.lexer.specs.Places.{fuel, toks}
use Rattle.parser.proofs.Moves.{made_split}
use Rattle.parser.proofs.Endings.{end_close_at, end_fail, split_comma, split_name, split_second, split_pattern, split_all}
use Rattle.parser.proofs.expressions.Reader.finish_split.Goals as goal

pub returns-then-not-is_sign-clause-pays : goal.returns-then-not-is_sign-clause-pays
unfolding FrameSays
returns-then-not-is_sign-clause-pays c =
    let bs = c.args.self.now.text.now in
    let p = c.args.s.place in
    end_fail bs c.args.self.now.work.now c.args.self.now.count c.args.s c.args.node SplitFirst c.requires.here (λ a t b x fs.
    sym (split_comma bs (fuel bs) fs a p (sym c.if-not-is_sign.ensures)) ∙ ap (λ h. resume (fuel bs) (h ∷ fs) a (toks bs p)) (sym x))

pub returns-in_err-x-clause-pays : goal.returns-in_err-x-clause-pays
unfolding FrameSays
returns-in_err-x-clause-pays c =
    let bs = c.args.self.now.text.now in
    let p = c.args.s.place in
    let k = c.args.self.now.ready.tokens in
    rw c.from_residual.ensures (end_fail bs c.args.self.now.work.now c.args.self.now.count c.args.s c.args.node SplitFirst c.requires.here (λ a t b x fs.
    sym (split_name bs (fuel bs) fs a p (sym c.if-not-is_sign.ensures) (c.in_err-x.ensures bs k)) ∙ ap (λ h. resume (fuel bs) (h ∷ fs) a (toks bs p)) (sym x)))

pub returns-then-not-is_sign-2-clause-pays : goal.returns-then-not-is_sign-2-clause-pays
unfolding FrameSays
returns-then-not-is_sign-2-clause-pays c =
    let bs = c.args.self.now.text.now in
    let p = c.args.s.place in
    let k = c.args.self.now.ready.tokens in
    let v = c.in_ok-x.ensures bs k in
    let e : p + 1 + 1 ≡ p + 2 = omega arith in
    let n : name_of (toks bs (p + 1)) ≡ got v.0 (toks bs (p + 2)) = v.2 ∙ ap (λ i. got v.0 (toks bs i)) e in
    end_fail bs c.args.self.now.work.now c.args.self.now.count c.args.s c.args.node SplitFirst c.requires.here (λ a t b x fs.
    sym (split_second bs (fuel bs) fs a p v.0 (sym c.if-not-is_sign.ensures) n (sym c.if-not-is_sign-2.ensures)) ∙ ap (λ h. resume (fuel bs) (h ∷ fs) a (toks bs p)) (sym x))

pub returns-in_err-q-clause-pays : goal.returns-in_err-q-clause-pays
unfolding FrameSays
returns-in_err-q-clause-pays c =
    let bs = c.args.self.now.text.now in
    let p = c.args.s.place in
    let k = c.args.self.now.ready.tokens in
    let v = c.in_ok-x.ensures bs k in
    let e : p + 1 + 1 ≡ p + 2 = omega arith in
    let n : name_of (toks bs (p + 1)) ≡ got v.0 (toks bs (p + 2)) = v.2 ∙ ap (λ i. got v.0 (toks bs i)) e in
    rw c.from_residual-in_err-q.ensures (end_fail bs c.args.self.now.work.now c.args.self.now.count c.args.s c.args.node SplitFirst c.requires.here (λ a t b x fs.
    sym (split_pattern bs (fuel bs) fs a p v.0 (sym c.if-not-is_sign.ensures) n (sym c.if-not-is_sign-2.ensures) c.in_err-q.ensures) ∙ ap (λ h. resume (fuel bs) (h ∷ fs) a (toks bs p)) (sym x)))

pub returns-clause-pays : goal.returns-clause-pays
unfolding FrameSays
returns-clause-pays c =
    let bs = c.args.self.now.text.now in
    let m = c.args.self.now.work.now in
    let s = c.args.s in
    let p = s.place in
    let room = c.requires.room in
    let k = c.args.self.now.ready.tokens in
    let t : sees 44 (toks bs p) ≡ true = sym c.if-not-is_sign.ensures in
    let x = c.in_ok-x.ensures bs k in
    let q = c.in_ok-q.ensures in
    let z : p + 1 + 1 ≡ p + 2 = omega arith in
    let z₃ : p + 3 + 1 ≡ p + 4 = omega arith in
    let u : sees 44 (toks bs (p + 2)) ≡ true = sym c.if-not-is_sign-2.ensures in
    end_close_at bs m c.close.new.self.work.now c.args.self.now.count s c.args.node SplitFirst k room c.requires.here (p + 4) (omega arith) _ 41 c.close.result c.close.ensures.closes (λ a t₁ b y. (
      split a x.0 q.0,
      (λ w. made_split bs m c.close.new.self.work.now s.nodes room.low c.args.node c.in_ok-x.x c.in_ok-q.q a x.0 q.0 t₁ x.1 q.1 w),
      (λ fs. sym (split_all bs (fuel bs) fs a p x.0 q.0 t (x.2 ∙ ap (λ i. got x.0 (toks bs i)) z) u (q.2 ∙ ap (λ i. got q.0 (toks bs i)) z₃)) ∙ ap (λ h. resume (fuel bs) (h ∷ fs) a (toks bs p)) (sym y)),
    ))
