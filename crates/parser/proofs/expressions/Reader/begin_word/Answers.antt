use Rattle.std.proofs.Common.{◌≡◌, ℕ, false, List, ◌∷◌, sym, refl, ap, ◌∙◌, subst, arith}
use Rattle.language.specs.Program.{word, rest, sees, w_length, w_upper, w_index, w_substr, w_split}
use Rattle.lexer.specs.Marks.{spelled}
use Rattle.lexer.specs.declared.tokens.Keyword.{Keyword}
use Rattle.lexer.specs.declared.tokens.Keyword.TheVariants.{Length, Upper, Index, Substr, Split, Swap}
use Rattle.parser.specs.Frames.{in_measure, in_index, in_part, in_split, before, FrameSays}
use Rattle.lexer.specs.Places.{fuel, toks}
use Rattle.lexer.proofs.Reach.{rest_toks}
use Rattle.parser.proofs.Openings.{enough_here, begin_built_in, begin_fail}
use Rattle.parser.proofs.Operands.{op_length, op_upper, op_index, op_part, op_split}
use Rattle.parser.proofs.Wordy.{bare_word, other_word}
use Rattle.parser.proofs.expressions.Reader.begin_word.Goals as goal

pub returns-then-not-is_sign-clause-pays : goal.returns-then-not-is_sign-clause-pays
returns-then-not-is_sign-clause-pays c =
    let bs = c.args.self.now.text.now in
    let p = c.args.s.place in
    let e = c.requires.here in
    let t : sees 40 (rest (toks bs p)) ≡ false = ap (sees 40) (rest_toks bs p) ∙ sym c.if-not-is_sign.ensures in
    begin_fail bs c.args.self.now.work.now c.args.self.now.count c.args.s (λ fs l. ap (λ us. before (fuel bs) fs us) e ∙ bare_word (fuel bs) fs l c.args.k (rest (toks bs p)) (enough_here bs p e) t)

-- the word that is there, once it is known which one
here : (bs : List ℕ) (p : ℕ) (k j : Keyword) → k ≡ j → toks bs p ≡ word (spelled k) ∷ rest (toks bs p) → toks bs p ≡ word (spelled j) ∷ rest (toks bs p)
here bs p k j q h = subst (λ w. toks bs p ≡ word (spelled w) ∷ rest (toks bs p)) q h

pub returns-in-Length-clause-pays : goal.returns-in-Length-clause-pays
unfolding FrameSays spelled
returns-in-Length-clause-pays c =
    let bs = c.args.self.now.text.now in
    let k = c.args.self.now.ready.tokens in
    begin_built_in bs c.args.self.now.work.now c.push.new.self.work.now c.args.self.now.count c.args.s c.requires.room w_length _ c.push.result k c.push.ensures.pushed (here bs c.args.s.place c.args.k Length c.in-Length.is c.requires.here) (sym c.if-not-is_sign.ensures) (in_measure 2) (refl, omega arith) (op_length (fuel bs))

pub returns-in-Upper-clause-pays : goal.returns-in-Upper-clause-pays
unfolding FrameSays spelled
returns-in-Upper-clause-pays c =
    let bs = c.args.self.now.text.now in
    let k = c.args.self.now.ready.tokens in
    begin_built_in bs c.args.self.now.work.now c.push-in-Upper.new.self.work.now c.args.self.now.count c.args.s c.requires.room w_upper _ c.push-in-Upper.result k c.push-in-Upper.ensures.pushed (here bs c.args.s.place c.args.k Upper c.in-Upper.is c.requires.here) (sym c.if-not-is_sign.ensures) (in_measure 3) (refl, omega arith) (op_upper (fuel bs))

pub returns-in-Index-clause-pays : goal.returns-in-Index-clause-pays
unfolding FrameSays spelled
returns-in-Index-clause-pays c =
    let bs = c.args.self.now.text.now in
    let k = c.args.self.now.ready.tokens in
    begin_built_in bs c.args.self.now.work.now c.push-in-Index.new.self.work.now c.args.self.now.count c.args.s c.requires.room w_index _ c.push-in-Index.result k c.push-in-Index.ensures.pushed (here bs c.args.s.place c.args.k Index c.in-Index.is c.requires.here) (sym c.if-not-is_sign.ensures) in_index refl (op_index (fuel bs))

pub returns-in-Substr-clause-pays : goal.returns-in-Substr-clause-pays
unfolding FrameSays spelled
returns-in-Substr-clause-pays c =
    let bs = c.args.self.now.text.now in
    let k = c.args.self.now.ready.tokens in
    begin_built_in bs c.args.self.now.work.now c.push-in-Substr.new.self.work.now c.args.self.now.count c.args.s c.requires.room w_substr _ c.push-in-Substr.result k c.push-in-Substr.ensures.pushed (here bs c.args.s.place c.args.k Substr c.in-Substr.is c.requires.here) (sym c.if-not-is_sign.ensures) in_part refl (op_part (fuel bs))

pub returns-in-Split-clause-pays : goal.returns-in-Split-clause-pays
unfolding FrameSays spelled
returns-in-Split-clause-pays c =
    let bs = c.args.self.now.text.now in
    let k = c.args.self.now.ready.tokens in
    begin_built_in bs c.args.self.now.work.now c.push-in-Split.new.self.work.now c.args.self.now.count c.args.s c.requires.room w_split _ c.push-in-Split.result k c.push-in-Split.ensures.pushed (here bs c.args.s.place c.args.k Split c.in-Split.is c.requires.here) (sym c.if-not-is_sign.ensures) in_split refl (op_split (fuel bs))

pub begin_swap-requires-clause-here : goal.begin_swap-requires-clause-here
unfolding spelled
begin_swap-requires-clause-here c = here c.args.self.now.text.now c.args.s.place c.args.k Swap c.in-Swap.is c.requires.here

pub returns-in_default-clause-pays : goal.returns-in_default-clause-pays
returns-in_default-clause-pays c =
    let bs = c.args.self.now.text.now in
    let p = c.args.s.place in
    let e = c.requires.here in
    begin_fail bs c.args.self.now.work.now c.args.self.now.count c.args.s
    (λ fs l. ap (λ us. before (fuel bs) fs us) e ∙ other_word (fuel bs) fs l c.args.k (rest (toks bs p)) (enough_here bs p e) c.in_default.not-Length c.in_default.not-Upper c.in_default.not-Index c.in_default.not-Substr c.in_default.not-Split c.in_default.not-Swap)
