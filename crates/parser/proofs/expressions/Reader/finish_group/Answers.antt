use Rattle.std.proofs.Common.{◌≡◌, ◌<◌, true, ◌∷◌, sym, ap, ◌∙◌, arith}
use Rattle.language.specs.Program.{sees}
use Rattle.parser.specs.declared.frames.Frame.TheVariants.{Group}
use Rattle.parser.specs.Frames.{in_brackets, resume, behind, FrameSays, Ended}
use Rattle.lexer.specs.Places.{fuel, toks}
use Rattle.lexer.proofs.Reach.{rest_toks, sees_ahead}
use Rattle.parser.proofs.Moves.{nothing_written}
use Rattle.parser.proofs.Operands.{past_is, past_none}
use Rattle.parser.proofs.Endings.{topmost, resumed, end_fail}
use Rattle.parser.proofs.expressions.Reader.finish_group.Goals as goal

pub returns-then-not-is_sign : goal.returns-then-not-is_sign
unfolding resume FrameSays
returns-then-not-is_sign c =
    let bs = c.args.self.now.text.now in
    let ts = toks bs c.args.s.place in
    end_fail bs c.args.self.now.work.now c.args.self.now.count c.args.s c.args.node Group c.requires.here (λ a t b x fs.
    sym (past_none 41 ts (λ us. behind (fuel bs) fs 8 a us) (sym c.if-not-is_sign.ensures)) ∙ ap (λ h. resume (fuel bs) (h ∷ fs) a ts) (sym x))

pub returns : goal.returns
unfolding resume FrameSays
returns c =
    let bs = c.args.self.now.text.now in
    let m = c.args.self.now.work.now in
    let s = c.args.s in
    let p = s.place in
    let n = s.nodes in
    let room = c.requires.room in
    let o = c.requires.here in
    let k = c.args.self.now.ready.tokens in
    let P = Ended bs m s c.args.node in
    let d = o.deep in
    let t : sees 41 (toks bs p) ≡ true = sym c.if-not-is_sign.ensures in
    let a : p < c.args.self.now.count = sees_ahead bs m c.args.self.now.count p 41 k t in
    record {
      spends = omega arith;
      goes = record {
        kept = nothing_written n m;
        room = record { within = omega arith; few = room.few; frames = omega (arith, room.frames); low = room.low; grown = omega arith; nodes = omega (arith, room.nodes) };
        falls = omega arith;
        meets = λ g y.
            let v = topmost bs m s c.args.node Group g o y in
            record {
              begun = v.others;
              operand = y.operand;
              stack = v.stack;
              tree = y.tree;
              high = omega arith;
              means = ap (λ us. behind (fuel bs) v.others 8 y.operand us) (sym (rest_toks bs p)) ∙ sym (past_is 41 (toks bs p) (λ us. behind (fuel bs) v.others 8 y.operand us) t) ∙ resumed bs m s c.args.node Group g y v in_brackets v.says;
            };
      };
    }
