use Rattle.std.proofs.Common.{◌-◌, take, drop, sym, arith}
use Rattle.language.specs.Program.{word}
use Rattle.lexer.proofs.Bytes.{gap_piece, comment_piece, word_piece}
use Rattle.lexer.proofs.tokens.piece_at.Goals as goal

pub returns-in-Gap : goal.returns-in-Gap
returns-in-Gap c = record { onward = omega arith; inside = omega arith; gives = λ m. gap_piece c.args.text.now c.args.i m c.requires (sym c.in-Gap.ensures) }

pub returns-in-Comment : goal.returns-in-Comment
returns-in-Comment c =
    let e = c.past_line.ensures in
    record { onward = omega arith; inside = e.inside; gives = λ m. comment_piece c.args.text.now c.args.i m c.past_line.result c.requires (sym c.in-Comment.ensures) e.is }

pub returns-in-Letter : goal.returns-in-Letter
returns-in-Letter c =
    let e = c.past_word-end.ensures in
    let to = c.past_word-end.result in
    record {
      onward = omega arith;
      inside = e.inside;
      gives = (word (take (to - c.args.i) (drop c.args.i c.args.text.now)), c.word_token.ensures, λ m. word_piece c.args.text.now c.args.i m to c.requires (sym c.in-Letter.ensures) e.is);
    }
