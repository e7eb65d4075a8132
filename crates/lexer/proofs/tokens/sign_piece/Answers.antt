use Rattle.std.proofs.Common.{◌≡◌, ℕ, ◌+◌, get_or, drop, refl, sym, arith}
use Rattle.language.specs.Program.{bad, sign}
use Rattle.lexer.proofs.Bytes.{sign_piece, signed_none, signed_two, signed_one, behind_is, bad_piece}
use Rattle.lexer.proofs.tokens.sign_piece.Goals as goal
use Rattle.lexer.proofs.tokens.sign_piece.Goals.{After-unwrap_or-behind}

-- the byte behind
behind : (c : After-unwrap_or-behind) → c.unwrap_or-behind.result ≡ get_or (drop (c.args.i + 1) c.args.text.now) 0 0
behind c =
    let e : c.unwrap_or-behind.result ≡ get_or c.args.text.now (c.args.i + 1) 0 = grind arith in
    behind_is c.args.text.now c.args.i c.unwrap_or-behind.result e

pub returns-then-s-le-UNLIKE : goal.returns-then-s-le-UNLIKE
returns-then-s-le-UNLIKE c =
    let b = behind (goal.at.returns-then-s-le-UNLIKE c).After-unwrap_or-behind in
    let s = λ (m : ℕ). signed_two c.args.text.now c.args.i m c.in-Some.s (sign_piece c.args.text.now c.args.i m c.in-Some.s c.unwrap_or-behind.result c.requires.inside c.requires.class b c.in-Some.ensures.0) c.in-Some.ensures.1 (omega arith) in
    record { onward = omega arith; inside = (s 0).0; gives = (sign c.in-Some.s, refl, λ m. (s m).1) }

pub returns-else-s-le-UNLIKE : goal.returns-else-s-le-UNLIKE
returns-else-s-le-UNLIKE c =
    let b = behind (goal.at.returns-else-s-le-UNLIKE c).After-unwrap_or-behind in
    record {
      onward = omega arith;
      inside = omega arith;
      gives = (sign c.in-Some.s, refl, λ m. signed_one c.args.text.now c.args.i m c.in-Some.s (sign_piece c.args.text.now c.args.i m c.in-Some.s c.unwrap_or-behind.result c.requires.inside c.requires.class b c.in-Some.ensures.0) (omega arith));
    }

pub returns-in-None : goal.returns-in-None
returns-in-None c =
    let b = behind (goal.at.returns-in-None c).After-unwrap_or-behind in
    rw c.bad_piece.ensures
    (record {
      onward = c.requires.inside;
      inside = omega arith;
      gives = (bad, refl, λ m. bad_piece c.args.text.now c.args.i m (signed_none c.args.text.now c.args.i m 0 (sign_piece c.args.text.now c.args.i m 0 c.unwrap_or-behind.result c.requires.inside c.requires.class b (sym c.in-None.ensures)) refl));
    })
