use Rattle.std.proofs.Common.{◌≡◌, ◌+◌, ◌<◌, ◌≤◌, length, get_or, sym, refl, ap, ◌∙◌, arith, ne_eqb}
use Rattle.language.specs.Program.{meant}
use Rattle.lexer.proofs.Quotes.{none_meant, quote_meant, escaped, itself}
use Rattle.lexer.proofs.Words.{quote_two, quote_one}
use Rattle.lexer.proofs.patterns.byte_at.Goals as goal

pub returns-in_err-get-clause-meant : goal.returns-in_err-get-clause-meant
returns-in_err-get-clause-meant c =
    let h : length c.args.text.now ≤ c.args.i = grind arith in
    rw c.from_residual.ensures (none_meant c.args.text.now c.args.i h)

pub returns-in-34-default-clause-meant : goal.returns-in-34-default-clause-meant
returns-in-34-default-clause-meant c =
    let h : c.args.i < length c.args.text.now = grind arith in
    let e : get_or c.args.text.now c.args.i 0 ≡ 34 = grind arith in
    quote_meant c.args.text.now c.args.i h e

pub returns-in-92-Some-eq110-clause-meant : goal.returns-in-92-Some-eq110-clause-meant
returns-in-92-Some-eq110-clause-meant c =
    let h : c.args.i + 1 < length c.args.text.now = grind arith in
    let e : get_or c.args.text.now c.args.i 0 ≡ 92 = grind arith in
    let d : get_or c.args.text.now (c.args.i + 1) 0 ≡ 110 = grind arith in
    (escaped c.args.text.now c.args.i 10 h e (sym (rw d refl)), omega arith, omega arith)

pub returns-in-92-Some-eq110-clause-on : goal.returns-in-92-Some-eq110-clause-on
returns-in-92-Some-eq110-clause-on c =
    let h : c.args.i + 1 < length c.args.text.now = grind arith in
    let e : get_or c.args.text.now c.args.i 0 ≡ 92 = grind arith in
    quote_two c.args.text.now c.args.i h e

pub returns-in-92-Some-clause-meant : goal.returns-in-92-Some-clause-meant
returns-in-92-Some-clause-meant c =
    let h : c.args.i + 1 < length c.args.text.now = grind arith in
    let e : get_or c.args.text.now c.args.i 0 ≡ 92 = grind arith in
    let d : c.in-92-Some.byte ≡ get_or c.args.text.now (c.args.i + 1) 0 = grind arith in
    let n : meant c.in-92-Some.byte ≡ c.in-92-Some.byte = rw (ne_eqb c.in-92-Some.byte 110 c.in-92-Some.byte-test.1) refl in
    (escaped c.args.text.now c.args.i c.in-92-Some.byte h e (sym n ∙ ap meant d), omega arith, omega arith)

pub returns-in-92-Some-clause-on : goal.returns-in-92-Some-clause-on
returns-in-92-Some-clause-on c =
    let h : c.args.i + 1 < length c.args.text.now = grind arith in
    let e : get_or c.args.text.now c.args.i 0 ≡ 92 = grind arith in
    quote_two c.args.text.now c.args.i h e

pub returns-in_default-clause-meant : goal.returns-in_default-clause-meant
returns-in_default-clause-meant c =
    let h : c.args.i < length c.args.text.now = grind arith in
    let b : c.in_ok-get.field-0.now ≡ get_or c.args.text.now c.args.i 0 = grind arith in
    let n : get_or c.args.text.now c.args.i 0 ≡ 34 → ⊥ = λ e. grind arith in
    let m : get_or c.args.text.now c.args.i 0 ≡ 92 → c.args.i + 1 < length c.args.text.now → ⊥ = λ e l. grind arith in
    (rw b (itself c.args.text.now c.args.i h n m), omega arith, omega arith)

pub returns-in_default-clause-on : goal.returns-in_default-clause-on
returns-in_default-clause-on c =
    let h : c.args.i < length c.args.text.now = grind arith in
    let n : get_or c.args.text.now c.args.i 0 ≡ 34 → ⊥ = λ e. grind arith in
    let m : get_or c.args.text.now c.args.i 0 ≡ 92 → c.args.i + 1 < length c.args.text.now → ⊥ = λ e l. grind arith in
    quote_one c.args.text.now c.args.i h n m
