use Rattle.std.proofs.Common.{sym, ap, ◌∙◌, w64, SFits, rules}
use Rattle.std.proofs.lemmas.Int.{to_z-of_z}
use Rattle.language.specs.Text.{number_of}
use Rattle.store.specs.Numbers.{number}
use Rattle.values.specs.Compare.{worth}
use Rattle.values.proofs.Comparing.{number_itself}
use Rattle.values.proofs.compare.as_number.Goals as goal

pub returns-in-Number : goal.returns-in-Number
returns-in-Number g c =
    let f : SFits w64 c.in-Number.n = search rules in
    ap number (to_z-of_z w64 c.in-Number.n f) ∙ number_itself c.in-Number.n ∙ ap (λ v. number_of (worth g.T.Bytes.bytes v)) (sym c.in-Number.is)
