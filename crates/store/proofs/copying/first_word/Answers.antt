use Rattle.std.proofs.Common.{get_or, [], ◌∷◌, ◌≡◌, ◌∙◌}
use Rattle.store.specs.Words.{over}
use Rattle.store.proofs.Shorts.{eight_reads, first_read, whole_read, zeros}
use Rattle.store.proofs.copying.first_word.Goals as goal

pub returns-then-len-ge-LONGEST : goal.returns-then-len-ge-LONGEST
returns-then-len-ge-LONGEST g c = whole_read (g.T.Bytes.bytes c.args.t.now) c.word.result c.word.type_inv c.word.ensures

pub returns : goal.returns
returns g c =
    let bs = g.T.Bytes.bytes c.args.t.now in
    let e : c.at.result ∷ c.at-2.result ∷ c.at-3.result ∷ c.at-4.result ∷ c.at-5.result ∷ c.at-6.result ∷ c.at-7.result ∷ c.at-8.result ∷ []
    ≡ get_or bs 0 0 ∷ get_or bs 1 0 ∷ get_or bs 2 0 ∷ get_or bs 3 0 ∷ get_or bs 4 0 ∷ get_or bs 5 0 ∷ get_or bs 6 0 ∷ get_or bs 7 0 ∷ [] = cc in
    first_read bs _ c.word_of.result c.word_of.ensures (e ∙ eight_reads bs)
