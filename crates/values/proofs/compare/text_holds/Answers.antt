use Rattle.std.proofs.Common.{ltb, ap, ◌∙◌}
use Rattle.values.proofs.Comparing.{text_counts}
use Rattle.values.proofs.compare.text_holds.Goals as goal

pub returns : goal.returns
returns g c = ap (ltb 0) c.len.ensures ∙ text_counts (g.T.Bytes.bytes c.args.t.now)
