use Rattle.std.proofs.Common.{arith}
use Rattle.store.proofs.Shorts.{read_bytes, read_clean, read_short}
use Rattle.store.proofs.copying.short_of.Goals as goal

pub invariant_of-result : goal.invariant_of-result
invariant_of-result g c =
    let bs = g.T.Bytes.bytes c.args.t.now in
    record { few = omega arith; clean = read_clean bs c.first_word.result _ c.first_word.ensures (omega arith) }

pub returns : goal.returns
returns g c =
    let bs = g.T.Bytes.bytes c.args.t.now in
    record {
      short = read_short bs _ c.first_word.ensures (omega arith);
      bytes = read_bytes bs c.first_word.result _ c.first_word.ensures (omega arith);
    }
