use Rattle.std.proofs.Common.{drop, ◌∙◌, arith}
use Rattle.std.proofs.lemmas.List.{take-take}
use Rattle.store.proofs.Putting.{chunk_read}
use Rattle.store.proofs.lent.eight.Goals as goal

pub returns : goal.returns
returns c =
    let m = rw c.unwrap.ensures at c.first_chunk.ensures.cases in
    let p = c.args.piece.now in
    chunk_read p c.unwrap.result.now c.args.i c.from_le_bytes.result (m.same ∙ take-take 8 _ (drop c.args.i p) (omega arith)) (omega arith) (λ i. (c.type_inv.piece i).fits) c.from_le_bytes.ensures
