use Rattle.std.proofs.Common.{ℕ, ◌+◌, ◌*◌, List, set, sym, ap, ◌∙◌, arith}
use Rattle.std.proofs.lemmas.List.{set_past}
use Rattle.store.specs.Values.{decode, decoded}
use Rattle.store.proofs.Coding.{decoded_set, length_decoded, saved_there, saved_past}
use Rattle.store.proofs.cells.save.Goals as goal

pub returns-then-i-cells : goal.returns-then-i-cells
returns-then-i-cells c =
    let ws : List ℕ = c.args.cells.now in
    let i : ℕ = c.args.i in
    record {
      words = ap (λ k. set (set ws (2 * i) k) (2 * i + 1) c.payload_of.result) c.kind_of.ensures
          ∙ ap (set (set ws (2 * i) _) (2 * i + 1)) c.payload_of.ensures.payload ∙ saved_there ws i c.args.v (omega arith);
      values = decoded_set ws i c.kind_of.result c.payload_of.result c.args.v (ap (λ k. decode k c.payload_of.result) c.kind_of.ensures ∙ c.payload_of.ensures.back) (omega arith);
    }

pub returns-else-i-cells : goal.returns-else-i-cells
returns-else-i-cells c =
    let ws : List ℕ = c.args.cells.now in
    record {
      words = saved_past ws c.args.i c.args.v (omega arith);
      values = sym (set_past (decoded ws) c.args.i c.args.v (omega (arith, length_decoded ws)));
    }
