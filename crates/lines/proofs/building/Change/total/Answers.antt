use Rattle.std.proofs.Common.{◌≡◌, ℕ, ◌<◌, List, Some, None, sym, ap, ◌∙◌, arith}
use Rattle.std.proofs.lemmas.Bool.{lt-leb, le-leb}
use Rattle.language.specs.Text.{pick}
use Rattle.regions.specs.Parts.{parts}
use Rattle.lines.specs.Building.{pieces, total}
use Rattle.lines.proofs.Pieces.{total_turn, total_done}
use Rattle.lines.proofs.building.Change.total.Goals as goal

pub returns-then-p-sum : goal.returns-then-p-sum
returns-then-p-sum c =
    let ws : List ℕ = (parts c.args.mem.now).fields in
    let t : ℕ = total (pieces ws c.args.self.line c.args.self.n c.args.self.len c.args.self.fields 0) in
    let h : 65536 < t =
    omega (arith, c.loop-i.invariant.1, total_turn ws c.args.self.line c.args.self.n c.args.self.len c.args.self.fields c.loop-i.i (omega arith), ap (λ x. x.room) c.piece-p.ensures) in
    ap (λ b. pick b (Some t) None) (sym (lt-leb t 65536 h))

pub loop-i-preserved : goal.loop-i-preserved
loop-i-preserved c =
    let ws : List ℕ = (parts c.args.mem.now).fields in
    let e = total_turn ws c.args.self.line c.args.self.n c.args.self.len c.args.self.fields c.loop-i.i (omega arith) in
    let r = ap (λ x. x.room) c.piece-p.ensures in
    (omega arith, omega (arith, c.loop-i.invariant.1))

pub returns : goal.returns
returns c =
    let ws : List ℕ = (parts c.args.mem.now).fields in
    let t : ℕ = total (pieces ws c.args.self.line c.args.self.n c.args.self.len c.args.self.fields 0) in
    let e : c.loop-i.sum ≡ t = omega (arith, c.loop-i.invariant.1, total_done ws c.args.self.line c.args.self.n c.args.self.len c.args.self.fields c.loop-i.i (omega arith)) in
    ap (λ x. Some x) e ∙ ap (λ b. pick b (Some t) None) (sym (le-leb t 65536 (omega arith)))
