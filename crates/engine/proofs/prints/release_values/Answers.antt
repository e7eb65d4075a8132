use Rattle.std.proofs.Common.{sym, ◌∙◌, arith, rules}
use native.Mathlib.Nat.{sub-zero}
use Rattle.regions.specs.Parts.{parts}
use Rattle.engine.proofs.Printing.{released_next, released_none}
use Rattle.engine.proofs.prints.release_values.Goals as goal

pub loop-i-init : goal.loop-i-init
loop-i-init c = simp sub-zero

pub loop-i-preserved : goal.loop-i-preserved
loop-i-preserved c =
    c.loop-i.invariant
    ∙ released_next (parts c.loop-i.mem) (parts c.release_value.new.mem) c.args.depth c.args.n c.loop-i.i c.stacked-v.result
    (omega arith) (search rules) c.release_value.ensures

pub returns : goal.returns
returns c = sym (c.loop-i.invariant ∙ released_none _ _ _ (omega arith))
