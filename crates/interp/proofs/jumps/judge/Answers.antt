use Rattle.std.proofs.Common.{rules}
use Rattle.regions.specs.Parts.{parts}
use Rattle.interp.specs.Turns.{replaced, truth_of}
use Rattle.interp.specs.Jumps.{judged, negated}
use Rattle.interp.proofs.Conditions.{as_wanted}
use Rattle.interp.proofs.jumps.judge.Goals as goal

pub returns : goal.returns
unfolding judged negated
returns g c = search (rules, as_wanted (λ b. replaced (parts c.args.mem.now) c.args.regs.now (truth_of b)))
