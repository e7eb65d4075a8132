use Rattle.std.proofs.Common.{rules}
use Rattle.regions.specs.Parts.{parts}
use Rattle.interp.specs.Jumps.{taking, jumped_if, jumped_unless}
use Rattle.interp.proofs.Conditions.{as_wanted}
use Rattle.interp.proofs.jumps.jump_on.Goals as goal

pub returns : goal.returns
unfolding jumped_if jumped_unless
returns g c = search (rules, as_wanted (λ b. taking (parts c.args.mem.now) c.args.regs.now b c.args.to))
