use Rattle.std.proofs.Common.{sym, ap, ◌∙◌}
use Rattle.regions.specs.Parts.{parts}
use Rattle.lines.specs.Building.{copied}
use Rattle.lines.proofs.Pieces.{piece_gap, piece_copied}
use Rattle.lines.proofs.building.Change.piece.Goals as goal

pub returns-then-i-self : goal.returns-then-i-self
returns-then-i-self c = sym (piece_gap (parts c.args.mem.now).fields c.args.self.line c.args.self.n c.args.self.len c.args.i c.if-i-self.true)

pub returns : goal.returns
returns c = ap copied c.nth_field-old.ensures ∙ sym (piece_copied (parts c.args.mem.now).fields c.args.self.line c.args.self.n c.args.self.len c.args.i c.if-i-self.false)
