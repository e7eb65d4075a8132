use Rattle.lines.specs.Laws.{ScanRight}
use Rattle.lines.proofs.Holding.{scan_says}
use Rattle.lines.proofs.laws.scan_stands.Goals as goal

pub returns : goal.returns
unfolding ScanRight
returns c = scan_says
