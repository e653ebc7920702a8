use Rattle.report.proofs.Joined.{all_lines}
use Rattle.report.proofs.lines.ReportTextDisplay.fmt.Goals as goal

pub returns-clause-writes : goal.returns-clause-writes
returns-clause-writes g c = let all = c.args.self.now in rw (← all_lines all.setup all.longest all.outcomes) c.writeln.ensures.writes
