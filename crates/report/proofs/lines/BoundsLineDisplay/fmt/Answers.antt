use Rattle.report.proofs.lines.BoundsLineDisplay.fmt.Goals as goal

pub returns-clause-writes : goal.returns-clause-writes
returns-clause-writes g c = rw (← c.bound.ensures, ← c.bound-2.ensures) c.writeln.ensures.writes
