use Rattle.std.proofs.Common.{◌≡◌, ◌-◌, ◌≤◌}
use Rattle.pipeline.specs.Calls.{is_stopped}
use Rattle.longrun.specs.LongRuns.{Reached}
use Rattle.longrun.proofs.Marking.{Marked}
use Rattle.longrun.proofs.run.run_to.Given as goal

abbrev pub invariant-loop-clocks : goal.invariant-loop-clocks
invariant-loop-clocks g l =
    Reached g.P.Predictor.table g.I.Memory.means g.D.Memory.means l.initial.machine l.initial.gaps l.machine l.gaps
    × (l.clocks ≡ l.machine.core.counts.clocks)
    × (l.initial.machine.core.counts.clocks ≤ l.limit → l.clocks ≤ l.limit)
    × (l.machine.held ≡ l.initial.machine.held)
    × Marked g.W.Watch.hears l.limit l.initial.machine.core.counts.clocks l.machine.core.counts.clocks (is_stopped l.machine) l.initial.watch l.watch

abbrev pub decreases-loop-clocks : goal.decreases-loop-clocks
decreases-loop-clocks g l = l.limit - l.clocks
