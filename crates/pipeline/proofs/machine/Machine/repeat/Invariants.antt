use Rattle.std.proofs.Common.{◌≡◌}
use Rattle.pipeline.specs.Calls.{refusal_at}
use Rattle.pipeline.proofs.Runs.{HeardClocks}
use Rattle.pipeline.proofs.machine.Machine.repeat.Given as goal

abbrev pub invariant-loop-made : goal.invariant-loop-made
invariant-loop-made g l =
    HeardClocks g.P.Predictor.table g.I.Memory.means g.D.Memory.means g.L.Listener.heard g.L.Listener.full l.initial.listener l.initial.self l.made l.listener l.self
    × (l.made ≡ 0 → refusal_at (g.L.Listener.full l.listener) l.self ≡ 0)
