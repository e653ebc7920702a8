use Rattle.std.proofs.Common.{refl}
use Rattle.pipeline.proofs.Runs.{ticked}
use Rattle.pipeline.proofs.machine.Machine.tick.Goals as goal

pub returns : goal.returns
returns g c =
    ticked g.P.Predictor.table g.I.Memory.means g.D.Memory.means g.L.Listener.heard g.L.Listener.full
    c.args.self.now _ c.args.listener.now c.checked_cycle.new.listener c.checked_cycle.result c.requires c.checked_cycle.ensures refl refl
