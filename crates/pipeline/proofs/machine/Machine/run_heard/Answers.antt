use Rattle.pipeline.proofs.Runs.{at_once}
use Rattle.pipeline.proofs.machine.Machine.run_heard.Goals as goal

pub returns-in-Err : goal.returns-in-Err
returns-in-Err g c =
    at_once g.P.Predictor.table g.I.Memory.means g.D.Memory.means g.L.Listener.heard g.L.Listener.full c.args.listener.now c.args.self.now c.args.n c.in-Err.why c.in-Err.ensures
