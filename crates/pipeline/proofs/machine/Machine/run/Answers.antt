use Rattle.pipeline.proofs.Runs.{journal_hears, ran_into}
use Rattle.pipeline.proofs.machine.Machine.run.Goals as goal

pub returns : goal.returns
returns g c =
    let before = c.args.journal.now in
    let after = c.run_heard.new.listener in
    let ran = c.run_heard.ensures in
    let adds = journal_hears before ran.0 after ran.2 in
    record {
      does = ran_into g.P.Predictor.table g.I.Memory.means g.D.Memory.means before after c.args.self.now c.run_heard.new.self c.args.n c.run_heard.result ran.0 ran.1 adds;
      slots = adds.0.slots;
    }
