use Rattle.memory.specs.Meaning.{of_read}
use Rattle.clock.proofs.FetchAsked.{fetch_asked}
use Rattle.clock.proofs.fetch.fetch_stage.Goals as goal

pub returns-in-Ok : goal.returns-in-Ok
returns-in-Ok g c =
    let can = c.fetchable.ensures in
    rw c.in-Moves.is
    (fetch_asked g.P.Predictor.table g.I.Memory.means c.args.predictor.now c.args.f.now c.args.d.now c.args.redirect c.args.instructions.now c.read.new.self
    (record { f = c.fill_d.new.f; d = c.fill_d.new.d }) c.fill_d.result
    (of_read c.read.result) (rw (c.in-Ok.is, c.size.ensures) at can) c.read.ensures c.fill_d.ensures.f c.fill_d.ensures.d c.fill_d.ensures.fetched c.fill_d.ensures.waits)
