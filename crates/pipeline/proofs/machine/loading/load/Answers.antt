use Rattle.std.proofs.Common.{length, refl, ap, rules}
use Rattle.pipeline.proofs.Theorem.{agrees}
use Rattle.pipeline.proofs.machine.loading.load.Goals as goal

-- src/machine/loading.rt:38:1
pub returns : goal.returns
returns g c = record {
  starts = search rules;
  agrees = agrees g.P.Predictor.table g.I.Memory.means g.D.Memory.means g.met.I.Memory.obeys g.met.D.Memory.obeys _
      (record { latches = refl; sized = ap length c.new.ensures; stopped = refl; clocks = refl; fetched = refl; retired = refl; dropped = refl });
}
