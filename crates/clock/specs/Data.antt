-- The data stage with its memory. Assumes nothing.
use Rattle.std.specs.Prelude.{◌≡◌, Option}
use Rattle.memory.specs.Meaning.{Meaning, Reply}
use Rattle.clocking.specs.Ports.{Asked, bus_request}
use Rattle.clocking.specs.Data.{data_request, data_stage}
use Rattle.clocking.specs.declared.latch.Completed.{Completed}
use Rattle.clocking.specs.declared.latch.Executed.{Executed}
use Rattle.clocking.specs.declared.latch.Latch.{Latch}
use Rattle.clocking.specs.declared.stage.Flow.{Flow}

-- the data stage on m takes the memory from old to new, fills W with w, and flow is that of M
pub record DataDone {D : Type 0} (data_memory : Meaning D) (m : Latch Executed) (old new : D)
    (w : Latch Completed) (flow : Flow) : Type 0 where
  pub reply : Option Reply
  pub asked : Asked data_memory old (bus_request (data_request (data_memory.view.size old) m)) reply new
  pub fills : w ≡ (data_stage m (data_request (data_memory.view.size old) m) reply).w
  pub flows : flow ≡ (data_stage m (data_request (data_memory.view.size old) m) reply).flow
