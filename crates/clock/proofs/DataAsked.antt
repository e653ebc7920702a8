-- What the data stage does, by what M asks. Assumes nothing.
use Rattle.std.proofs.Common.{◌≡◌, Some, None, Ok, Err, sym}
use Rattle.base.specs.declared.bus.Request.{Request}
use Rattle.memory.specs.Meaning.{Meaning, Reply}
use Rattle.rv32i.specs.Causes.{Gives}
use Rattle.rv32i.specs.Effects.{request}
use Rattle.rv32i.specs.declared.cause.Cause.{Cause}
use Rattle.rv32i.proofs.Given.{given}
use Rattle.clocking.specs.Ports.{bus_request}
use Rattle.clocking.specs.Data.{data_request, data_stage, completes_with, take_reply}
use Rattle.clocking.specs.declared.latch.Completed.{Completed}
use Rattle.clocking.specs.declared.latch.Executed.{Executed}
use Rattle.clocking.specs.declared.latch.Latch.{Latch}
use Rattle.clocking.specs.declared.latch.Latch.TheVariants.{Faulting, Full}
use Rattle.clocking.specs.declared.stage.Flow.{Flow}
use Rattle.clocking.specs.declared.stage.Flow.TheVariants.{RollsBack}
use Rattle.clock.specs.Data.{DataDone}

module _ {D : Type 0} (data_memory : Meaning D) (old new : D) (w : Latch Completed) (flow : Flow) where
  -- M asks nothing
  pub data_idle : (m : Latch Executed) → bus_request (data_request (data_memory.view.size old) m) ≡ None → data_memory.idles old new
      → w ≡ (data_stage m (data_request (data_memory.view.size old) m) None).w
      → flow ≡ (data_stage m (data_request (data_memory.view.size old) m) None).flow
      → DataDone data_memory m old new w flow
  data_idle m e i p q = record { reply = None; asked = rw e i; fills = p; flows = q }

  -- M has a cause
  pub data_faults : (e : Executed) (c : Cause) → Gives (request (data_memory.view.size old) e.access e.result e.b) (Err c) → data_memory.idles old new
      → w ≡ Faulting (record { address = e.address; cause = c }) → flow ≡ RollsBack
      → DataDone data_memory (Full e) old new w flow
  data_faults e c h i p q =
      let z = sym (given _ _ h) in
      record { reply = None; asked = rw z i; fills = rw z p; flows = rw z q }

  -- M uses no memory
  pub data_free : (e : Executed) → Gives (request (data_memory.view.size old) e.access e.result e.b) (Ok None) → data_memory.idles old new
      → w ≡ (completes_with e e.result).w → flow ≡ (completes_with e e.result).flow
      → DataDone data_memory (Full e) old new w flow
  data_free e h i p q =
      let z = sym (given _ _ h) in
      record { reply = None; asked = rw z i; fills = rw z p; flows = rw z q }

  -- M asks
  pub data_asked : (e : Executed) (q : Request) (r : Reply) → Gives (request (data_memory.view.size old) e.access e.result e.b) (Ok (Some q)) → data_memory.serves old q r new
      → w ≡ (take_reply e (Some r)).w → flow ≡ (take_reply e (Some r)).flow
      → DataDone data_memory (Full e) old new w flow
  data_asked e q r h s p z =
      let k = sym (given _ _ h) in
      record { reply = Some r; asked = rw k s; fills = rw k p; flows = rw k z }
