-- The data stage: M goes to W, with the data memory's reply. Assumes nothing.
use Rattle.std.specs.Prelude.{ℕ, Some, None, Ok, Err, Option, Result}
use Rattle.base.specs.declared.bus.Request.{Request}
use Rattle.memory.specs.Meaning.{Reply}
use Rattle.memory.specs.declared.Answer.TheVariants.{Word}
use Rattle.memory.specs.declared.Unserved.TheVariants.{Wait}
use Rattle.rv32i.specs.Effects.{request, loaded}
use Rattle.rv32i.specs.declared.cause.Cause.{Cause}
use Rattle.clocking.specs.declared.latch.Executed.{Executed}
use Rattle.clocking.specs.declared.latch.Completed.{Completed}
use Rattle.clocking.specs.declared.latch.Latch.{Latch}
use Rattle.clocking.specs.declared.latch.Latch.TheVariants.{Empty, Faulting, Full}
use Rattle.clocking.specs.declared.stage.Flow.{Flow}
use Rattle.clocking.specs.declared.stage.Flow.TheVariants.{Moves, Stalls, RollsBack}

-- W after the stage, and the flow of M
pub record DataOut : Type 0 where
  pub w : Latch Completed
  pub flow : Flow

-- what M asks of a data memory of that size, or the cause that its address has
abbrev pub data_request : ℕ → Latch Executed → Result (Option Request) Cause
data_request size (Full e) = request size e.access e.result e.b
data_request size m = Ok None

abbrev pub complete : Executed → ℕ → Completed
complete e v = record {
  address = e.address;
  word = e.word;
  rd = e.rd;
  value = v;
  outcome = e.outcome;
}

abbrev pub completes_with : Executed → ℕ → DataOut
completes_with e v = record { w = Full (complete e v); flow = Moves }

-- by the memory's reply, none where nothing was asked; a request that is within is never Outside
abbrev pub take_reply : Executed → Option Reply → DataOut
take_reply e (Some (Ok (Word w))) = completes_with e (loaded e.access e.result w)
take_reply e (Some (Err Wait)) = record { w = Empty; flow = Stalls }
take_reply e r = completes_with e e.result

abbrev pub use_memory : Executed → Result (Option Request) Cause → Option Reply → DataOut
use_memory e (Err c) r = record {
  w = Faulting (record { address = e.address; cause = c });
  flow = RollsBack;
}
use_memory e (Ok q) r = take_reply e r

abbrev pub data_stage : Latch Executed → Result (Option Request) Cause → Option Reply → DataOut
data_stage Empty q r = record { w = Empty; flow = Moves }
data_stage (Faulting stop) q r = record { w = Faulting stop; flow = RollsBack }
data_stage (Full e) q r = use_memory e q r
