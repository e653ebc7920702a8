-- The fetch stage: the word at F goes to D, and F on to the guess. Assumes nothing.
use Rattle.std.specs.Prelude.{ℕ, Some, None, Ok, Err, Option, Result}
use Rattle.base.specs.declared.bus.Request.{Request}
use Rattle.base.specs.declared.bus.Request.TheVariants.{Read}
use Rattle.rv32i.specs.Effects.{following}
use Rattle.rv32i.specs.declared.cause.Cause.{Cause}
use Rattle.sequential.specs.Sequential.{and_then, fetchable}
use Rattle.clocking.specs.declared.latch.Fetched.{Fetched}
use Rattle.clocking.specs.declared.latch.Latch.{Latch}
use Rattle.clocking.specs.declared.latch.Latch.TheVariants.{Empty, Faulting, Full}
use Rattle.clocking.specs.declared.stage.Flow.{Flow}
use Rattle.clocking.specs.declared.stage.Flow.TheVariants.{Moves, Stalls, RollsBack}

-- F and D after the stage
pub record FetchOut : Type 0 where
  pub f : ℕ
  pub d : Latch Fetched

-- what is asked of an instruction memory of that size for f, or the cause of f, by the flow of D
abbrev pub fetch_request : ℕ → ℕ → Flow → Result (Option Request) Cause
fetch_request size f Moves = and_then (fetchable size f) (λ _. Ok (Some (Read f)))
fetch_request size f flow = Ok None

abbrev pub resume_at : ℕ → Option ℕ → ℕ
resume_at f None = f
resume_at f (Some n) = n

-- what arrives is put into D, and F is its guess
abbrev pub fill_d : ℕ → Option Fetched → FetchOut
fill_d f None = record { f = f; d = Empty }
fill_d f (Some x) = record { f = x.guess; d = Full x }

abbrev pub fetches_on : ℕ → Result (Option Request) Cause → Option Fetched → FetchOut
fetches_on f (Err c) x = record {
  f = following f;
  d = Faulting (record { address = f; cause = c });
}
fetches_on f (Ok None) x = record { f = f; d = Empty }
fetches_on f (Ok (Some q)) x = fill_d f x

abbrev pub fetch_stage : ℕ → Latch Fetched → Flow → Result (Option Request) Cause → Option Fetched
    → Option ℕ → FetchOut
fetch_stage f d RollsBack asked x redirect = record { f = resume_at f redirect; d = Empty }
fetch_stage f d Stalls asked x redirect = record { f = f; d = d }
fetch_stage f d Moves asked x redirect = fetches_on f asked x
