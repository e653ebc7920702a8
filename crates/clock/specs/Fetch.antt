-- The fetch stage with its memory. Assumes nothing.
use Rattle.std.specs.Prelude.{◌≡◌, ℕ, Option}
use Rattle.memory.specs.Meaning.{Meaning, Reply}
use Rattle.clocking.specs.Counting.{has_fetched, is_wait}
use Rattle.clocking.specs.Ports.{TableOf, Asked, arrival, bus_request}
use Rattle.clocking.specs.Fetch.{FetchOut, fetch_request, fetch_stage}
use Rattle.clocking.specs.declared.latch.Fetched.{Fetched}
use Rattle.clocking.specs.declared.latch.Latch.{Latch}
use Rattle.clocking.specs.declared.stage.Flow.{Flow}
use Rattle.clock.specs.declared.fetch.Fetching.{Fetching}

-- the fetch stage at f with d in D takes the memory from old to new, and went is F and D then
pub record FetchDone {P I : Type 0} (table : TableOf P) (instructions : Meaning I) (p : P) (f : ℕ)
    (d : Latch Fetched) (flow : Flow) (redirect : Option ℕ) (old new : I) (went : FetchOut)
    (did : Fetching) : Type 0 where
  pub answer : Option Reply
  pub asked : Asked instructions old (bus_request (fetch_request (instructions.view.size old) f flow)) answer new
  pub goes : went ≡ fetch_stage f d flow (fetch_request (instructions.view.size old) f flow)
      (arrival table p f answer) redirect
  pub fetched : did.fetched ≡ has_fetched (fetch_request (instructions.view.size old) f flow)
      (arrival table p f answer)
  pub waits : did.waits ≡ is_wait answer
