-- What the fetch stage does, by what D does and by F. Assumes nothing.
use Rattle.std.proofs.Common.{◌≡◌, ℕ, true, false, Some, None, Ok, Err, Option, Result, sym, ap, ◌∙◌}
use Rattle.std.specs.Prelude.{is_some}
use Rattle.base.specs.declared.bus.Request.{Request}
use Rattle.base.specs.declared.bus.Request.TheVariants.{Read}
use Rattle.memory.specs.Meaning.{Meaning, Reply}
use Rattle.rv32i.specs.Causes.{Gives}
use Rattle.rv32i.specs.Effects.{following}
use Rattle.rv32i.specs.declared.cause.Cause.{Cause}
use Rattle.rv32i.proofs.Given.{given}
use Rattle.clocking.specs.Counting.{is_wait}
use Rattle.clocking.specs.Ports.{TableOf, arrival}
use Rattle.clocking.specs.Fetch.{FetchOut, fetch_request, fill_d, fetch_stage}
use Rattle.clocking.specs.declared.latch.Fetched.{Fetched}
use Rattle.clocking.specs.declared.latch.Latch.{Latch}
use Rattle.clocking.specs.declared.latch.Latch.TheVariants.{Faulting}
use Rattle.clocking.specs.declared.stage.Flow.{Flow}
use Rattle.clocking.specs.declared.stage.Flow.TheVariants.{Moves}
use Rattle.sequential.specs.Sequential.{and_then, fetchable}
use Rattle.clock.specs.Fetch.{FetchDone}
use Rattle.clock.specs.declared.fetch.Fetching.{Fetching}

same_out : (o q : FetchOut) → o.f ≡ q.f → o.d ≡ q.d → o ≡ q
same_out o q a b =
    let at_f : ℕ → FetchOut = λ x. record { f = x; d = o.d } in
    let at_d : Latch Fetched → FetchOut = λ y. record { f = q.f; d = y } in
    ap at_f a ∙ ap at_d b

module _ {P I : Type 0} (table : TableOf P) (instructions : Meaning I) (p : P) (f : ℕ) (d : Latch Fetched) (redirect : Option ℕ) (old new : I) (went : FetchOut) (did : Fetching) where
  -- D does not move
  pub fetch_passes : (flow : Flow) → fetch_request (instructions.view.size old) f flow ≡ Ok None → instructions.idles old new
      → went ≡ fetch_stage f d flow (Ok None) None redirect → did.fetched ≡ false → did.waits ≡ false
      → FetchDone table instructions p f d flow redirect old new went did
  fetch_passes flow e i w h k = record { answer = None; asked = rw e i; goes = rw e w; fetched = rw e h; waits = k }

  fetching_by : (r : Result Unit Cause) → Gives (fetchable (instructions.view.size old) f) r → fetch_request (instructions.view.size old) f Moves ≡ and_then r (λ _. Ok (Some (Read f)))
  fetching_by r h = let asks : Result Unit Cause → Result (Option Request) Cause = λ x. and_then x (λ _. Ok (Some (Read f))) in ap asks (sym (given _ _ h))

  -- F has a cause
  pub fetch_faults : (c : Cause) → Gives (fetchable (instructions.view.size old) f) (Err c) → instructions.idles old new
      → went ≡ record { f = following f; d = Faulting (record { address = f; cause = c }) }
      → did.fetched ≡ true → did.waits ≡ false
      → FetchDone table instructions p f d Moves redirect old new went did
  fetch_faults c h i w k z =
      let e = fetching_by (Err c) h in
      record { answer = None; asked = rw e i; goes = rw e w; fetched = rw e k; waits = z }

  -- the word at F is asked for
  pub fetch_asked : (r : Reply) → Gives (fetchable (instructions.view.size old) f) (Ok tt) → instructions.serves old (Read f) r new
      → went.f ≡ (fill_d f (arrival table p f (Some r))).f → went.d ≡ (fill_d f (arrival table p f (Some r))).d
      → did.fetched ≡ is_some (arrival table p f (Some r)) → did.waits ≡ is_wait (Some r)
      → FetchDone table instructions p f d Moves redirect old new went did
  fetch_asked r h s a b k z =
      let e = fetching_by (Ok tt) h in
      record { answer = Some r; asked = rw e s; goes = rw e (same_out went (fill_d f (arrival table p f (Some r))) a b); fetched = rw e k; waits = z }
