-- How a run ends. Assumes nothing.
use Rattle.std.specs.Prelude.{◌≡◌, ℕ, ◌≤◌, true, ◌⊎◌}
use Rattle.pipeline.specs.Calls.{is_stopped}
use Rattle.pipeline.specs.declared.machine.Machine.{Machine}

-- it has made all the clocks that it may, or has stopped before
pub record Finished {P I D : Type 0} (limit : ℕ) (m : Machine P I D) : Type 0 where
  pub within : m.core.counts.clocks ≤ limit
  pub ended : (is_stopped m ≡ true) ⊎ (limit ≤ m.core.counts.clocks)
