-- A run up to a number of clocks, however many calls it takes. Assumes nothing.
use Rattle.std.specs.Prelude.{◌≡◌, ℕ, ◌≤◌, true, ◌⊎◌, List}
use Rattle.memory.specs.Meaning.{Meaning}
use Rattle.clocking.specs.Ports.{TableOf}
use Rattle.clocking.specs.declared.state.Event.{Event}
use Rattle.pipeline.specs.Calls.{retired_entries, is_stopped}
use Rattle.pipeline.specs.Theorem.{Entries, Calls}
use Rattle.pipeline.specs.declared.machine.Machine.{Machine}
use Rattle.longrun.specs.Gaps.{gaps_after}
use Rattle.longrun.specs.declared.gaps.Gaps.{Gaps}

module _ {P I D : Type 0} (table : TableOf P) (instructions : Meaning I) (data_memory : Meaning D) where
  -- from m and the gaps g, calls that made the clocks of a history come to n and the gaps k
  pub record Reached (m : Machine P I D) (g : Gaps) (n : Machine P I D) (k : Gaps) : Type 0 where
    pub history : List Event
    pub put : Entries
    pub calls : Calls table instructions data_memory m history put n
    pub gaps : k ≡ gaps_after g (retired_entries history)

  -- the clocks of n have reached the limit and not passed it, if those of m had not, or n is held or has stopped
  pub record RanTo (limit : ℕ) (m : Machine P I D) (g : Gaps) (n : Machine P I D) (k : Gaps) : Type 0 where
    pub reached : Reached m g n k
    pub within : m.core.counts.clocks ≤ limit → n.core.counts.clocks ≤ limit
    pub ended : ((n.held ≡ true) ⊎ (is_stopped n ≡ true)) ⊎ (limit ≤ n.core.counts.clocks)
    pub same_held : n.held ≡ m.held
