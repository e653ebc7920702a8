-- What the calls' contracts say of the two logs. Assumes nothing.
use Rattle.std.specs.Prelude.{◌≡◌, Bool, List, Result}
use Rattle.base.specs.Logs.{records, spare, room, slots_of}
use Rattle.base.specs.Refusals.{Says}
use Rattle.base.specs.declared.refusal.Refusal.{Refusal}
use Rattle.clocking.specs.declared.state.Event.{Event}
use Rattle.pipeline.specs.Calls.{Logs, with_events, refusal_at}
use Rattle.pipeline.specs.declared.journal.Journal.{Journal}
use Rattle.pipeline.specs.declared.machine.Machine.{Machine}

-- the slots of the two logs of a journal
abbrev pub logs : Journal → Logs
logs j = record {
  retired = record { records = records j.retirements; spare = spare j.retirements };
  clocks = record { records = records j.clocks; spare = spare j.clocks };
}

-- the logs keep their slots
pub record SameSlots (j k : Journal) : Type 0 where
  pub retired_room : room k.retirements ≡ room j.retirements
  pub clock_room : room k.clocks ≡ room j.clocks
  pub retired_lent : slots_of k.retirements ≡ slots_of j.retirements
  pub clock_lent : slots_of k.clocks ≡ slots_of j.clocks

-- k has these events beyond those of j
pub record Adds (j : Journal) (es : List Event) (k : Journal) : Type 0 where
  pub added : logs k ≡ with_events (logs j) es
  pub slots : SameSlots j k

-- what the test before a clock says
abbrev pub Tested : {P I D : Type 0} → Bool → Machine P I D → Result (Unit {0}) Refusal → Type 0
Tested full m = Says (λ _. refusal_at full m ≡ 0) (λ why. refusal_at full m ≡ why)
