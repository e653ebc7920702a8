-- What a clock counts, and what it notes. Assumes nothing.
use Rattle.std.specs.Prelude.{◌≡◌, ℕ, ◌+◌, ◌%◌, ◌^◌, Bool, true, false, is_some, Some, None, Ok, Err, Option, Result}
use Rattle.base.specs.declared.bus.Request.{Request}
use Rattle.memory.specs.Meaning.{Reply}
use Rattle.memory.specs.declared.Unserved.TheVariants.{Wait}
use Rattle.rv32i.specs.declared.cause.Cause.{Cause}
use Rattle.clocking.specs.declared.counts.Counts.{Counts}
use Rattle.clocking.specs.declared.latch.Fetched.{Fetched}
use Rattle.clocking.specs.declared.latch.Latch.{Latch}
use Rattle.clocking.specs.declared.latch.Latch.TheVariants.{Empty}
use Rattle.clocking.specs.declared.latch.Latches.{Latches}
use Rattle.clocking.specs.declared.stage.Flow.{Flow}
use Rattle.clocking.specs.declared.stage.Flow.TheVariants.{Moves, Stalls, RollsBack}

-- how many instructions a latch holds
abbrev pub occupancy : {T : Type 0} → Latch T → ℕ
occupancy Empty = 0
occupancy l = 1

-- how many are in flight
abbrev pub in_flight_count : Latches → ℕ
in_flight_count k = occupancy k.d + occupancy k.x + occupancy k.m + occupancy k.w

-- whether an instruction is put into D
abbrev pub has_fetched : Result (Option Request) Cause → Option Fetched → Bool
has_fetched (Err c) x = true
has_fetched (Ok None) x = false
has_fetched (Ok (Some q)) x = is_some x

abbrev pub if_rolled : Flow → ℕ → ℕ
if_rolled RollsBack n = n
if_rolled flow n = 0

-- how many are dropped: a rollback from data drops X, and any rollback D
abbrev pub dropped_count : Latches → Flow → Flow → ℕ
dropped_count k by-data by-execute =
    if_rolled by-data (occupancy k.x) + if_rolled by-execute (occupancy k.d)

abbrev pub one_if : Bool → ℕ
one_if true = 1
one_if false = 0

-- d is c after a clock
pub record Counted (c : Counts) (fetches retires : Bool) (gone : ℕ) (d : Counts) : Type 0 where
  pub clock_count : d.clocks ≡ c.clocks + 1
  pub fetched_count : d.fetched ≡ c.fetched + one_if fetches
  pub retired_count : d.retired ≡ c.retired + one_if retires
  pub dropped_count : d.dropped ≡ (c.dropped + gone) % 2 ^ 32

abbrev pub stalls : Flow → Bool
stalls Stalls = true
stalls flow = false

abbrev pub moves : Flow → Bool
moves Moves = true
moves flow = false

abbrev pub rolls_back : Flow → Bool
rolls_back RollsBack = true
rolls_back flow = false

abbrev pub is_wait : Option Reply → Bool
is_wait (Some (Err Wait)) = true
is_wait r = false
