-- The main statement: what holds of a machine after any calls on it. Assumes nothing.
use Rattle.std.specs.Prelude.{◌≡◌, ℕ, ◌+◌, Bool, List, [], ◌∷◌, ◌++◌, length, Result}
use Rattle.base.specs.declared.refusal.Refusal.{Refusal}
use Rattle.memory.specs.Meaning.{Meaning}
use Rattle.clocking.specs.Agreement.{Agreement}
use Rattle.clocking.specs.Ports.{TableOf}
use Rattle.clocking.specs.declared.state.ClockRecord.{ClockRecord}
use Rattle.clocking.specs.declared.state.Event.{Event}
use Rattle.pipeline.specs.Calls.{Logs, retired_entries, clock_entries, ClockCall, RunCall, RunHeardCall, HoldCall, ReleaseCall}
use Rattle.pipeline.specs.Pauses.{PauseCall}
use Rattle.pipeline.specs.declared.machine.Machine.{Machine}
use Rattle.pipeline.specs.declared.machine.Rejected.{Rejected}
use Rattle.pipeline.specs.declared.machine.RetiredAt.{RetiredAt}
use Rattle.pipeline.specs.declared.machine.Run.{Run}
use Rattle.pipeline.specs.declared.token.HoldToken.{HoldToken}

-- ---- what calls put into the callers' logs, in order, and what listeners heard among it

pub record Entries : Type 0 where
  pub retired : List RetiredAt
  pub clocks : List ClockRecord

abbrev pub no_entries : Entries
no_entries = record { retired = []; clocks = [] }

abbrev pub followed_by : Entries → Entries → Entries
followed_by put more = record {
  retired = put.retired ++ more.retired;
  clocks = put.clocks ++ more.clocks;
}

-- what the clocks of a history put in
abbrev pub entries_of : List Event → Entries
entries_of h = record { retired = retired_entries h; clocks = clock_entries h }

-- what the logs hold after a call beyond what they held before it
pub record Added (before after : Logs) (added : Entries) : Type 0 where
  pub retired : after.retired.records ≡ before.retired.records ++ added.retired
  pub clocks : after.clocks.records ≡ before.clocks.records ++ added.clocks

-- ---- the calls

-- A machine is reached from first by calls, each accepted or refused, that made the clocks of a
-- history and put entries into the logs that they were given: one case for each call that can alter
-- a machine, by the relation that the call ensures, and one for all readings. A run that a listener
-- hears may be given no logs: its entries are those of the events that the listener heard.
pub data Calls {P I D : Type 0}
    (table : TableOf P) (instructions : Meaning I) (data_memory : Meaning D) (first : Machine P I D)
    : List Event → Entries → Machine P I D → Type 0 where
  none : Calls table instructions data_memory first [] no_entries first
  clock : {h : List Event} {put : Entries} {m : Machine P I D} (before after : Logs)
      (answer : Result (Unit {0}) Refusal) (made : List Event) (added : Entries) (n : Machine P I D)
      → Calls table instructions data_memory first h put m
      → ClockCall table instructions data_memory before m answer made after n
      → Added before after added
      → Calls table instructions data_memory first (h ++ made) (followed_by put added) n
  run : {h : List Event} {put : Entries} {m : Machine P I D} (before after : Logs)
      (count : ℕ) (answer : Run) (made : List Event) (added : Entries) (n : Machine P I D)
      → Calls table instructions data_memory first h put m
      → RunCall table instructions data_memory before m count answer made after n
      → Added before after added
      → Calls table instructions data_memory first (h ++ made) (followed_by put added) n
  run_heard : {h : List Event} {put : Entries} {m : Machine P I D} (full : Bool)
      (count : ℕ) (answer : Run) (made : List Event) (n : Machine P I D)
      → Calls table instructions data_memory first h put m
      → RunHeardCall table instructions data_memory full m count answer made n
      → Calls table instructions data_memory first (h ++ made) (followed_by put (entries_of made)) n
  hold : {h : List Event} {put : Entries} {m : Machine P I D}
      (answer : Result HoldToken Refusal) (n : Machine P I D)
      → Calls table instructions data_memory first h put m
      → HoldCall m answer n
      → Calls table instructions data_memory first h put n
  release : {h : List Event} {put : Entries} {m : Machine P I D}
      (token : HoldToken) (answer : Result (Unit {0}) Rejected) (n : Machine P I D)
      → Calls table instructions data_memory first h put m
      → ReleaseCall m token answer n
      → Calls table instructions data_memory first h put n
  pause : {h : List Event} {put : Entries} {m : Machine P I D}
      (answer : Result (Unit {0}) Refusal) (n : Machine P I D)
      → Calls table instructions data_memory first h put m
      → PauseCall m answer n
      → Calls table instructions data_memory first h put n
  reading : {h : List Event} {put : Entries} {m : Machine P I D}
      → Calls table instructions data_memory first h put m
      → Calls table instructions data_memory first h put m

-- ---- the statement

-- the entries are those of the history's clocks, in order, and these are numbered from 1
pub record Recorded (h : List Event) (put : Entries) : Type 0 where
  pub entries : put ≡ entries_of h
  pub numbered : (a : List Event) (e : Event) (b : List Event)
      → h ≡ a ++ e ∷ b
      → e.clock.clock ≡ length a + 1

-- After any calls a machine agrees with the sequential machine that starts as first does, on the
-- words and bytes that its two memories mean, and the logs have the records of the history.
abbrev pub Agrees : {P I D : Type 0} → TableOf P → Meaning I → Meaning D → Machine P I D → Type 0
Agrees {P} {I} {D} table instructions data_memory first =
    (h : List Event) (put : Entries) (m : Machine P I D)
    → Calls table instructions data_memory first h put m
    → Agreement table instructions data_memory first.core h m.core × Recorded h put
