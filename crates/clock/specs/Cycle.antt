-- One clock of a core, as a call, and its decode stage. Assumes nothing.
use Rattle.std.specs.Prelude.{◌≡◌, ◌<◌, Bool, true, false, ◌⊎◌, is_some, None}
use Rattle.memory.specs.Meaning.{Meaning}
use Rattle.rv32i.specs.declared.registers.Registers.{Registers}
use Rattle.clocking.specs.Clock.{Cycled}
use Rattle.clocking.specs.Laws.{ClockLaws}
use Rattle.clocking.specs.Ports.{TableOf}
use Rattle.clocking.specs.Execute.{x_result}
use Rattle.clocking.specs.Decode.{DecodeOut, decode_stage, values_in_flight}
use Rattle.clocking.specs.declared.latch.Completed.{Completed}
use Rattle.clocking.specs.declared.latch.Decoded.{Decoded}
use Rattle.clocking.specs.declared.latch.Executed.{Executed}
use Rattle.clocking.specs.declared.latch.Latch.{Latch}
use Rattle.clocking.specs.declared.latch.Latches.{Latches}
use Rattle.clocking.specs.declared.stage.Flow.{Flow}
use Rattle.clocking.specs.declared.state.Core.{Core}
use Rattle.clocking.specs.declared.state.Event.{Event}

-- the decode stage once W and M are filled: m and w are what they held before, and the flows are
-- those of M and X
abbrev pub decode_after : Flow → Flow → Latch Executed → Latch Completed → Registers → Latches
    → DecodeOut
decode_after by-data by-execute m w g k =
    decode_stage (values_in_flight (x_result by-data k.m) m k.w w g) k.x k.d by-execute

-- the latches with X filled
abbrev pub with_x : Latches → Latch Decoded → Latches
with_x k x = record k { x = x }

module _ {P I D L : Type 0} (table : TableOf P) (instructions : Meaning I) (data_memory : Meaning D) (heard : L → Event → L → Type 0) (full : L → Bool) where
  -- a clock was made: it is the one that the rule has, keeps the laws, and is heard by a listener
  -- that is not full
  pub record Made (m : Core P I D) (before : L) (n : Core P I D) (after : L) : Type 0 where
    pub not_stopped : m.stopped ≡ None
    pub not_spent : m.counts.clocks < 4294967295
    pub event : Event
    pub cycled : Cycled table instructions data_memory m event n
    pub laws : ClockLaws table instructions data_memory m event n
    pub hears : full before ≡ false → heard before event after

  -- none was: the core has stopped or has made all its clocks, and nothing is altered
  pub record NotMade (m : Core P I D) (before : L) (n : Core P I D) (after : L) : Type 0 where
    pub why : (is_some m.stopped ≡ true) ⊎ (m.counts.clocks ≡ 4294967295)
    pub same_core : n ≡ m
    pub same_listener : after ≡ before

  -- a call that may make a clock, and whether it did
  abbrev pub CycleHeard : Core P I D → L → Bool → Core P I D → L → Type 0
  CycleHeard m before true n after = Made m before n after
  CycleHeard m before false n after = NotMade m before n after
