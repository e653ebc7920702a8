-- The relation of each call between the machine before and after it, by the number of its answer. Assumes nothing.
use Rattle.std.specs.Prelude.{◌≡◌, ℕ, zero, ◌+◌, ◌<◌, Bool, true, false, if◌then◌else◌, ◌==◌, ◌&&◌, ◌||◌, ◌⊎◌, List, [], ◌∷◌, ◌++◌, length, drop, replicate, is_some, Some, None, Option, Result, ◌≢◌, nat_le}
use Rattle.base.specs.Bytes.{within}
use Rattle.base.specs.Refusals.{number, Answers, Says, reason}
use Rattle.base.specs.declared.refusal.Refusal.{Refusal}
use Rattle.base.specs.declared.refusal.Refusal.TheVariants.{Held, Stopped, LogFull, ClocksSpent, WrongToken}
use Rattle.memory.specs.Meaning.{Meaning}
use Rattle.sequential.specs.declared.record.Retirement.{Retirement}
use Rattle.clocking.specs.Clock.{Cycled}
use Rattle.clocking.specs.Laws.{ClockLaws}
use Rattle.clocking.specs.Ports.{TableOf}
use Rattle.clocking.specs.declared.state.ClockRecord.{ClockRecord}
use Rattle.clocking.specs.declared.state.Event.{Event}
use Rattle.clocking.specs.declared.latch.Latch.TheVariants.{Empty}
use Rattle.pipeline.specs.Tokens.{fresh}
use Rattle.pipeline.specs.declared.machine.Machine.{Machine}
use Rattle.pipeline.specs.declared.machine.Rejected.{Rejected}
use Rattle.pipeline.specs.declared.machine.RetiredAt.{RetiredAt}
use Rattle.pipeline.specs.declared.machine.Run.{Run}
use Rattle.pipeline.specs.declared.token.HoldToken.{HoldToken}

-- ---- load

-- a start that is a multiple of 4 inside an instruction memory of that size, and a serial of 16 bits
abbrev pub start_fits : ℕ → ℕ → Bool
start_fits size start = within size start

abbrev pub load_fits : ℕ → ℕ → ℕ → Bool
load_fits serial size start = nat_le serial 65535 && start_fits size start

-- a machine that has just been loaded: a bad serial or start counts as 0
pub record Loaded {P I D : Type 0}
    (size given start : ℕ) (p : P) (i : I) (d : D) (m : Machine P I D) : Type 0 where
  pub serial : m.serial ≡ (if nat_le given 65535 then given else 0)
  pub not_held : m.held ≡ false
  pub latches : m.core.latches ≡ record {
    f = if start_fits size start then start else 0;
    d = Empty;
    x = Empty;
    m = Empty;
    w = Empty;
  }
  pub registers : m.core.registers ≡ replicate 32 0
  pub not_stopped : m.core.stopped ≡ None
  pub no_clocks : m.core.counts.clocks ≡ 0
  pub none_fetched : m.core.counts.fetched ≡ 0
  pub none_retired : m.core.counts.retired ≡ 0
  pub none_dropped : m.core.counts.dropped ≡ 0
  pub predictor : m.core.predictor ≡ p
  pub instructions : m.core.instructions ≡ i
  pub data_memory : m.core.data_memory ≡ d

-- ---- the logs that clocks go to

-- the slots of a log: its records, in order, and what stands in the slots after them
pub record Slots (R : Type 0) : Type 0 where
  pub records : List R
  pub spare : List R

-- records that are added take the first of the spare slots, and the others stay as they are
abbrev pub with_records : {R : Type 0} → Slots R → List R → Slots R
with_records s added = record {
  records = s.records ++ added;
  spare = drop (length added) s.spare;
}

pub record Logs : Type 0 where
  pub retired : Slots RetiredAt
  pub clocks : Slots ClockRecord

-- logs over lent slots, of which none is filled yet
abbrev pub empty_logs : List RetiredAt → List ClockRecord → Logs
empty_logs retired_slots clock_slots = record {
  retired = record { records = []; spare = retired_slots };
  clocks = record { records = []; spare = clock_slots };
}

-- one of the two has no slot left
abbrev pub is_full : Logs → Bool
is_full l = (length l.retired.spare == 0) || (length l.clocks.spare == 0)

-- what an event adds to each
abbrev pub retired_at : ℕ → Option Retirement → List RetiredAt
retired_at clock None = []
retired_at clock (Some r) = record { clock = clock; retired = r.retired } ∷ []

abbrev pub retired_entries : List Event → List RetiredAt
retired_entries [] = []
retired_entries (e ∷ es) = retired_at e.clock.clock e.retirement ++ retired_entries es

abbrev pub clock_entries : List Event → List ClockRecord
clock_entries [] = []
clock_entries (e ∷ es) = e.clock ∷ clock_entries es

abbrev pub with_events : Logs → List Event → Logs
with_events l es = record {
  retired = with_records l.retired (retired_entries es);
  clocks = with_records l.clocks (clock_entries es);
}

-- ---- clock, between the logs before and after

abbrev pub is_stopped : {P I D : Type 0} → Machine P I D → Bool
is_stopped m = is_some m.core.stopped

-- with which number a clock is refused: that of the first test that says no, or 0; who hears it may
-- be full
abbrev pub refusal_at : {P I D : Type 0} → Bool → Machine P I D → ℕ
refusal_at full m =
    if m.held then number Held
    else (if is_stopped m then number Stopped
    else (if full then number LogFull
    else (if m.core.counts.clocks == 4294967295 then number ClocksSpent
    else 0)))

-- that of a clock into logs
abbrev pub refusal : {P I D : Type 0} → Logs → Machine P I D → ℕ
refusal l m = refusal_at (is_full l) m

module _ {P I D : Type 0} (table : TableOf P) (instructions : Meaning I) (data_memory : Meaning D) where
  -- an accepted clock of the machine: it is what the rule has, and keeps the laws
  pub record Ticked (m : Machine P I D) (e : Event) (n : Machine P I D) : Type 0 where
    pub same_serial : n.serial ≡ m.serial
    pub same_held : n.held ≡ m.held
    pub cycled : Cycled table instructions data_memory m.core e n.core
    pub laws : ClockLaws table instructions data_memory m.core e n.core

  abbrev pub OneClock : Machine P I D → List Event → Machine P I D → Type 0
  OneClock m es n = (e : Event) × (es ≡ e ∷ []) × Ticked m e n

  -- the clocks es that the call made, one or none, and the logs j and the machine n after it
  abbrev pub ClockCall : Logs → Machine P I D → Result (Unit {0}) Refusal
      → List Event → Logs → Machine P I D → Type 0
  ClockCall l m r es j n =
      Says
      (λ _. (refusal l m ≡ 0) × OneClock m es n × (j ≡ with_events l es))
      (λ why. (refusal l m ≡ why) × (es ≡ []) × (n ≡ m) × (j ≡ l))
      r

  abbrev pub ClockInto : Logs → Machine P I D → Result (Unit {0}) Refusal → Logs → Machine P I D → Type 0
  ClockInto l m r j n = (es : List Event) × ClockCall l m r es j n

-- ---- run

-- a number of accepted clocks in a row, where after some events who hears them may be full
pub data FreeClocks {P I D : Type 0}
    (table : TableOf P) (instructions : Meaning I) (data_memory : Meaning D) (full : List Event → Bool)
    (m : Machine P I D)
    : ℕ → List Event → Machine P I D → Type 0 where
  start : FreeClocks table instructions data_memory full m 0 [] m
  next : {k : ℕ} {es : List Event} {n : Machine P I D} (e : Event) (p : Machine P I D)
      → FreeClocks table instructions data_memory full m k es n
      → refusal_at (full es) n ≡ 0
      → Ticked table instructions data_memory n e p
      → FreeClocks table instructions data_memory full m (k + 1) (es ++ e ∷ []) p

-- those into logs
abbrev pub Clocks : {P I D : Type 0} → TableOf P → Meaning I → Meaning D → Logs → Machine P I D
    → ℕ → List Event → Machine P I D → Type 0
Clocks table instructions data_memory l =
    FreeClocks table instructions data_memory (λ es. is_full (with_events l es))

-- fewer than asked for, or none asked for
abbrev pub Short : ℕ → ℕ → Type 0
Short made n = (made < n) ⊎ ((made ≡ 0) × (n ≡ 0))

-- How a run of n ends, by the number of its reason, at the machine then reached; who hears it may then
-- be full.
-- 0: all were made, and where none were asked for, nothing refused the first test.
-- Any other: it is short, and just with this number the next clock would be refused.
abbrev pub EndedAt : {P I D : Type 0} → Bool → Machine P I D → ℕ → ℕ → ℕ → Type 0
EndedAt full p n made zero = (made ≡ n) × (n ≡ 0 → refusal_at full p ≡ 0)
EndedAt full p n made why = Short made n × (refusal_at full p ≡ why)

-- at logs
abbrev pub Ended : {P I D : Type 0} → Logs → Machine P I D → ℕ → ℕ → ℕ → Type 0
Ended j = EndedAt (is_full j)

module _ {P I D : Type 0} (table : TableOf P) (instructions : Meaning I) (data_memory : Meaning D) where
  -- the clocks es that the call made, and the logs j and the machine p after it
  abbrev pub RunCall : Logs → Machine P I D → ℕ → Run → List Event → Logs → Machine P I D → Type 0
  RunCall l m n r es j p =
      Clocks table instructions data_memory l m r.made es p
      × (j ≡ with_events l es)
      × Ended j p n r.made (reason r.why)

  abbrev pub RunInto : Logs → Machine P I D → ℕ → Run → Logs → Machine P I D → Type 0
  RunInto l m n r j p = (es : List Event) × RunCall l m n r es j p

-- ---- a run that a listener hears

module _ {P I D : Type 0} (table : TableOf P) (instructions : Meaning I) (data_memory : Meaning D) where
  -- the clocks es that the call made and the machine p after it; the listener may be full at its end,
  -- and was not before
  abbrev pub RunHeardCall : Bool → Machine P I D → ℕ → Run → List Event → Machine P I D → Type 0
  RunHeardCall full m n r es p =
      FreeClocks table instructions data_memory (λ _. false) m r.made es p
      × EndedAt full p n r.made (reason r.why)

module _ {L : Type 0} (heard : L → Event → L → Type 0) (full : L → Bool) where
  -- from before it hears these events, each once, in order, and is full before none of them
  pub data Heard (before : L) : List Event → L → Type 0 where
    silence : Heard before [] before
    one_more : {es : List Event} {l : L} (e : Event) (after : L)
        → Heard before es l
        → full l ≡ false
        → heard l e after
        → Heard before (es ++ e ∷ []) after

  -- the listener i and the machine p after the call: what i heard is what was made
  abbrev pub HeardRun : {P I D : Type 0} → TableOf P → Meaning I → Meaning D
      → L → Machine P I D → ℕ → Run → L → Machine P I D → Type 0
  HeardRun table instructions data_memory l m n r i p =
      (es : List Event) × RunHeardCall table instructions data_memory (full i) m n r es p × Heard l es i

-- ---- hold and release

abbrev pub with_held : {P I D : Type 0} → Machine P I D → Bool → Machine P I D
with_held m b = record m { held = b }

abbrev pub HoldCall : {P I D : Type 0}
    → Machine P I D → Result HoldToken Refusal → Machine P I D → Type 0
HoldCall m r n =
    Says
    (λ token. (m.held ≡ false) × (token ≡ fresh m.serial) × (n ≡ with_held m true))
    (λ why. (why ≡ number Held) × (m.held ≡ true) × (n ≡ m))
    r

abbrev pub IsUnfit : {P I D : Type 0} → Machine P I D → HoldToken → Type 0
IsUnfit m token = (m.held ≡ false) ⊎ (token.serial ≢ m.serial)

-- a token that is refused comes back
abbrev pub ReleaseCall : {P I D : Type 0}
    → Machine P I D → HoldToken → Result (Unit {0}) Rejected → Machine P I D → Type 0
ReleaseCall m token r n =
    Answers
    (λ e. number e.why)
    (λ _. (m.held ≡ true) × (token.serial ≡ m.serial) × (n ≡ with_held m false))
    (λ why e. (why ≡ number WrongToken) × IsUnfit m token × (e.token ≡ token) × (n ≡ m))
    r
