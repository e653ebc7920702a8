-- How a pipeline agrees with the sequential machine after a history of clocks. Assumes nothing.
use Rattle.std.specs.Prelude.{◌≡◌, ℕ, ◌+◌, ◌<◌, ◌≤◌, Bool, true, ◌||◌, List, [], ◌∷◌, ◌++◌, length, is_some, Some, None, Ok, Err, Option}
use Rattle.base.specs.declared.branch.Outcome.{Outcome}
use Rattle.memory.specs.Meaning.{Meaning}
use Rattle.sequential.specs.Runs.{Steps}
use Rattle.sequential.specs.Sequential.{State, World, Step, step}
use Rattle.sequential.specs.declared.record.Retirement.{Retirement}
use Rattle.sequential.specs.declared.record.Stop.{Stop}
use Rattle.clocking.specs.Counting.{in_flight_count}
use Rattle.clocking.specs.Ports.{TableOf}
use Rattle.clocking.specs.declared.state.Core.{Core}
use Rattle.clocking.specs.declared.state.Event.{Event}
use Rattle.clocking.specs.declared.latch.Completed.{Completed}
use Rattle.clocking.specs.declared.latch.Latch.{Latch}
use Rattle.clocking.specs.declared.latch.Latch.TheVariants.{Full}

-- ---- what a history says: the clocks made, in order

abbrev pub list_of : {R : Type 0} → Option R → List R
list_of None = []
list_of (Some r) = r ∷ []

-- the retired list
abbrev pub retirements : List Event → List Retirement
retirements [] = []
retirements (e ∷ h) = list_of e.retirement ++ retirements h

-- the outcomes of the retired branches
abbrev pub outcomes : List Retirement → List Outcome
outcomes [] = []
outcomes (r ∷ rs) = list_of r.outcome ++ outcomes rs

abbrev pub retires : Event → Bool
retires e = is_some e.retirement

-- a clock with a retirement or the stop
abbrev pub productive : Event → Bool
productive e = retires e || e.clock.notes.stop

-- if n clocks or more were made, one of the first n has a retirement or the stop
abbrev pub Soon : ℕ → List Event → Type 0
Soon n h =
    n ≤ length h
    → (a : List Event) × (e : Event) × (b : List Event)
    × (h ≡ a ++ e ∷ b) × (length a < n) × (productive e ≡ true)

-- ---- the sequential machine that a pipeline is held to

module _ {P I D : Type 0} (instructions : Meaning I) (data_memory : Meaning D) where
  -- the words that the instruction memory means, and the size of the data memory
  abbrev pub world_of : Core P I D → World
  world_of m = record {
    instructions_size = instructions.view.size m.instructions;
    instructions = instructions.view.byte m.instructions;
    data_size = data_memory.view.size m.data_memory;
  }

  -- the address to fetch, the registers, and the bytes that the data memory means
  abbrev pub state_of : Core P I D → State
  state_of m = record {
    address = m.latches.f;
    registers = m.registers;
    data_memory = data_memory.view.byte m.data_memory;
  }

-- where the pipeline has stopped, the sequential machine stops at s with the same cause and address
abbrev pub StopAgrees : World → State → Option Stop → Type 0
StopAgrees world s None = Unit {0}
StopAgrees world s (Some stop) = (stop.address ≡ s.address) × (step world s ≡ Err stop.cause)

-- the data bytes are those of s, once an instruction in W that does not fault is done too
abbrev pub BytesAgree : World → State → Latch Completed → (ℕ → ℕ) → Type 0
BytesAgree world s (Full c) bytes = (p : Step) × (step world s ≡ Ok p) × (bytes ≡ p.after.data_memory)
BytesAgree world s w bytes = bytes ≡ s.data_memory

abbrev pub stopped_count : Option Stop → ℕ
stopped_count None = 0
stopped_count (Some stop) = 1

-- ---- the agreement of m, which a history h led to, with first, which has just been loaded

module _ {P I D : Type 0} (table : TableOf P) (instructions : Meaning I) (data_memory : Meaning D) where
  -- the longest waits that the two memories state
  abbrev pub longest_waits : Core P I D → ℕ
  longest_waits first =
      instructions.view.longest first.instructions + data_memory.view.longest first.data_memory

  abbrev pub first_world : Core P I D → World
  first_world first = world_of instructions data_memory first

  abbrev pub first_state : Core P I D → State
  first_state first = state_of instructions data_memory first

  -- (a) what retired, the registers, the stop and the data bytes are the sequential machine's
  pub record Sequentially (first : Core P I D) (h : List Event) (m : Core P I D) : Type 0 where
    pub reached : State
    pub steps : Steps (first_world first) (first_state first) (retirements h) reached
    pub registers : m.registers ≡ reached.registers
    pub stops : StopAgrees (first_world first) reached m.stopped
    pub bytes : BytesAgree (first_world first) reached m.latches.w (data_memory.view.byte m.data_memory)

  -- (b) no wait is longer than the memories' longest allow
  pub record InTime (first : Core P I D) (h : List Event) : Type 0 where
    pub first_soon : Soon (longest_waits first + 5) h
    pub next_soon : (a : List Event) (e : Event) (b : List Event)
        → h ≡ a ++ e ∷ b
        → retires e ≡ true
        → Soon (longest_waits first + 3) b

  -- (c) the predictor was taught the retired branches alone, in order, and the counts balance
  pub record Accounted (first : Core P I D) (h : List Event) (m : Core P I D) : Type 0 where
    pub taught : table m.predictor
        ≡ (λ later. table first.predictor (outcomes (retirements h) ++ later))
    pub balanced : m.counts.fetched
        ≡ m.counts.retired + m.counts.dropped + in_flight_count m.latches
        + stopped_count m.stopped
    pub retired_count : m.counts.retired ≡ length (retirements h)
    pub clock_count : m.counts.clocks ≡ length h

  pub record Agreement (first : Core P I D) (h : List Event) (m : Core P I D) : Type 0 where
    pub sequentially : Sequentially first h m
    pub in_time : InTime first h
    pub accounted : Accounted first h m
