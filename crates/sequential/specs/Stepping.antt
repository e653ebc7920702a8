-- What a call of step or run does to a machine, which may have stopped. Assumes nothing.
use Rattle.std.specs.Prelude.{◌≡◌, ℕ, Some, None, Ok, Err, Option, Result}
use Rattle.base.specs.Logs.{records, room}
use Rattle.base.specs.Refusals.{Answers}
use Rattle.base.specs.declared.log.Log.{Log}
use Rattle.memory.specs.Meaning.{View}
use Rattle.base.specs.declared.bus.Request.{Request}
use Rattle.memory.specs.Meaning.{Reply}
use Rattle.memory.specs.declared.Answer.TheVariants.{Word}
use Rattle.rv32i.specs.Causes.{cause_number, Gives}
use Rattle.rv32i.specs.Effects.{loaded}
use Rattle.rv32i.specs.declared.cause.Cause.{Cause}
use Rattle.rv32i.specs.declared.cause.Cause.TheVariants.{InstructionAccessFault}
use Rattle.rv32i.specs.declared.effect.Access.{Access}
use Rattle.sequential.specs.Runs.{RunsTo}
use Rattle.sequential.specs.Sequential.{State, World, Step, Transfer, transfer_of, step}
use Rattle.sequential.specs.declared.machine.Machine.{Machine}
use Rattle.sequential.specs.declared.record.Retired.{Retired}
use Rattle.sequential.specs.declared.record.Retirement.{Retirement}
use Rattle.sequential.specs.declared.record.Stop.{Stop}

-- the words and the size that the two memories mean
module _ {I D : Type 0} (instructions : View I) (data_memory : View D) where
  abbrev pub world_of : Machine I D → World
  world_of m = record {
    instructions_size = instructions.size m.instructions;
    instructions = instructions.byte m.instructions;
    data_size = data_memory.size m.data_memory;
  }

module _ {I D : Type 0} (data_memory : View D) where
  abbrev pub state_of : Machine I D → State
  state_of m = record { address = m.address; registers = m.registers; data_memory = data_memory.byte m.data_memory }

-- the word that a fetch was answered
abbrev pub fetched_word : Reply → Result ℕ Cause
fetched_word (Ok (Word w)) = Ok w
fetched_word r = Err InstructionAccessFault

-- the value of an instruction with the result x, once the data memory has replied
abbrev pub value_by_reply : Option Access → ℕ → Reply → ℕ
value_by_reply how x (Ok (Word w)) = loaded how x w
value_by_reply how x r = x

-- the answer r of a transfer, and the data memory n after it: a cause leaves the bytes as they were
abbrev pub ComesTo : {D : Type 0} → View D → D → Result Transfer Cause → Result ℕ Cause → D → Type 0
ComesTo v m (Ok t) r n = Gives (Ok t.value) r × (v.byte n ≡ t.data_memory)
ComesTo v m (Err c) r n = Gives (Err c) r × (v.byte n ≡ v.byte m)

abbrev pub Transferred : {D : Type 0} → View D → D → Result (Option Request) Cause → Option Access → ℕ → Result ℕ Cause → D → Type 0
Transferred v m q how x r n = ComesTo v m (transfer_of (v.byte m) how x q) r n × (v.size n ≡ v.size m)

-- by what the step comes to: the answer, and the state after it
abbrev pub Advances : State → Result Step Cause → Result Retirement Cause → State → Type 0
Advances s (Ok p) r t = Gives (Ok p.retirement) r × (t ≡ p.after)
Advances s (Err c) r t = Gives (Err c) r × (t ≡ s)

-- What an answer of step says: the retirements that may come with it, and the numbers and the addresses of the stops.
abbrev pub StopSays : (Retirement → Type 0) → (ℕ → ℕ → Type 0) → Result Retirement Stop → Type 0
StopSays retires stops = Answers (λ stop. cause_number stop.cause) retires (λ n stop. stops n stop.address)

abbrev pub Retires : Retirement → Result Retirement Stop → Type 0
Retires x = StopSays (λ y. y ≡ x) (λ _ _. ⊥)

abbrev pub Stops : Stop → Result Retirement Stop → Type 0
Stops stop = StopSays (λ _. ⊥) (λ n a. (n ≡ cause_number stop.cause) × (a ≡ stop.address))

-- the stop of a machine in that state, with that cause
abbrev pub stop_at : State → Cause → Stop
stop_at s c = record { address = s.address; cause = c }

-- by what the step comes to: the answer, the state after it, and whether the machine has now stopped
abbrev pub Comes : State → Result Step Cause → Result Retirement Stop → State → Option Stop → Type 0
Comes s (Ok p) r t o = Retires p.retirement r × (t ≡ p.after) × (o ≡ None)
Comes s (Err c) r t o = Stops (stop_at s c) r × (t ≡ s) × (o ≡ Some (stop_at s c))

-- a machine that has stopped stays as it is
abbrev pub Stepped : World → State → Option Stop → Result Retirement Stop → State → Option Stop → Type 0
Stepped world s (Some stop) r t o = Stops stop r × (t ≡ s) × (o ≡ Some stop)
Stepped world s None r t o = Comes s (step world s) r t o

-- what a call does to a machine over memories of which this can be seen
module _ {I D : Type 0} (instructions : View I) (data_memory : View D) where
  abbrev pub AdvancesFrom : Machine I D → Result Retirement Cause → Machine I D → Type 0
  AdvancesFrom m r n =
      Advances (state_of data_memory m) (step (world_of instructions data_memory m) (state_of data_memory m)) r
      (state_of data_memory n)

  abbrev pub StepsFrom : Machine I D → Result Retirement Stop → Machine I D → Type 0
  StepsFrom m r n =
      Stepped (world_of instructions data_memory m) (state_of data_memory m) m.stopped r (state_of data_memory n)
      n.stopped

  abbrev pub SameWorld : Machine I D → Machine I D → Type 0
  SameWorld m n = world_of instructions data_memory n ≡ world_of instructions data_memory m

  abbrev pub RunsFrom : Machine I D → Log Retired → Option Stop → Machine I D → Log Retired → Type 0
  RunsFrom m before r n after =
      RunsTo (world_of instructions data_memory m) m.stopped (state_of data_memory m) (room before) (records before) r
      (state_of data_memory n) (records after)
