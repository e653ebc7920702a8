-- The step of the sequential machine at a state, cut into the stages, in the terms of the latches. Assumes nothing.
use Rattle.std.proofs.Common.{◌≡◌, ℕ, Ok, Err, Option, Result, refl, ap, ◌∙◌}
use Rattle.base.specs.declared.bus.Request.{Request}
use Rattle.rv32i.specs.Effects.{destination, executed, access, request}
use Rattle.rv32i_words.specs.Issues.{issued}
use Rattle.rv32i.specs.Registers.{written}
use Rattle.rv32i.specs.declared.cause.Cause.{Cause}
use Rattle.rv32i.specs.declared.effect.Effect.{Effect}
use Rattle.rv32i.specs.declared.instruction.Instruction.{Instruction}
use Rattle.sequential.specs.Sequential.{State, World, Step, Transfer, and_then, transfer_of, retired, first_operand, second_operand, step_of, fetch, step}
use Rattle.sequential.specs.declared.record.Retirement.{Retirement}
use Rattle.clocking.specs.Data.{complete}
use Rattle.clocking.specs.Execute.{into_m, execute}
use Rattle.clocking.specs.declared.latch.Fetched.{Fetched}
use Rattle.clocking.specs.declared.latch.Decoded.{Decoded}
use Rattle.clocking.specs.declared.latch.Executed.{Executed}
use Rattle.clocking.specs.declared.latch.Completed.{Completed}

-- an instruction with the state's operands; guess is where fetching went on
abbrev pub with_operands_at : State → ℕ → ℕ → Instruction → Decoded
with_operands_at s w guess i = record {
  address = s.address;
  word = w;
  instruction = i;
  rd = destination i;
  a = first_operand s i;
  b = second_operand s i;
  guess = guess;
}

-- an executed instruction, its value, and the bytes once the data memory has done its part
pub record Done : Type 0 where
  pub run : Executed
  pub value : ℕ
  pub bytes : ℕ → ℕ

abbrev pub settle_by : (ℕ → ℕ) → Executed → Result (Option Request) Cause → Result Done Cause
settle_by bytes e q = and_then (transfer_of bytes e.access e.result q) (λ t. Ok (record { run = e; value = t.value; bytes = t.data_memory }))

unfoldable pub settle : ℕ → (ℕ → ℕ) → Executed → Result Done Cause
settle size bytes e = settle_by bytes e (request size e.access e.result e.b)

abbrev pub state_after : State → Done → State
state_after s d = record { address = d.run.next; registers = written s.registers d.run.rd d.value; data_memory = d.bytes }

abbrev pub retires_as : Completed → Retirement
retires_as c = record { retired = retired c.address c.word c.rd c.value; outcome = c.outcome }

module _ (world : World) where
  abbrev fetch_at : State → Result ℕ Cause
  fetch_at s = fetch world.instructions_size world.instructions s.address

  unfoldable pub fetched_at : State → ℕ → Result Fetched Cause
  fetched_at s guess = and_then (fetch_at s) (λ w. Ok (record { address = s.address; word = w; issued = issued w; guess = guess }))

  unfoldable pub decoded_at : State → ℕ → Result Decoded Cause
  decoded_at s guess = and_then (fetch_at s) (λ w. and_then (issued w) (λ i. Ok (with_operands_at s w guess i)))

  unfoldable pub executed_at : State → Result Executed Cause
  executed_at s = and_then (decoded_at s 0) execute

  unfoldable pub done_at : State → Result Done Cause
  done_at s = and_then (executed_at s) (settle world.data_size s.data_memory)

  unfoldable pub completed_at : State → Result Completed Cause
  completed_at s = and_then (done_at s) (λ d. Ok (complete d.run d.value))

  unfoldable pub after_at : State → Result State Cause
  after_at s = and_then (done_at s) (λ d. Ok (state_after s d))

  -- ---- all of it is the sequential step

  abbrev step_by : State → Done → Step
  step_by s d = record { retirement = retires_as (complete d.run d.value); after = state_after s d }

  transfer_on : (s : State) (w : ℕ) (i : Instruction) (e : Effect) (t : Result Transfer Cause)
      → and_then t (λ t. Ok (step_of s w i e t))
      ≡ and_then (and_then t (λ t. Ok (record { run = into_m (with_operands_at s w 0 i) e; value = t.value; bytes = t.data_memory }))) (λ d. Ok (step_by s d))
  transfer_on s w i e (Err c) = refl
  transfer_on s w i e (Ok t) = refl

  effect_on : (s : State) (w : ℕ) (i : Instruction) (r : Result Effect Cause)
      → and_then r (λ e. and_then (transfer_of s.data_memory (access i) e.result (request world.data_size (access i) e.result (second_operand s i))) (λ t. Ok (step_of s w i e t)))
      ≡ and_then (and_then (and_then r (λ e. Ok (into_m (with_operands_at s w 0 i) e))) (settle world.data_size s.data_memory)) (λ d. Ok (step_by s d))
  unfolding settle
  effect_on s w i (Err c) = refl
  effect_on s w i (Ok e) = transfer_on s w i e (transfer_of s.data_memory (access i) e.result (request world.data_size (access i) e.result (second_operand s i)))

  issue_on : (s : State) (w : ℕ) (r : Result Instruction Cause)
      → and_then r (λ i. and_then (executed i s.address (first_operand s i) (second_operand s i)) (λ e. and_then (transfer_of s.data_memory (access i) e.result (request world.data_size (access i) e.result (second_operand s i))) (λ t. Ok (step_of s w i e t))))
      ≡ and_then (and_then (and_then (and_then r (λ i. Ok (with_operands_at s w 0 i))) execute) (settle world.data_size s.data_memory)) (λ d. Ok (step_by s d))
  issue_on s w (Err c) = refl
  issue_on s w (Ok i) = effect_on s w i (executed i s.address (first_operand s i) (second_operand s i))

  fetch_on : (s : State) (r : Result ℕ Cause)
      → and_then r (λ w. and_then (issued w) (λ i. and_then (executed i s.address (first_operand s i) (second_operand s i)) (λ e. and_then (transfer_of s.data_memory (access i) e.result (request world.data_size (access i) e.result (second_operand s i))) (λ t. Ok (step_of s w i e t)))))
      ≡ and_then (and_then (and_then (and_then r (λ w. and_then (issued w) (λ i. Ok (with_operands_at s w 0 i)))) execute) (settle world.data_size s.data_memory)) (λ d. Ok (step_by s d))
  fetch_on s (Err c) = refl
  fetch_on s (Ok w) = issue_on s w (issued w)

  step_done : (s : State) → step world s ≡ and_then (done_at s) (λ d. Ok (step_by s d))
  unfolding step done_at executed_at decoded_at
  step_done s = fetch_on s (fetch_at s)

  -- an instruction that completes retires so, to the state after it
  completes_by : (s : State) (r : Result Done Cause) (c : Completed) (t : State) → and_then r (λ d. Ok (complete d.run d.value)) ≡ Ok c → and_then r (λ d. Ok (state_after s d)) ≡ Ok t
      → and_then r (λ d. Ok (step_by s d)) ≡ Ok (record { retirement = retires_as c; after = t })
  completes_by s (Err z) c t e f = cc
  completes_by s (Ok d) c t e f =
      let i : complete d.run d.value ≡ c = cc in
      let j : state_after s d ≡ t = cc in
      ap (λ (p : Step). Ok p) (λ k. record { retirement = retires_as (i k); after = j k })

  pub step_completes : (s : State) (c : Completed) (t : State) → completed_at s ≡ Ok c → after_at s ≡ Ok t → step world s ≡ Ok (record { retirement = retires_as c; after = t })
  unfolding completed_at after_at
  step_completes s c t e f = step_done s ∙ completes_by s (done_at s) c t e f

  -- one that does not stops there
  stops_by : (s : State) (r : Result Done Cause) (c : Cause) → and_then r (λ d. Ok (complete d.run d.value)) ≡ Err c → and_then r (λ d. Ok (step_by s d)) ≡ Err c
  stops_by s (Err z) c e = cc
  stops_by s (Ok d) c e = cc

  pub step_stops : (s : State) (c : Cause) → completed_at s ≡ Err c → step world s ≡ Err c
  unfolding completed_at
  step_stops s c e = step_done s ∙ stops_by s (done_at s) c e
