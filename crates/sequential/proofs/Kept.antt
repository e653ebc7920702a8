-- Every step keeps an address that is a multiple of 4. Assumes nothing.
use Rattle.std.proofs.Common.{◌≡◌, ℕ, ◌%◌, Some, None, Ok, Err, Option, Result}
use Rattle.rv32i.proofs.Laws.{NextAligned, next_aligned}
use Rattle.rv32i.specs.Effects.{executed, access, request}
use Rattle.rv32i_words.specs.Issues.{issued}
use Rattle.rv32i.specs.declared.cause.Cause.{Cause}
use Rattle.rv32i.specs.declared.effect.Effect.{Effect}
use Rattle.rv32i.specs.declared.instruction.Instruction.{Instruction}
use Rattle.sequential.specs.Sequential.{State, World, Step, Transfer, and_then, transfer_of, step_of, first_operand, second_operand, fetch, step}
use Rattle.sequential.specs.Stepping.{Comes, Stepped}
use Rattle.sequential.specs.declared.record.Retirement.{Retirement}
use Rattle.sequential.specs.declared.record.Stop.{Stop}

abbrev pub Keeps : State → State → Type 0
Keeps s t = s.address % 4 ≡ 0 → t.address % 4 ≡ 0

-- by what a step comes to
abbrev pub KeepsBy : State → Result Step Cause → Type 0
KeepsBy s (Ok p) = Keeps s p.after
KeepsBy s (Err c) = Unit {0}

module _ (world : World) (s : State) where
  from_transfer : (w : ℕ) (i : Instruction) (e : Effect) → (s.address % 4 ≡ 0 → e.next % 4 ≡ 0) → (t : Result Transfer Cause) → KeepsBy s (and_then t (λ t. Ok (step_of s w i e t)))
  from_transfer w i e h (Err c) = tt
  from_transfer w i e h (Ok t) = h

  from_execution : (w : ℕ) (i : Instruction) (x : Result Effect Cause) → (s.address % 4 ≡ 0 → NextAligned x)
      → KeepsBy s (and_then x (λ e.
      and_then (transfer_of s.data_memory (access i) e.result (request world.data_size (access i) e.result (second_operand s i))) (λ t.
      Ok (step_of s w i e t))))
  from_execution w i (Err c) h = tt
  from_execution w i (Ok e) h = from_transfer w i e h (transfer_of s.data_memory (access i) e.result (request world.data_size (access i) e.result (second_operand s i)))

  from_issue : (w : ℕ) (x : Result Instruction Cause)
      → KeepsBy s (and_then x (λ i.
      and_then (executed i s.address (first_operand s i) (second_operand s i)) (λ e.
      and_then (transfer_of s.data_memory (access i) e.result (request world.data_size (access i) e.result (second_operand s i))) (λ t.
      Ok (step_of s w i e t)))))
  from_issue w (Err c) = tt
  from_issue w (Ok i) =
      from_execution w i (executed i s.address (first_operand s i) (second_operand s i)) (next_aligned i s.address (first_operand s i) (second_operand s i))

  from_fetch : (x : Result ℕ Cause)
      → KeepsBy s (and_then x (λ w.
      and_then (issued w) (λ i.
      and_then (executed i s.address (first_operand s i) (second_operand s i)) (λ e.
      and_then (transfer_of s.data_memory (access i) e.result (request world.data_size (access i) e.result (second_operand s i))) (λ t.
      Ok (step_of s w i e t))))))
  from_fetch (Err c) = tt
  from_fetch (Ok w) = from_issue w (issued w)

  pub step_keeps : KeepsBy s (step world s)
  unfolding step
  step_keeps = from_fetch (fetch world.instructions_size world.instructions s.address)

-- by what a call of step does
comes_keeps : (s t : State) (x : Result Step Cause) (r : Result Retirement Stop) (o : Option Stop) → KeepsBy s x → Comes s x r t o → Keeps s t
comes_keeps s t (Ok p) r o k h = rw h.1 k
comes_keeps s t (Err c) r o k h = rw h.1 (λ a. a)

pub stepped_keeps : (world : World) (s t : State) (o q : Option Stop) (r : Result Retirement Stop) → Stepped world s o r t q → Keeps s t
stepped_keeps world s t None q r h = comes_keeps s t (step world s) r q (step_keeps world s) h
stepped_keeps world s t (Some stop) q r h = rw h.1 (λ a. a)
