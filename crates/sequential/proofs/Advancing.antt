-- Where a step comes to, stage by stage. Assumes nothing.
use Rattle.std.proofs.Common.{◌≡◌, ℕ, Ok, Err, Result, sym, refl, ap}
use Rattle.std.specs.Prelude.{IsErrAnd}
use Rattle.std.proofs.lemmas.Result.{err_from_is_err_and}
use Rattle.memory.specs.Meaning.{View}
use Rattle.rv32i.proofs.Given.{same_cause, given}
use Rattle.rv32i.specs.Causes.{Gives}
use Rattle.rv32i.specs.Effects.{executed, access, request}
use Rattle.rv32i_words.specs.Issues.{issued}
use Rattle.rv32i.specs.declared.cause.Cause.{Cause}
use Rattle.rv32i.specs.declared.effect.Effect.{Effect}
use Rattle.rv32i.specs.declared.instruction.Instruction.{Instruction}
use Rattle.sequential.specs.Sequential.{State, World, Step, Transfer, transfer_of, first_operand, second_operand, step_of, fetch, step}
use Rattle.sequential.specs.Stepping.{world_of, state_of, ComesTo, AdvancesFrom}
use Rattle.sequential.specs.declared.machine.Machine.{Machine}
use Rattle.sequential.specs.declared.record.Retirement.{Retirement}

-- what a transfer comes to, by the answer
pub transfer_ok : {D : Type 0} (v : View D) (m n : D) (t : Result Transfer Cause) (y : ℕ) → ComesTo v m t (Ok y) n
    → t ≡ Ok (record { value = y; data_memory = v.byte n })
transfer_ok v m n (Ok t) y h = ap (λ (x : Transfer). Ok x) (λ i. record { value = sym h.0 i; data_memory = sym h.1 i })
transfer_ok v m n (Err c) y h = absurd h.0

pub transfer_err : {D : Type 0} (v : View D) (m n : D) (t : Result Transfer Cause) (c : Cause) → ComesTo v m t (Err c) n → (t ≡ Err c) × (v.byte n ≡ v.byte m)
transfer_err v m n (Ok t) c h = absurd h.0
transfer_err v m n (Err z) c h = (ap Err (sym (same_cause c z h.0)), h.1)

module _ (world : World) (s : State) where
  pub at_fetch : (c : Cause) → Gives (fetch world.instructions_size world.instructions s.address) (Err c) → step world s ≡ Err c
  unfolding step
  at_fetch c e = let word = given _ _ e in rw (← word)

  module _ (w : ℕ) (word : Gives (fetch world.instructions_size world.instructions s.address) (Ok w)) where
    pub at_issue : (c : Cause) → Gives (issued w) (Err c) → step world s ≡ Err c
    unfolding step
    at_issue c e = let e1 = given _ _ word in let e2 = given _ _ e in rw (← e1, ← e2)

    module _ (i : Instruction) (instruction : Gives (issued w) (Ok i)) where
      pub at_execute : (c : Cause) → Gives (executed i s.address (first_operand s i) (second_operand s i)) (Err c) → step world s ≡ Err c
      unfolding step
      at_execute c e = let e1 = given _ _ word in let e2 = given _ _ instruction in let e3 = given _ _ e in rw (← e1, ← e2, ← e3)

      module _ (e : Effect) (effect : Gives (executed i s.address (first_operand s i) (second_operand s i)) (Ok e)) where
        pub at_transfer : (c : Cause) → transfer_of s.data_memory (access i) e.result (request world.data_size (access i) e.result (second_operand s i)) ≡ Err c → step world s ≡ Err c
        unfolding step
        at_transfer c e4 = let e1 = given _ _ word in let e2 = given _ _ instruction in let e3 = given _ _ effect in rw (← e1, ← e2, ← e3, e4)

        pub at_end : (t : Transfer) → transfer_of s.data_memory (access i) e.result (request world.data_size (access i) e.result (second_operand s i)) ≡ Ok t → step world s ≡ Ok (step_of s w i e t)
        unfolding step
        at_end t e4 = let e1 = given _ _ word in let e2 = given _ _ instruction in let e3 = given _ _ effect in rw (← e1, ← e2, ← e3, e4)

-- what a call of advance comes to: it stops, with a cause that `?` hands on, or it retires
module _ {I D : Type 0} (i_view : View I) (d_view : View D) (m : Machine I D) where
  pub stops : (i : I) (d : D) (c : Cause) (r : Result Retirement Cause) → d_view.byte d ≡ d_view.byte m.data_memory
      → step (world_of i_view d_view m) (state_of d_view m) ≡ Err c → IsErrAnd r (λ y. y ≡ c)
      → AdvancesFrom i_view d_view m r (record m { instructions = i; data_memory = d })
  stops i d c r bytes e h =
      let p = err_from_is_err_and r h in
      rw (e, p.1, p.2) (refl, λ k. record { address = m.address; registers = m.registers; data_memory = bytes k })

  pub retires : (n : Machine I D) (p : Step) (r : Result Retirement Cause) → step (world_of i_view d_view m) (state_of d_view m) ≡ Ok p
      → r ≡ Ok p.retirement → state_of d_view n ≡ p.after → AdvancesFrom i_view d_view m r n
  retires n p r e i h = rw (e, i, h) (refl, refl)
