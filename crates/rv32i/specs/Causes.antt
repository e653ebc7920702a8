-- The causes of a stop, by number. Assumes nothing.
use Rattle.std.specs.Prelude.{◌≡◌, ℕ, Ok, Err, Result}
use Rattle.base.specs.Refusals.{Answers}
use Rattle.rv32i.specs.declared.cause.Cause.{Cause}
use Rattle.rv32i.specs.declared.cause.Cause.TheVariants.{InstructionMisaligned, InstructionAccessFault, IllegalInstruction, Breakpoint, LoadMisaligned, LoadAccessFault, StoreMisaligned, StoreAccessFault, EnvironmentCall}

abbrev pub cause_number : Cause → ℕ
cause_number InstructionMisaligned = 0
cause_number InstructionAccessFault = 1
cause_number IllegalInstruction = 2
cause_number Breakpoint = 3
cause_number LoadMisaligned = 4
cause_number LoadAccessFault = 5
cause_number StoreMisaligned = 6
cause_number StoreAccessFault = 7
cause_number EnvironmentCall = 11

-- What an answer says that has a cause to stop or a value: the values that may come with it, and the numbers of the causes.
abbrev pub CauseSays : {A : Type 0} → (A → Type 0) → (ℕ → Type 0) → Result A Cause → Type 0
CauseSays accepted stops = Answers cause_number accepted (λ n _. stops n)

-- an answer is what a definition gives: its value and no cause, or a cause of its number and no value
abbrev pub Gives : {A : Type 0} → Result A Cause → Result A Cause → Type 0
Gives (Ok x) = CauseSays (λ y. y ≡ x) (λ _. ⊥)
Gives (Err c) = CauseSays (λ _. ⊥) (λ n. n ≡ cause_number c)
