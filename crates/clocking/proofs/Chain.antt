-- How the latches stand to the sequential machine: along its run, oldest latch first, until the chain breaks. Assumes nothing.
use Rattle.std.proofs.Common.{◌≡◌, ℕ, cond, eqb, length, Ok, Err, Result}
use Rattle.rv32i.specs.declared.cause.Cause.{Cause}
use Rattle.rv32i.specs.declared.cause.Cause.TheVariants.{InstructionAccessFault}
use Rattle.rv32i.specs.declared.registers.Registers.{Registers}
use Rattle.sequential.specs.Sequential.{State, World, and_then}
use Rattle.sequential.specs.declared.record.Stop.{Stop}
use Rattle.clocking.specs.declared.latch.Fetched.{Fetched}
use Rattle.clocking.specs.declared.latch.Decoded.{Decoded}
use Rattle.clocking.specs.declared.latch.Executed.{Executed}
use Rattle.clocking.specs.declared.latch.Completed.{Completed}
use Rattle.clocking.specs.declared.latch.Latch.{Latch}
use Rattle.clocking.specs.declared.latch.Latch.TheVariants.{Empty, Faulting, Full}
use Rattle.clocking.specs.declared.latch.Latches.{Latches}
use Rattle.clocking.proofs.Partial.{fetched_at, decoded_at, executed_at, completed_at, after_at}

-- what the chain reaches: a state, or it is broken
abbrev pub Reach : Type 0
Reach = Result State Cause

abbrev pub Broken : Reach → Type 0
Broken (Err c) = Unit {0}
Broken (Ok s) = ⊥

-- the stop is the state's, with the cause that its instruction has; past a break nothing is said
abbrev pub Faults : {T : Type 0} → (State → Result T Cause) → Reach → Stop → Type 0
Faults h (Err z) stop = Unit {0}
Faults h (Ok s) stop = (stop.address ≡ s.address) × (Err stop.cause ≡ h s)

-- a cause that an instruction has in one stage it has in the next
pub faults_on : {T U : Type 0} (h : State → Result T Cause) (k : State → Result U Cause) → ((s : State) (c : Cause) → Err c ≡ h s → Err c ≡ k s) → (r : Reach) (stop : Stop) → Faults h r stop
    → Faults k r stop
faults_on h k same (Err z) stop i = tt
faults_on h k same (Ok s) stop i = (i.0, same s stop.cause i.1)

-- the latch holds what the stage before it makes of the state's instruction; past a break nothing is said
abbrev pub Holds : {T : Type 0} → (State → T → Result T Cause) → (State → Result T Cause) → Reach → Latch T → Type 0
Holds f h r (Faulting stop) = Faults h r stop
Holds f h (Ok s) (Full x) = Ok x ≡ f s x
Holds f h r l = Unit {0}

-- where the chain goes behind the latch
abbrev pub behind : {T : Type 0} → (T → State → Reach) → Reach → Latch T → Reach
behind next r Empty = r
behind next r (Faulting stop) = and_then r (λ s. Err stop.cause)
behind next r (Full x) = and_then r (next x)

-- fetching goes on at the state reached
abbrev pub Leads : ℕ → Reach → Type 0
Leads f (Err c) = Unit {0}
Leads f (Ok s) = f ≡ s.address

-- the bytes of the state reached, or of s where there is none
abbrev pub bytes_at : State → Reach → ℕ → ℕ
bytes_at s (Err c) = s.data_memory
bytes_at s (Ok t) = t.data_memory

-- the chain goes on where the guess is right, else it breaks; which cause a break has does not matter
abbrev pub guessed : ℕ → State → Reach
guessed g s = cond (eqb s.address g) (Ok s) (Err InstructionAccessFault)

-- W does not stop the machine
abbrev pub Flows : Latch Completed → Type 0
Flows (Faulting stop) = ⊥
Flows w = Unit {0}

module _ (world : World) where
  abbrev pub HoldsD : Reach → Latch Fetched → Type 0
  HoldsD = Holds (λ s x. fetched_at world s x.guess) (λ s. fetched_at world s 0)

  abbrev pub HoldsX : Reach → Latch Decoded → Type 0
  HoldsX = Holds (λ s x. decoded_at world s x.guess) (λ s. decoded_at world s 0)

  abbrev pub HoldsM : Reach → Latch Executed → Type 0
  HoldsM = Holds (λ s x. executed_at world s) (executed_at world)

  abbrev pub HoldsW : Reach → Latch Completed → Type 0
  HoldsW = Holds (λ s x. completed_at world s) (completed_at world)

  abbrev pub on_if : ℕ → State → Reach
  on_if g s = and_then (after_at world s) (guessed g)

  abbrev pub behindD : Reach → Latch Fetched → Reach
  behindD = behind (λ x. on_if x.guess)

  abbrev pub behindX : Reach → Latch Decoded → Reach
  behindX = behind (λ x. on_if x.guess)

  abbrev pub behindM : Reach → Latch Executed → Reach
  behindM = behind (λ x. after_at world)

  abbrev pub behindW : Reach → Latch Completed → Reach
  behindW = behind (λ x. after_at world)

  -- s is the sequential machine's state after the retirements
  pub record Chain (s : State) (bytes : ℕ → ℕ) (g : Registers) (k : Latches) : Type 0 where
    pub sized : length g ≡ 32
    pub registers : g ≡ s.registers
    pub w : HoldsW (Ok s) k.w
    pub memory : bytes ≡ bytes_at s (behindW (Ok s) k.w)
    pub m : HoldsM (behindW (Ok s) k.w) k.m
    pub x : HoldsX (behindM (behindW (Ok s) k.w) k.m) k.x
    pub d : HoldsD (behindX (behindM (behindW (Ok s) k.w) k.m) k.x) k.d
    pub f : Leads k.f (behindD (behindX (behindM (behindW (Ok s) k.w) k.m) k.x) k.d)
