-- The address of what a latch holds. Assumes nothing.
use Rattle.std.specs.Prelude.{◌≡◌, ℕ, Some, None, Option}
use Rattle.clocking.specs.declared.latch.Latch.{Latch}
use Rattle.clocking.specs.declared.latch.Latch.TheVariants.{Empty, Faulting, Full}

-- the address in a latch, where Gives says the address of a full one
abbrev pub AddressOf : {T : Type 0} → (T → ℕ → Type 0) → Latch T → Option ℕ → Type 0
AddressOf Gives Empty o = o ≡ None
AddressOf Gives (Faulting stop) o = o ≡ Some stop.address
AddressOf Gives (Full x) o = (a : ℕ) × Gives x a × (o ≡ Some a)
