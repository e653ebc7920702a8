-- Registers; a register file is the list of its values, x0 first. Assumes nothing.
use Rattle.std.specs.Prelude.{◌≡◌, ℕ, ◌%◌, ◌<◌, ◌≤◌, if◌then◌else◌, Some, None, Option, Result, ◌==◌, slice_index, slice_set}
use Rattle.std.proofs.Common.{mod-lt, lit<}
use Rattle.base.specs.Refusals.{number, Says}
use Rattle.base.specs.declared.refusal.Refusal.{Refusal}
use Rattle.base.specs.declared.refusal.Refusal.TheVariants.{NotThere}
use Rattle.rv32i.specs.declared.register.Register.{Register}
use Rattle.rv32i.specs.declared.registers.Registers.{Registers}

-- the register whose number stands in the low five bits
abbrev pub register : ℕ → Register
register n = record { number = n % 32; ok = mod-lt n {m = 32} (lit< tt) }

-- x0 is always 0 and is never written, so there is nothing to read or to write
abbrev pub nonzero : Register → Option Register
nonzero r = if r.number == 0 then None else Some r

-- what an instruction reads
abbrev pub operand : Registers → Option Register → ℕ
operand f None = 0
operand f (Some r) = slice_index f r.number

-- the file once an instruction has written; x0 stays as it is
abbrev pub written : Registers → Option Register → ℕ → Registers
written f None v = f
written f (Some r) v = if r.number == 0 then f else slice_set f r.number v

-- the value of the register of that number, which is 0 for x0
abbrev pub ReadAt : Registers → ℕ → ℕ → Type 0
ReadAt f n v = (n < 32) × (v ≡ slice_index f n) × (n ≡ 0 → v ≡ 0)

-- the answer of a reading of the register of that number: its value, or a refusal above 31
abbrev pub RegisterRead : Registers → ℕ → Result ℕ Refusal → Type 0
RegisterRead f n = Says (ReadAt f n) (λ why. (why ≡ number NotThere) × (32 ≤ n))

-- the answer of a making of the register of that number: it, or a refusal above 31
abbrev pub RegisterMade : ℕ → Result Register Refusal → Type 0
RegisterMade n = Says (λ r. (n < 32) × (r.number ≡ n)) (λ why. (why ≡ number NotThere) × (32 ≤ n))
