-- Signed numbers and their bits. Assumes nothing.
use Rattle.std.specs.Prelude.{ℕ, ◌*◌, if◌then◌else◌, ℤ, pos, ◌-ℤ◌, nat_lt}
use Rattle.std.proofs.Common.{of_z}
use Rattle.std.specs.Int.{w32}

-- a number below twice h, of which the top bit, h, is the sign
abbrev pub signed : ℕ → ℕ → ℤ
signed h n = if nat_lt n h then pos n else pos n -ℤ pos (2 * h)

-- the 32 bits of a signed number
abbrev pub bits_of : ℤ → ℕ
bits_of z = of_z w32 z
