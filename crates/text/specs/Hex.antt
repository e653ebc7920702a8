-- Hexadecimal digits. Assumes nothing.
use Rattle.std.specs.Prelude.{ℕ, zero, suc, ◌+◌, ◌/◌, ◌%◌, if◌then◌else◌, List, [], ◌∷◌, ◌++◌, nat_lt}

-- the byte of a digit: 0 to 9, then a to f
abbrev pub glyph : ℕ → ℕ
glyph n = if nat_lt n 10 then 48 + n else 87 + n

-- the last digits of n, at most so many, with no leading zero
unfoldable pub hex : ℕ → ℕ → List ℕ
hex zero n = []
hex (suc most) n = if nat_lt n 16 then glyph n ∷ [] else hex most (n / 16) ++ glyph (n % 16) ∷ []

-- how many digits a number of 32 bits has at most
abbrev pub places : ℕ
places = 8
