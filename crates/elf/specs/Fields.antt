-- Numbers in a list of bytes, the lowest byte first. Assumes nothing.
use Rattle.std.specs.Prelude.{ℕ, ◌+◌, ◌*◌, List, [], ◌∷◌, Bool, nat_eq, slice_index}
use Rattle.std.specs.List.{starts_with}

-- 7f and the letters ELF, with which an ELF file begins
abbrev pub magic : List ℕ
magic = 127 ∷ 69 ∷ 76 ∷ 70 ∷ []

abbrev pub is_elf : List ℕ → Bool
is_elf file = starts_with nat_eq file magic

abbrev pub byte : List ℕ → ℕ → ℕ
byte bytes offset = slice_index bytes offset

abbrev pub half : List ℕ → ℕ → ℕ
half bytes offset = byte bytes offset + 256 * byte bytes (offset + 1)

abbrev pub word : List ℕ → ℕ → ℕ
word bytes offset = half bytes offset + 65536 * half bytes (offset + 2)
