-- A word that is put byte by byte. Assumes nothing.
use Rattle.std.proofs.Common.{ℕ, zero, suc, ◌+◌, ◌%◌, ◌^◌, List, slice_set, slice_index}
use Rattle.std.specs.Int.{w32, to_le_bytes}

-- the bytes with the first i of a word's at an address
abbrev pub with_bytes_to : List ℕ → ℕ → ℕ → ℕ → List ℕ
with_bytes_to bytes a word zero = bytes
with_bytes_to bytes a word (suc i) = slice_set (with_bytes_to bytes a word i) ((a + i) % 2 ^ 32) (slice_index (to_le_bytes w32 word) i)
