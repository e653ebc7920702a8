-- FNV-1a of 64 bits. Assumes nothing.
use Rattle.std.specs.Prelude.{ℕ, ◌*◌, ◌/◌, ◌%◌, ◌^◌, bit_xor}

-- the digest of no bytes
abbrev pub offset_basis : ℕ
offset_basis = 14695981039346656037

-- a digest with one more byte
abbrev pub with_byte : ℕ → ℕ → ℕ
with_byte digest byte = bit_xor digest byte * 1099511628211 % 2 ^ 64

-- a digest with the four bytes of a word, the lowest first
abbrev pub with_word : ℕ → ℕ → ℕ
with_word digest word =
    with_byte (with_byte (with_byte (with_byte digest (word % 256)) (word / 256 % 256)) (word / 65536 % 256))
    (word / 16777216 % 256)
