-- Words in a list of bytes, and numbers as text. Assumes nothing.
use Rattle.std.specs.Prelude.{ℕ, ◌+◌, ◌/◌, ◌%◌, ◌^◌, ◌<◌, List, Option, slice_set}
use Rattle.std.specs.Option.{SomeIff}
use Rattle.std.specs.Str.Parse.{IsNumeral, without_leading_plus, digits_value}

-- the bytes with those of a word at an address, the lowest first; addresses wrap, and a byte outside is not put
abbrev pub with_word_at : List ℕ → ℕ → ℕ → List ℕ
with_word_at bytes a word =
    slice_set (slice_set (slice_set (slice_set bytes a (word % 256)) ((a + 1) % 2 ^ 32) (word / 256 % 256)) ((a + 2) % 2 ^ 32) (word / 65536 % 256))
    ((a + 3) % 2 ^ 32) (word / 16777216 % 256)

-- the number of a text of hexadecimal digits, behind a plus sign or not; none for any other text, and above 32 bits
abbrev pub Hexadecimal : List ℕ → Option ℕ → Type 0
Hexadecimal text r = SomeIff r (IsNumeral 16 (without_leading_plus text) × (digits_value 16 (without_leading_plus text) < 2 ^ 32)) (digits_value 16 (without_leading_plus text))
