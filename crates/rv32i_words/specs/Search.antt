-- The operation of the first row of a table that a word matches. Assumes nothing.
use Rattle.std.specs.Prelude.{ℕ, Bool, List, Option, ◌==◌, bit_and}
use Rattle.std.specs.List.{find}
use Rattle.std.specs.Option.{option_map}
use Rattle.rv32i_words.specs.declared.decoding.Row.{Row}
use Rattle.rv32i.specs.declared.instruction.Operation.{Operation}

abbrev pub matches : ℕ → Row → Bool
matches w r = bit_and w r.mask == r.value

abbrev pub first_in : List Row → ℕ → Option Operation
first_in rs w = option_map (λ (r : Row). r.operation) (find (matches w) rs)
