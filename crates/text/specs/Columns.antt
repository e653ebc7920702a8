-- The columns of a line. Assumes nothing.
use Rattle.std.specs.Prelude.{ℕ, List, [], ◌∷◌, ◌++◌, Some, None, Option}

-- a and b with a space between them
abbrev pub spaced : List ℕ → List ℕ → List ℕ
spaced a b = a ++ 32 ∷ b

-- the text of a value, where its type states it, or a hyphen
abbrev pub or_dash : {T : Type 0} → (T → Option (List ℕ)) → Option T → Option (List ℕ)
or_dash text None = Some (45 ∷ [])
or_dash text (Some x) = text x
