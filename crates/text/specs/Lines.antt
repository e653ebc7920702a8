-- Lines of records, numbered. Assumes nothing.
use Rattle.std.specs.Prelude.{ℕ, ◌+◌, List, [], ◌∷◌, ◌++◌}

-- the lines of the records, the first of which has that number
unfoldable pub lines : {R : Type 0} → (ℕ → R → List ℕ) → ℕ → List R → List ℕ
lines line number [] = []
lines line number (r ∷ rs) = line number r ++ lines line (number + 1) rs
