-- The calls of a watch in a long run. Assumes nothing.
use Rattle.std.specs.Prelude.{◌≡◌, ℕ, ◌+◌, ◌<◌, min, List, [], ◌∷◌, ◌++◌}

-- called with these counts, in order, a watch goes from one state to another
pub data WatchedTo {W : Type 0} (hears : W → ℕ → W → Type 0) (before : W) : List ℕ → W → Type 0 where
  nothing : WatchedTo hears before [] before
  one_more : {counts : List ℕ} {w : W} (count : ℕ) (v : W) → WatchedTo hears before counts w → hears w count v → WatchedTo hears before (counts ++ count ∷ []) v

-- the counts on the way from one to another: after each 256, and at the end
abbrev pub Marks : ℕ → List ℕ → ℕ → Type 0
Marks from [] to = from ≡ to
Marks from (c ∷ cs) to = (from < to) × (c ≡ min (from + 256) to) × Marks c cs to

-- a watch is called with these marks and nothing else
pub record Watched {W : Type 0} (hears : W → ℕ → W → Type 0) (from to : ℕ) (before after : W) : Type 0 where
  pub counts : List ℕ
  pub watched : WatchedTo hears before counts after
  pub marks : Marks from counts to
