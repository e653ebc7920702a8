-- The marks of a run that goes on. Assumes nothing.
use Rattle.std.proofs.Common.{◌≡◌, ℕ, ◌+◌, ◌*◌, ◌<◌, ◌≤◌, Bool, false, List, [], ◌∷◌, ◌++◌, length, refl, arith, length-append}
use Rattle.longrun.specs.Watching.{WatchedTo, nothing, one_more, Marks}

-- a mark more, where all before it are 256 apart
marks_more : (from : ℕ) (cs : List ℕ) (at to : ℕ) → Marks from cs at → at ≡ from + 256 * length cs → at < to → to ≤ at + 256 → Marks from (cs ++ to ∷ []) to
marks_more from [] at to h e lt le = (omega arith, omega arith, refl)
marks_more from (c ∷ cs) at to h e lt le = let rest = marks_more c cs at to h.2 (omega arith) lt le in (omega arith, omega arith, rest)

-- the watch was called with the marks up to here, and while the run goes on they are 256 apart
pub record Marked {W : Type 0} (hears : W → ℕ → W → Type 0) (limit from at : ℕ) (stopped : Bool) (before after : W) : Type 0 where
  pub counts : List ℕ
  pub watched : WatchedTo hears before counts after
  pub marks : Marks from counts at
  pub apart : stopped ≡ false → at < limit → at ≡ from + 256 * length counts

module _ {W : Type 0} (hears : W → ℕ → W → Type 0) (limit from : ℕ) (before : W) where
  pub unmarked : (stopped : Bool) → Marked hears limit from from stopped before before
  unmarked stopped = record { counts = []; watched = nothing; marks = refl; apart = λ _ _. omega arith }

  pub marked_on : (at to : ℕ) (was is : Bool) (w v : W) → Marked hears limit from at was before w → was ≡ false → at < limit → at < to → to ≤ at + 256
      → (is ≡ false → to < limit → to ≡ at + 256) → hears w to v → Marked hears limit from to is before v
  marked_on at to was is w v m running under lt le whole heard =
      let apart = m.apart running under in
      record {
        counts = m.counts ++ to ∷ [];
        watched = one_more to v m.watched heard;
        marks = marks_more from m.counts at to m.marks apart lt le;
        apart = λ s u. let e = whole s u in let sum = length-append m.counts (to ∷ []) in omega arith;
      }
