use Rattle.std.proofs.Common.{ℕ, zero, suc, ◌≤◌, get_or, replicate, zero-le, lit≤}
use Rattle.predictor.proofs.counters.Counters.new.Goals as goal

-- a list of equal values is within the range if that value is
within : (n value k : ℕ) → value ≤ 3 → get_or (replicate n value) k 0 ≤ 3
within zero value k h = zero-le
within (suc n) value zero h = h
within (suc n) value (suc k) h = within n value k h

pub invariant_of-result : goal.invariant_of-result
invariant_of-result c = λ k. within 256 _ k (lit≤ tt)
