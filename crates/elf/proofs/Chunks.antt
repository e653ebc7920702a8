-- The program headers as pieces of the part of the file in which they stand.
use Rattle.std.proofs.Common.{◌≡◌, ℕ, zero, suc, ◌+◌, ◌-◌, ◌*◌, ◌/◌, ◌≤◌, List, length, take, drop, refl, arith}
use Rattle.std.specs.Simd.{first_chunks}
use Rattle.std.specs.List.{slice_range}
use Rattle.std.proofs.lemmas.List.{take-take, drop-take, length-take, length-drop}

-- no piece lies behind the first k * n elements
first_chunks-take : {X : Type 0} (n k m : ℕ) (xs : List X) → m ≡ k * n
    → first_chunks n k (take m xs) ≡ first_chunks n k xs
first_chunks-take n zero m xs e = refl
first_chunks-take n (suc k) m xs e =
    let here : take n (take m xs) ≡ take n xs = take-take n m xs (omega arith) in
    let sum : m ≡ n + k * n = omega arith in
    let rest : drop n (take m xs) ≡ take (k * n) (drop n xs) = rw sum (drop-take n (k * n) xs) in
    let behind : first_chunks n k (take (k * n) (drop n xs)) ≡ first_chunks n k (drop n xs) = first_chunks-take n k (k * n) (drop n xs) refl in
    cc

-- A range of a file that holds n pieces is cut into just these. The equation before it is there to show all its variables.
pub chunks_in_range : (file : List ℕ) (start n : ℕ) → start + 32 * n ≤ length file
    → (slice_range file start (start + 32 * n) ≡ slice_range file start (start + 32 * n)) × (first_chunks 32 (length (slice_range file start (start + 32 * n)) / 32) (slice_range file start (start + 32 * n)) ≡ first_chunks 32 n (drop start file))
chunks_in_range file start n h =
    let size : length (slice_range file start (start + 32 * n)) ≡ n * 32 = simp (length-take, length-drop) (omega arith) in
    let count : length (slice_range file start (start + 32 * n)) / 32 ≡ n = omega (arith, size) in
    (refl, rw count (first_chunks-take 32 n (start + 32 * n - start) (drop start file) (omega arith)))
