-- Powers of two, halved and joined. Assumes nothing.
use Rattle.std.proofs.Common.{◌≡◌, ℕ, ◌+◌, ◌-◌, ◌*◌, ◌%◌, ◌^◌, ◌<◌, ◌≤◌, ap, ◌∙◌, arith}
use Rattle.std.proofs.lemmas.Nat.{mul-add-lt, or_shifted, pow-add, one_shl, and_mask}
use Rattle.std.proofs.lemmas.Grind.{pow_more}
use lib.Bits.{bit_and, bit_or}
use Rattle.std.proofs.Math.Pow.{pow_mono}

-- a one in the place k, and all below it
pub shifted_one : (k : ℕ) → 0 < k → k ≤ 30 → 1 * 2 ^ (k - 1) % 2 ^ 32 ≡ 2 ^ (k - 1)
shifted_one k h l = one_shl (k - 1) 32 (omega arith)

pub masked : (n k : ℕ) → k ≤ 30 → bit_and n (1 * 2 ^ k % 2 ^ 32 - 1) ≡ n % 2 ^ k
masked n k h = rw (one_shl k 32 (omega arith)) (and_mask n k)

pub half_doubled : (k : ℕ) → 0 < k → 2 * 2 ^ (k - 1) ≡ 2 ^ k
half_doubled k h = let e : k - 1 + 1 ≡ k = omega arith in let p = pow_more 2 (k - 1) in grind arith

pub half_small : (k : ℕ) → k ≤ 30 → 2 ^ (k - 1) ≤ 2 ^ 29
half_small k h = pow_mono {i = k - 1} {j = 29} (omega arith)

-- a number above another
pub joined_below : (i j a b : ℕ) → a < 2 ^ i → b < 2 ^ j → a * 2 ^ j + b < 2 ^ (i + j)
joined_below i j a b h l = let e = mul-add-lt a (2 ^ j) b (2 ^ i) h l in let p = pow-add 2 i j in grind arith

pub joined_or : (i j n a b : ℕ) → i + j ≡ n → n ≤ 30 → a < 2 ^ i → b < 2 ^ j → bit_or (a * 2 ^ j % 2 ^ 32) b ≡ a * 2 ^ j + b
joined_or i j n a b e m h l =
    let f : a * 2 ^ j + b < 2 ^ n = rw (← e) (joined_below i j a b h l) in
    let g : 2 ^ n ≤ 2 ^ 32 = pow_mono {i = n} {j = 32} (omega arith) in
    let s : a * 2 ^ j % 2 ^ 32 ≡ a * 2 ^ j = omega arith in
    ap (λ (x : ℕ). bit_or x b) s ∙ or_shifted a j b l

pub joined_fits : (i j n a b : ℕ) → i + j ≡ n → n ≤ 30 → a < 2 ^ i → b < 2 ^ j → bit_or (a * 2 ^ j % 2 ^ 32) b < 2 ^ n
joined_fits i j n a b e m h l = rw (joined_or i j n a b e m h l) (rw (← e) (joined_below i j a b h l))
