-- Registers of one number are one register. Assumes nothing.
use Rattle.std.proofs.Common.{◌≡◌, ℕ, ◌<◌, ap, subst, arith}
use native.Mathlib.Bridge.{le_prop}
use Rattle.rv32i.specs.declared.register.Register.{Register}
use Rattle.rv32i.specs.Registers.{register}

abbrev numbered : (n : ℕ) → n < 32 → Register
numbered n h = record { number = n; ok = h }

same_by : (n : ℕ) (h : n < 32) (m : ℕ) (k : m < 32) → n ≡ m → numbered n h ≡ numbered m k
same_by n h m k e = subst (λ (x : ℕ). (j : x < 32) → numbered n h ≡ numbered x j) e (λ j. ap (numbered n) (le_prop h j)) k

pub same_number : (r q : Register) → r.number ≡ q.number → r ≡ q
same_number r q e = same_by r.number r.ok q.number q.ok e

pub register_of : (r : Register) → register r.number ≡ r
register_of r = same_number (register r.number) r (let k = r.ok in omega arith)
