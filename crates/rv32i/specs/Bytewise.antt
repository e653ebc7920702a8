-- Loads and stores byte by byte: what an accepted one comes to, said without the shifts and the lanes that bring its bytes to their places. Assumes nothing.
use Rattle.std.specs.Prelude.{◌≡◌, ℕ, zero, suc, ◌+◌, ◌-◌, ◌*◌, ◌/◌, ◌%◌, ◌^◌, ◌<◌, ◌≤◌, if◌then◌else◌, Some, Ok, nat_lt}
use Rattle.base.specs.Bytes.{word, put}
use Rattle.base.specs.declared.bus.Lanes.{Lanes}
use Rattle.base.specs.declared.bus.Request.TheVariants.{Read, Write}
use Rattle.rv32i.specs.declared.effect.Access.TheVariants.{Load, Store}
use Rattle.rv32i.specs.declared.instruction.LoadKind.{LoadKind}
use Rattle.rv32i.specs.declared.instruction.LoadKind.TheVariants.{Byte, Half}
use Rattle.rv32i.specs.declared.instruction.StoreKind.{StoreKind}
use Rattle.rv32i.specs.Effects.{load_width, store_width, request, loaded}

-- the n bytes from x on as one number, the lowest first
abbrev pub little_endian : (ℕ → ℕ) → ℕ → ℕ → ℕ
little_endian bytes x zero = 0
little_endian bytes x (suc n) = bytes x + 256 * little_endian bytes (x + 1) n

-- a number below twice h in 32 bits, all above its top bit, h, as that bit is
abbrev pub sign_extended : ℕ → ℕ → ℕ
sign_extended h n = if nat_lt n h then n else n + (2 ^ 32 - 2 * h)

-- what a load makes of the number that its bytes are
abbrev pub load_value : LoadKind → ℕ → ℕ
load_value Byte n = sign_extended 128 n
load_value Half n = sign_extended 32768 n
load_value _ n = n

-- a load at x that is accepted asks for a word in which it finds its own bytes: those from x on
abbrev pub LoadsItsBytes : Type 0
LoadsItsBytes =
    (size x b a : ℕ) (k : LoadKind) → request size (Some (Load k)) x b ≡ Ok (Some (Read a)) → (bytes : ℕ → ℕ) → ((y : ℕ) → bytes y < 256)
    → loaded (Some (Load k)) x (word bytes a) ≡ load_value k (little_endian bytes x (load_width k))

-- the bytes after are those before with the n lowest bytes of b put at x, x + 1 and so on
pub record Stored (before after : ℕ → ℕ) (x n b : ℕ) : Type 0 where
  pub here : (j : ℕ) → j < n → after (x + j) ≡ b / 256 ^ j % 256
  pub below : (y : ℕ) → y < x → after y ≡ before y
  pub above : (y : ℕ) → x + n ≤ y → after y ≡ before y

-- a store at x that is accepted asks to put the lowest bytes of b from x on, and no other
abbrev pub StoresItsBytes : Type 0
StoresItsBytes =
    (size x b a w : ℕ) (lanes : Lanes) (k : StoreKind) → request size (Some (Store k)) x b ≡ Ok (Some (Write a w lanes)) → (bytes : ℕ → ℕ)
    → Stored bytes (put bytes a w lanes) x (store_width k) b
