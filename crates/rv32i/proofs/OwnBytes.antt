-- Loads and stores find and put their own bytes. Assumes nothing.
use Rattle.std.proofs.Common.{◌≡◌, ℕ, zero, suc, ◌+◌, ◌*◌, ◌/◌, ◌%◌, ◌^◌, ◌<◌, ◌≤◌, Bool, true, false, eqb, ltb, Some, Ok, Err, refl, ap, ◌∙◌, subst, arith}
use Rattle.std.specs.Prelude.{if◌then◌else◌}
use Rattle.std.proofs.lemmas.Int.{ints}
use Rattle.std.proofs.lemmas.Bool.{eqb-true}
use Rattle.std.proofs.lemmas.Bool.Decides.{nat_tests}
use Rattle.base.specs.Bytes.{word, put}
use Rattle.base.specs.declared.bus.Lanes.{Lanes}
use Rattle.base.specs.declared.bus.Request.{Request}
use Rattle.base.specs.declared.bus.Request.TheVariants.{Read, Write}
use Rattle.rv32i.specs.declared.cause.Cause.{Cause}
use Rattle.rv32i.specs.declared.effect.Access.TheVariants.{Load}
use Rattle.rv32i.specs.declared.instruction.LoadKind.{LoadKind}
use Rattle.rv32i.specs.declared.instruction.LoadKind.TheVariants.{Byte, Half, Word, ByteUnsigned, HalfUnsigned}
use Rattle.rv32i.specs.declared.instruction.StoreKind.{StoreKind}
use Rattle.rv32i.specs.declared.instruction.StoreKind.TheVariants.{Byte as ByteStored, Half as HalfStored, Word as WordStored}
use Rattle.rv32i.specs.Bytewise.{little_endian, sign_extended, load_value, LoadsItsBytes, Stored, StoresItsBytes}
use Rattle.rv32i.specs.Effects.{word_address, lanes_of, load_width, store_width, request, loaded}
use Rattle.rv32i.specs.Signs.{signed, bits_of}

-- by the place of an address in its word
by_place : (P : ℕ → Type 0) → P 0 → P 1 → P 2 → P 3 → (r : ℕ) → r < 4 → P r
by_place P a b c d zero h = a
by_place P a b c d (suc zero) h = b
by_place P a b c d (suc (suc zero)) h = c
by_place P a b c d (suc (suc (suc zero))) h = d
by_place P a b c d (suc (suc (suc (suc r)))) h = absurd (omega arith)

-- what is known of a request that is accepted
accepts : (q p : Request) (misaligned outside : Cause) (b d : Bool) → (if b then (if d then Ok (Some q) else Err outside) else Err misaligned) ≡ Ok (Some p)
    → (b ≡ true) × (q ≡ p)
accepts q p misaligned outside true true e = (refl, cc)
accepts q p misaligned outside true false e = (refl, cc)
accepts q p misaligned outside false d e = absurd cc

-- ---- loads

extended_8 : (n : ℕ) → n < 256 → bits_of (signed (2 ^ 7) n) ≡ sign_extended 128 n
extended_8 n h = grind (arith, ints, nat_tests)

extended_16 : (n : ℕ) → n < 65536 → bits_of (signed (2 ^ 15) n) ≡ sign_extended 32768 n
extended_16 n h = grind (arith, ints, nat_tests)

module _ (bytes : ℕ → ℕ) (small : (y : ℕ) → bytes y < 256) (x : ℕ) where
  -- from an address in its word to the bytes of the word
  one_byte : (a r : ℕ) → r < 4 → x ≡ a + r → word bytes a / 2 ^ (8 * r) % 2 ^ 8 ≡ bytes x
  one_byte a =
      by_place (λ (r : ℕ). x ≡ a + r → word bytes a / 2 ^ (8 * r) % 2 ^ 8 ≡ bytes x)
      (λ e. grind (arith, small))
      (λ e. grind (arith, small))
      (λ e. grind (arith, small))
      (λ e. grind (arith, small))

  two_bytes : (a r : ℕ) → r < 4 → x ≡ a + r → r % 2 ≡ 0 → word bytes a / 2 ^ (8 * r) % 2 ^ 16 ≡ little_endian bytes x 2
  two_bytes a =
      by_place (λ (r : ℕ). x ≡ a + r → r % 2 ≡ 0 → word bytes a / 2 ^ (8 * r) % 2 ^ 16 ≡ little_endian bytes x 2)
      (λ e m. grind (arith, small))
      (λ e m. absurd (omega arith))
      (λ e m. grind (arith, small))
      (λ e m. absurd (omega arith))

  four_bytes : (a r : ℕ) → x ≡ a + r → r ≡ 0 → word bytes a / 2 ^ (8 * r) ≡ little_endian bytes x 4
  four_bytes a r e z = rw z (grind (arith, small))

  loads_at : (k : LoadKind) → x % load_width k ≡ 0 → loaded (Some (Load k)) x (word bytes (word_address x)) ≡ load_value k (little_endian bytes x (load_width k))
  unfolding loaded
  loads_at Byte h =
      let i : bytes x ≡ little_endian bytes x 1 = omega arith in
      rw (one_byte (word_address x) (x % 4) (omega arith) (omega arith)) (extended_8 (bytes x) (small x) ∙ ap (sign_extended 128) i)
  loads_at Half h =
      rw (two_bytes (word_address x) (x % 4) (omega arith) (omega arith) (omega arith)) (extended_16 (little_endian bytes x 2) (omega (arith, small x, small (x + 1))))
  loads_at Word h = four_bytes (word_address x) (x % 4) (omega arith) h
  loads_at ByteUnsigned h = one_byte (word_address x) (x % 4) (omega arith) (omega arith) ∙ omega arith
  loads_at HalfUnsigned h = two_bytes (word_address x) (x % 4) (omega arith) (omega arith) (omega arith)

pub loads_its_bytes : LoadsItsBytes
unfolding request
loads_its_bytes size x b a k e bytes small =
    let p = accepts (Read (word_address x)) (Read a) _ _ (eqb (x % load_width k) 0) (ltb x size) e in
    let same : word_address x ≡ a = cc p.1 in
    rw (← same) (loads_at bytes small x k (eqb-true _ _ p.0))

-- ---- stores

-- the first bytes are those of b, and every other stays
module _ (before after : ℕ → ℕ) (x b : ℕ) where
  one : after x ≡ b % 256 → (j : ℕ) → j < 1 → after (x + j) ≡ b / 256 ^ j % 256
  one e zero h = grind arith
  one e (suc j) h = absurd (omega arith)

  two : after x ≡ b % 256 → after (x + 1) ≡ b / 256 % 256 → (j : ℕ) → j < 2 → after (x + j) ≡ b / 256 ^ j % 256
  two e f zero h = one e 0 (omega arith)
  two e f (suc zero) h = f
  two e f (suc (suc j)) h = absurd (omega arith)

  four : after x ≡ b % 256 → after (x + 1) ≡ b / 256 % 256 → after (x + 2) ≡ b / 65536 % 256 → after (x + 3) ≡ b / 16777216 % 256 → (j : ℕ) → j < 4
      → after (x + j) ≡ b / 256 ^ j % 256
  four e f g i zero h = one e 0 (omega arith)
  four e f g i (suc zero) h = f
  four e f g i (suc (suc zero)) h = g
  four e f g i (suc (suc (suc zero))) h = i
  four e f g i (suc (suc (suc (suc j)))) h = absurd (omega arith)

  stored : (n : ℕ) → ((j : ℕ) → j < n → after (x + j) ≡ b / 256 ^ j % 256) → ((y : ℕ) → (x ≤ y → y < x + n → ⊥) → after y ≡ before y) → Stored before after x n b
  stored n h k = record { here = h; below = λ y l. k y (λ i j. omega arith); above = λ y l. k y (λ i j. omega arith) }

-- the word of b that a store at the place r in a word asks to put, and its lanes
abbrev shifted : ℕ → ℕ → ℕ
shifted b r = b * 2 ^ (8 * r) % 2 ^ 32

abbrev byte_lanes : ℕ → Lanes
byte_lanes r = record { b0 = eqb r 0; b1 = eqb r 1; b2 = eqb r 2; b3 = eqb r 3 }

abbrev half_lanes : ℕ → Lanes
half_lanes r = record { b0 = eqb r 0; b1 = eqb r 0; b2 = eqb r 2; b3 = eqb r 2 }

abbrev word_lanes : Lanes
word_lanes = record { b0 = true; b1 = true; b2 = true; b3 = true }

module _ (bytes : ℕ → ℕ) (x b : ℕ) where
  byte_at : (a r : ℕ) → put bytes a (shifted b r) (byte_lanes r) x ≡ b % 256
      → ((y : ℕ) → (x ≤ y → y < x + 1 → ⊥) → put bytes a (shifted b r) (byte_lanes r) y ≡ bytes y) → Stored bytes (put bytes a (shifted b r) (byte_lanes r)) x 1 b
  byte_at a r e = stored bytes (put bytes a (shifted b r) (byte_lanes r)) x b 1 (one bytes (put bytes a (shifted b r) (byte_lanes r)) x b e)

  byte_stored : (a r : ℕ) → r < 4 → x ≡ a + r → Stored bytes (put bytes a (shifted b r) (byte_lanes r)) x 1 b
  byte_stored a =
      by_place (λ (r : ℕ). x ≡ a + r → Stored bytes (put bytes a (shifted b r) (byte_lanes r)) x 1 b)
      (λ e. byte_at a 0 (grind (arith, nat_tests)) (λ y h. grind (arith, nat_tests)))
      (λ e. byte_at a 1 (grind (arith, nat_tests)) (λ y h. grind (arith, nat_tests)))
      (λ e. byte_at a 2 (grind (arith, nat_tests)) (λ y h. grind (arith, nat_tests)))
      (λ e. byte_at a 3 (grind (arith, nat_tests)) (λ y h. grind (arith, nat_tests)))

  half_at : (a r : ℕ) → put bytes a (shifted b r) (half_lanes r) x ≡ b % 256 → put bytes a (shifted b r) (half_lanes r) (x + 1) ≡ b / 256 % 256
      → ((y : ℕ) → (x ≤ y → y < x + 2 → ⊥) → put bytes a (shifted b r) (half_lanes r) y ≡ bytes y) → Stored bytes (put bytes a (shifted b r) (half_lanes r)) x 2 b
  half_at a r e f = stored bytes (put bytes a (shifted b r) (half_lanes r)) x b 2 (two bytes (put bytes a (shifted b r) (half_lanes r)) x b e f)

  half_stored : (a r : ℕ) → r < 4 → x ≡ a + r → r % 2 ≡ 0 → Stored bytes (put bytes a (shifted b r) (half_lanes r)) x 2 b
  half_stored a =
      by_place (λ (r : ℕ). x ≡ a + r → r % 2 ≡ 0 → Stored bytes (put bytes a (shifted b r) (half_lanes r)) x 2 b)
      (λ e m. half_at a 0 (grind (arith, nat_tests)) (grind (arith, nat_tests)) (λ y h. grind (arith, nat_tests)))
      (λ e m. absurd (omega arith))
      (λ e m. half_at a 2 (grind (arith, nat_tests)) (grind (arith, nat_tests)) (λ y h. grind (arith, nat_tests)))
      (λ e m. absurd (omega arith))

  word_stored : (a r : ℕ) → x ≡ a + r → r ≡ 0 → Stored bytes (put bytes a (shifted b r) word_lanes) x 4 b
  word_stored a r e z =
      rw z (stored bytes (put bytes a (shifted b 0) word_lanes) x b 4
      (four bytes (put bytes a (shifted b 0) word_lanes) x b (grind (arith, nat_tests)) (grind (arith, nat_tests)) (grind (arith, nat_tests)) (grind (arith, nat_tests))) (λ y h. grind (arith, nat_tests)))

  stores_at : (k : StoreKind) → x % store_width k ≡ 0 → Stored bytes (put bytes (word_address x) (shifted b (x % 4)) (lanes_of k x)) x (store_width k) b
  stores_at ByteStored h = byte_stored (word_address x) (x % 4) (omega arith) (omega arith)
  stores_at HalfStored h = half_stored (word_address x) (x % 4) (omega arith) (omega arith) (omega arith)
  stores_at WordStored h = word_stored (word_address x) (x % 4) (omega arith) h

-- the parts of two writes that are one
parts_of : (a b w v : ℕ) (l m : Lanes) → Write a w l ≡ Write b v m → (a ≡ b) × (w ≡ v) × (l ≡ m)
parts_of a b w v l m e = (cc, cc, cc)

pub stores_its_bytes : StoresItsBytes
unfolding request
stores_its_bytes size x b a w lanes k e bytes =
    let p = accepts (Write (word_address x) (shifted b (x % 4)) (lanes_of k x)) (Write a w lanes) _ _ (eqb (x % store_width k) 0) (ltb x size) e in
    let s = parts_of (word_address x) a (shifted b (x % 4)) w (lanes_of k x) lanes p.1 in
    subst (λ (c : ℕ). Stored bytes (put bytes c w lanes) x (store_width k) b) s.0
    (subst (λ (v : ℕ). Stored bytes (put bytes (word_address x) v lanes) x (store_width k) b) s.1
    (subst (λ (m : Lanes). Stored bytes (put bytes (word_address x) (shifted b (x % 4)) m) x (store_width k) b) s.2
    (stores_at bytes x b k (eqb-true _ _ p.0))))
