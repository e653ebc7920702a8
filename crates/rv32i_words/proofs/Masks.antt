-- A masked word, by its fields; and a test of two fields at once.
use Rattle.std.proofs.Common.{◌≡◌, ℕ, ◌+◌, ◌*◌, ◌/◌, ◌%◌, ◌^◌, ◌<◌, Bool, ◌&&◌, eqb, sym, ap, ◌∙◌, ap₂, mod-lt, div-add-mod', arith, pow_pos}
use lib.Pow.{split}
use lib.Bits.{bit_and, and_block, and_mask}
use lib.Arith.{digits_mod, digits_div}
use Rattle.rv32i_words.specs.Fields.{opcode_of, funct3_of, funct7_of}
use Rattle.std.proofs.lemmas.Bool.Decides.{same_from_decides, Decides-like, Decides-and, Decides-eqb}

-- a mask of two fields
pub and_parts : (w m s k : ℕ) → s < 2 ^ k → bit_and w (m * 2 ^ k + s) ≡ bit_and (w / 2 ^ k) m * 2 ^ k + bit_and (w % 2 ^ k) s
and_parts w m s k h =
    ap (λ (x : ℕ). bit_and x (m * 2 ^ k + s)) (sym (split w k)) ∙ and_block k (w / 2 ^ k) m (w % 2 ^ k) s (mod-lt w (pow_pos k)) h

pub and_op : (w : ℕ) → bit_and w 0x7f ≡ w % 2 ^ 7
and_op w = and_mask w 7

pub and_f3 : (w : ℕ) → bit_and w 0x707f ≡ (w / 2 ^ 12 % 2 ^ 3) * 2 ^ 12 + w % 2 ^ 7
and_f3 w =
    and_parts w 7 0x7f 12 (omega arith)
    ∙ ap₂ (λ (x y : ℕ). x * 2 ^ 12 + y) (and_mask (w / 2 ^ 12) 3) (and_mask (w % 2 ^ 12) 7)
    ∙ omega arith

pub and_f7 : (w : ℕ) → bit_and w 0xfe00707f ≡ (w / 2 ^ 25 % 2 ^ 7) * 2 ^ 25 + ((w / 2 ^ 12 % 2 ^ 3) * 2 ^ 12 + w % 2 ^ 7)
and_f7 w =
    and_parts w 0x7f 0x707f 25 (omega arith)
    ∙ ap₂ (λ (x y : ℕ). x * 2 ^ 25 + y) (and_mask (w / 2 ^ 25) 7) (and_f3 (w % 2 ^ 25))
    ∙ omega arith

pub and_all : (w : ℕ) → w < 2 ^ 32 → bit_and w 0xffffffff ≡ w / 2 ^ 7 * 2 ^ 7 + w % 2 ^ 7
and_all w h = and_mask w 32 ∙ omega arith

-- two digits are equal to a number where each is
pub eqb_digits : (q r m v : ℕ) → r < m → eqb (q * m + r) v ≡ (eqb r (v % m) && eqb q (v / m))
eqb_digits q r m v h =
    same_from_decides _ _ (Decides-like _ apart joined (Decides-eqb (q * m + r) v)) (Decides-and _ _ (Decides-eqb r (v % m)) (Decides-eqb q (v / m)))
  where
    apart : q * m + r ≡ v → (r ≡ v % m) × (q ≡ v / m)
    apart e = (sym (digits_mod q h) ∙ ap (λ (x : ℕ). x % m) e, sym (digits_div q h) ∙ ap (λ (x : ℕ). x / m) e)

    joined : (r ≡ v % m) × (q ≡ v / m) → q * m + r ≡ v
    joined p = ap₂ (λ (x y : ℕ). x * m + y) p.1 p.0 ∙ div-add-mod' v m

-- what each of the four masks tests, field by field
pub test_op : (w v : ℕ) → eqb (bit_and w 0x7f) v ≡ eqb (opcode_of w) v
test_op w v = rw and_op

pub test_f3 : (w v : ℕ) → eqb (bit_and w 0x707f) v ≡ (eqb (opcode_of w) (v % 2 ^ 12) && eqb (funct3_of w) (v / 2 ^ 12))
test_f3 w v = ap (λ (x : ℕ). eqb x v) (and_f3 w) ∙ eqb_digits (funct3_of w) (opcode_of w) (2 ^ 12) v (omega arith)

pub test_f7 : (w v : ℕ)
    → eqb (bit_and w 0xfe00707f) v ≡ ((eqb (opcode_of w) (v % 2 ^ 25 % 2 ^ 12) && eqb (funct3_of w) (v % 2 ^ 25 / 2 ^ 12)) && eqb (funct7_of w) (v / 2 ^ 25))
test_f7 w v =
    ap (λ (x : ℕ). eqb x v) (and_f7 w) ∙ eqb_digits (funct7_of w) (funct3_of w * 2 ^ 12 + opcode_of w) (2 ^ 25) v (omega arith)
    ∙ ap (λ (b : Bool). b && eqb (funct7_of w) (v / 2 ^ 25)) (eqb_digits (funct3_of w) (opcode_of w) (2 ^ 12) (v % 2 ^ 25) (omega arith))

pub test_all : (w v : ℕ) → w < 2 ^ 32 → eqb (bit_and w 0xffffffff) v ≡ (eqb (opcode_of w) (v % 2 ^ 7) && eqb (w / 2 ^ 7) (v / 2 ^ 7))
test_all w v h = ap (λ (x : ℕ). eqb x v) (and_all w h) ∙ eqb_digits (w / 2 ^ 7) (opcode_of w) (2 ^ 7) v (omega arith)
