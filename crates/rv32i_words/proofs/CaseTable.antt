-- The table is the manual's. Assumes nothing.
use Rattle.std.proofs.Common.{◌≡◌, ℕ, ◌/◌, ◌%◌, ◌^◌, ◌<◌, Bool, true, false, ◌&&◌, eqb, List, [], ◌∷◌, Some, None, Option, sym, refl, ap, ◌∙◌, subst}
use Rattle.std.specs.Prelude.{if◌then◌else◌, ◌==◌}
use Rattle.std.proofs.lemmas.Bool.{eqb-true}
use Rattle.rv32i_words.specs.declared.decoding.Row.{Row}
use Rattle.rv32i.specs.declared.instruction.Condition.TheVariants.{Eq, Ne, Lt, Ge, Ltu, Geu}
use Rattle.rv32i.specs.declared.instruction.LoadKind.TheVariants.{Byte, Half, Word, ByteUnsigned, HalfUnsigned}
use Rattle.rv32i.specs.declared.instruction.StoreKind.TheVariants.{Byte as ByteStored, Half as HalfStored, Word as WordStored}
use Rattle.rv32i.specs.declared.instruction.ImmediateOp.TheVariants.{Add as AddImm, Slt as SltImm, Sltu as SltuImm, Xor as XorImm, Or as OrImm, And as AndImm}
use Rattle.rv32i.specs.declared.instruction.ShiftOp.TheVariants.{Sll as SllImm, Srl as SrlImm, Sra as SraImm}
use Rattle.rv32i.specs.declared.instruction.RegisterOp.TheVariants.{Add, Sub, Sll, Slt, Sltu, Xor, Srl, Sra, Or, And}
use Rattle.rv32i.specs.declared.instruction.Operation.{Operation}
use Rattle.rv32i.specs.declared.instruction.Operation.TheVariants.{Lui, Auipc, Jal, Jalr, Branch, Load, Store, Immediate, Shift, Register, Fence, Ecall, Ebreak}
use Rattle.rv32i_words.specs.Fields.{opcode_of, funct3_of, funct7_of}
use Rattle.rv32i_words.specs.Operations.{operation_by, operation_of}
use Rattle.std.specs.List.{find}
use Rattle.std.specs.Option.{option_map}
use Rattle.rv32i_words.specs.Search.{matches, first_in}
use Rattle.rv32i_words.proofs.Masks.{test_op, test_f3, test_f7, test_all}

-- the constant of the code
abbrev pub rows : List Row
rows =
    record { mask = 0x7f; value = 0x37; operation = Lui } ∷
    record { mask = 0x7f; value = 0x17; operation = Auipc } ∷
    record { mask = 0x7f; value = 0x6f; operation = Jal } ∷
    record { mask = 0x707f; value = 0x67; operation = Jalr } ∷
    record { mask = 0x707f; value = 0x63; operation = Branch Eq } ∷
    record { mask = 0x707f; value = 0x1063; operation = Branch Ne } ∷
    record { mask = 0x707f; value = 0x4063; operation = Branch Lt } ∷
    record { mask = 0x707f; value = 0x5063; operation = Branch Ge } ∷
    record { mask = 0x707f; value = 0x6063; operation = Branch Ltu } ∷
    record { mask = 0x707f; value = 0x7063; operation = Branch Geu } ∷
    record { mask = 0x707f; value = 0x3; operation = Load Byte } ∷
    record { mask = 0x707f; value = 0x1003; operation = Load Half } ∷
    record { mask = 0x707f; value = 0x2003; operation = Load Word } ∷
    record { mask = 0x707f; value = 0x4003; operation = Load ByteUnsigned } ∷
    record { mask = 0x707f; value = 0x5003; operation = Load HalfUnsigned } ∷
    record { mask = 0x707f; value = 0x23; operation = Store ByteStored } ∷
    record { mask = 0x707f; value = 0x1023; operation = Store HalfStored } ∷
    record { mask = 0x707f; value = 0x2023; operation = Store WordStored } ∷
    record { mask = 0x707f; value = 0x13; operation = Immediate AddImm } ∷
    record { mask = 0x707f; value = 0x2013; operation = Immediate SltImm } ∷
    record { mask = 0x707f; value = 0x3013; operation = Immediate SltuImm } ∷
    record { mask = 0x707f; value = 0x4013; operation = Immediate XorImm } ∷
    record { mask = 0x707f; value = 0x6013; operation = Immediate OrImm } ∷
    record { mask = 0x707f; value = 0x7013; operation = Immediate AndImm } ∷
    record { mask = 0xfe00707f; value = 0x1013; operation = Shift SllImm } ∷
    record { mask = 0xfe00707f; value = 0x5013; operation = Shift SrlImm } ∷
    record { mask = 0xfe00707f; value = 0x40005013; operation = Shift SraImm } ∷
    record { mask = 0xfe00707f; value = 0x33; operation = Register Add } ∷
    record { mask = 0xfe00707f; value = 0x40000033; operation = Register Sub } ∷
    record { mask = 0xfe00707f; value = 0x1033; operation = Register Sll } ∷
    record { mask = 0xfe00707f; value = 0x2033; operation = Register Slt } ∷
    record { mask = 0xfe00707f; value = 0x3033; operation = Register Sltu } ∷
    record { mask = 0xfe00707f; value = 0x4033; operation = Register Xor } ∷
    record { mask = 0xfe00707f; value = 0x5033; operation = Register Srl } ∷
    record { mask = 0xfe00707f; value = 0x40005033; operation = Register Sra } ∷
    record { mask = 0xfe00707f; value = 0x6033; operation = Register Or } ∷
    record { mask = 0xfe00707f; value = 0x7033; operation = Register And } ∷
    record { mask = 0x707f; value = 0xf; operation = Fence } ∷
    record { mask = 0xffffffff; value = 0x73; operation = Ecall } ∷
    record { mask = 0xffffffff; value = 0x100073; operation = Ebreak } ∷
    []

-- a number that is c, or is not
pub at_number : (P : ℕ → Type 0) (n c : ℕ) → P c → (eqb n c ≡ false → P n) → P n
at_number P n c here elsewhere =
    elim (eqb n c) as (λ b. eqb n c ≡ b → P n) [ true ↦ λ e. subst P (sym (eqb-true n c e)) here | false ↦ elsewhere ] refl

-- a row's test, by the fields that its mask keeps
abbrev fits_by : Row → ℕ → ℕ → ℕ → ℕ → Bool
fits_by r op f3 f7 rest =
    if r.mask == 0x7f then op == r.value
    else if r.mask == 0x707f then op == r.value % 2 ^ 12 && f3 == r.value / 2 ^ 12
    else if r.mask == 0xfe00707f then (op == r.value % 2 ^ 25 % 2 ^ 12 && f3 == r.value % 2 ^ 25 / 2 ^ 12) && f7 == r.value / 2 ^ 25
    else op == r.value % 2 ^ 7 && rest == r.value / 2 ^ 7

abbrev first_by : List Row → ℕ → ℕ → ℕ → ℕ → Option Operation
first_by [] op f3 f7 rest = None
first_by (r ∷ rs) op f3 f7 rest = if fits_by r op f3 f7 rest then Some r.operation else first_by rs op f3 f7 rest

Same : ℕ → ℕ → ℕ → ℕ → Type 0
Same op f3 f7 rest = first_by rows op f3 f7 rest ≡ operation_by op f3 f7 rest

same : (op f3 f7 rest : ℕ) → Same op f3 f7 rest
unfolding Same
same op f3 f7 rest =
    let P : ℕ → Type 0 = λ o. Same o f3 f7 rest in
    let Q : ℕ → ℕ → Type 0 = λ o f. Same o f f7 rest in
    at_number P op 0x37 refl (λ h0.
    at_number P op 0x17 refl (λ h1.
    at_number P op 0x6f refl (λ h2.
    at_number P op 0x67 refl (λ h3.
    at_number P op 0x63 refl (λ h4.
    at_number P op 0x3 refl (λ h5.
    at_number P op 0x23 refl (λ h6.
    at_number P op 0x13 (
    at_number (Q 0x13) f3 0 refl (λ g0. at_number (Q 0x13) f3 2 refl (λ g1. at_number (Q 0x13) f3 3 refl (λ g2. at_number (Q 0x13) f3 4 refl (λ g3.
    at_number (Q 0x13) f3 6 refl (λ g4. at_number (Q 0x13) f3 7 refl (λ g5. at_number (Q 0x13) f3 1 refl (λ g6. at_number (Q 0x13) f3 5 refl (λ g7.
    simp (g0, g1, g2, g3, g4, g5, g6, g7)))))))))
    ) (λ h7.
    at_number P op 0x33 (
    at_number (Q 0x33) f3 0 refl (λ g0. at_number (Q 0x33) f3 1 refl (λ g1. at_number (Q 0x33) f3 2 refl (λ g2. at_number (Q 0x33) f3 3 refl (λ g3.
    at_number (Q 0x33) f3 4 refl (λ g4. at_number (Q 0x33) f3 5 refl (λ g5. at_number (Q 0x33) f3 6 refl (λ g6. at_number (Q 0x33) f3 7 refl (λ g7.
    simp (g0, g1, g2, g3, g4, g5, g6, g7)))))))))
    ) (λ h8.
    at_number P op 0xf refl (λ h9.
    at_number P op 0x73 refl (λ h10.
    simp (h0, h1, h2, h3, h4, h5, h6, h7, h8, h9, h10))))))))))))

-- the search, row by row
abbrev in_turn : List Row → ℕ → Option Operation
in_turn [] w = None
in_turn (r ∷ rs) w = if matches w r then Some r.operation else in_turn rs w

mapped : (b : Bool) (r : Row) (o : Option Row) → option_map (λ (x : Row). x.operation) (if b then Some r else o) ≡ (if b then Some r.operation else option_map (λ (x : Row). x.operation) o)
mapped true r o = refl
mapped false r o = refl

turn_by_turn : (rs : List Row) (w : ℕ) → first_in rs w ≡ in_turn rs w
turn_by_turn [] w = refl
turn_by_turn (r ∷ rs) w = mapped (matches w r) r (find (matches w) rs) ∙ ap (λ (o : Option Operation). if matches w r then Some r.operation else o) (turn_by_turn rs w)

pub table_is : (w : ℕ) → w < 2 ^ 32 → first_in rows w ≡ operation_of w
unfolding Same
table_is w h =
    let e : in_turn rows w ≡ operation_of w = simp (test_op, test_f3, test_f7, test_all) (same (opcode_of w) (funct3_of w) (funct7_of w) (w / 2 ^ 7)) in
    turn_by_turn rows w ∙ e
