-- What a word means, the word of an instruction, and that each undoes the other. Assumes nothing.
use Rattle.std.specs.Prelude.{◌≡◌, ℕ, ◌+◌, ◌*◌, ◌/◌, ◌%◌, ◌^◌, Bool, if◌then◌else◌, ℤ, pos, neg_ℤ, Some, None, Option, Result, ◌==◌, int_le, int_lt, nat_lt}
use Rattle.base.specs.Refusals.{number, Says}
use Rattle.base.specs.declared.refusal.Refusal.{Refusal}
use Rattle.base.specs.declared.refusal.Refusal.TheVariants.{NoWord}
use Rattle.rv32i.specs.declared.instruction.Condition.{Condition}
use Rattle.rv32i.specs.declared.instruction.Condition.TheVariants.{Eq, Ne, Lt, Ge, Ltu, Geu}
use Rattle.rv32i.specs.declared.instruction.LoadKind.{LoadKind}
use Rattle.rv32i.specs.declared.instruction.LoadKind.TheVariants.{Byte, Half, Word, ByteUnsigned, HalfUnsigned}
use Rattle.rv32i.specs.declared.instruction.StoreKind.{StoreKind}
use Rattle.rv32i.specs.declared.instruction.StoreKind.TheVariants.{Byte as ByteStored, Half as HalfStored, Word as WordStored}
use Rattle.rv32i.specs.declared.instruction.ImmediateOp.{ImmediateOp}
use Rattle.rv32i.specs.declared.instruction.ImmediateOp.TheVariants.{Add as AddImm, Slt as SltImm, Sltu as SltuImm, Xor as XorImm, Or as OrImm, And as AndImm}
use Rattle.rv32i.specs.declared.instruction.ShiftOp.{ShiftOp}
use Rattle.rv32i.specs.declared.instruction.ShiftOp.TheVariants.{Sll as SllImm, Srl as SrlImm, Sra as SraImm}
use Rattle.rv32i.specs.declared.instruction.RegisterOp.{RegisterOp}
use Rattle.rv32i.specs.declared.instruction.RegisterOp.TheVariants.{Add, Sub, Sll, Slt, Sltu, Xor, Srl, Sra, Or, And}
use Rattle.rv32i.specs.declared.instruction.Operation.{Operation}
use Rattle.rv32i.specs.declared.instruction.Operation.TheVariants.{Lui as ALui, Auipc as AnAuipc, Jal as AJal, Jalr as AJalr, Branch as ABranch, Load as ALoad, Store as AStore, Immediate as AnImmediate, Shift as AShift, Register as ARegister, Fence as AFence, Ecall as AnEcall, Ebreak as AnEbreak}
use Rattle.rv32i.specs.declared.instruction.Instruction.{Instruction}
use Rattle.rv32i.specs.declared.instruction.Instruction.TheVariants.{Lui, Auipc, Jal, Jalr, Branch, Load, Store, Immediate, Shift, Register, Fence, Ecall, Ebreak}
use Rattle.rv32i_words.specs.Fields.{opcode_of, rd_of, funct3_of, rs1_of, rs2_of, funct7_of, word_of}
use Rattle.rv32i_words.specs.Immediates.{low_bits, imm_11_0, b_immediate, branch_low, branch_high, j_immediate, jump_high, u_immediate}
use Rattle.rv32i_words.specs.Operations.{operation_by}
use Rattle.rv32i.specs.Registers.{register}
use Rattle.rv32i.specs.Signs.{signed}

-- ---- decoding

-- the instruction of an operation, from a word's fields
abbrev pub instruction_by_fields : Operation → ℕ → ℕ → ℕ → ℕ → ℕ → Instruction
instruction_by_fields ALui d f3 r1 r2 f7 = Lui (register d) (u_immediate f3 r1 r2 f7)
instruction_by_fields AnAuipc d f3 r1 r2 f7 = Auipc (register d) (u_immediate f3 r1 r2 f7)
instruction_by_fields AJal d f3 r1 r2 f7 = Jal (register d) (signed (2 ^ 20) (j_immediate f3 r1 r2 f7))
instruction_by_fields AJalr d f3 r1 r2 f7 = Jalr (register d) (register r1) (signed 2048 (imm_11_0 r2 f7))
instruction_by_fields (ABranch c) d f3 r1 r2 f7 = Branch c (register r1) (register r2) (signed 4096 (b_immediate d f7))
instruction_by_fields (ALoad k) d f3 r1 r2 f7 = Load k (register d) (register r1) (signed 2048 (imm_11_0 r2 f7))
instruction_by_fields (AStore k) d f3 r1 r2 f7 = Store k (register r1) (register r2) (signed 2048 (imm_11_0 d f7))
instruction_by_fields (AnImmediate o) d f3 r1 r2 f7 = Immediate o (register d) (register r1) (signed 2048 (imm_11_0 r2 f7))
instruction_by_fields (AShift o) d f3 r1 r2 f7 = Shift o (register d) (register r1) r2
instruction_by_fields (ARegister o) d f3 r1 r2 f7 = Register o (register d) (register r1) (register r2)
instruction_by_fields AFence d f3 r1 r2 f7 = Fence
instruction_by_fields AnEcall d f3 r1 r2 f7 = Ecall
instruction_by_fields AnEbreak d f3 r1 r2 f7 = Ebreak

-- the same from the whole word
abbrev pub instruction_in : Operation → ℕ → Instruction
instruction_in o w = instruction_by_fields o (rd_of w) (funct3_of w) (rs1_of w) (rs2_of w) (funct7_of w)

abbrev pub if_any : Option Operation → ℕ → ℕ → ℕ → ℕ → ℕ → Option Instruction
if_any None d f3 r1 r2 f7 = None
if_any (Some o) d f3 r1 r2 f7 = Some (instruction_by_fields o d f3 r1 r2 f7)

-- by the six fields
abbrev pub decoded_by : ℕ → ℕ → ℕ → ℕ → ℕ → ℕ → Option Instruction
decoded_by op d f3 r1 r2 f7 = if_any (operation_by op f3 f7 (f7 * 2 ^ 18 + r2 * 2 ^ 13 + r1 * 2 ^ 8 + f3 * 2 ^ 5 + d)) d f3 r1 r2 f7

-- the instruction that a word holds, or none: then the word is illegal
unfoldable pub decoded : ℕ → Option Instruction
decoded w = decoded_by (opcode_of w) (rd_of w) (funct3_of w) (rs1_of w) (rs2_of w) (funct7_of w)

-- ---- encoding

abbrev pub condition_code : Condition → ℕ
condition_code Eq = 0
condition_code Ne = 1
condition_code Lt = 4
condition_code Ge = 5
condition_code Ltu = 6
condition_code Geu = 7

abbrev pub load_code : LoadKind → ℕ
load_code Byte = 0
load_code Half = 1
load_code Word = 2
load_code ByteUnsigned = 4
load_code HalfUnsigned = 5

abbrev pub store_code : StoreKind → ℕ
store_code ByteStored = 0
store_code HalfStored = 1
store_code WordStored = 2

abbrev pub immediate_code : ImmediateOp → ℕ
immediate_code AddImm = 0
immediate_code SltImm = 2
immediate_code SltuImm = 3
immediate_code XorImm = 4
immediate_code OrImm = 6
immediate_code AndImm = 7

-- funct3 and funct7
abbrev pub shift_codes : ShiftOp → ℕ × ℕ
shift_codes SllImm = (1, 0x00)
shift_codes SrlImm = (5, 0x00)
shift_codes SraImm = (5, 0x20)

abbrev pub register_codes : RegisterOp → ℕ × ℕ
register_codes Add = (0, 0x00)
register_codes Sub = (0, 0x20)
register_codes Sll = (1, 0x00)
register_codes Slt = (2, 0x00)
register_codes Sltu = (3, 0x00)
register_codes Xor = (4, 0x00)
register_codes Srl = (5, 0x00)
register_codes Sra = (5, 0x20)
register_codes Or = (6, 0x00)
register_codes And = (7, 0x00)

-- the word, where its field holds what the instruction has
abbrev pub word_if : Bool → Option ℕ → Option ℕ
word_if b word = if b then word else None

-- from -h to h - 1
abbrev pub word_if_in_range : ℕ → ℤ → Option ℕ → Option ℕ
word_if_in_range h z word = word_if (int_le (neg_ℤ (pos h)) z) (word_if (int_lt z (pos h)) word)

abbrev pub word_if_even : ℕ → Option ℕ → Option ℕ
word_if_even n word = word_if (n % 2 == 0) word

abbrev pub word_u : ℕ → ℕ → ℕ → Option ℕ
word_u op d v = word_if (v % 2 ^ 12 == 0) (word_if (nat_lt v (2 ^ 32)) (Some (word_of op d (funct3_of v) (rs1_of v) (rs2_of v) (funct7_of v))))

abbrev pub word_j : ℕ → ℕ → ℤ → Option ℕ
word_j op d z =
    word_if_in_range (2 ^ 20) z (word_if_even (low_bits (2 ^ 20) z) (
    Some (word_of op d (low_bits (2 ^ 20) z / 2 ^ 12 % 2 ^ 3) (low_bits (2 ^ 20) z / 2 ^ 15 % 2 ^ 5) (branch_low (low_bits (2 ^ 20) z)) (jump_high (low_bits (2 ^ 20) z)))
    ))

abbrev pub word_i : ℕ → ℕ → ℕ → ℕ → ℤ → Option ℕ
word_i op f3 d r1 z = word_if_in_range 2048 z (Some (word_of op d f3 r1 (low_bits 2048 z % 2 ^ 5) (low_bits 2048 z / 2 ^ 5)))

abbrev pub word_s : ℕ → ℕ → ℕ → ℕ → ℤ → Option ℕ
word_s op f3 r1 r2 z = word_if_in_range 2048 z (Some (word_of op (low_bits 2048 z % 2 ^ 5) f3 r1 r2 (low_bits 2048 z / 2 ^ 5)))

abbrev pub word_b : ℕ → ℕ → ℕ → ℕ → ℤ → Option ℕ
word_b op f3 r1 r2 z =
    word_if_in_range 4096 z (word_if_even (low_bits 4096 z) (Some (word_of op (branch_low (low_bits 4096 z)) f3 r1 r2 (branch_high (low_bits 4096 z)))))

-- the word of an instruction, or none where a field cannot hold what it has
abbrev pub encoded : Instruction → Option ℕ
encoded (Lui d v) = word_u 0x37 d.number v
encoded (Auipc d v) = word_u 0x17 d.number v
encoded (Jal d z) = word_j 0x6f d.number z
encoded (Jalr d r1 z) = word_i 0x67 0 d.number r1.number z
encoded (Branch c r1 r2 z) = word_b 0x63 (condition_code c) r1.number r2.number z
encoded (Load k d r1 z) = word_i 0x03 (load_code k) d.number r1.number z
encoded (Store k r1 r2 z) = word_s 0x23 (store_code k) r1.number r2.number z
encoded (Immediate o d r1 z) = word_i 0x13 (immediate_code o) d.number r1.number z
encoded (Shift o d r1 n) = word_if (nat_lt n 32) (Some (word_of 0x13 d.number (shift_codes o).0 r1.number n (shift_codes o).1))
encoded (Register o d r1 r2) = Some (word_of 0x33 d.number (register_codes o).0 r1.number r2.number (register_codes o).1)
encoded Fence = Some 0x0ff0000f
encoded Ecall = Some 0x00000073
encoded Ebreak = Some 0x00100073

-- the answer of an encoding: the word, or a refusal where there is none
abbrev pub Encodes : Option ℕ → Result ℕ Refusal → Type 0
Encodes word = Says (λ w. word ≡ Some w) (λ why. (why ≡ number NoWord) × (word ≡ None))

-- ---- each undoes the other

-- encoding undoes decoding, but for the fences other than 0ff0000f
abbrev pub Undone : Option Instruction → ℕ → Type 0
Undone None w = Unit {0}
Undone (Some i) w = (i ≡ Fence → w ≡ 0x0ff0000f) → encoded i ≡ Some w

-- decoding undoes encoding
abbrev pub Restored : Option ℕ → Instruction → Type 0
Restored None i = Unit {0}
Restored (Some w) i = decoded w ≡ Some i
