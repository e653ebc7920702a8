-- Which of the forty instructions a word holds: the manual's table, by opcode, then funct3, then funct7. Assumes nothing.
use Rattle.std.specs.Prelude.{ℕ, ◌/◌, ◌^◌, if◌then◌else◌, List, [], ◌∷◌, Some, None, Option, ◌==◌}
use Rattle.rv32i.specs.declared.instruction.Condition.TheVariants.{Eq, Ne, Lt, Ge, Ltu, Geu}
use Rattle.rv32i.specs.declared.instruction.LoadKind.TheVariants.{Byte, Half, Word, ByteUnsigned, HalfUnsigned}
use Rattle.rv32i.specs.declared.instruction.StoreKind.TheVariants.{Byte as ByteStored, Half as HalfStored, Word as WordStored}
use Rattle.rv32i.specs.declared.instruction.ImmediateOp.TheVariants.{Add as AddImm, Slt as SltImm, Sltu as SltuImm, Xor as XorImm, Or as OrImm, And as AndImm}
use Rattle.rv32i.specs.declared.instruction.ShiftOp.TheVariants.{Sll as SllImm, Srl as SrlImm, Sra as SraImm}
use Rattle.rv32i.specs.declared.instruction.RegisterOp.TheVariants.{Add, Sub, Sll, Slt, Sltu, Xor, Srl, Sra, Or, And}
use Rattle.rv32i.specs.declared.instruction.Operation.{Operation}
use Rattle.rv32i.specs.declared.instruction.Operation.TheVariants.{Lui, Auipc, Jal, Jalr, Branch, Load, Store, Immediate, Shift, Register, Fence, Ecall, Ebreak}
use Rattle.rv32i_words.specs.Fields.{opcode_of, funct3_of, funct7_of}

-- a column of codes, each with what it leads to
abbrev pub Column : Type 0
Column = List (ℕ × Option Operation)

-- what a column has at n
abbrev pub pick : ℕ → Column → Option Operation
pick n [] = None
pick n (e ∷ es) = if n == e.0 then e.1 else pick n es

-- by funct7: 00 alone, or 00 and 20
abbrev pub at_00_only : Operation → Column
at_00_only o = (0x00, Some o) ∷ []

abbrev pub at_00_or_20 : Operation → Operation → Column
at_00_or_20 o p = (0x00, Some o) ∷ (0x20, Some p) ∷ []

-- by funct3
abbrev pub branch_column : Column
branch_column =
    (0, Some (Branch Eq))
    ∷ (1, Some (Branch Ne))
    ∷ (4, Some (Branch Lt))
    ∷ (5, Some (Branch Ge))
    ∷ (6, Some (Branch Ltu))
    ∷ (7, Some (Branch Geu))
    ∷ []

abbrev pub load_column : Column
load_column =
    (0, Some (Load Byte))
    ∷ (1, Some (Load Half))
    ∷ (2, Some (Load Word))
    ∷ (4, Some (Load ByteUnsigned))
    ∷ (5, Some (Load HalfUnsigned))
    ∷ []

abbrev pub store_column : Column
store_column = (0, Some (Store ByteStored)) ∷ (1, Some (Store HalfStored)) ∷ (2, Some (Store WordStored)) ∷ []

abbrev pub op_imm_column : ℕ → Column
op_imm_column f7 =
    (0, Some (Immediate AddImm))
    ∷ (2, Some (Immediate SltImm))
    ∷ (3, Some (Immediate SltuImm))
    ∷ (4, Some (Immediate XorImm))
    ∷ (6, Some (Immediate OrImm))
    ∷ (7, Some (Immediate AndImm))
    ∷ (1, pick f7 (at_00_only (Shift SllImm)))
    ∷ (5, pick f7 (at_00_or_20 (Shift SrlImm) (Shift SraImm)))
    ∷ []

abbrev pub op_column : ℕ → Column
op_column f7 =
    (0, pick f7 (at_00_or_20 (Register Add) (Register Sub)))
    ∷ (1, pick f7 (at_00_only (Register Sll)))
    ∷ (2, pick f7 (at_00_only (Register Slt)))
    ∷ (3, pick f7 (at_00_only (Register Sltu)))
    ∷ (4, pick f7 (at_00_only (Register Xor)))
    ∷ (5, pick f7 (at_00_or_20 (Register Srl) (Register Sra)))
    ∷ (6, pick f7 (at_00_only (Register Or)))
    ∷ (7, pick f7 (at_00_only (Register And)))
    ∷ []

abbrev pub jalr_column : Column
jalr_column = (0, Some Jalr) ∷ []

abbrev pub misc_mem_column : Column
misc_mem_column = (0, Some Fence) ∷ []

-- by the 25 bits above the opcode
abbrev pub system_column : Column
system_column = (0, Some Ecall) ∷ (0x2000, Some Ebreak) ∷ []

-- by opcode; rest is the 25 bits above it
abbrev pub opcode_column : ℕ → ℕ → ℕ → Column
opcode_column f3 f7 rest =
    (0x37, Some Lui)
    ∷ (0x17, Some Auipc)
    ∷ (0x6f, Some Jal)
    ∷ (0x67, pick f3 jalr_column)
    ∷ (0x63, pick f3 branch_column)
    ∷ (0x03, pick f3 load_column)
    ∷ (0x23, pick f3 store_column)
    ∷ (0x13, pick f3 (op_imm_column f7))
    ∷ (0x33, pick f3 (op_column f7))
    ∷ (0x0f, pick f3 misc_mem_column)
    ∷ (0x73, pick rest system_column)
    ∷ []

abbrev pub operation_by : ℕ → ℕ → ℕ → ℕ → Option Operation
operation_by op f3 f7 rest = pick op (opcode_column f3 f7 rest)

abbrev pub operation_of : ℕ → Option Operation
operation_of w = operation_by (opcode_of w) (funct3_of w) (funct7_of w) (w / 2 ^ 7)
