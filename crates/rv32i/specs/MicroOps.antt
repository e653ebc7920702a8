-- An instruction laid out flat, and the instruction that it is. Assumes nothing.
use Rattle.std.specs.Prelude.{◌≡◌, ℕ, Some, None, Option}
use Rattle.std.proofs.Common.{to_z}
use Rattle.std.specs.Int.{w32}
use Rattle.std.specs.Int.RustNames.{FitsSigned}
use Rattle.rv32i.specs.declared.register.Register.{Register as Reg}
use Rattle.rv32i.specs.declared.instruction.Condition.{Condition}
use Rattle.rv32i.specs.declared.instruction.Condition.TheVariants.{Eq, Ne, Lt, Ge, Ltu, Geu}
use Rattle.rv32i.specs.declared.instruction.LoadKind.{LoadKind}
use Rattle.rv32i.specs.declared.instruction.LoadKind.TheVariants.{Byte, Half, Word, ByteUnsigned, HalfUnsigned}
use Rattle.rv32i.specs.declared.instruction.StoreKind.{StoreKind}
use Rattle.rv32i.specs.declared.instruction.StoreKind.TheVariants.{Byte as ByteStored, Half as HalfStored, Word as WordStored}
use Rattle.rv32i.specs.declared.instruction.ImmediateOp.{ImmediateOp}
use Rattle.rv32i.specs.declared.instruction.ImmediateOp.TheVariants.{Add as AddImm, Slt as SltImm, Sltu as SltuImm, Xor as XorImm, Or as OrImm, And as AndImm}
use Rattle.rv32i.specs.declared.instruction.ShiftOp.{ShiftOp}
use Rattle.rv32i.specs.declared.instruction.ShiftOp.TheVariants.{Sll as SllImm, Srl as SrlImm, Sra as SraImm}
use Rattle.rv32i.specs.declared.instruction.RegisterOp.{RegisterOp}
use Rattle.rv32i.specs.declared.instruction.RegisterOp.TheVariants.{Add as AddReg, Sub as SubReg, Sll as SllReg, Slt as SltReg, Sltu as SltuReg, Xor as XorReg, Srl as SrlReg, Sra as SraReg, Or as OrReg, And as AndReg}
use Rattle.rv32i.specs.declared.instruction.Instruction.{Instruction}
use Rattle.rv32i.specs.declared.instruction.Instruction.TheVariants.{Lui as ALui, Auipc as AnAuipc, Jal as AJal, Jalr as AJalr, Branch, Load, Store, Immediate, Shift, Register, Fence as AFence, Ecall as AnEcall, Ebreak as AnEbreak}
use Rattle.rv32i.specs.declared.micro_op.Mnemonic.{Mnemonic}
use Rattle.rv32i.specs.declared.micro_op.Mnemonic.TheVariants.{Lui, Auipc, Jal, Jalr, Beq, Bne, Blt, Bge, Bltu, Bgeu, Lb, Lh, Lw, Lbu, Lhu, Sb, Sh, Sw, Addi, Slti, Sltiu, Xori, Ori, Andi, Slli, Srli, Srai, Add, Sub, Sll, Slt, Sltu, Xor, Srl, Sra, Or, And, Fence, Ecall, Ebreak}
use Rattle.rv32i.specs.declared.micro_op.MicroOp.TheInside.{Inside}
use Rattle.rv32i.specs.Effects.{first_source, second_source, destination, access}
use Rattle.rv32i.specs.Registers.{register}
use Rattle.rv32i.specs.Signs.{bits_of}

-- ---- from fields to the instruction

-- x0 where none is read or written
abbrev pub or_x0 : Option Reg → Reg
or_x0 None = register 0
or_x0 (Some r) = r

-- by name, with rd, rs1, rs2 and the bits of the immediate
abbrev pub instruction_by : Mnemonic → Reg → Reg → Reg → ℕ → Instruction
instruction_by Lui d r q v = ALui d v
instruction_by Auipc d r q v = AnAuipc d v
instruction_by Jal d r q v = AJal d (to_z w32 v)
instruction_by Jalr d r q v = AJalr d r (to_z w32 v)
instruction_by Beq d r q v = Branch Eq r q (to_z w32 v)
instruction_by Bne d r q v = Branch Ne r q (to_z w32 v)
instruction_by Blt d r q v = Branch Lt r q (to_z w32 v)
instruction_by Bge d r q v = Branch Ge r q (to_z w32 v)
instruction_by Bltu d r q v = Branch Ltu r q (to_z w32 v)
instruction_by Bgeu d r q v = Branch Geu r q (to_z w32 v)
instruction_by Lb d r q v = Load Byte d r (to_z w32 v)
instruction_by Lh d r q v = Load Half d r (to_z w32 v)
instruction_by Lw d r q v = Load Word d r (to_z w32 v)
instruction_by Lbu d r q v = Load ByteUnsigned d r (to_z w32 v)
instruction_by Lhu d r q v = Load HalfUnsigned d r (to_z w32 v)
instruction_by Sb d r q v = Store ByteStored r q (to_z w32 v)
instruction_by Sh d r q v = Store HalfStored r q (to_z w32 v)
instruction_by Sw d r q v = Store WordStored r q (to_z w32 v)
instruction_by Addi d r q v = Immediate AddImm d r (to_z w32 v)
instruction_by Slti d r q v = Immediate SltImm d r (to_z w32 v)
instruction_by Sltiu d r q v = Immediate SltuImm d r (to_z w32 v)
instruction_by Xori d r q v = Immediate XorImm d r (to_z w32 v)
instruction_by Ori d r q v = Immediate OrImm d r (to_z w32 v)
instruction_by Andi d r q v = Immediate AndImm d r (to_z w32 v)
instruction_by Slli d r q v = Shift SllImm d r v
instruction_by Srli d r q v = Shift SrlImm d r v
instruction_by Srai d r q v = Shift SraImm d r v
instruction_by Add d r q v = Register AddReg d r q
instruction_by Sub d r q v = Register SubReg d r q
instruction_by Sll d r q v = Register SllReg d r q
instruction_by Slt d r q v = Register SltReg d r q
instruction_by Sltu d r q v = Register SltuReg d r q
instruction_by Xor d r q v = Register XorReg d r q
instruction_by Srl d r q v = Register SrlReg d r q
instruction_by Sra d r q v = Register SraReg d r q
instruction_by Or d r q v = Register OrReg d r q
instruction_by And d r q v = Register AndReg d r q
instruction_by Fence d r q v = AFence
instruction_by Ecall d r q v = AnEcall
instruction_by Ebreak d r q v = AnEbreak

abbrev pub instruction_of : Inside → Instruction
instruction_of m = instruction_by m.mnemonic (or_x0 m.rd) (or_x0 m.rs1) (or_x0 m.rs2) m.imm

-- ---- from an instruction to fields

abbrev pub branch_mnemonic : Condition → Mnemonic
branch_mnemonic Eq = Beq
branch_mnemonic Ne = Bne
branch_mnemonic Lt = Blt
branch_mnemonic Ge = Bge
branch_mnemonic Ltu = Bltu
branch_mnemonic Geu = Bgeu

abbrev pub load_mnemonic : LoadKind → Mnemonic
load_mnemonic Byte = Lb
load_mnemonic Half = Lh
load_mnemonic Word = Lw
load_mnemonic ByteUnsigned = Lbu
load_mnemonic HalfUnsigned = Lhu

abbrev pub store_mnemonic : StoreKind → Mnemonic
store_mnemonic ByteStored = Sb
store_mnemonic HalfStored = Sh
store_mnemonic WordStored = Sw

abbrev pub immediate_mnemonic : ImmediateOp → Mnemonic
immediate_mnemonic AddImm = Addi
immediate_mnemonic SltImm = Slti
immediate_mnemonic SltuImm = Sltiu
immediate_mnemonic XorImm = Xori
immediate_mnemonic OrImm = Ori
immediate_mnemonic AndImm = Andi

abbrev pub shift_mnemonic : ShiftOp → Mnemonic
shift_mnemonic SllImm = Slli
shift_mnemonic SrlImm = Srli
shift_mnemonic SraImm = Srai

abbrev pub register_mnemonic : RegisterOp → Mnemonic
register_mnemonic AddReg = Add
register_mnemonic SubReg = Sub
register_mnemonic SllReg = Sll
register_mnemonic SltReg = Slt
register_mnemonic SltuReg = Sltu
register_mnemonic XorReg = Xor
register_mnemonic SrlReg = Srl
register_mnemonic SraReg = Sra
register_mnemonic OrReg = Or
register_mnemonic AndReg = And

abbrev pub mnemonic_of : Instruction → Mnemonic
mnemonic_of (ALui d v) = Lui
mnemonic_of (AnAuipc d v) = Auipc
mnemonic_of (AJal d z) = Jal
mnemonic_of (AJalr d r z) = Jalr
mnemonic_of (Branch c r q z) = branch_mnemonic c
mnemonic_of (Load k d r z) = load_mnemonic k
mnemonic_of (Store k r q z) = store_mnemonic k
mnemonic_of (Immediate o d r z) = immediate_mnemonic o
mnemonic_of (Shift o d r n) = shift_mnemonic o
mnemonic_of (Register o d r q) = register_mnemonic o
mnemonic_of AFence = Fence
mnemonic_of AnEcall = Ecall
mnemonic_of AnEbreak = Ebreak

-- a signed immediate has 32 bits
abbrev pub ImmediateFits : Instruction → Type 0
ImmediateFits (AJal d z) = FitsSigned w32 z
ImmediateFits (AJalr d r z) = FitsSigned w32 z
ImmediateFits (Branch c r q z) = FitsSigned w32 z
ImmediateFits (Load k d r z) = FitsSigned w32 z
ImmediateFits (Store k r q z) = FitsSigned w32 z
ImmediateFits (Immediate o d r z) = FitsSigned w32 z
ImmediateFits _ = Unit {0}

-- 0 where it has none
abbrev pub immediate_of : Instruction → ℕ
immediate_of (ALui d v) = v
immediate_of (AnAuipc d v) = v
immediate_of (AJal d z) = bits_of z
immediate_of (AJalr d r z) = bits_of z
immediate_of (Branch c r q z) = bits_of z
immediate_of (Load k d r z) = bits_of z
immediate_of (Store k r q z) = bits_of z
immediate_of (Immediate o d r z) = bits_of z
immediate_of (Shift o d r n) = n
immediate_of _ = 0

abbrev pub fields_of : Instruction → Inside
fields_of i =
    record {
      imm = immediate_of i;
      mnemonic = mnemonic_of i;
      rd = destination i;
      rs1 = first_source i;
      rs2 = second_source i;
      access = access i;
    }

-- each field is what the instruction has there
abbrev pub IsOfItsInstruction : Inside → Type 0
IsOfItsInstruction m = m ≡ fields_of (instruction_of m)
