-- Instructions as the manual writes them. Assumes nothing.
use Rattle.std.specs.Prelude.{ℕ, ◌/◌, ◌%◌, false, if◌then◌else◌, List, ◌++◌, ℤ, codes, decimal, ◌==◌}
use Rattle.std.specs.Fmt.{digits, signed_decimal}
use Rattle.rv32i.specs.declared.register.Register.{Register as Reg}
use Rattle.rv32i.specs.declared.instruction.Condition.{Condition}
use Rattle.rv32i.specs.declared.instruction.Condition.TheVariants.{Eq, Ne, Lt, Ge, Ltu, Geu}
use Rattle.rv32i.specs.declared.instruction.LoadKind.{LoadKind}
use Rattle.rv32i.specs.declared.instruction.LoadKind.TheVariants.{Byte, Half, Word, ByteUnsigned, HalfUnsigned}
use Rattle.rv32i.specs.declared.instruction.StoreKind.{StoreKind}
use Rattle.rv32i.specs.declared.instruction.StoreKind.TheVariants.{Byte as ByteStored, Half as HalfStored, Word as WordStored}
use Rattle.rv32i.specs.declared.instruction.ImmediateOp.{ImmediateOp}
use Rattle.rv32i.specs.declared.instruction.ImmediateOp.TheVariants.{Add as AddImm, Slt as SltImm, Sltu as SltuImm, Xor as XorImm, Or as OrImm, And as AndImm}
use Rattle.rv32i.specs.declared.instruction.ShiftOp.{ShiftOp}
use Rattle.rv32i.specs.declared.instruction.ShiftOp.TheVariants.{Sll as SllImm, Srl as SrlImm, Sra as SraImm}
use Rattle.rv32i.specs.declared.instruction.RegisterOp.{RegisterOp}
use Rattle.rv32i.specs.declared.instruction.RegisterOp.TheVariants.{Add, Sub, Sll, Slt, Sltu, Xor, Srl, Sra, Or, And}
use Rattle.rv32i.specs.declared.instruction.Instruction.{Instruction}
use Rattle.rv32i.specs.declared.instruction.Instruction.TheVariants.{Lui, Auipc, Jal, Jalr, Branch, Load, Store, Immediate, Shift, Register, Fence, Ecall, Ebreak}

-- ---- mnemonics

abbrev pub condition_name : Condition → List ℕ
condition_name Eq = codes "beq"
condition_name Ne = codes "bne"
condition_name Lt = codes "blt"
condition_name Ge = codes "bge"
condition_name Ltu = codes "bltu"
condition_name Geu = codes "bgeu"

abbrev pub load_name : LoadKind → List ℕ
load_name Byte = codes "lb"
load_name Half = codes "lh"
load_name Word = codes "lw"
load_name ByteUnsigned = codes "lbu"
load_name HalfUnsigned = codes "lhu"

abbrev pub store_name : StoreKind → List ℕ
store_name ByteStored = codes "sb"
store_name HalfStored = codes "sh"
store_name WordStored = codes "sw"

abbrev pub immediate_name : ImmediateOp → List ℕ
immediate_name AddImm = codes "addi"
immediate_name SltImm = codes "slti"
immediate_name SltuImm = codes "sltiu"
immediate_name XorImm = codes "xori"
immediate_name OrImm = codes "ori"
immediate_name AndImm = codes "andi"

abbrev pub shift_name : ShiftOp → List ℕ
shift_name SllImm = codes "slli"
shift_name SrlImm = codes "srli"
shift_name SraImm = codes "srai"

abbrev pub register_name : RegisterOp → List ℕ
register_name Add = codes "add"
register_name Sub = codes "sub"
register_name Sll = codes "sll"
register_name Slt = codes "slt"
register_name Sltu = codes "sltu"
register_name Xor = codes "xor"
register_name Srl = codes "srl"
register_name Sra = codes "sra"
register_name Or = codes "or"
register_name And = codes "and"

-- ---- operands

abbrev pub register_text : Reg → List ℕ
register_text r = codes "x" ++ decimal r.number

-- the upper twenty bits in hexadecimal; low bits that should not be there are shown after a plus sign
abbrev pub upper_text : ℕ → List ℕ
upper_text v =
    if v % 4096 == 0 then digits 16 false (v / 4096) else digits 16 false (v / 4096) ++ codes "+" ++ digits 16 false (v % 4096)

-- ---- lines

abbrev pub two_operands : List ℕ → List ℕ → List ℕ → List ℕ
two_operands name a b = name ++ codes " " ++ a ++ codes "," ++ b

abbrev pub three_operands : List ℕ → List ℕ → List ℕ → List ℕ → List ℕ
three_operands name a b c = name ++ codes " " ++ a ++ codes "," ++ b ++ codes "," ++ c

-- an offset from a register
abbrev pub indexed : ℤ → Reg → List ℕ
indexed z r = signed_decimal z ++ codes "(" ++ register_text r ++ codes ")"

abbrev pub assembly_text : Instruction → List ℕ
assembly_text (Lui d v) = two_operands (codes "lui") (register_text d) (upper_text v)
assembly_text (Auipc d v) = two_operands (codes "auipc") (register_text d) (upper_text v)
assembly_text (Jal d z) = two_operands (codes "jal") (register_text d) (signed_decimal z)
assembly_text (Jalr d r z) = two_operands (codes "jalr") (register_text d) (indexed z r)
assembly_text (Branch c r q z) = three_operands (condition_name c) (register_text r) (register_text q) (signed_decimal z)
assembly_text (Load k d r z) = two_operands (load_name k) (register_text d) (indexed z r)
assembly_text (Store k r q z) = two_operands (store_name k) (register_text q) (indexed z r)
assembly_text (Immediate o d r z) = three_operands (immediate_name o) (register_text d) (register_text r) (signed_decimal z)
assembly_text (Shift o d r n) = three_operands (shift_name o) (register_text d) (register_text r) (decimal n)
assembly_text (Register o d r q) = three_operands (register_name o) (register_text d) (register_text r) (register_text q)
assembly_text Fence = codes "fence"
assembly_text Ecall = codes "ecall"
assembly_text Ebreak = codes "ebreak"
