-- What each instruction does, from the manual. Numbers are the 32 bits of a register or an address; sums wrap. Assumes nothing.
use Rattle.std.specs.Prelude.{ℕ, ◌+◌, ◌-◌, ◌*◌, ◌/◌, ◌%◌, ◌^◌, Bool, true, false, if◌then◌else◌, not, ℤ, Some, None, Ok, Err, Option, Result, ◌==◌, bit_and, bit_or, bit_xor, int_lt, nat_lt}
use Rattle.std.specs.Int.Signed.{shr_z}
use Rattle.std.proofs.Common.{to_z, of_z}
use Rattle.std.specs.Int.{w32}
use Rattle.base.specs.declared.branch.Outcome.{Outcome}
use Rattle.base.specs.declared.bus.Lanes.{Lanes}
use Rattle.base.specs.declared.bus.Request.{Request}
use Rattle.base.specs.declared.bus.Request.TheVariants.{Read, Write}
use Rattle.rv32i.specs.declared.cause.Cause.{Cause}
use Rattle.rv32i.specs.declared.cause.Cause.TheVariants.{InstructionMisaligned, LoadMisaligned, LoadAccessFault, StoreMisaligned, StoreAccessFault}
use Rattle.rv32i.specs.declared.register.Register.{Register as Reg}
use Rattle.rv32i.specs.declared.effect.Effect.{Effect}
use Rattle.rv32i.specs.declared.effect.Access.{Access}
use Rattle.rv32i.specs.declared.effect.Access.TheVariants.{Load as Loads, Store as Stores}
use Rattle.rv32i.specs.declared.instruction.Condition.{Condition}
use Rattle.rv32i.specs.declared.instruction.Condition.TheVariants.{Eq, Ne, Lt, Ge, Ltu, Geu}
use Rattle.rv32i.specs.declared.instruction.LoadKind.{LoadKind}
use Rattle.rv32i.specs.declared.instruction.LoadKind.TheVariants.{Byte, Half, Word, ByteUnsigned, HalfUnsigned}
use Rattle.rv32i.specs.declared.instruction.StoreKind.{StoreKind}
use Rattle.rv32i.specs.declared.instruction.StoreKind.TheVariants.{Byte as ByteStored, Half as HalfStored, Word as WordStored}
use Rattle.rv32i.specs.declared.instruction.ImmediateOp.{ImmediateOp}
use Rattle.rv32i.specs.declared.instruction.ImmediateOp.TheVariants.{Add as AddImm, Slt as SltImm, Sltu as SltuImm, Xor as XorImm, Or as OrImm, And as AndImm}
use Rattle.rv32i.specs.declared.instruction.ShiftOp.{ShiftOp}
use Rattle.rv32i.specs.declared.instruction.ShiftOp.TheVariants.{Sll as SllImm, Srl as SrlImm, Sra as SraImm}
use Rattle.rv32i.specs.declared.instruction.RegisterOp.{RegisterOp}
use Rattle.rv32i.specs.declared.instruction.RegisterOp.TheVariants.{Add, Sub, Sll, Slt, Sltu, Xor, Srl, Sra, Or, And}
use Rattle.rv32i.specs.declared.instruction.Instruction.{Instruction}
use Rattle.rv32i.specs.declared.instruction.Instruction.TheVariants.{Lui, Auipc, Jal, Jalr, Branch, Load, Store, Immediate, Shift, Register}
use Rattle.rv32i.specs.Signs.{signed, bits_of}
use Rattle.rv32i.specs.Registers.{nonzero}

-- ---- registers: none where it reads or writes nothing

unfoldable pub first_source : Instruction → Option Reg
first_source (Jalr d r z) = nonzero r
first_source (Branch c r q z) = nonzero r
first_source (Load k d r z) = nonzero r
first_source (Store k r q z) = nonzero r
first_source (Immediate o d r z) = nonzero r
first_source (Shift o d r n) = nonzero r
first_source (Register o d r q) = nonzero r
first_source _ = None

unfoldable pub second_source : Instruction → Option Reg
second_source (Branch c r q z) = nonzero q
second_source (Store k r q z) = nonzero q
second_source (Register o d r q) = nonzero q
second_source _ = None

unfoldable pub destination : Instruction → Option Reg
destination (Lui d v) = nonzero d
destination (Auipc d v) = nonzero d
destination (Jal d z) = nonzero d
destination (Jalr d r z) = nonzero d
destination (Load k d r z) = nonzero d
destination (Immediate o d r z) = nonzero d
destination (Shift o d r n) = nonzero d
destination (Register o d r q) = nonzero d
destination _ = None

-- ---- execution

-- a test as a number
abbrev pub one_if : Bool → ℕ
one_if true = 1
one_if false = 0

-- as signed numbers
abbrev pub less : ℕ → ℕ → Bool
less a b = int_lt (to_z w32 a) (to_z w32 b)

-- the sign fills the upper bits
abbrev pub shifted_signed : ℕ → ℕ → ℕ
shifted_signed a n = of_z w32 (shr_z (to_z w32 a) (2 ^ n))

-- a shift goes by the low five bits
abbrev pub arithmetic : RegisterOp → ℕ → ℕ → ℕ
arithmetic Add a b = (a + b) % 2 ^ 32
arithmetic Sub a b = (a + (2 ^ 32 - b)) % 2 ^ 32
arithmetic Sll a b = a * 2 ^ (b % 32) % 2 ^ 32
arithmetic Slt a b = one_if (less a b)
arithmetic Sltu a b = one_if (nat_lt a b)
arithmetic Xor a b = bit_xor a b
arithmetic Srl a b = a / 2 ^ (b % 32)
arithmetic Sra a b = shifted_signed a (b % 32)
arithmetic Or a b = bit_or a b
arithmetic And a b = bit_and a b

-- with an immediate as the second operand
abbrev pub immediate_op : ImmediateOp → RegisterOp
immediate_op AddImm = Add
immediate_op SltImm = Slt
immediate_op SltuImm = Sltu
immediate_op XorImm = Xor
immediate_op OrImm = Or
immediate_op AndImm = And

abbrev pub shift_op : ShiftOp → RegisterOp
shift_op SllImm = Sll
shift_op SrlImm = Srl
shift_op SraImm = Sra

-- whether a branch is taken
abbrev pub holds : Condition → ℕ → ℕ → Bool
holds Eq a b = a == b
holds Ne a b = not (a == b)
holds Lt a b = less a b
holds Ge a b = not (less a b)
holds Ltu a b = nat_lt a b
holds Geu a b = not (nat_lt a b)

abbrev pub following : ℕ → ℕ
following p = (p + 4) % 2 ^ 32

-- an address, and a signed offset from it
abbrev pub offset_from : ℕ → ℤ → ℕ
offset_from p z = (p + bits_of z) % 2 ^ 32

-- to the next instruction, with that result
abbrev pub goes_on : ℕ → ℕ → Effect
goes_on p v = record { result = v; next = following p; outcome = None }

-- to a target, unless that is no multiple of 4
abbrev pub jumps : ℕ → ℕ → Option Outcome → Result Effect Cause
jumps v target o =
    if target % 4 == 0 then Ok (record { result = v; next = target; outcome = o }) else Err InstructionMisaligned

abbrev pub branch_outcome : ℕ → ℕ → Bool → Outcome
branch_outcome p target b = record { address = p; target = target; taken = b }

abbrev pub branches : ℕ → ℕ → Bool → Result Effect Cause
branches p target true = jumps 0 target (Some (branch_outcome p target true))
branches p target false = Ok (record { result = 0; next = following p; outcome = Some (branch_outcome p target false) })

-- what the instruction at p comes to, with the operands a and b
unfoldable pub executed : Instruction → ℕ → ℕ → ℕ → Result Effect Cause
executed (Lui d v) p a b = Ok (goes_on p v)
executed (Auipc d v) p a b = Ok (goes_on p ((p + v) % 2 ^ 32))
executed (Jal d z) p a b = jumps (following p) (offset_from p z) None
executed (Jalr d r z) p a b = jumps (following p) (offset_from a z / 2 * 2) None
executed (Branch c r q z) p a b = branches p (offset_from p z) (holds c a b)
executed (Load k d r z) p a b = Ok (goes_on p (offset_from a z))
executed (Store k r q z) p a b = Ok (goes_on p (offset_from a z))
executed (Immediate o d r z) p a b = Ok (goes_on p (arithmetic (immediate_op o) a (bits_of z)))
executed (Shift o d r n) p a b = Ok (goes_on p (arithmetic (shift_op o) a n))
executed (Register o d r q) p a b = Ok (goes_on p (arithmetic o a b))
executed _ p a b = Ok (goes_on p 0)

-- ---- the data memory

unfoldable pub access : Instruction → Option Access
access (Load k d r z) = Some (Loads k)
access (Store k r q z) = Some (Stores k)
access _ = None

-- in bytes
abbrev pub load_width : LoadKind → ℕ
load_width Byte = 1
load_width Half = 2
load_width Word = 4
load_width ByteUnsigned = 1
load_width HalfUnsigned = 2

abbrev pub store_width : StoreKind → ℕ
store_width ByteStored = 1
store_width HalfStored = 2
store_width WordStored = 4

abbrev pub width : Access → ℕ
width (Loads k) = load_width k
width (Stores k) = store_width k

-- why an access may not be
abbrev pub address_misaligned : Access → Cause
address_misaligned (Loads k) = LoadMisaligned
address_misaligned (Stores k) = StoreMisaligned

abbrev pub access_fault : Access → Cause
access_fault (Loads k) = LoadAccessFault
access_fault (Stores k) = StoreAccessFault

-- the address of the word that holds the byte at x
abbrev pub word_address : ℕ → ℕ
word_address x = x / 4 * 4

-- the bytes of its word that a store at x sets
abbrev pub lanes_of : StoreKind → ℕ → Lanes
lanes_of ByteStored x = record { b0 = (x % 4 == 0); b1 = (x % 4 == 1); b2 = (x % 4 == 2); b3 = (x % 4 == 3) }
lanes_of HalfStored x = record { b0 = (x % 4 == 0); b1 = (x % 4 == 0); b2 = (x % 4 == 2); b3 = (x % 4 == 2) }
lanes_of WordStored x = record { b0 = true; b1 = true; b2 = true; b3 = true }

-- aligned to its width, and below the size of the data memory
abbrev pub checked_request : ℕ → ℕ → ℕ → Cause → Cause → Request → Result (Option Request) Cause
checked_request size width x misaligned fault q =
    if x % width == 0 then (if nat_lt x size then Ok (Some q) else Err fault) else Err misaligned

-- what an instruction asks of a data memory of that size, with the result x of execution and the operand b
unfoldable pub request : ℕ → Option Access → ℕ → ℕ → Result (Option Request) Cause
request size None x b = Ok None
request size (Some (Loads k)) x b = checked_request size (load_width k) x LoadMisaligned LoadAccessFault (Read (word_address x))
request size (Some (Stores k)) x b =
    checked_request size (store_width k) x StoreMisaligned StoreAccessFault (Write (word_address x) (b * 2 ^ (8 * (x % 4)) % 2 ^ 32) (lanes_of k x))

-- what a load makes of a word whose lowest byte is the first that it reads
abbrev pub extract : LoadKind → ℕ → ℕ
extract Byte w = bits_of (signed (2 ^ 7) (w % 2 ^ 8))
extract Half w = bits_of (signed (2 ^ 15) (w % 2 ^ 16))
extract Word w = w
extract ByteUnsigned w = w % 2 ^ 8
extract HalfUnsigned w = w % 2 ^ 16

-- what an instruction with the result x makes of the word that holds the byte at x; all but loads keep the result
unfoldable pub loaded : Option Access → ℕ → ℕ → ℕ
loaded None x w = x
loaded (Some (Loads k)) x w = extract k (w / 2 ^ (8 * (x % 4)))
loaded (Some (Stores k)) x w = x
