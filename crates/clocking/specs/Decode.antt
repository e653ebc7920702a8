-- The decode stage: D goes to X, with its operands. Assumes nothing.
use Rattle.std.specs.Prelude.{ℕ, Bool, false, if◌then◌else◌, Some, None, Ok, Err, Option, Result, ◌==◌, slice_index}
use Rattle.rv32i.specs.Effects.{first_source, second_source, destination}
use Rattle.rv32i.specs.declared.cause.Cause.{Cause}
use Rattle.rv32i.specs.declared.effect.Access.{Access}
use Rattle.rv32i.specs.declared.effect.Access.TheVariants.{Load}
use Rattle.rv32i.specs.declared.instruction.Instruction.{Instruction}
use Rattle.rv32i.specs.declared.register.Register.{Register}
use Rattle.rv32i.specs.declared.registers.Registers.{Registers}
use Rattle.clocking.specs.declared.latch.Fetched.{Fetched}
use Rattle.clocking.specs.declared.latch.Decoded.{Decoded}
use Rattle.clocking.specs.declared.latch.Executed.{Executed}
use Rattle.clocking.specs.declared.latch.Completed.{Completed}
use Rattle.clocking.specs.declared.latch.Latch.{Latch}
use Rattle.clocking.specs.declared.latch.Latch.TheVariants.{Empty, Faulting, Full}
use Rattle.clocking.specs.declared.stage.Flow.{Flow}
use Rattle.clocking.specs.declared.stage.Flow.TheVariants.{Moves, Stalls, RollsBack}

-- X after the stage, and the flow of D
pub record DecodeOut : Type 0 where
  pub x : Latch Decoded
  pub flow : Flow

-- whether an instruction that writes rd gives the register
abbrev pub gives : Option Register → Register → Bool
gives None r = false
gives (Some rd) r = rd.number == r.number

-- a load in X has no value yet
abbrev pub early_value : Option Access → ℕ → Option ℕ
early_value (Some (Load k)) v = None
early_value how v = Some v

abbrev pub from_x : Latch Executed → Register → Option (Option ℕ)
from_x (Full e) r = if gives e.rd r then Some (early_value e.access e.result) else None
from_x x r = None

-- M with this clock's answer: its value, if it went to W
abbrev pub late_value : Latch Completed → Option ℕ
late_value (Full c) = Some c.value
late_value answer = None

abbrev pub from_m : Latch Executed → Latch Completed → Register → Option (Option ℕ)
from_m (Full e) answer r = if gives e.rd r then Some (late_value answer) else None
from_m m answer r = None

abbrev pub from_w : Latch Completed → Register → Option (Option ℕ)
from_w (Full c) r = if gives c.rd r then Some (Some c.value) else None
from_w w r = None

abbrev pub or_else : Option (Option ℕ) → Option ℕ → Option ℕ
or_else None y = y
or_else (Some x) y = x

abbrev pub value_of : Registers → Register → ℕ
value_of g r = slice_index g r.number

-- the youngest that writes the register gives it: X, then M, then W, else the register file
abbrev pub values_in_flight : Latch Executed → Latch Executed → Latch Completed → Latch Completed
    → Registers → Register → Option ℕ
values_in_flight x m answer w g r =
    or_else (from_x x r) (or_else (from_m m answer r) (or_else (from_w w r) (Some (value_of g r))))

-- an operand: x0, and what is not read, is 0
abbrev pub source : (Register → Option ℕ) → Option Register → Option ℕ
source f None = Some 0
source f (Some r) = f r

abbrev pub with_operands : Fetched → Instruction → Option ℕ → Option ℕ → DecodeOut
with_operands f i (Some a) (Some b) = record {
  x = Full (record {
    address = f.address;
    word = f.word;
    instruction = i;
    rd = destination i;
    a = a;
    b = b;
    guess = f.guess;
  });
  flow = Moves;
}
with_operands f i a b = record { x = Empty; flow = Stalls }

abbrev pub decode_word : (Register → Option ℕ) → Fetched → Result Instruction Cause → DecodeOut
decode_word reads f (Err c) = record {
  x = Faulting (record { address = f.address; cause = c });
  flow = Moves;
}
decode_word reads f (Ok i) =
    with_operands f i (source reads (first_source i)) (source reads (second_source i))

abbrev pub decode_moves : (Register → Option ℕ) → Latch Fetched → DecodeOut
decode_moves reads Empty = record { x = Empty; flow = Moves }
decode_moves reads (Faulting stop) = record { x = Faulting stop; flow = Moves }
decode_moves reads (Full f) = decode_word reads f f.issued

abbrev pub decode_stalls : Latch Decoded → Latch Fetched → DecodeOut
decode_stalls x Empty = record { x = x; flow = Moves }
decode_stalls x d = record { x = x; flow = Stalls }

-- by the flow of X
abbrev pub decode_stage : (Register → Option ℕ) → Latch Decoded → Latch Fetched → Flow → DecodeOut
decode_stage reads x d RollsBack = record { x = Empty; flow = RollsBack }
decode_stage reads x d Stalls = decode_stalls x d
decode_stage reads x d Moves = decode_moves reads d
