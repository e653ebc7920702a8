-- The sequential machine: what one instruction after another does to an address, the registers and the data bytes. Assumes nothing.
use Rattle.std.specs.Prelude.{ℕ, ◌%◌, if◌then◌else◌, Some, None, Ok, Err, Option, Result, ◌==◌, nat_lt}
use Rattle.base.specs.Bytes.{word, put}
use Rattle.base.specs.declared.bus.Request.{Request}
use Rattle.base.specs.declared.bus.Request.TheVariants.{Read, Write}
use Rattle.rv32i.specs.Effects.{first_source, second_source, destination, executed, access, request, loaded}
use Rattle.rv32i_words.specs.Issues.{issued}
use Rattle.rv32i.specs.Registers.{operand, written}
use Rattle.rv32i.specs.declared.cause.Cause.{Cause}
use Rattle.rv32i.specs.declared.cause.Cause.TheVariants.{InstructionMisaligned, InstructionAccessFault}
use Rattle.rv32i.specs.declared.effect.Access.{Access}
use Rattle.rv32i.specs.declared.effect.Effect.{Effect}
use Rattle.rv32i.specs.declared.instruction.Instruction.{Instruction}
use Rattle.rv32i.specs.declared.register.Register.{Register}
use Rattle.rv32i.specs.declared.registers.Registers.{Registers}
use Rattle.sequential.specs.declared.record.Retired.{Retired}
use Rattle.sequential.specs.declared.record.Retirement.{Retirement}

-- what instructions change
pub record State : Type 0 where
  pub address : ℕ
  pub registers : Registers
  pub data_memory : ℕ → ℕ

-- what they do not: the instruction memory, and how large the data memory is
pub record World : Type 0 where
  pub instructions_size : ℕ
  pub instructions : ℕ → ℕ
  pub data_size : ℕ

-- an instruction that retires: what it leaves, and the state after it
pub record Step : Type 0 where
  pub retirement : Retirement
  pub after : State

-- what an instruction has come to when the data memory has done its part: its value, and the data bytes
pub record Transfer : Type 0 where
  pub value : ℕ
  pub data_memory : ℕ → ℕ

-- go on, unless there is a cause to stop
abbrev pub and_then : {A B : Type 0} → Result A Cause → (A → Result B Cause) → Result B Cause
and_then (Err c) f = Err c
and_then (Ok x) f = f x

-- x is the result of execution
abbrev pub transfer_of : (ℕ → ℕ) → Option Access → ℕ → Result (Option Request) Cause → Result Transfer Cause
transfer_of data_memory how x (Err c) = Err c
transfer_of data_memory how x (Ok None) = Ok (record { value = x; data_memory = data_memory })
transfer_of data_memory how x (Ok (Some (Read a))) = Ok (record { value = loaded how x (word data_memory a); data_memory = data_memory })
transfer_of data_memory how x (Ok (Some (Write a w lanes))) = Ok (record { value = x; data_memory = put data_memory a w lanes })

-- a record shows the value that was written, and 0 where nothing was
abbrev pub shown_value : Option Register → ℕ → ℕ
shown_value None v = 0
shown_value (Some r) v = v

abbrev pub retired : ℕ → ℕ → Option Register → ℕ → Retired
retired address w rd v = record { address = address; word = w; rd = rd; value = shown_value rd v }

abbrev pub step_of : State → ℕ → Instruction → Effect → Transfer → Step
step_of s w i e t = record {
  retirement = record { retired = retired s.address w (destination i) t.value; outcome = e.outcome };
  after = record { address = e.next; registers = written s.registers (destination i) t.value; data_memory = t.data_memory };
}

abbrev pub first_operand : State → Instruction → ℕ
first_operand s i = operand s.registers (first_source i)

abbrev pub second_operand : State → Instruction → ℕ
second_operand s i = operand s.registers (second_source i)

-- whether a word can be fetched at an address of an instruction memory of that size, or the cause
abbrev pub fetchable : ℕ → ℕ → Result Unit Cause
fetchable size a =
    if a % 4 == 0 then (if nat_lt a size then Ok tt else Err InstructionAccessFault)
    else Err InstructionMisaligned

-- the word at an address of the instruction memory, or the cause why there is none
unfoldable pub fetch : ℕ → (ℕ → ℕ) → ℕ → Result ℕ Cause
fetch size instructions a = and_then (fetchable size a) (λ _. Ok (word instructions a))

-- the instruction at the state's address, stage by stage: it retires, or there is a cause to stop
unfoldable pub step : World → State → Result Step Cause
step world s =
    and_then (fetch world.instructions_size world.instructions s.address) (λ w.
    and_then (issued w) (λ i.
    and_then (executed i s.address (first_operand s i) (second_operand s i)) (λ e.
    and_then (transfer_of s.data_memory (access i) e.result (request world.data_size (access i) e.result (second_operand s i))) (λ t.
    Ok (step_of s w i e t)))))
