-- What a word issues. Assumes nothing.
use Rattle.std.specs.Prelude.{ℕ, Some, None, Ok, Err, Option, Result}
use Rattle.rv32i.specs.declared.cause.Cause.{Cause}
use Rattle.rv32i.specs.declared.cause.Cause.TheVariants.{IllegalInstruction, Breakpoint, EnvironmentCall}
use Rattle.rv32i.specs.declared.instruction.Instruction.{Instruction}
use Rattle.rv32i.specs.declared.instruction.Instruction.TheVariants.{Ecall, Ebreak}
use Rattle.rv32i_words.specs.Words.{decoded}

abbrev pub issues : Option Instruction → Result Instruction Cause
issues None = Err IllegalInstruction
issues (Some Ebreak) = Err Breakpoint
issues (Some Ecall) = Err EnvironmentCall
issues (Some i) = Ok i

-- the instruction that a word issues, or the cause of the stop
unfoldable pub issued : ℕ → Result Instruction Cause
issued w = issues (decoded w)
