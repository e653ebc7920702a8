-- Where an instruction may lead, as far as its word tells. Assumes nothing.
use Rattle.std.specs.Prelude.{ℕ}
use Rattle.rv32i.specs.declared.instruction.Instruction.{Instruction}
use Rattle.rv32i.specs.declared.instruction.Instruction.TheVariants.{Jal, Branch}
use Rattle.rv32i.specs.declared.target.Target.{Target}
use Rattle.rv32i.specs.declared.target.Target.TheVariants.{Next, Branch as MayGo, Jump as Goes}
use Rattle.rv32i.specs.Effects.{offset_from}

unfoldable pub target_of : Instruction → ℕ → Target
target_of (Jal d z) p = Goes (offset_from p z)
target_of (Branch c r q z) p = MayGo (offset_from p z)
target_of i p = Next
