-- Write-back: W stops the machine or retires. Assumes nothing.
use Rattle.std.specs.Prelude.{Some, None, Option}
use Rattle.rv32i.specs.declared.registers.Registers.{Registers}
use Rattle.sequential.specs.Sequential.{retired}
use Rattle.clocking.specs.declared.latch.Completed.{Completed}
use Rattle.clocking.specs.declared.latch.Latch.{Latch}
use Rattle.clocking.specs.declared.latch.Latch.TheVariants.{Faulting, Full}
use Rattle.base.specs.declared.branch.Outcome.{Outcome}
use Rattle.rv32i.specs.Registers.{written}
use Rattle.sequential.specs.declared.record.Retirement.{Retirement}
use Rattle.sequential.specs.declared.record.Stop.{Stop}

-- W stops the machine where it is faulting
abbrev pub stop_of : Latch Completed → Option Stop
stop_of (Faulting stop) = Some stop
stop_of w = None

-- W retires where it is full and not faulting
abbrev pub retirement_of : Latch Completed → Option Retirement
retirement_of (Full c) = Some (record {
  retired = retired c.address c.word c.rd c.value;
  outcome = c.outcome;
})
retirement_of w = None

abbrev pub outcome_of : Option Retirement → Option Outcome
outcome_of None = None
outcome_of (Some r) = r.outcome

abbrev pub write_back : Registers → Latch Completed → Registers
write_back g (Full c) = written g c.rd c.value
write_back g w = g
