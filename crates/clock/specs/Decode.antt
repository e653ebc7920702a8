-- What decode reads of the older instructions. Assumes nothing.
use Rattle.std.specs.Prelude.{ℕ, Some, None, Option, if◌then◌else◌}
use Rattle.rv32i.specs.declared.register.Register.{Register}
use Rattle.rv32i.specs.declared.registers.Registers.{Registers}
use Rattle.clocking.specs.Execute.{x_result}
use Rattle.clocking.specs.Decode.{gives, from_x, late_value, or_else, value_of}
use Rattle.clocking.specs.declared.latch.Completed.{Completed}
use Rattle.clocking.specs.declared.latch.Executed.{Executed}
use Rattle.clocking.specs.declared.latch.Latch.{Latch}
use Rattle.clocking.specs.declared.latch.Latch.TheVariants.{Full}
use Rattle.clock.specs.declared.decode.InFlight.{InFlight}
use Rattle.clock.specs.declared.decode.Written.{Written}

-- the register that M writes
abbrev pub rd_of : Latch Executed → Option Register
rd_of (Full e) = e.rd
rd_of m = None

-- what W writes
abbrev pub written_of : Latch Completed → Written
written_of (Full c) = record { rd = c.rd; value = c.value }
written_of w = record { rd = None; value = 0 }

-- what an instruction that writes rd gives
abbrev pub from_rd : Option Register → Option ℕ → Register → Option (Option ℕ)
from_rd rd v r = if gives rd r then Some v else None

-- what each register is: the youngest that writes it gives it, X, then M, then W, else the file
abbrev pub given_by : Latch Executed → Option Register → Latch Completed → Written → Registers
    → Register → Option ℕ
given_by x m answer w g r =
    or_else (from_x x r)
    (or_else (from_rd m (late_value answer) r)
    (or_else (from_rd w.rd (Some w.value) r)
    (Some (value_of g r))))

abbrev pub values : InFlight → Register → Option ℕ
values i = given_by (x_result i.flow i.x.now) i.m i.answer.now i.w i.registers.now
