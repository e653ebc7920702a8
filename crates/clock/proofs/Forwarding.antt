-- What is in flight, by the few fields that are kept of M and W, is what the latches have. Assumes nothing.
use Rattle.std.proofs.Common.{◌≡◌, Some, Option, refl}
use mathlib.Core.Path.{fun_ext}
use Rattle.rv32i.specs.declared.register.Register.{Register}
use Rattle.rv32i.specs.declared.registers.Registers.{Registers}
use Rattle.clocking.specs.Decode.{values_in_flight, from_m, from_w, late_value}
use Rattle.clocking.specs.declared.latch.Completed.{Completed}
use Rattle.clocking.specs.declared.latch.Executed.{Executed}
use Rattle.clocking.specs.declared.latch.Latch.{Latch}
use Rattle.clocking.specs.declared.latch.Latch.TheVariants.{Empty, Faulting, Full}
use Rattle.clock.specs.declared.decode.Written.{Written}
use Rattle.clock.specs.Decode.{rd_of, written_of, from_rd, given_by}

m_by_rd : (m : Latch Executed) (answer : Latch Completed) (r : Register) → from_rd (rd_of m) (late_value answer) r ≡ from_m m answer r
m_by_rd Empty answer r = refl
m_by_rd (Faulting stop) answer r = refl
m_by_rd (Full e) answer r = refl

w_by_rd : (w : Latch Completed) (r : Register) → from_rd (written_of w).rd (Some (written_of w).value) r ≡ from_w w r
w_by_rd Empty r = refl
w_by_rd (Faulting stop) r = refl
w_by_rd (Full c) r = refl

same_value : (x m : Latch Executed) (answer w : Latch Completed) (g : Registers) (r : Register)
    → given_by x (rd_of m) answer (written_of w) g r ≡ values_in_flight x m answer w g r
same_value x m answer w g r = rw (m_by_rd m answer r, w_by_rd w r) refl

pub same_values : (x m : Latch Executed) (answer w : Latch Completed) (g : Registers) (rd : Option Register) (written : Written)
    → rd ≡ rd_of m → written ≡ written_of w
    → given_by x rd answer written g ≡ values_in_flight x m answer w g
same_values x m answer w g rd written e h = rw (e, h) (fun_ext (same_value x m answer w g))
