-- The execute stage: X goes to M, computed. Assumes nothing.
use Rattle.std.specs.Prelude.{ℕ, Bool, true, false, Some, None, Ok, Err, Option, Result, ◌==◌}
use Rattle.rv32i.specs.Effects.{executed, access}
use Rattle.rv32i.specs.declared.cause.Cause.{Cause}
use Rattle.rv32i.specs.declared.effect.Effect.{Effect}
use Rattle.sequential.specs.Sequential.{and_then}
use Rattle.clocking.specs.declared.latch.Decoded.{Decoded}
use Rattle.clocking.specs.declared.latch.Executed.{Executed}
use Rattle.clocking.specs.declared.latch.Latch.{Latch}
use Rattle.clocking.specs.declared.latch.Latch.TheVariants.{Empty, Faulting, Full}
use Rattle.clocking.specs.declared.stage.Flow.{Flow}
use Rattle.clocking.specs.declared.stage.Flow.TheVariants.{Moves, Stalls, RollsBack}

-- M after the stage, the flow of X, and after a wrong guess the address to fetch
pub record ExecuteOut : Type 0 where
  pub m : Latch Executed
  pub flow : Flow
  pub redirect : Option ℕ

abbrev pub into_m : Decoded → Effect → Executed
into_m d e = record {
  address = d.address;
  word = d.word;
  rd = d.rd;
  access = access d.instruction;
  result = e.result;
  b = d.b;
  next = e.next;
  outcome = e.outcome;
}

abbrev pub execute : Decoded → Result Executed Cause
execute d = and_then (executed d.instruction d.address d.a d.b) (λ e. Ok (into_m d e))

-- a rollback, unless the true next address is the guessed one
abbrev pub redirect_unless : Executed → Bool → ExecuteOut
redirect_unless e true = record { m = Full e; flow = Moves; redirect = None }
redirect_unless e false = record { m = Full e; flow = RollsBack; redirect = Some e.next }

abbrev pub check_guess : ℕ → ℕ → Result Executed Cause → ExecuteOut
check_guess a guess (Err c) = record {
  m = Faulting (record { address = a; cause = c });
  flow = Moves;
  redirect = None;
}
check_guess a guess (Ok e) = redirect_unless e (e.next == guess)

-- a latch before which nothing moves stalls, unless it is empty
abbrev pub stall : {T : Type 0} → Latch T → Flow
stall Empty = Moves
stall l = Stalls

-- by the flow of M
abbrev pub execute_stage : Latch Executed → Latch Decoded → Flow → ExecuteOut
execute_stage m x RollsBack = record { m = Empty; flow = RollsBack; redirect = None }
execute_stage m Empty Stalls = record { m = m; flow = Moves; redirect = None }
execute_stage m x Stalls = record { m = m; flow = Stalls; redirect = None }
execute_stage m Empty Moves = record { m = Empty; flow = Moves; redirect = None }
execute_stage m (Faulting stop) Moves = record { m = Faulting stop; flow = Moves; redirect = None }
execute_stage m (Full d) Moves = check_guess d.address d.guess (execute d)

-- X with this clock's result: what it put into M, if M moved
abbrev pub x_result : Flow → Latch Executed → Latch Executed
x_result Moves m = m
x_result flow m = Empty
