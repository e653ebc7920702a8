-- What is fetched has retired, was dropped or stands in a latch. Assumes nothing.
use Rattle.std.proofs.Common.{◌≡◌, ℕ, ◌+◌, ◌≤◌, Bool, true, eqb, Some, None, Ok, Err, Option, Result, refl, arith}
use Rattle.base.specs.declared.bus.Request.{Request}
use Rattle.memory.specs.Meaning.{Reply}
use Rattle.memory.specs.declared.Answer.TheVariants.{Word}
use Rattle.memory.specs.declared.Unserved.TheVariants.{Wait}
use Rattle.rv32i.specs.Effects.{first_source, second_source}
use Rattle.rv32i.specs.declared.cause.Cause.{Cause}
use Rattle.rv32i.specs.declared.instruction.Instruction.{Instruction}
use Rattle.rv32i.specs.declared.register.Register.{Register}
use Rattle.rv32i.specs.declared.registers.Registers.{Registers}
use Rattle.clocking.specs.Clock.{completes, executes, reads, decodes, plans, latches_after}
use Rattle.clocking.specs.Counting.{occupancy, in_flight_count, has_fetched, if_rolled, dropped_count, one_if}
use Rattle.clocking.specs.Data.{data_request, use_memory, data_stage}
use Rattle.clocking.specs.Execute.{ExecuteOut, execute, redirect_unless, check_guess, execute_stage}
use Rattle.clocking.specs.Decode.{DecodeOut, source, with_operands, decode_word, decode_stage}
use Rattle.clocking.specs.Fetch.{fetch_request, fetches_on, fetch_stage}
use Rattle.clocking.specs.declared.latch.Fetched.{Fetched}
use Rattle.clocking.specs.declared.latch.Decoded.{Decoded}
use Rattle.clocking.specs.declared.latch.Executed.{Executed}
use Rattle.clocking.specs.declared.latch.Latch.{Latch}
use Rattle.clocking.specs.declared.latch.Latch.TheVariants.{Empty, Full}
use Rattle.clocking.specs.declared.latch.Latches.{Latches}
use Rattle.clocking.specs.declared.stage.Flow.{Flow}
use Rattle.clocking.specs.declared.stage.Flow.TheVariants.{Moves, Stalls, RollsBack}

-- how many stay before a stage
abbrev staying : {T : Type 0} → Flow → Latch T → ℕ
staying Moves l = 0
staying Stalls l = occupancy l
staying RollsBack l = 0

memory_balance : (e : Executed) (o : Result (Option Request) Cause) (r : Option Reply) → occupancy (use_memory e o r).w + staying (use_memory e o r).flow (Full e) ≡ 1
memory_balance e (Ok q) (Some (Ok (Word w))) = refl
memory_balance e (Ok q) (Some (Err Wait)) = refl
memory_balance e o r = refl

data_balance : (m : Latch Executed) (o : Result (Option Request) Cause) (r : Option Reply) → occupancy (data_stage m o r).w + staying (data_stage m o r).flow m ≡ occupancy m
data_balance (Full e) o r = memory_balance e o r
data_balance m o r = refl

-- M has what stayed there and what X gave; X is dropped after a rollback from data
abbrev Executes : Flow → Latch Executed → Latch Decoded → ExecuteOut → Type 0
Executes flow m x o = occupancy o.m + staying o.flow x + if_rolled flow (occupancy x) ≡ staying flow m + occupancy x

redirect_balance : (m : Latch Executed) (d : Decoded) (e : Executed) (b : Bool) → Executes Moves m (Full d) (redirect_unless e b)
redirect_balance m d e true = refl
redirect_balance m d e b = refl

guess_balance : (m : Latch Executed) (d : Decoded) (o : Result Executed Cause) → Executes Moves m (Full d) (check_guess d.address d.guess o)
guess_balance m d (Err c) = refl
guess_balance m d (Ok e) = redirect_balance m d e (eqb e.next d.guess)

execute_balance : (flow : Flow) (m : Latch Executed) (x : Latch Decoded) → Executes flow m x (execute_stage m x flow)
execute_balance RollsBack m x = omega arith
execute_balance Stalls m Empty = omega arith
execute_balance Stalls m x = omega arith
execute_balance Moves m (Full d) = guess_balance m d (execute d)
execute_balance Moves m x = refl

-- X has what stayed there and what D gave; D is dropped after any rollback
abbrev Decodes : Flow → Latch Decoded → Latch Fetched → DecodeOut → Type 0
Decodes flow x d o = occupancy o.x + staying o.flow d + if_rolled flow (occupancy d) ≡ staying flow x + occupancy d

with_balance : (x : Latch Decoded) (f : Fetched) (i : Instruction) (a b : Option ℕ) → Decodes Moves x (Full f) (with_operands f i a b)
with_balance x f i (Some a) (Some b) = refl
with_balance x f i a b = refl

word_balance : (h : Register → Option ℕ) (x : Latch Decoded) (f : Fetched) (o : Result Instruction Cause) → Decodes Moves x (Full f) (decode_word h f o)
word_balance h x f (Err c) = refl
word_balance h x f (Ok i) = with_balance x f i (source h (first_source i)) (source h (second_source i))

decode_balance : (h : Register → Option ℕ) (flow : Flow) (x : Latch Decoded) (d : Latch Fetched) → Decodes flow x d (decode_stage h x d flow)
decode_balance h RollsBack x d = omega arith
decode_balance h Stalls x Empty = omega arith
decode_balance h Stalls x d = omega arith
decode_balance h Moves x (Full f) = word_balance h x f f.issued
decode_balance h Moves x d = refl

-- D has what stayed there and what is fetched
placed_balance : (f : ℕ) (asked : Result (Option Request) Cause) (x : Option Fetched) → occupancy (fetches_on f asked x).d ≡ one_if (has_fetched asked x)
placed_balance f (Ok (Some q)) None = refl
placed_balance f asked x = refl

fetch_balance : (instructions_size f : ℕ) (d : Latch Fetched) (flow : Flow) (x : Option Fetched) (u : Option ℕ)
    → occupancy (fetch_stage f d flow (fetch_request instructions_size f flow) x u).d ≡ staying flow d + one_if (has_fetched (fetch_request instructions_size f flow) x)
fetch_balance instructions_size f d RollsBack x u = refl
fetch_balance instructions_size f d Stalls x u = omega arith
fetch_balance instructions_size f d Moves x u = let k = placed_balance f (fetch_request instructions_size f Moves) x in omega arith

module _ (size instructions_size : ℕ) (g : Registers) (k : Latches) (reply : Option Reply) (x : Option Fetched) where
  abbrev next : Latches
  next = latches_after size instructions_size g k reply x

  -- what stood in the latches behind W and what is fetched is what stands in them then, and what is dropped
  pub clock_balance : in_flight_count next + dropped_count k (completes size k reply).flow (executes size k reply).flow
      ≡ occupancy k.d + occupancy k.x + occupancy k.m + one_if (has_fetched (plans size instructions_size g k reply) x)
  clock_balance =
      let a = data_balance k.m (data_request size k.m) reply in
      let b = execute_balance (completes size k reply).flow k.m k.x in
      let c = decode_balance (reads size g k reply) (executes size k reply).flow k.x k.d in
      let d = fetch_balance instructions_size k.f k.d (decodes size g k reply).flow x (executes size k reply).redirect in
      omega arith

rolled_most : (flow : Flow) (n : ℕ) → if_rolled flow n ≤ n
rolled_most RollsBack n = omega arith
rolled_most flow n = omega arith

-- no more are dropped than stand in the latches
pub dropped_most : (k : Latches) (p q : Flow) → dropped_count k p q ≤ in_flight_count k
dropped_most k p q = let a = rolled_most p (occupancy k.x) in let b = rolled_most q (occupancy k.d) in omega arith
