-- One clock keeps the chain. Assumes nothing.
use Rattle.std.proofs.Common.{ℕ, Some, Ok, Option, sym, subst}
use Rattle.memory.specs.Meaning.{Reply}
use Rattle.rv32i.specs.declared.register.Register.{Register}
use Rattle.sequential.specs.Sequential.{State, World}
use Rattle.clocking.specs.declared.latch.Fetched.{Fetched}
use Rattle.clocking.specs.declared.stage.Flow.{Flow}
use Rattle.clocking.specs.declared.stage.Flow.TheVariants.{Moves}
use Rattle.rv32i.specs.declared.registers.Registers.{Registers}
use Rattle.clocking.specs.Clock.{completes, executes, reads, decodes, plans, fetches, latches_after}
use Rattle.clocking.specs.WriteBack.{write_back}
use Rattle.clocking.specs.Ports.{bus_request}
use Rattle.clocking.specs.Data.{data_request}
use Rattle.clocking.specs.Decode.{from_m, from_w, or_else, value_of}
use Rattle.clocking.specs.declared.latch.Latches.{Latches}
use Rattle.clocking.proofs.Chain.{Flows, Reach, HoldsX, HoldsD, behindW, behindM, behindX, behindD, Leads, Chain}
use Rattle.clocking.proofs.Data.{Back, left, DataKept, data_kept}
use Rattle.clocking.proofs.Decode.{SourcedRead, DecodeKept, decode_kept}
use Rattle.clocking.proofs.Execute.{Sourced, ExecuteKept, execute_kept}
use Rattle.clocking.proofs.Fetch.{Arrives, FetchKept, fetch_kept}
use Rattle.clocking.proofs.Forward.{Known, known_read}
use Rattle.clocking.proofs.Served.{Bytes}
use Rattle.clocking.proofs.WriteBack.{Retires, Rest, retire}

sourced_read : (flow : Flow) (f : Register → Option ℕ) (r : Reach) → Sourced flow f r → SourcedRead flow f r
sourced_read Moves f r k = known_read f r k
sourced_read flow f r k = tt

module _ (world : World) where
  module _ (t : State) (bytes n instructions_bytes : ℕ → ℕ) (g : Registers) (k : Latches) (reply answer : Option Reply) (arrival : Option Fetched) (c : Rest world t bytes g k)
      (served : Bytes world.data_size (bus_request (data_request world.data_size k.m)) reply bytes n)
      (right : Bytes world.instructions_size (bus_request (plans world.data_size world.instructions_size g k reply)) answer world.instructions instructions_bytes)
      (arrives : Arrives k.f answer arrival) where
    abbrev size : ℕ
    size = world.data_size

    from_data : DataKept world t k.m n (completes size k reply)
    from_data = data_kept world t n reply k.m c.m (rw c.memory at served)

    -- the states reached behind W and behind M, once M has moved
    abbrev one : Reach
    one = behindW world (Ok t) (completes size k reply).w

    abbrev two : Reach
    two = behindM world one (left (completes size k reply).flow k.m)

    x_held : HoldsX world two k.x
    x_held = subst (λ (z : Reach). HoldsX world z k.x) (sym from_data.same) c.x

    d_held : HoldsD world (behindX world two k.x) k.d
    d_held = subst (λ (z : Reach). HoldsD world (behindX world z k.x) k.d) (sym from_data.same) c.d

    f_leads : Leads k.f (behindD world (behindX world two k.x) k.d)
    f_leads = subst (λ (z : Reach). Leads k.f (behindD world (behindX world z k.x) k.d)) (sym from_data.same) c.f

    from_execute : ExecuteKept world (completes size k reply).flow one (left (completes size k reply).flow k.m) k.x (executes size k reply)
    from_execute =
        execute_kept world (completes size k reply).flow one k.m k.x
        (subst (λ (z : Reach). Back (completes size k reply).flow z) (sym from_data.same) from_data.back) from_data.m x_held

    -- a register of the state reached behind W, M and X is the forwarded value
    forwards : Sourced (executes size k reply).flow (reads size g k reply) (behindX world two k.x)
    forwards =
        from_execute.source _
        (subst (λ (z : Reach). Known (λ r. or_else (from_m k.m (completes size k reply).w r) (or_else (from_w k.w r) (Some (value_of g r)))) z) (sym from_data.same)
        (from_data.source _ c.base))

    from_decode : DecodeKept world (behindM world one (executes size k reply).m) (behindX world two k.x) k.d (executes size k reply).redirect (decodes size g k reply)
    from_decode =
        decode_kept world (reads size g k reply) (executes size k reply).redirect (executes size k reply).flow two _ k.x k.d x_held d_held from_execute.onward
        (sourced_read (executes size k reply).flow (reads size g k reply) (behindX world two k.x) forwards)

    from_fetch : FetchKept world (behindX world (behindM world one (executes size k reply).m) (decodes size g k reply).x) (fetches size world.instructions_size g k reply arrival)
    from_fetch =
        fetch_kept world (decodes size g k reply).flow k.f k.d answer arrival (executes size k reply).redirect instructions_bytes (behindX world two k.x) _ right arrives d_held f_leads from_decode.rests

    kept_on : Chain world t n g (latches_after size world.instructions_size g k reply arrival)
    kept_on = record {
      sized = c.sized;
      registers = c.registers;
      w = from_data.w;
      memory = from_data.memory;
      m = from_execute.m;
      x = from_decode.x;
      d = from_fetch.d;
      f = from_fetch.f;
    }

  pub clock_keeps : (s : State) (bytes n instructions_bytes : ℕ → ℕ) (g : Registers) (k : Latches) (reply answer : Option Reply) (arrival : Option Fetched) → Chain world s bytes g k → Flows k.w
      → Bytes world.data_size (bus_request (data_request world.data_size k.m)) reply bytes n
      → Bytes world.instructions_size (bus_request (plans world.data_size world.instructions_size (write_back g k.w) k reply)) answer world.instructions instructions_bytes
      → Arrives k.f answer arrival
      → (t : State) × Retires world s k.w t × Chain world t n (write_back g k.w) (latches_after world.data_size world.instructions_size (write_back g k.w) k reply arrival)
  clock_keeps s bytes n instructions_bytes g k reply answer arrival c w served right a =
      let z = retire world s bytes g k.f k.d k.x k.m k.w c w in
      (z.0, z.1, kept_on z.0 bytes n instructions_bytes (write_back g k.w) k reply answer arrival z.2 served right a)
